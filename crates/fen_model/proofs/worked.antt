-- Small texts of variants with castling, gates, hands, pawns and counted checks: what they say, and what is printed.
use Rattle.std.proofs.Common.{◌≡◌, ℕ, Bool, true, false, List, [], ◌∷◌, Option, Some, None, Ok, Err, refl, arith, replicate, set}
use Rattle.std.specs.Prelude.{codes}
use Rattle.std.proofs.lemmas.Fmt.{decimal_digit}
use Rattle.rules_model.specs.declared.board.Cell.{Cell}
use Rattle.rules_model.specs.declared.board.Repeat.{Repeat}
use Rattle.rules_model.specs.declared.board.Side.{Side}
use Rattle.rules_model.specs.declared.board.Side.TheVariants.{White, Black}
use Rattle.rules_model.specs.declared.rules.Rules.{Rules}
use Rattle.rules_model.proofs.worked.Chess.{at, bare, chess, chess_kinds, empty, everywhere, kind, man, no_hands, no_rights, stands}
use Rattle.rules_model.proofs.worked.Open.{rules_opened}
use Rattle.fen_model.specs.declared.fault.FenFault.TheVariants as fault
use Rattle.fen_model.specs.Board.{row_of, squares_of}
use Rattle.fen_model.specs.Counts.{checks_of}
use Rattle.fen_model.specs.declared.held.Held.{Held}
use Rattle.fen_model.specs.Held.{are_letters, bits_of, gate_said, has, held_of, may_hold}
use Rattle.foundation.specs.Numbers.{are_digits, is_number, number_of, value_after}
use Rattle.fen_model.specs.Passed.{is_passed, passed_of}
use Rattle.fen_model.specs.Pocket.{hands_of}
use Rattle.fen_model.specs.Pocket as Pocket
use Rattle.fen_model.specs.Printing.{hand_text, is_printed, pocket_text, rights_text, row_text}
use Rattle.fen_model.specs.Tokens.{tokens_of}

-- the definitions that the cases compute, opened at once
unfoldable fen_opened : Unit {0}
unfolding rules_opened row_of squares_of checks_of are_letters bits_of gate_said has held_of may_hold are_digits is_number number_of value_after is_passed passed_of hands_of Pocket.no_hands hand_text is_printed pocket_text rights_text row_text tokens_of
fen_opened = tt

-- ---- rights and gates

abbrev gating : Rules
gating = record chess { gating = true; gate_hand = true }

-- White: king e1, rook h1, knight b1, pawn c1; Black: king e8, rook a8
abbrev cells : List (Option Cell)
cells =
    stands White 10 (at 4 0) (stands White 17 (at 7 0) (stands White 13 (at 1 0) (stands White 15 (at 2 0) (stands Black 10 (at 4 7) (stands Black 17 (at 0 7) empty)))))

abbrev kingside : List (List Bool)
kingside = (true ∷ false ∷ []) ∷ (false ∷ false ∷ []) ∷ []

abbrev held : List (List Bool) → ℕ → ℕ → Held
held rights white black = record { rights = rights; gates = white ∷ black ∷ [] }

-- the gates of e1 and h1 alone: bits 4 and 7
right_gates : held_of gating cells (codes "K") ≡ Ok (held kingside 144 0)
unfolding fen_opened
right_gates = refl

right_no_gates : held_of chess cells (codes "K") ≡ Ok (held kingside 0 0)
unfolding fen_opened
right_no_gates = refl

-- e8 and a8: bits 4 and 0
black_right_gates : held_of gating cells (codes "q") ≡ Ok (held ((false ∷ false ∷ []) ∷ (false ∷ true ∷ []) ∷ []) 0 17)
unfolding fen_opened
black_right_gates = refl

gate_alone : held_of gating cells (codes "B") ≡ Ok (held no_rights 2 0)
unfolding fen_opened
gate_alone = refl

right_and_gate : held_of gating cells (codes "KB") ≡ Ok (held kingside 146 0)
unfolding fen_opened
right_and_gate = refl

-- what the right gives may be said too
right_and_its_gates : held_of gating cells (codes "HKE") ≡ Ok (held kingside 144 0)
unfolding fen_opened
right_and_its_gates = refl

nothing_held : held_of gating cells (codes "-") ≡ Ok (held no_rights 0 0)
unfolding fen_opened
nothing_held = refl

no_letter : held_of gating cells [] ≡ Err fault.Rights
unfolding fen_opened
no_letter = refl

right_without_rook : held_of gating cells (codes "Q") ≡ Err fault.Rights
unfolding fen_opened
right_without_rook = refl

right_twice : held_of gating cells (codes "KK") ≡ Err fault.Rights
unfolding fen_opened
right_twice = refl

gate_twice : held_of gating cells (codes "BKB") ≡ Err fault.Rights
unfolding fen_opened
gate_twice = refl

gate_of_pawn : held_of gating cells (codes "C") ≡ Err fault.Rights
unfolding fen_opened
gate_of_pawn = refl

gate_of_no_piece : held_of gating cells (codes "D") ≡ Err fault.Rights
unfolding fen_opened
gate_of_no_piece = refl

gate_without_gating : held_of chess cells (codes "B") ≡ Err fault.Rights
unfolding fen_opened
gate_without_gating = refl

-- the last letter of a gate is `j`: `K` is a right alone, also where a piece stands on the file k
abbrev wide : Rules
wide = record gating { files = 12 }

abbrev wide_cells : List (Option Cell)
wide_cells = stands White 13 (at 9 0) (stands White 13 (at 10 0) (stands White 13 (at 11 0) cells))

last_gate : held_of wide wide_cells (codes "J") ≡ Ok (held no_rights 512 0)
unfolding fen_opened
last_gate = refl

no_gate_of_k : held_of wide wide_cells (codes "K") ≡ Ok (held kingside 144 0)
unfolding fen_opened
no_gate_of_k = refl

no_gate_of_l : held_of wide wide_cells (codes "L") ≡ Err fault.Rights
unfolding fen_opened
no_gate_of_l = refl

-- the gates of e1 and h1 are those of the right
abbrev holding : Repeat
holding = record (bare cells White) { rights = kingside; gates = 146 ∷ 0 ∷ [] }

rights_printed : rights_text gating holding ≡ codes "KB"
unfolding fen_opened
rights_printed = refl

both_printed : rights_text gating (record holding { rights = (true ∷ false ∷ []) ∷ (false ∷ true ∷ []) ∷ []; gates = 146 ∷ 17 ∷ [] }) ≡ codes "KBq"
unfolding fen_opened
both_printed = refl

gates_printed : rights_text gating (record holding { rights = no_rights; gates = 146 ∷ 17 ∷ [] }) ≡ codes "BEHae"
unfolding fen_opened
gates_printed = refl

nothing_printed : rights_text gating (bare cells White) ≡ codes "-"
unfolding fen_opened
nothing_printed = refl

-- ---- en passant

-- White: king a5, pawn b5; Black: king g8, pawn c5 that came from c7
abbrev no_pawn : List (Option Cell)
no_pawn = stands White 10 (at 0 4) (stands Black 15 (at 2 4) (stands Black 10 (at 6 7) empty))

abbrev passing : List (Option Cell)
passing = stands White 15 (at 1 4) no_pawn

square_kept : passed_of chess passing White (codes "c6") ≡ Ok (Some (at 2 5))
unfolding fen_opened
square_kept = refl

square_dropped : passed_of chess no_pawn White (codes "c6") ≡ Ok None
unfolding fen_opened
square_dropped = refl

no_square : passed_of chess passing White (codes "-") ≡ Ok None
unfolding fen_opened
no_square = refl

no_pawn_passed : passed_of chess passing White (codes "d6") ≡ Err fault.EnPassant
unfolding fen_opened
no_pawn_passed = refl

start_is_full : passed_of chess (stands Black 13 (at 2 6) passing) White (codes "c6") ≡ Err fault.EnPassant
unfolding fen_opened
start_is_full = refl

own_pawn_passed : passed_of chess passing Black (codes "c6") ≡ Err fault.EnPassant
unfolding fen_opened
own_pawn_passed = refl

rank_with_zero : passed_of chess passing White (codes "c06") ≡ Err fault.EnPassant
unfolding fen_opened
rank_with_zero = refl

-- ---- promoted pieces

-- what is taken goes to the hand, and a knight becomes a queen
abbrev knights : Rules
knights = record chess { drops = true; to_hand = true; kinds = set chess_kinds 13 (Some (record { terms = []; mobility = everywhere ∷ everywhere ∷ []; pawn = false; promoted = Some (kind 16) })) }

abbrev was : Side → ℕ → ℕ → Option Cell
was side k origin = Some (record { side = side; kind = kind k; origin = Some (kind origin) })

abbrev squares : List (Option Cell)
squares = was White 16 13 ∷ None ∷ None ∷ None ∷ Some (man White 16) ∷ None ∷ was Black 16 15 ∷ was Black 17 15 ∷ []

promoted_read : row_of knights (codes "+N3Q1q~r~") ≡ Ok squares
unfolding fen_opened
promoted_read = refl

promoted_printed : row_text knights 0 squares ≡ codes "+N3Q1q~r~"
unfolding fen_opened
promoted_printed = let three = decimal_digit 3 (omega arith) in let one = decimal_digit 1 (omega arith) in rw (three, one) refl

both_marks : row_of knights (codes "+N~7") ≡ Err fault.Letter
unfolding fen_opened
both_marks = refl

never_promoted : row_of knights (codes "+Q7") ≡ Err fault.Letter
unfolding fen_opened
never_promoted = refl

never_from_a_pawn : row_of knights (codes "K~7") ≡ Err fault.Letter
unfolding fen_opened
never_from_a_pawn = refl

no_taking_in : row_of chess (codes "q~7") ≡ Err fault.Letter
unfolding fen_opened
no_taking_in = refl

-- ---- the pocket

-- a white knight, and a black knight and a pawn
abbrev hands : List (List ℕ)
hands = set (replicate 26 0) 13 1 ∷ set (set (replicate 26 0) 13 1) 15 1 ∷ []

pocket_read : hands_of knights (codes "[Nnp]") ≡ Ok hands
unfolding fen_opened
pocket_read = refl

pocket_in_any_order : hands_of knights (codes "[pNn]") ≡ Ok hands
unfolding fen_opened
pocket_in_any_order = refl

pocket_printed : pocket_text knights hands ≡ codes "[Nnp]"
unfolding fen_opened
pocket_printed = refl

two_in_pocket : hands_of knights (codes "[NN]") ≡ Ok (set (replicate 26 0) 13 2 ∷ replicate 26 0 ∷ [])
unfolding fen_opened
two_in_pocket = refl

empty_pocket : hands_of knights (codes "[-]") ≡ Ok no_hands
unfolding fen_opened
empty_pocket = refl

king_in_pocket : hands_of knights (codes "[NK]") ≡ Err fault.Pocket
unfolding fen_opened
king_in_pocket = refl

pocket_unclosed : hands_of knights (codes "[Nnp") ≡ Err fault.Pocket
unfolding fen_opened
pocket_unclosed = refl

pocket_without_hands : hands_of chess (codes "[N]") ≡ Err fault.Pocket
unfolding fen_opened
pocket_without_hands = refl

-- ---- checks

checks_read : checks_of (codes "3+2") ≡ Ok (3 ∷ 2 ∷ [])
unfolding fen_opened
checks_read = refl

most_checks : checks_of (codes "99+0") ≡ Ok (99 ∷ 0 ∷ [])
unfolding fen_opened
most_checks = refl

too_many_checks : checks_of (codes "100+3") ≡ Err fault.Checks
unfolding fen_opened
too_many_checks = refl

checks_of_one : checks_of (codes "3") ≡ Err fault.Checks
unfolding fen_opened
checks_of_one = refl
