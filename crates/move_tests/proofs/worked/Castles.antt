-- Castling: through an attacked square it is not allowed; over an attacked rook it is. While the right is held the king goes to the target by castling alone.
use Rattle.std.proofs.Common.{◌≡◌, ℕ, Bool, true, false, List, [], ◌∷◌, Option, Some, None, refl, set, get_or}
use Rattle.rules_model.specs.declared.board.Cell.{Cell}
use Rattle.rules_model.specs.declared.board.Repeat.{Repeat}
use Rattle.rules_model.specs.declared.board.Side.TheVariants.{White, Black}
use Rattle.rules_model.specs.declared.moves.Move.{Move}
use Rattle.rules_model.specs.declared.moves.Move.TheVariants.{Go, Castle}
use Rattle.rules_model.specs.declared.moves.Promo.TheVariants.{Stays}
use Rattle.rules_model.specs.declared.rules.Rules.{Rules}
use Rattle.rules_model.specs.Candidates.{is_candidate}
use Rattle.rules_model.specs.Next.{next_repeat}
use Rattle.rules_model.specs.Legal.{is_allowed}
use Rattle.rules_model.specs.Sound.{is_sound_repeat}
use Rattle.rules_model.specs.Squares.{cell_at}
use Rattle.rules_model.proofs.worked.Chess.{chess, at, bare, man, stands, empty, chess_kinds}
use Rattle.rules_model.proofs.worked.Open.{rules_opened}

-- White: king e1, rooks a1 and h1; Black: king e8
abbrev cells : List (Option Cell)
cells = stands White 10 (at 4 0) (stands White 17 (at 0 0) (stands White 17 (at 7 0) (stands Black 10 (at 4 7) empty)))

abbrev both : List (List Bool)
both = (true ∷ true ∷ []) ∷ (false ∷ false ∷ []) ∷ []

abbrev free : Repeat
free = record (bare cells White) { rights = both }

-- a black rook on f8 attacks f1; on a8 it attacks a1; on b8 it attacks b1
abbrev with_rook : ℕ → Repeat
with_rook file = record (bare (stands Black 17 (at file 7) cells) White) { rights = both }

abbrev short : Move
short = Castle (at 4 0) (at 6 0) (at 7 0) None

abbrev long : Move
long = Castle (at 4 0) (at 2 0) (at 0 0) None

abbrev plain : Move
plain = Go (at 4 0) (at 6 0) Stays None

sound : is_sound_repeat chess free ≡ true
unfolding rules_opened
sound = refl

short_allowed : is_allowed chess free short ≡ true
unfolding rules_opened
short_allowed = refl

long_allowed : is_allowed chess free long ≡ true
unfolding rules_opened
long_allowed = refl

king_lands : cell_at (next_repeat chess free short).cells 6 ≡ Some (man White 10)
unfolding rules_opened
king_lands = refl

rook_lands : cell_at (next_repeat chess free short).cells 5 ≡ Some (man White 17)
unfolding rules_opened
rook_lands = refl

rook_lands_long : cell_at (next_repeat chess free long).cells 3 ≡ Some (man White 17)
unfolding rules_opened
rook_lands_long = refl

start_empty : cell_at (next_repeat chess free short).cells 7 ≡ None
unfolding rules_opened
start_empty = refl

rights_gone : (next_repeat chess free short).rights ≡ (false ∷ false ∷ []) ∷ (false ∷ false ∷ []) ∷ []
unfolding rules_opened
rights_gone = refl

through_attack : is_candidate chess (with_rook 5) short ≡ false
unfolding rules_opened
through_attack = refl

long_beside_attack : is_candidate chess (with_rook 5) long ≡ true
unfolding rules_opened
long_beside_attack = refl

rook_attacked : is_candidate chess (with_rook 1) long ≡ true
unfolding rules_opened
rook_attacked = refl

over_a_piece : is_candidate chess (record free { cells = set cells 1 (Some (man Black 13)) }) long ≡ false
unfolding rules_opened
over_a_piece = refl

wrong_rook : is_candidate chess free (Castle (at 4 0) (at 6 0) (at 0 0) None) ≡ false
unfolding rules_opened
wrong_rook = refl

-- with the kingside rook gone, the right is not sound
no_rook : is_sound_repeat chess (record free { cells = set cells 7 None }) ≡ false
unfolding rules_opened
no_rook = refl

-- a rook that may not castle: the right is lost as the rook moves, the other stays
one_right_kept : (next_repeat chess free (Go (at 7 0) (at 7 4) Stays None)).rights ≡ (false ∷ true ∷ []) ∷ (false ∷ false ∷ []) ∷ []
unfolding rules_opened
one_right_kept = refl

-- a king that could reach g1 by a term of its own
abbrev far_king : Rules
far_king = record chess { kinds = set chess_kinds 10 (get_or chess_kinds 16 None) }

means_castling : is_candidate far_king free plain ≡ false
unfolding rules_opened
means_castling = refl

without_right : is_candidate far_king (record free { rights = (false ∷ true ∷ []) ∷ (false ∷ false ∷ []) ∷ [] }) plain ≡ true
unfolding rules_opened
without_right = refl
