-- Ends by the position itself, and that no move is legal behind one; a compulsory capture.
use Rattle.std.proofs.Common.{◌≡◌, true, false, List, [], ◌∷◌, Option, Some, None, refl, set, replicate}
use Rattle.rules_model.specs.declared.board.Cell.{Cell}
use Rattle.rules_model.specs.declared.board.Position.{Position}
use Rattle.rules_model.specs.declared.board.Repeat.{Repeat}
use Rattle.rules_model.specs.declared.board.Side.TheVariants.{White, Black}
use Rattle.rules_model.specs.declared.moves.Cause.TheVariants.{Flag, Checks, Extinction}
use Rattle.rules_model.specs.declared.moves.Move.{Move}
use Rattle.rules_model.specs.declared.moves.Move.TheVariants.{Go}
use Rattle.rules_model.specs.declared.moves.Outcome.TheVariants.{Ongoing, Won}
use Rattle.rules_model.specs.declared.moves.Promo.TheVariants.{Stays}
use Rattle.rules_model.specs.declared.moves.Value.TheVariants.{Loss}
use Rattle.rules_model.specs.declared.rules.Rules.{Rules}
use Rattle.rules_model.specs.Next.{next_repeat, next}
use Rattle.rules_model.specs.Ends.{early_end}
use Rattle.rules_model.specs.Legal.{is_allowed, reduced, legal}
use Rattle.rules_model.specs.Sound.{is_sound}
use Rattle.rules_model.proofs.worked.Chess.{chess, at, kind, bare, stands, empty, mask, rank, no_hands}
use Rattle.rules_model.proofs.worked.Open.{rules_opened}

abbrev kings : List (Option Cell)
kings = stands White 10 (at 4 3) (stands Black 10 (at 4 7) empty)

abbrev hill : Rules
hill = record chess { flag_kind = Some (kind 10); flag_region = rank 3 ∷ rank 3 ∷ [] }

flag : early_end hill (bare kings Black) ≡ Won White Flag
unfolding rules_opened
flag = refl

no_flag : early_end hill (bare (stands White 10 (at 4 2) (stands Black 10 (at 4 7) empty)) Black) ≡ Ongoing
unfolding rules_opened
no_flag = refl

-- the flag counts for the side that has moved
flag_of_mover : early_end hill (bare kings White) ≡ Ongoing
unfolding rules_opened
flag_of_mover = refl

no_legal_move : legal hill (bare kings Black) ≡ []
unfolding legal rules_opened
no_legal_move = refl

abbrev three : Rules
three = record chess { check_counting = true }

checks : early_end three (record (bare kings Black) { checks = 0 ∷ 3 ∷ [] }) ≡ Won White Checks
unfolding rules_opened
checks = refl

checks_left : early_end three (record (bare kings Black) { checks = 1 ∷ 3 ∷ [] }) ≡ Ongoing
unfolding rules_opened
checks_left = refl

takes_a_check : (next_repeat three (record (bare (stands White 17 (at 0 0) kings) White) { checks = 2 ∷ 3 ∷ [] }) (Go (at 0 0) (at 0 7) Stays None)).checks ≡ 1 ∷ 3 ∷ []
unfolding rules_opened
takes_a_check = refl

takes_none : (next_repeat three (record (bare (stands White 17 (at 0 0) kings) White) { checks = 2 ∷ 3 ∷ [] }) (Go (at 0 0) (at 0 6) Stays None)).checks ≡ 2 ∷ 3 ∷ []
unfolding rules_opened
takes_none = refl

-- a side that has lost its last rook has lost; with one in the hand it has not
abbrev rooks : Rules
rooks = record chess { extinction = Some Loss; extinct_kinds = mask (17 ∷ []) }

extinct : early_end rooks (bare (stands White 17 (at 0 0) kings) White) ≡ Won White Extinction
unfolding rules_opened
extinct = refl

extinct_mover : early_end rooks (bare (stands Black 17 (at 0 0) kings) White) ≡ Won Black Extinction
unfolding rules_opened
extinct_mover = refl

one_in_hand : early_end rooks (record (bare (stands White 17 (at 0 0) kings) White) { hands = replicate 26 0 ∷ set (replicate 26 0) 17 1 ∷ [] }) ≡ Ongoing
unfolding rules_opened
one_in_hand = refl

-- bare king loses while the opponent has two pieces or more
abbrev bare_king : Rules
bare_king = record chess { extinction = Some Loss; extinct_all = true; extinct_most = 1; extinct_least = 2 }

bared : early_end bare_king (bare (stands White 17 (at 0 0) kings) White) ≡ Won White Extinction
unfolding rules_opened
bared = refl

both_bare : early_end bare_king (bare kings White) ≡ Ongoing
unfolding rules_opened
both_bare = refl

-- of two moves the capture alone remains, where one must capture
abbrev must : Rules
must = record chess { must_capture = true }

abbrev facing : Repeat
facing = bare (stands White 15 (at 4 3) (stands Black 15 (at 3 4) empty)) White

abbrev takes : Move
takes = Go (at 4 3) (at 3 4) Stays None

abbrev goes : Move
goes = Go (at 4 3) (at 4 4) Stays None

capture_remains : reduced must facing (takes ∷ goes ∷ []) ≡ takes ∷ []
unfolding rules_opened
capture_remains = refl

both_remain : reduced chess facing (takes ∷ goes ∷ []) ≡ takes ∷ goes ∷ []
unfolding rules_opened
both_remain = refl

none_to_take : reduced must facing (goes ∷ []) ≡ goes ∷ []
unfolding rules_opened
none_to_take = refl

-- no check may be given, and what gives none
abbrev calm : Rules
calm = record chess { checking = false }

no_check : is_allowed calm (bare (stands White 17 (at 0 0) kings) White) (Go (at 0 0) (at 0 7) Stays None) ≡ false
unfolding rules_opened
no_check = refl

no_check_given : is_allowed calm (bare (stands White 17 (at 0 0) kings) White) (Go (at 0 0) (at 0 6) Stays None) ≡ true
unfolding rules_opened
no_check_given = refl

-- the counts
abbrev start : Position
start = record { cells = stands White 17 (at 0 0) kings; hands = no_hands; gates = 0 ∷ 0 ∷ []; counter = 7; number = 3; rights = (bare kings White).rights; checks = 0 ∷ 0 ∷ []; ep = None; side = White }

sound : is_sound chess start ≡ true
unfolding rules_opened
sound = refl

not_sound : is_sound chess (record start { side = Black; cells = stands Black 17 (at 4 5) kings }) ≡ false
unfolding rules_opened
not_sound = refl

counter_rises : (next chess start (Go (at 0 0) (at 0 6) Stays None)).counter ≡ 8
unfolding rules_opened
counter_rises = refl

number_stays : (next chess start (Go (at 0 0) (at 0 6) Stays None)).number ≡ 3
unfolding rules_opened
number_stays = refl

counter_falls : (next chess (record start { cells = stands Black 13 (at 0 6) start.cells }) (Go (at 0 0) (at 0 6) Stays None)).counter ≡ 0
unfolding rules_opened
counter_falls = refl

number_rises : (next chess (record start { side = Black }) (Go (at 4 7) (at 4 6) Stays None)).number ≡ 4
unfolding rules_opened
number_rises = refl
