-- Xiangqi's movement: kings that face each other, the palace and the river, soldiers before and after it.
use Rattle.std.proofs.Common.{◌≡◌, ℕ, true, false, Bool, List, [], ◌∷◌, ◌++◌, Option, Some, None, refl, pos, negsuc, set, replicate}
use Rattle.rules_model.specs.declared.board.Cell.{Cell}
use Rattle.rules_model.specs.declared.board.Region.{Region}
use Rattle.rules_model.specs.declared.board.Repeat.{Repeat}
use Rattle.rules_model.specs.declared.board.Side.TheVariants.{White, Black}
use Rattle.rules_model.specs.declared.moves.Move.TheVariants.{Go, Drop}
use Rattle.rules_model.specs.declared.moves.Promo.TheVariants.{Stays}
use Rattle.rules_model.specs.declared.rules.KindRule.{KindRule}
use Rattle.rules_model.specs.declared.rules.Rules.{Rules}
use Rattle.rules_model.specs.declared.rules.Term.{Term}
use Rattle.rules_model.specs.declared.rules.Way.TheVariants.{Leap, Lame, Slide}
use Rattle.rules_model.specs.Attacks.{attacks, king_attacked}
use Rattle.rules_model.specs.Candidates.{is_candidate}
use Rattle.rules_model.specs.Legal.{is_allowed}
use Rattle.rules_model.specs.Sound.{is_sound_repeat}
use Rattle.rules_model.proofs.worked.Chess.{chess, at, kind, bare, stands, empty, term, straight, fourfold, everywhere}
use Rattle.rules_model.proofs.worked.Open.{rules_opened}

-- ---- the rules: the letters a, b, k, p and r, without horse and cannon

abbrev bits : List ℕ → List Bool
bits [] = replicate 120 false
bits (s ∷ squares) = set (bits squares) s true

abbrev palace : List Region
palace =
    record { squares = bits (3 ∷ 4 ∷ 5 ∷ 15 ∷ 16 ∷ 17 ∷ 27 ∷ 28 ∷ 29 ∷ []) }
    ∷ record { squares = bits (87 ∷ 88 ∷ 89 ∷ 99 ∷ 100 ∷ 101 ∷ 111 ∷ 112 ∷ 113 ∷ []) } ∷ []

-- the five ranks of each side
abbrev own_half : List Region
own_half = record { squares = replicate 60 true ++ replicate 60 false } ∷ record { squares = replicate 60 false ++ replicate 60 true } ∷ []

abbrev within : List Region → List Term → Option KindRule
within mobility terms = Some (record { terms = terms; mobility = mobility; pawn = false; promoted = None })

-- forward and sideways
abbrev soldier_steps : List Term
soldier_steps = term Leap 1 (pos 0) (pos 1) ∷ term Leap 1 (pos 1) (pos 0) ∷ term Leap 1 (negsuc 0) (pos 0) ∷ []

abbrev xiangqi_kinds : List (Option KindRule)
xiangqi_kinds =
    set (set (set (set (set (replicate 26 None)
    0 (within palace (fourfold Leap 1 (pos 1) (negsuc 0) (pos 1) (negsuc 0))))
    1 (within own_half (fourfold Lame 1 (pos 2) (negsuc 1) (pos 2) (negsuc 1))))
    10 (within palace (straight Leap 1)))
    15 (within (everywhere ∷ everywhere ∷ []) soldier_steps))
    17 (within (everywhere ∷ everywhere ∷ []) (straight Slide 11))

abbrev xiangqi : Rules
xiangqi = record chess {
  kinds = xiangqi_kinds;
  files = 9;
  ranks = 10;
  pawn = None;
  soldier = Some (kind 15);
  soldier_rank = 6;
  castling = false;
  flying = true;
}

-- ---- two kings on one file

-- White: king e1; Black: king e10
abbrev facing : List (Option Cell)
facing = stands White 10 (at 4 0) (stands Black 10 (at 4 9) empty)

abbrev screened : List (Option Cell)
screened = stands White 17 (at 4 4) facing

open_file : king_attacked xiangqi facing White ≡ true
unfolding rules_opened
open_file = refl

open_file_for_both : king_attacked xiangqi facing Black ≡ true
unfolding rules_opened
open_file_for_both = refl

closed_file : king_attacked xiangqi screened White ≡ false
unfolding rules_opened
closed_file = refl

other_file : king_attacked xiangqi (stands White 10 (at 3 0) (stands Black 10 (at 4 9) empty)) White ≡ false
unfolding rules_opened
other_file = refl

kings_do_not_fly : king_attacked (record xiangqi { flying = false }) facing White ≡ false
unfolding rules_opened
kings_do_not_fly = refl

-- a square that holds no king is not attacked along the file
only_kings : attacks xiangqi (stands White 17 (at 4 1) (stands White 10 (at 3 0) (stands Black 10 (at 4 9) empty))) Black 13 ≡ false
unfolding rules_opened
only_kings = refl

not_sound : is_sound_repeat xiangqi (bare facing White) ≡ false
unfolding rules_opened
not_sound = refl

sound : is_sound_repeat xiangqi (bare (stands White 15 (at 4 4) facing) White) ≡ true
unfolding rules_opened
sound = refl

-- the rook between the kings stays on the file
leaves_the_file : is_allowed xiangqi (bare screened White) (Go (at 4 4) (at 3 4) Stays None) ≡ false
unfolding rules_opened
leaves_the_file = refl

stays_on_the_file : is_allowed xiangqi (bare screened White) (Go (at 4 4) (at 4 7) Stays None) ≡ true
unfolding rules_opened
stays_on_the_file = refl

-- ---- a checking rook on e1 that only the king on e10 guards, along the file. White: king d1

abbrev guarded : List (Option Cell)
guarded = stands White 10 (at 3 0) (stands Black 17 (at 4 0) (stands Black 10 (at 4 9) empty))

takes_the_rook : is_candidate xiangqi (bare guarded White) (Go (at 3 0) (at 4 0) Stays None) ≡ true
unfolding rules_opened
takes_the_rook = refl

taken_on_an_open_file : is_allowed xiangqi (bare guarded White) (Go (at 3 0) (at 4 0) Stays None) ≡ false
unfolding rules_opened
taken_on_an_open_file = refl

taken_on_a_closed_file : is_allowed xiangqi (bare (stands Black 15 (at 4 6) guarded) White) (Go (at 3 0) (at 4 0) Stays None) ≡ true
unfolding rules_opened
taken_on_a_closed_file = refl

-- ---- an elephant on c5, at the river. White: king e1; Black: king d10

abbrev kings : List (Option Cell)
kings = stands White 10 (at 4 0) (stands Black 10 (at 3 9) empty)

abbrev elephant : Repeat
elephant = bare (stands White 1 (at 2 4) kings) White

stays_at_home : is_allowed xiangqi elephant (Go (at 2 4) (at 0 2) Stays None) ≡ true
unfolding rules_opened
stays_at_home = refl

over_the_river : is_allowed xiangqi elephant (Go (at 2 4) (at 0 6) Stays None) ≡ false
unfolding rules_opened
over_the_river = refl

attacks_at_home : attacks xiangqi elephant.cells White 28 ≡ true
unfolding rules_opened
attacks_at_home = refl

no_attack_over_the_river : attacks xiangqi elephant.cells White 76 ≡ false
unfolding rules_opened
no_attack_over_the_river = refl

-- Black's half is the other one
black_elephant : attacks xiangqi (stands Black 1 (at 2 4) kings) Black 76 ≡ true
unfolding rules_opened
black_elephant = refl

black_elephant_in_whites_half : attacks xiangqi (stands Black 1 (at 2 4) kings) Black 28 ≡ false
unfolding rules_opened
black_elephant_in_whites_half = refl

-- ---- soldiers: straight forward before the river, and sideways too after it

abbrev soldier_on : ℕ → Repeat
soldier_on rank = bare (stands White 15 (at 6 rank) kings) White

abbrev black_soldier_on : ℕ → Repeat
black_soldier_on rank = bare (stands Black 15 (at 6 rank) kings) Black

forward_before : is_allowed xiangqi (soldier_on 4) (Go (at 6 4) (at 6 5) Stays None) ≡ true
unfolding rules_opened
forward_before = refl

sideways_before : is_allowed xiangqi (soldier_on 4) (Go (at 6 4) (at 7 4) Stays None) ≡ false
unfolding rules_opened
sideways_before = refl

sideways_after : is_allowed xiangqi (soldier_on 5) (Go (at 6 5) (at 7 5) Stays None) ≡ true
unfolding rules_opened
sideways_after = refl

never_back : is_allowed xiangqi (soldier_on 5) (Go (at 6 5) (at 6 4) Stays None) ≡ false
unfolding rules_opened
never_back = refl

no_attack_sideways_before : attacks xiangqi (soldier_on 4).cells White 55 ≡ false
unfolding rules_opened
no_attack_sideways_before = refl

black_sideways_before : is_allowed xiangqi (black_soldier_on 5) (Go (at 6 5) (at 7 5) Stays None) ≡ false
unfolding rules_opened
black_sideways_before = refl

black_forward_before : is_allowed xiangqi (black_soldier_on 5) (Go (at 6 5) (at 6 4) Stays None) ≡ true
unfolding rules_opened
black_forward_before = refl

black_sideways_after : is_allowed xiangqi (black_soldier_on 4) (Go (at 6 4) (at 7 4) Stays None) ≡ true
unfolding rules_opened
black_sideways_after = refl

-- ---- pieces that could never move

-- drops, and no piece where it could never move. On eight ranks a soldier whose rank is the tenth is held back on the last
abbrev drops : Rules
drops = record xiangqi { ranks = 8; soldier_rank = 10; drops = true; immobile_bad = true; king = None; flying = false }

abbrev in_hand : ℕ → Repeat
in_hand k = record (bare empty White) { hands = set (replicate 26 0) k 1 ∷ replicate 26 0 ∷ [] }

held_on_the_last_rank : is_allowed drops (in_hand 15) (Drop (kind 15) (at 4 7)) ≡ false
unfolding rules_opened
held_on_the_last_rank = refl

free_on_the_last_rank : is_allowed (record drops { soldier_rank = 8 }) (in_hand 15) (Drop (kind 15) (at 4 7)) ≡ true
unfolding rules_opened
free_on_the_last_rank = refl

held_before_the_last_rank : is_allowed drops (in_hand 15) (Drop (kind 15) (at 4 6)) ≡ true
unfolding rules_opened
held_before_the_last_rank = refl

lands_on_the_last_rank : is_allowed drops (bare (stands White 15 (at 4 6) empty) White) (Go (at 4 6) (at 4 7) Stays None) ≡ false
unfolding rules_opened
lands_on_the_last_rank = refl

lands_free_on_the_last_rank : is_allowed (record drops { soldier_rank = 8 }) (bare (stands White 15 (at 4 6) empty) White) (Go (at 4 6) (at 4 7) Stays None) ≡ true
unfolding rules_opened
lands_free_on_the_last_rank = refl

-- a drop is not bound to the region, but a piece must reach a square of it
far_from_its_region : is_allowed drops (in_hand 1) (Drop (kind 1) (at 2 7)) ≡ false
unfolding rules_opened
far_from_its_region = refl

beside_its_region : is_allowed drops (in_hand 1) (Drop (kind 1) (at 2 6)) ≡ true
unfolding rules_opened
beside_its_region = refl

far_where_allowed : is_allowed (record drops { immobile_bad = false }) (in_hand 1) (Drop (kind 1) (at 2 7)) ≡ true
unfolding rules_opened
far_where_allowed = refl
