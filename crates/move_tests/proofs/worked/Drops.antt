-- Drops: no second one on a file, none that can never move; promotions that keep their origin, and captures that return it.
use Rattle.std.proofs.Common.{◌≡◌, ℕ, true, false, List, [], ◌∷◌, Option, Some, None, refl, pos, set, replicate}
use Rattle.rules_model.specs.declared.board.Cell.{Cell}
use Rattle.rules_model.specs.declared.board.Repeat.{Repeat}
use Rattle.rules_model.specs.declared.board.Side.TheVariants.{White, Black}
use Rattle.rules_model.specs.declared.moves.Move.{Move}
use Rattle.rules_model.specs.declared.moves.Move.TheVariants.{Go, Drop}
use Rattle.rules_model.specs.declared.moves.Promo.TheVariants.{Stays, Pawn, Plus}
use Rattle.rules_model.specs.declared.rules.Rules.{Rules}
use Rattle.rules_model.specs.declared.rules.Way.TheVariants.{Leap}
use Rattle.rules_model.specs.Next.{next_repeat}
use Rattle.rules_model.specs.Legal.{is_allowed}
use Rattle.rules_model.specs.Squares.{cell_at}
use Rattle.rules_model.proofs.worked.Chess.{everywhere, chess, at, kind, bare, man, stands, empty, no_hands, chess_kinds}
use Rattle.rules_model.proofs.worked.Open.{rules_opened}

abbrev zh : Rules
zh = record chess { drops = true; to_hand = true }

abbrev kings : List (Option Cell)
kings = stands White 10 (at 4 0) (stands Black 10 (at 4 7) empty)

abbrev pawn_in_hand : List (List ℕ)
pawn_in_hand = set (replicate 26 0) 15 1 ∷ replicate 26 0 ∷ []

-- a white pawn on c4 and one in the hand
abbrev r : Repeat
r = record (bare (stands White 15 (at 2 3) kings) White) { hands = pawn_in_hand }

abbrev single : Rules
single = record zh { no_doubled = Some (kind 15) }

dropped : is_allowed zh r (Drop (kind 15) (at 2 4)) ≡ true
unfolding rules_opened
dropped = refl

doubled : is_allowed single r (Drop (kind 15) (at 2 4)) ≡ false
unfolding rules_opened
doubled = refl

other_file : is_allowed single r (Drop (kind 15) (at 3 4)) ≡ true
unfolding rules_opened
other_file = refl

first_rank : is_allowed zh r (Drop (kind 15) (at 3 0)) ≡ false
unfolding rules_opened
first_rank = refl

last_rank : is_allowed zh r (Drop (kind 15) (at 3 7)) ≡ false
unfolding rules_opened
last_rank = refl

last_rank_where_allowed : is_allowed (record zh { pawn_zone = true }) r (Drop (kind 15) (at 3 7)) ≡ true
unfolding rules_opened
last_rank_where_allowed = refl

immobile : is_allowed (record zh { pawn_zone = true; immobile_bad = true }) r (Drop (kind 15) (at 3 7)) ≡ false
unfolding rules_opened
immobile = refl

mobile : is_allowed (record zh { pawn_zone = true; immobile_bad = true }) r (Drop (kind 15) (at 3 6)) ≡ true
unfolding rules_opened
mobile = refl

none_in_hand : is_allowed zh r (Drop (kind 13) (at 3 4)) ≡ false
unfolding rules_opened
none_in_hand = refl

hand_spent : (next_repeat zh r (Drop (kind 15) (at 3 4))).hands ≡ no_hands
unfolding rules_opened
hand_spent = refl

-- a drop that gives check, where it may and where it may not
abbrev rook_in_hand : Repeat
rook_in_hand = record r { hands = set (replicate 26 0) 17 1 ∷ replicate 26 0 ∷ [] }

drop_checks : is_allowed zh rook_in_hand (Drop (kind 17) (at 4 4)) ≡ true
unfolding rules_opened
drop_checks = refl

drop_checks_not : is_allowed (record zh { drop_checks = false }) rook_in_hand (Drop (kind 17) (at 4 4)) ≡ false
unfolding rules_opened
drop_checks_not = refl

drop_without_check : is_allowed (record zh { drop_checks = false }) rook_in_hand (Drop (kind 17) (at 3 4)) ≡ true
unfolding rules_opened
drop_without_check = refl

-- a pawn on a7 becomes a queen with the origin pawn, and a rook that takes it has a pawn in hand
abbrev seventh : Repeat
seventh = bare (stands White 15 (at 0 6) (stands Black 17 (at 1 7) kings)) White

abbrev queens : Move
queens = Go (at 0 6) (at 0 7) (Pawn (kind 16)) None

promotes : is_allowed zh seventh queens ≡ true
unfolding rules_opened
promotes = refl

must_promote : is_allowed zh seventh (Go (at 0 6) (at 0 7) Stays None) ≡ false
unfolding rules_opened
must_promote = refl

keeps_origin : cell_at (next_repeat zh seventh queens).cells 84 ≡ Some (record (man White 16) { origin = Some (kind 15) })
unfolding rules_opened
keeps_origin = refl

no_origin_in_chess : cell_at (next_repeat chess seventh queens).cells 84 ≡ Some (man White 16)
unfolding rules_opened
no_origin_in_chess = refl

returns_as_pawn : (next_repeat zh (next_repeat zh seventh queens) (Go (at 1 7) (at 0 7) Stays None)).hands ≡ replicate 26 0 ∷ set (replicate 26 0) 15 1 ∷ []
unfolding rules_opened
returns_as_pawn = refl

-- a knight that becomes a queen by `Plus` in the region, and keeps its kind as its origin
abbrev knights : Rules
knights = record zh { kinds = set chess_kinds 13 (Some (record { terms = record { dx = pos 1; dy = pos 2; way = Leap; limit = 1; quiet = true; takes = true } ∷ []; mobility = everywhere ∷ everywhere ∷ []; pawn = false; promoted = Some (kind 16) })) }

abbrev knight_on_six : Repeat
knight_on_six = bare (stands White 13 (at 0 5) kings) White

plus_allowed : is_allowed knights knight_on_six (Go (at 0 5) (at 1 7) Plus None) ≡ true
unfolding rules_opened
plus_allowed = refl

plus_or_not : is_allowed knights knight_on_six (Go (at 0 5) (at 1 7) Stays None) ≡ true
unfolding rules_opened
plus_or_not = refl

plus_must : is_allowed (record knights { must_promote_piece = true }) knight_on_six (Go (at 0 5) (at 1 7) Stays None) ≡ false
unfolding rules_opened
plus_must = refl

plus_outside : is_allowed knights (bare (stands White 13 (at 0 3) kings) White) (Go (at 0 3) (at 1 5) Plus None) ≡ false
unfolding rules_opened
plus_outside = refl

plus_origin : cell_at (next_repeat knights knight_on_six (Go (at 0 5) (at 1 7) Plus None)).cells 85 ≡ Some (record (man White 16) { origin = Some (kind 13) })
unfolding rules_opened
plus_origin = refl
