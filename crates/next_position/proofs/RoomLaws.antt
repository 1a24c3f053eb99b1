-- A sound position meets what a move asks of it.
use Rattle.std.proofs.Common.{◌≡◌, ℕ, ◌+◌, ◌<◌, ◌≤◌, Bool, true, false, ◌&&◌, ◌||◌, not, Option, Some, None, inl, inr, List, length, sum, arith, refl, slice_index}
use Rattle.std.specs.Prelude.{is_some}
use Rattle.std.proofs.lemmas.Bool.{and_parts, cases_lt, leb-true}
use Rattle.std.proofs.lemmas.List.{get_or_past}
use Rattle.std.proofs.lemmas.List.Sums.{get_or-le-sum_by}
use Rattle.rules_model.specs.declared.board.Kind.{Kind}
use Rattle.rules_model.specs.declared.board.Position.{Position}
use Rattle.rules_model.specs.declared.board.Repeat.{Repeat}
use Rattle.rules_model.specs.declared.board.Side.{Side}
use Rattle.rules_model.specs.declared.board.Side.TheVariants.{White, Black}
use Rattle.rules_model.specs.declared.board.Wing.{Wing}
use Rattle.rules_model.specs.declared.board.Wing.TheVariants.{Kingside, Queenside}
use Rattle.rules_model.specs.declared.rules.Rules.{Rules}
use Rattle.rules_model.specs.Repeats.{repeat_of}
use Rattle.rules_model.specs.Hands.{hand_of, in_hand}
use Rattle.rules_model.specs.Ends.{pieces_of}
use Rattle.rules_model.specs.Castling.{holds_right, rook_file}
use Rattle.rules_model.specs.Sound.{is_sound, is_sound_repeat, is_sound_side, sound_right, sound_rook}
use Rattle.next_position.specs.Room.{HasRoom, RightsHaveRooks}

within_sum : (xs : List ℕ) (k : ℕ) → slice_index xs k ≤ sum xs
within_sum xs k =
    elim (cases_lt k (length xs)) as (λ _. slice_index xs k ≤ sum xs) [
      | inl l ↦ get_or-le-sum_by (λ x. x) xs k 0 l
      | inr l ↦ let e = get_or_past xs k 0 l in omega (arith, e)
    ]

held_among : (r : Repeat) (side : Side) (kind : Kind) → in_hand r.hands side kind ≤ pieces_of r side
unfolding pieces_of
held_among r side kind = let h = within_sum (hand_of r.hands side) kind.0 in omega (arith, h)

second : (a b c d f g : Bool) → (a && b && c && d && f && g) ≡ true → b ≡ true
second true true c d f g e = refl
second true false c d f g e = cc
second false b c d f g e = cc

few_pieces : (rules : Rules) (r : Repeat) → is_sound_repeat rules r ≡ true → pieces_of r White + pieces_of r Black ≤ 240
unfolding is_sound_repeat
few_pieces rules r e = leb-true _ _ (second _ _ _ _ _ _ e)

held_few : (r : Repeat) (side : Side) (kind : Kind) → pieces_of r White + pieces_of r Black ≤ 240 → in_hand r.hands side kind < 255
held_few r White kind h = let k = held_among r White kind in omega (arith, h, k)
held_few r Black kind h = let k = held_among r Black kind in omega (arith, h, k)

front : (a b c d : Bool) → (a && b && c && d) ≡ true → a ≡ true
front true b c d e = refl
front false b c d e = cc

pub sound_has_room : (rules : Rules) (p : Position) → is_sound rules p ≡ true → HasRoom p
unfolding is_sound
sound_has_room rules p e =
    record { hands = λ kind. held_few (repeat_of p) p.side kind (few_pieces rules (repeat_of p) (front (is_sound_repeat rules (repeat_of p)) _ _ _ e)) }

-- ---- rooks

white_is_sound : (rules : Rules) (r : Repeat) → is_sound_repeat rules r ≡ true → is_sound_side rules r White ≡ true
unfolding is_sound_repeat
white_is_sound rules r e = grind (e, arith)

black_is_sound : (rules : Rules) (r : Repeat) → is_sound_repeat rules r ≡ true → is_sound_side rules r Black ≡ true
unfolding is_sound_repeat
black_is_sound rules r e = grind (e, arith)

side_is_sound : (rules : Rules) (r : Repeat) (side : Side) → is_sound_repeat rules r ≡ true → is_sound_side rules r side ≡ true
side_is_sound rules r White e = white_is_sound rules r e
side_is_sound rules r Black e = black_is_sound rules r e

kingside_is_sound : (rules : Rules) (r : Repeat) (side : Side) → is_sound_side rules r side ≡ true → sound_right rules r side Kingside ≡ true
unfolding is_sound_side
kingside_is_sound rules r side e = grind (e, arith)

queenside_is_sound : (rules : Rules) (r : Repeat) (side : Side) → is_sound_side rules r side ≡ true → sound_right rules r side Queenside ≡ true
unfolding is_sound_side
queenside_is_sound rules r side e = grind (e, arith)

right_is_sound : (rules : Rules) (r : Repeat) (side : Side) (wing : Wing) → is_sound_side rules r side ≡ true → sound_right rules r side wing ≡ true
right_is_sound rules r side Kingside e = kingside_is_sound rules r side e
right_is_sound rules r side Queenside e = queenside_is_sound rules r side e

a_rook : (rules : Rules) (gates : List ℕ) (side : Side) (rook : Option ℕ) → sound_rook rules gates side rook ≡ true → is_some rook ≡ true
a_rook rules gates side None e = cc
a_rook rules gates side (Some file) e = refl

where_held : (b c : Bool) → (not b || c) ≡ true → b ≡ true → c ≡ true
where_held true c e h = e
where_held false c e h = cc

rook_stands : (rules : Rules) (r : Repeat) (side : Side) (wing : Wing) → sound_right rules r side wing ≡ true → holds_right r.rights side wing ≡ true → is_some (rook_file rules r.cells side wing) ≡ true
unfolding sound_right
rook_stands rules r side wing e h = a_rook rules r.gates side (rook_file rules r.cells side wing) (and_parts _ _ (where_held (holds_right r.rights side wing) _ e h)).1

pub sound_holds_rooks : (rules : Rules) (p : Position) → is_sound rules p ≡ true → RightsHaveRooks rules p
unfolding is_sound
sound_holds_rooks rules p e =
    let r = repeat_of p in
    record {
      stands = λ side wing. rook_stands rules r side wing (right_is_sound rules r side wing (side_is_sound rules r side (front (is_sound_repeat rules r) _ _ _ e)));
    }
