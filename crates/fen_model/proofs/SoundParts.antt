-- What soundness says of a position's parts.
use Rattle.std.proofs.Common.{◌≡◌, ℕ, ◌+◌, ◌<◌, ◌≤◌, ◌==◌, nat_lt, nat_le, Bool, true, false, ◌&&◌, ◌||◌, not, slice_index, refl}
use Rattle.std.proofs.lemmas.Bool.{leb-true, le-leb, and_parts, not-true, not_from_false}
use Rattle.foundation.specs.Count.{all_below}
use Rattle.foundation.proofs.CountLemmas.{all_below-each}
use Rattle.rules_model.specs.declared.board.Position.{Position}
use Rattle.rules_model.specs.declared.board.Side.{Side}
use Rattle.rules_model.specs.declared.board.Side.TheVariants.{White, Black}
use Rattle.rules_model.specs.declared.board.Wing.{Wing}
use Rattle.rules_model.specs.declared.board.Wing.TheVariants.{Kingside, Queenside}
use Rattle.rules_model.specs.declared.rules.Rules.{Rules}
use Rattle.rules_model.specs.Attacks.{king_attacked}
use Rattle.rules_model.specs.Ends.{pieces_of}
use Rattle.rules_model.specs.Repeats.{repeat_of}
use Rattle.rules_model.specs.Sides.{other, side_index}
use Rattle.rules_model.specs.Sizes.{HasSizes, has_sizes}
use Rattle.rules_model.specs.Sound.{has_its_king, is_sound, is_sound_ep, is_sound_repeat, is_sound_side, sound_at, sound_gate, sound_in_hand, sound_right}
use Rattle.rules_model.proofs.SizeLaws.{has_sizes-is, sizes-has}

-- the parts of soundness, one by one
pub record Parts (rules : Rules) (p : Position) : Type 0 where
  pub sizes : HasSizes (repeat_of p)
  pub cells : all_below (sound_at rules p.cells) 120 ≡ true
  pub few : pieces_of (repeat_of p) White + pieces_of (repeat_of p) Black ≤ 240
  pub hand : (side : Side) → all_below (sound_in_hand rules p.hands side) 26 ≡ true
  pub king : (side : Side) → has_its_king rules p.cells side ≡ true
  pub right : (side : Side) (wing : Wing) → sound_right rules (repeat_of p) side wing ≡ true
  pub gate : (side : Side) → all_below (sound_gate rules (repeat_of p) side) 16 ≡ true
  pub checks : (side : Side) → slice_index p.checks (side_index side) ≤ 99
  pub uncounted : (side : Side) → (rules.check_counting || (slice_index p.checks (side_index side) == 0)) ≡ true
  pub safe : king_attacked rules p.cells (other p.side) ≡ false
  pub ep : is_sound_ep rules (repeat_of p) p.ep ≡ true
  pub counter : p.counter ≤ 9999
  pub least : 1 ≤ p.number
  pub most : p.number ≤ 9999

record OfSide (rules : Rules) (p : Position) (side : Side) : Type 0 where
  pub hand : all_below (sound_in_hand rules p.hands side) 26 ≡ true
  pub king : has_its_king rules p.cells side ≡ true
  pub kingside : sound_right rules (repeat_of p) side Kingside ≡ true
  pub queenside : sound_right rules (repeat_of p) side Queenside ≡ true
  pub gate : all_below (sound_gate rules (repeat_of p) side) 16 ≡ true
  pub checks : nat_le (slice_index p.checks (side_index side)) 99 ≡ true
  pub uncounted : (rules.check_counting || (slice_index p.checks (side_index side) == 0)) ≡ true

seven_parts : (a b c d e f g : Bool) → (a && b && c && d && e && f && g) ≡ true → (a ≡ true) × (b ≡ true) × (c ≡ true) × (d ≡ true) × (e ≡ true) × (f ≡ true) × (g ≡ true)
seven_parts a b c d e f g h =
    let i = and_parts (a && b && c && d && e && f) g h in
    let j = and_parts (a && b && c && d && e) f i.0 in
    let k = and_parts (a && b && c && d) e j.0 in
    let l = and_parts (a && b && c) d k.0 in
    let m = and_parts (a && b) c l.0 in
    let n = and_parts a b m.0 in
    (n.0, n.1, m.1, l.1, k.1, j.1, i.1)

all_seven : (a b c d e f g : Bool) → a ≡ true → b ≡ true → c ≡ true → d ≡ true → e ≡ true → f ≡ true → g ≡ true → (a && b && c && d && e && f && g) ≡ true
all_seven a b c d e f g i j k l m n o = rw (i, j, k, l, m, n, o) refl

of_side : (rules : Rules) (p : Position) (side : Side) → is_sound_side rules (repeat_of p) side ≡ true → OfSide rules p side
unfolding is_sound_side
of_side rules p side h =
    let s = seven_parts _ _ _ _ _ _ _ h in
    record { hand = s.0; king = s.1; kingside = s.2; queenside = s.3; gate = s.4; checks = s.5; uncounted = s.6 }

side_of_parts : (rules : Rules) (p : Position) (side : Side) → OfSide rules p side → is_sound_side rules (repeat_of p) side ≡ true
unfolding is_sound_side
side_of_parts rules p side o = all_seven _ _ _ _ _ _ _ o.hand o.king o.kingside o.queenside o.gate o.checks o.uncounted

by_side : (P : Side → Type 0) → P White → P Black → (side : Side) → P side
by_side P white black White = white
by_side P white black Black = black

by_wing : (P : Wing → Type 0) → P Kingside → P Queenside → (wing : Wing) → P wing
by_wing P king queen Kingside = king
by_wing P king queen Queenside = queen

record OfRepeat (rules : Rules) (p : Position) : Type 0 where
  pub sizes : has_sizes (repeat_of p) ≡ true
  pub cells : all_below (sound_at rules p.cells) 120 ≡ true
  pub few : nat_le (pieces_of (repeat_of p) White + pieces_of (repeat_of p) Black) 240 ≡ true
  pub white : is_sound_side rules (repeat_of p) White ≡ true
  pub black : is_sound_side rules (repeat_of p) Black ≡ true
  pub safe : not (king_attacked rules p.cells (other p.side)) ≡ true
  pub ep : is_sound_ep rules (repeat_of p) p.ep ≡ true

of_repeat : (rules : Rules) (p : Position) → is_sound_repeat rules (repeat_of p) ≡ true → OfRepeat rules p
unfolding is_sound_repeat
of_repeat rules p h =
    let s = seven_parts _ _ _ _ _ _ _ h in
    record { sizes = s.0; cells = s.1; few = s.2; white = s.3; black = s.4; safe = s.5; ep = s.6 }

repeat_of_parts : (rules : Rules) (p : Position) → OfRepeat rules p → is_sound_repeat rules (repeat_of p) ≡ true
unfolding is_sound_repeat
repeat_of_parts rules p o = all_seven _ _ _ _ _ _ _ o.sizes o.cells o.few o.white o.black o.safe o.ep

four_parts : (a b c d : Bool) → (a && b && c && d) ≡ true → (a ≡ true) × (b ≡ true) × (c ≡ true) × (d ≡ true)
four_parts a b c d h =
    let i = and_parts (a && b && c) d h in
    let j = and_parts (a && b) c i.0 in
    let k = and_parts a b j.0 in
    (k.0, k.1, j.1, i.1)

all_four : (a b c d : Bool) → a ≡ true → b ≡ true → c ≡ true → d ≡ true → (a && b && c && d) ≡ true
all_four a b c d i j k l = rw (i, j, k, l) refl

counts_of : (rules : Rules) (p : Position) → is_sound rules p ≡ true → (is_sound_repeat rules (repeat_of p) ≡ true) × (p.counter ≤ 9999) × (1 ≤ p.number) × (p.number ≤ 9999)
unfolding is_sound
counts_of rules p h = let s = four_parts _ _ _ _ h in (s.0, leb-true _ _ s.1, leb-true _ _ s.2, leb-true _ _ s.3)

of_counts : (rules : Rules) (p : Position) → is_sound_repeat rules (repeat_of p) ≡ true → p.counter ≤ 9999 → 1 ≤ p.number → p.number ≤ 9999 → is_sound rules p ≡ true
unfolding is_sound
of_counts rules p h i j k = all_four _ _ _ _ h (le-leb _ _ i) (le-leb _ _ j) (le-leb _ _ k)

pub parts : (rules : Rules) (p : Position) → is_sound rules p ≡ true → Parts rules p
parts rules p h =
    let counts = counts_of rules p h in
    let whole = of_repeat rules p counts.0 in
    let white = of_side rules p White whole.white in
    let black = of_side rules p Black whole.black in
    record {
      sizes = has_sizes-is (repeat_of p) whole.sizes;
      cells = whole.cells;
      few = leb-true _ _ whole.few;
      hand = λ side. by_side (λ s. all_below (sound_in_hand rules p.hands s) 26 ≡ true) white.hand black.hand side;
      king = λ side. by_side (λ s. has_its_king rules p.cells s ≡ true) white.king black.king side;
      right = λ side. by_side (λ s. (wing : Wing) → sound_right rules (repeat_of p) s wing ≡ true)
          (λ wing. by_wing (λ w. sound_right rules (repeat_of p) White w ≡ true) white.kingside white.queenside wing)
          (λ wing. by_wing (λ w. sound_right rules (repeat_of p) Black w ≡ true) black.kingside black.queenside wing) side;
      gate = λ side. by_side (λ s. all_below (sound_gate rules (repeat_of p) s) 16 ≡ true) white.gate black.gate side;
      checks = λ side. by_side (λ s. slice_index p.checks (side_index s) ≤ 99) (leb-true _ _ white.checks) (leb-true _ _ black.checks) side;
      uncounted = λ side. by_side (λ s. (rules.check_counting || (slice_index p.checks (side_index s) == 0)) ≡ true) white.uncounted black.uncounted side;
      safe = not-true _ whole.safe;
      ep = whole.ep;
      counter = counts.1;
      least = counts.2;
      most = counts.3;
    }

side_parts : (rules : Rules) (p : Position) → Parts rules p → (side : Side) → is_sound_side rules (repeat_of p) side ≡ true
side_parts rules p o side = side_of_parts rules p side (record {
  hand = o.hand side;
  king = o.king side;
  kingside = o.right side Kingside;
  queenside = o.right side Queenside;
  gate = o.gate side;
  checks = le-leb _ _ (o.checks side);
  uncounted = o.uncounted side;
})

pub sound_from : (rules : Rules) (p : Position) → Parts rules p → is_sound rules p ≡ true
sound_from rules p o =
    of_counts rules p (repeat_of_parts rules p (record {
      sizes = sizes-has (repeat_of p) o.sizes;
      cells = o.cells;
      few = le-leb _ _ o.few;
      white = side_parts rules p o White;
      black = side_parts rules p o Black;
      safe = not_from_false _ o.safe;
      ep = o.ep;
    })) o.counter o.least o.most
