-- Soundness by its parts.
use Rattle.std.proofs.Common.{◌≡◌, ◌+◌, ◌≤◌, true, false, not, ◌||◌, ◌==◌, nat_le, slice_index}
use Rattle.std.proofs.lemmas.Bool.{and_from, and_parts, le-leb, leb-true, not-true, not_from_false}
use Rattle.foundation.specs.Count.{all_below}
use Rattle.rules_model.specs.declared.board.Position.{Position}
use Rattle.rules_model.specs.declared.board.Repeat.{Repeat}
use Rattle.rules_model.specs.declared.board.Side.{Side}
use Rattle.rules_model.specs.declared.board.Side.TheVariants.{White, Black}
use Rattle.rules_model.specs.declared.board.Wing.TheVariants.{Kingside, Queenside}
use Rattle.rules_model.specs.declared.rules.Rules.{Rules}
use Rattle.rules_model.specs.Sides.{other, side_index}
use Rattle.rules_model.specs.Repeats.{repeat_of}
use Rattle.rules_model.specs.Attacks.{king_attacked}
use Rattle.rules_model.specs.Sizes.{has_sizes}
use Rattle.rules_model.specs.Ends.{pieces_of}
use Rattle.rules_model.specs.Sound.{has_its_king, is_sound, is_sound_ep, is_sound_repeat, is_sound_side, sound_at, sound_gate, sound_in_hand, sound_right}

-- ---- a repeat

pub record SoundRepeat (rules : Rules) (r : Repeat) : Type 0 where
  pub sizes : has_sizes r ≡ true
  pub cells : all_below (sound_at rules r.cells) 120 ≡ true
  pub few : pieces_of r White + pieces_of r Black ≤ 240
  pub white : is_sound_side rules r White ≡ true
  pub black : is_sound_side rules r Black ≡ true
  pub king : king_attacked rules r.cells (other r.side) ≡ false
  pub ep : is_sound_ep rules r r.ep ≡ true

pub repeat_parts : (rules : Rules) (r : Repeat) → is_sound_repeat rules r ≡ true → SoundRepeat rules r
unfolding is_sound_repeat
repeat_parts rules r e =
    let a = and_parts _ (is_sound_ep rules r r.ep) e in
    let b = and_parts _ (not (king_attacked rules r.cells (other r.side))) a.0 in
    let c = and_parts _ (is_sound_side rules r Black) b.0 in
    let d = and_parts _ (is_sound_side rules r White) c.0 in
    let f = and_parts _ (nat_le (pieces_of r White + pieces_of r Black) 240) d.0 in
    let g = and_parts (has_sizes r) (all_below (sound_at rules r.cells) 120) f.0 in
    record { sizes = g.0; cells = g.1; few = leb-true _ _ f.1; white = d.1; black = c.1; king = not-true _ b.1; ep = a.1 }

pub repeat_of_parts : (rules : Rules) (r : Repeat) → SoundRepeat rules r → is_sound_repeat rules r ≡ true
unfolding is_sound_repeat
repeat_of_parts rules r h =
    and_from _ _ (and_from _ _ (and_from _ _ (and_from _ _ (and_from _ _ (and_from _ _ h.sizes h.cells) (le-leb _ _ h.few)) h.white) h.black) (not_from_false _ h.king)) h.ep

pub side_of : (rules : Rules) (r : Repeat) (side : Side) → SoundRepeat rules r → is_sound_side rules r side ≡ true
side_of rules r White h = h.white
side_of rules r Black h = h.black

-- ---- a side

pub record SoundSide (rules : Rules) (r : Repeat) (side : Side) : Type 0 where
  pub hand : all_below (sound_in_hand rules r.hands side) 26 ≡ true
  pub king : has_its_king rules r.cells side ≡ true
  pub kingside : sound_right rules r side Kingside ≡ true
  pub queenside : sound_right rules r side Queenside ≡ true
  pub gates : all_below (sound_gate rules r side) 16 ≡ true
  pub few_checks : nat_le (slice_index r.checks (side_index side)) 99 ≡ true
  pub checks : (rules.check_counting || (slice_index r.checks (side_index side) == 0)) ≡ true

pub side_parts : (rules : Rules) (r : Repeat) (side : Side) → is_sound_side rules r side ≡ true → SoundSide rules r side
unfolding is_sound_side
side_parts rules r side e =
    let a = and_parts _ (rules.check_counting || (slice_index r.checks (side_index side) == 0)) e in
    let b = and_parts _ (nat_le (slice_index r.checks (side_index side)) 99) a.0 in
    let c = and_parts _ (all_below (sound_gate rules r side) 16) b.0 in
    let d = and_parts _ (sound_right rules r side Queenside) c.0 in
    let f = and_parts _ (sound_right rules r side Kingside) d.0 in
    let g = and_parts (all_below (sound_in_hand rules r.hands side) 26) (has_its_king rules r.cells side) f.0 in
    record { hand = g.0; king = g.1; kingside = f.1; queenside = d.1; gates = c.1; few_checks = b.1; checks = a.1 }

pub side_of_parts : (rules : Rules) (r : Repeat) (side : Side) → SoundSide rules r side → is_sound_side rules r side ≡ true
unfolding is_sound_side
side_of_parts rules r side h =
    and_from _ _ (and_from _ _ (and_from _ _ (and_from _ _ (and_from _ _ (and_from _ _ h.hand h.king) h.kingside) h.queenside) h.gates) h.few_checks) h.checks

-- ---- a position

pub record SoundCounts (p : Position) : Type 0 where
  pub counter : p.counter ≤ 9999
  pub number_least : 1 ≤ p.number
  pub number_most : p.number ≤ 9999

pub position_parts : (rules : Rules) (p : Position) → is_sound rules p ≡ true → SoundRepeat rules (repeat_of p) × SoundCounts p
unfolding is_sound
position_parts rules p e =
    let a = and_parts _ (nat_le p.number 9999) e in
    let b = and_parts _ (nat_le 1 p.number) a.0 in
    let c = and_parts (is_sound_repeat rules (repeat_of p)) (nat_le p.counter 9999) b.0 in
    (repeat_parts rules (repeat_of p) c.0, record { counter = leb-true _ _ c.1; number_least = leb-true _ _ b.1; number_most = leb-true _ _ a.1 })

pub position_of_parts : (rules : Rules) (p : Position) → is_sound_repeat rules (repeat_of p) ≡ true → SoundCounts p → is_sound rules p ≡ true
unfolding is_sound
position_of_parts rules p e h = and_from _ _ (and_from _ _ (and_from _ _ e (le-leb _ _ h.counter)) (le-leb _ _ h.number_least)) (le-leb _ _ h.number_most)
