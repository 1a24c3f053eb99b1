-- The position after a legal move of a sound position is sound, in every variant that fits.
use Rattle.std.proofs.Common.{◌≡◌, ℕ, ◌+◌, ◌-◌, ◌≤◌, Bool, true, false, ◌&&◌, ◌||◌, if◌then◌else◌, inl, inr, Option, List, refl, ap, sym, ◌∙◌, subst, arith, ◌==◌, nat_le, slice_index}
use Rattle.std.specs.Prelude.{slice_set}
use Rattle.std.proofs.lemmas.Bool.{leb-true, le-leb}
use Rattle.std.proofs.lemmas.Bool.Decides.{Decides-eqb}
use Rattle.foundation.specs.Member.{Member}
use Rattle.foundation.proofs.CountLemmas.{all_below-true}
use Rattle.rules_model.specs.declared.board.Cell.{Cell}
use Rattle.rules_model.specs.declared.board.Position.{Position}
use Rattle.rules_model.specs.declared.board.Repeat.{Repeat}
use Rattle.rules_model.specs.declared.board.Side.{Side}
use Rattle.rules_model.specs.declared.board.Side.TheVariants.{White, Black}
use Rattle.rules_model.specs.declared.board.Wing.TheVariants.{Kingside, Queenside}
use Rattle.rules_model.specs.declared.moves.Move.{Move}
use Rattle.rules_model.specs.declared.rules.Rules.{Rules}
use Rattle.rules_model.specs.Sides.{other, side_index}
use Rattle.rules_model.specs.Repeats.{repeat_of}
use Rattle.rules_model.specs.Attacks.{king_attacked}
use Rattle.rules_model.specs.Ends.{pieces_of}
use Rattle.rules_model.specs.Next.{cells_after, checks_after, ep_after, gates_after, hands_after, next, next_repeat, rights_after}
use Rattle.rules_model.specs.Legal.{legal}
use Rattle.rules_model.specs.Fit.{IsFit}
use Rattle.rules_model.specs.Sound.{is_sound, is_sound_ep, is_sound_repeat, sound_gate}
use Rattle.rules_model.proofs.CandidateLaws.{legal_candidate}
use Rattle.rules_model.proofs.LegalLaws.{legal-member}
use Rattle.rules_model.proofs.PlayLaws.{next-is}
use Rattle.rules_model.proofs.SizeLaws.{has_sizes-is, sizes-has}
use Rattle.rules_model.proofs.VariantLaws.{legal_of_variant}
use Rattle.sound_play.proofs.AfterLaws.{cells_after-sound, hands_after-fit, IsLegalHere, on_board_of_both, pieces_after-most}
use Rattle.sound_play.proofs.DoubleLaws.{ep_after-sound}
use Rattle.sound_play.proofs.FieldLaws.{next-counter_most, next-number_least, next-number_most}
use Rattle.sound_play.proofs.HandLaws.{hand_set, held_by_both}
use Rattle.sound_play.proofs.KingLaws.{next_repeat-kings, next_repeat-safe}
use Rattle.sound_play.proofs.PieceLaws.{all_sound, AreSound}
use Rattle.sound_play.proofs.PlayLaws.{FitHands, sound_hands}
use Rattle.sound_play.proofs.SizeLaws.{next_repeat-sizes}
use Rattle.sound_play.proofs.SoundLaws.{position_of_parts, position_parts, repeat_of_parts, repeat_parts, side_of, side_of_parts, side_parts, SoundCounts, SoundRepeat, SoundSide}
use Rattle.sound_play.proofs.StandLaws.{gate_after, right_after}
use Rattle.sound_play.proofs.TargetLaws.{other_twice}

-- ---- the checks left

fewer_checks : (b : Bool) (checks : List ℕ) (i k : ℕ) → slice_index (if b then slice_set checks i (slice_index checks i - 1) else checks) k ≤ slice_index checks k
fewer_checks true checks i k =
    elim (hand_set checks i (slice_index checks i - 1) k) as (λ _. slice_index (slice_set checks i (slice_index checks i - 1)) k ≤ slice_index checks k) [
      | inl h ↦ let a = h.1 in let b : slice_index checks k ≡ slice_index checks i = ap (slice_index checks) h.0 in omega (arith, a, b)
      | inr h ↦ omega (arith, h)
    ]
fewer_checks false checks i k = omega arith

checks_least : (rules : Rules) (r : Repeat) (later : List (Option Cell)) (k : ℕ) → slice_index (checks_after rules r later) k ≤ slice_index r.checks k
unfolding checks_after
checks_least rules r later k = fewer_checks (rules.check_counting && king_attacked rules later (other r.side)) r.checks (side_index r.side) k

still_few : (a b n : ℕ) → a ≤ b → nat_le b n ≡ true → nat_le a n ≡ true
still_few a b n h e = let l = leb-true b n e in le-leb a n (omega (arith, h, l))

none_left : (counting : Bool) (a b : ℕ) → a ≤ b → (counting || (b == 0)) ≡ true → (counting || (a == 0)) ≡ true
none_left true a b h e = refl
none_left false a b h e = let f = (Decides-eqb b 0).0 e in (Decides-eqb a 0).1 (omega (arith, f, h))

-- ---- a side, and the whole

-- what stands after the move, field by field
pub record Follows (rules : Rules) (r q : Repeat) (m : Move) : Type 0 where
  pub cells : q.cells ≡ cells_after rules r m
  pub hands : q.hands ≡ hands_after rules r m
  pub gates : q.gates ≡ gates_after rules r m
  pub rights : q.rights ≡ rights_after rules r m q.cells
  pub checks : q.checks ≡ checks_after rules r q.cells
  pub ep : q.ep ≡ ep_after rules r m q.cells
  pub side : q.side ≡ other r.side

pub next_repeat-follows : (rules : Rules) (r : Repeat) (m : Move) → Follows rules r (next_repeat rules r m) m
unfolding next_repeat
next_repeat-follows rules r m = record { cells = refl; hands = refl; gates = refl; rights = refl; checks = refl; ep = refl; side = refl }

side_after : (rules : Rules) (r : Repeat) (m : Move) (side : Side) → IsLegalHere rules r m → Member m (legal rules r) → SoundSide rules (next_repeat rules r m) side
side_after rules r m side ready h =
    let q = next_repeat rules r m in
    let f = next_repeat-follows rules r m in
    let s = side_parts rules r side (side_of rules r side (repeat_parts rules r ready.sound)) in
    let least : slice_index q.checks (side_index side) ≤ slice_index r.checks (side_index side) = subst (λ checks. slice_index checks (side_index side) ≤ slice_index r.checks (side_index side)) (sym f.checks) (checks_least rules r q.cells (side_index side)) in
    record {
      hand = sound_hands rules q.hands side (subst (λ hands. FitHands rules hands) (sym f.hands) (hands_after-fit rules r m ready));
      king = next_repeat-kings rules r m side ready.fit ready.kinds ready.cells ready.sound h;
      kingside = right_after rules r q m side Kingside ready f.cells f.gates f.rights s.kingside;
      queenside = right_after rules r q m side Queenside ready f.cells f.gates f.rights s.queenside;
      gates = all_below-true (sound_gate rules q side) 16 (λ file l. gate_after rules r q m side file ready l f.cells f.gates);
      few_checks = still_few _ _ 99 least s.few_checks;
      checks = none_left rules.check_counting _ _ least s.checks;
    }

pieces_by : (r : Repeat) → pieces_of r White + pieces_of r Black ≡ on_board_of_both r.cells + held_by_both r.hands
unfolding pieces_of on_board_of_both held_by_both
pieces_by r = omega arith

few_after : (rules : Rules) (r : Repeat) (m : Move) → IsLegalHere rules r m → pieces_of (next_repeat rules r m) White + pieces_of (next_repeat rules r m) Black ≤ 240
few_after rules r m ready =
    let f = next_repeat-follows rules r m in
    let before = (repeat_parts rules r ready.sound).few in
    let a = pieces_by r in
    let b = pieces_by (next_repeat rules r m) in
    let c = ap on_board_of_both f.cells in
    let d = ap held_by_both f.hands in
    let e = pieces_after-most rules r m ready in
    omega (arith, before, a, b, c, d, e)

repeat_after : (rules : Rules) (r : Repeat) (m : Move) → IsLegalHere rules r m → Member m (legal rules r) → SoundRepeat rules (next_repeat rules r m)
repeat_after rules r m ready h =
    let q = next_repeat rules r m in
    let f = next_repeat-follows rules r m in
    record {
      sizes = sizes-has q (next_repeat-sizes rules r m (has_sizes-is r (repeat_parts rules r ready.sound).sizes));
      cells = all_sound rules q.cells (subst (AreSound rules) (sym f.cells) (cells_after-sound rules r m ready));
      few = few_after rules r m ready;
      white = side_of_parts rules q White (side_after rules r m White ready h);
      black = side_of_parts rules q Black (side_after rules r m Black ready h);
      king = subst (λ s. king_attacked rules q.cells s ≡ false) (sym (ap other f.side ∙ other_twice r.side)) (next_repeat-safe rules r m h);
      ep = subst (λ ep. is_sound_ep rules q ep ≡ true) (sym f.ep) (ep_after-sound rules r q m ready f.cells f.side);
    }

pub next_repeat-sound : (rules : Rules) (r : Repeat) (m : Move) → IsFit rules → is_sound_repeat rules r ≡ true → Member m (legal rules r) → is_sound_repeat rules (next_repeat rules r m) ≡ true
next_repeat-sound rules r m fit sound h =
    let sizes = has_sizes-is r (repeat_parts rules r sound).sizes in
    let l = legal-member rules r m h in
    let ready : IsLegalHere rules r m = record {
      fit = fit;
      kinds = fit.letters;
      cells = sizes.cells;
      hands = record { two = sizes.hands; each = sizes.each_hand };
      sound = sound;
      fit_move = l.0;
      candidate = legal_candidate rules r m l.1;
      of_variant = legal_of_variant rules r m fit sound h;
    } in
    repeat_of_parts rules (next_repeat rules r m) (repeat_after rules r m ready h)

counts_after : (rules : Rules) (p : Position) (m : Move) → SoundCounts p → SoundCounts (next rules p m)
counts_after rules p m h = record {
  counter = next-counter_most rules p m h.counter;
  number_least = next-number_least rules p m h.number_least;
  number_most = next-number_most rules p m h.number_most;
}

pub next-sound : (rules : Rules) (p : Position) (m : Move) → IsFit rules → is_sound rules p ≡ true → Member m (legal rules (repeat_of p)) → is_sound rules (next rules p m) ≡ true
next-sound rules p m fit sound h =
    let s = position_parts rules p sound in
    let repeat = next_repeat-sound rules (repeat_of p) m fit (repeat_of_parts rules (repeat_of p) s.0) h in
    position_of_parts rules (next rules p m) (subst (λ q. is_sound_repeat rules q ≡ true) (sym (next-is rules p m)) repeat) (counts_after rules p m s.1)
