-- What is known of strategies that are shown, and of evidence.
use Rattle.std.proofs.Common.{◌≡◌, ◌∙◌, ◌⊎◌, ◌≤◌, ◌<◌, inl, inr, ℕ, zero, suc, ◌+◌, List, [], ◌∷◌, length, true, false, Some, None, ◌==◌, ◌&&◌, refl, sym, ap, subst, arith}
use Rattle.std.specs.Prelude.{slice_get, option_and_then, nat_le, All}
use Rattle.std.proofs.lemmas.Bool.{and_parts, leb-true}
use Rattle.foundation.specs.Tests.{is_nil}
use Rattle.foundation.specs.Member.{Member}
use Rattle.rules_model.specs.declared.board.Position.{Position}
use Rattle.rules_model.specs.declared.board.Repeat.{Repeat}
use Rattle.rules_model.specs.declared.board.Side.{Side}
use Rattle.rules_model.specs.declared.moves.Move.{Move}
use Rattle.rules_model.specs.declared.rules.Rules.{Rules}
use Rattle.rules_model.specs.declared.moves.Outcome.TheVariants.{Ongoing}
use Rattle.rules_model.specs.Fit.{IsFit}
use Rattle.rules_model.specs.Legal.{legal as legal_moves, own_end, is_stuck}
use Rattle.rules_model.specs.Next.{next}
use Rattle.rules_model.specs.Sound.{is_sound, is_sound_repeat}
use Rattle.rules_model.specs.Repeats.{repeat_of}
use Rattle.rules_model.specs.Sides.{same_side}
use Rattle.rules_model.proofs.EqualLaws.{side-decides}
use Rattle.rules_model.proofs.ResultLaws.{own_end-none}
use Rattle.forced_wins.specs.Strategies.{IsWonAlong, behind, moves_left}
use Rattle.forced_wins.specs.Wins.{blocked}
use Rattle.forced_wins.specs.Tables as Tables
use Rattle.forced_wins.specs.Tables.{IsFaultless, fits_number, root_fits, wrong_move}
use Rattle.forced_wins.specs.Views.{seen_by, as_any, won_by}
use Rattle.forced_wins.proofs.Rules.{laws}
use Rattle.forced_wins.proofs.TableLaws.{both, edge-at, holds, led, live-at}
use Rattle.forced_wins.proofs.Verdicts.{verdict-faultless}
use Rattle.game_play.specs.Played.{Played, story}
use Rattle.game_play.proofs.KeptLemmas.{played-last-sound}
use Rattle.sound_play.proofs.NextLaws.{next-sound}
use Rattle.strategy.specs.Reading.{AreSound}
use Rattle.strategy.specs.declared.nodes.Edge.{Edge}
use Rattle.strategy.specs.declared.nodes.Node.{Node}
use Rattle.strategy.specs.declared.nodes.Strategy.{Strategy}
use Rattle.strategy_check.specs.Rows.{kept, verdict}
use Rattle.strategy_check.specs.Verdicts.{as_verdict, verdict_of}
use Rattle.strategy_check.specs.declared.verdict.Verdict.TheVariants as Said
use Rattle.session_model.specs.Laws.{EvidenceIsSound, RootsOfShown}
use Rattle.session_model.specs.Mates.{HasNoShorter, IsNoWin, IsShown, first_chosen, mover, position_at, root_move}

-- ---- the root of a strategy

module _ (g : Played) (n : ℕ) (s : Strategy) where
  -- an ongoing node of the mover at the root has one edge, of a legal move
  edge_of : (v : Node) → IsFaultless Position Repeat Move Node Edge (seen_by g.rules (mover g)) kept s.nodes (as_any (story g)) 0 v
      → own_end g.rules (repeat_of v.position) ≡ Ongoing → v.position.side ≡ mover g → slice_get s.nodes 0 ≡ Some v
      → (best : Move) × (root_move s ≡ Some best) × Member best (legal_moves g.rules (repeat_of v.position))
  unfolding wrong_move
  edge_of v f ongoing side is =
      let r = seen_by g.rules (mover g) in
      let own : r.own v.position ≡ None = ap (λ end. won_by (mover g) end) ongoing in
      let attacks : same_side v.position.side (mover g) ≡ true = (side-decides v.position.side (mover g)).1 side in
      let number = (both _ _ (both _ _ (holds _ f.wrong_move)).1).1 in
      let one : (length v.edges == 1) ≡ true =
      sym (ap (λ end. fits_number end (same_side v.position.side (mover g)) (length v.edges)) (live-at r kept (laws g.rules (mover g)) s.nodes (as_any (story g)) 0 v f own)
      ∙ ap (λ b. fits_number None b (length v.edges)) attacks) ∙ number in
      by_edges v f is v.edges refl one
    where
      by_edges : (v : Node) → IsFaultless Position Repeat Move Node Edge (seen_by g.rules (mover g)) kept s.nodes (as_any (story g)) 0 v
          → slice_get s.nodes 0 ≡ Some v → (edges : List Edge) → edges ≡ v.edges → (length edges == 1) ≡ true
          → (best : Move) × (root_move s ≡ Some best) × Member best (legal_moves g.rules (repeat_of v.position))
      by_edges v f is [] are one = cc
      by_edges v f is (e ∷ es) are one = (
        e.chosen,
        ap (λ o. option_and_then (λ (v : Node). first_chosen v.edges) o) is ∙ ap first_chosen (sym are),
        (edge-at (seen_by g.rules (mover g)) kept (laws g.rules (mover g)) s.nodes (as_any (story g)) 0 v f e
            (subst (λ edges. Member e edges) are (inl refl))).legal,
      )

pub roots_of_shown : RootsOfShown
unfolding root_fits is_stuck
roots_of_shown g n s first legal shown are =
    let r = seen_by g.rules (mover g) in
    let last = (story g).last in
    let faultless = (verdict-faultless r kept s.nodes (as_any (story g)) (same_side s.attacker (mover g)) n shown.good).1 in
    let (v, is, fits) = led (slice_get s.nodes 0) _ faultless.root in
    let same : repeat_of v.position ≡ repeat_of last =
    ((laws g.rules (mover g)).decides (repeat_of v.position) (repeat_of last)).0 (both _ _ fits).0 in
    let moves_on : is_stuck g.rules (repeat_of last) ≡ false = ap is_nil are in
    let ongoing : own_end g.rules (repeat_of v.position) ≡ Ongoing =
    ap (λ x. own_end g.rules x) same ∙ own_end-none g.rules (repeat_of last) moves_on in
    let (best, root, member) = edge_of g n s v (faultless.nodes 0 v is) ongoing (ap (λ (x : Repeat). x.side) same) is in
    (best, root, subst (λ x. Member best (legal_moves g.rules x)) same member)

-- ---- what is checked is shown

all_member : {X : Type 0} (P : X → Type 0) (xs : List X) → All P xs → (x : X) → Member x xs → P x
all_member P [] h x k = absurd k
all_member P (y ∷ ys) h x (inl is) = subst P is (h 0 y (omega arith))
all_member P (y ∷ ys) h x (inr k) = all_member P ys (λ i d below. h (suc i) d (omega arith)) x k

won_verdict : (v : Tables.Verdict Move) → as_verdict v ≡ Said.Wins → v ≡ Tables.Wins
won_verdict Tables.Wins h = refl
won_verdict Tables.Root h = cc
won_verdict (Tables.WrongMove i) h = cc
won_verdict (Tables.MissingReply i m) h = cc
won_verdict (Tables.BadRank i) h = cc
won_verdict (Tables.BadCounter i) h = cc
won_verdict (Tables.Repeats i) h = cc
won_verdict (Tables.NotWon i) h = cc

counted : (rules : Rules) (p : Position) → is_sound rules p ≡ true → p.counter ≤ 9999
unfolding is_sound
counted rules p h = leb-true p.counter 9999 (and_parts _ _ (and_parts _ _ (and_parts _ _ h).0).0).1

pub shown_of_checked : (g : Played) (n : ℕ) (side : Side) (s : Strategy) → verdict_of g side n s ≡ Said.Wins → AreSound g.rules s.nodes
    → All (λ v. v.position.number ≡ 1) s.nodes → All (λ v. v.rank ≤ 65535) s.nodes → IsShown g n side s
shown_of_checked g n side s wins sound first low = record {
  good = won_verdict (verdict g.rules (story g) side n s) wins;
  written = λ v member. record {
    sound = all_member (λ v. is_sound g.rules v.position ≡ true) s.nodes sound v member;
    number = all_member (λ v. v.position.number ≡ 1) s.nodes first v member;
    counter = counted g.rules v.position (all_member (λ v. is_sound g.rules v.position ≡ true) s.nodes sound v member);
  };
  ranked = all_member (λ v. v.rank ≤ 65535) s.nodes low;
}

-- ---- evidence

-- a line of legal moves keeps soundness
sound_along : (rules : Rules) → IsFit rules → (barred : List Repeat) (a : Side) (n : ℕ) (p : Position) (ms : List Move)
    → is_sound rules p ≡ true → IsWonAlong rules barred a n p ms → is_sound rules (behind rules p ms) ≡ true
sound_along rules fit barred a n p [] sound h = sound
sound_along rules fit barred a n p (m ∷ ms) sound h =
    sound_along rules fit barred a (moves_left n p a) (next rules p m) ms (next-sound rules p m fit sound h.0) h.3

-- soundness does not depend on the number of the move
numbered : (rules : Rules) (p : Position) (r : Repeat) (counter : ℕ) → is_sound rules p ≡ true → repeat_of p ≡ r → p.counter ≡ counter
    → is_sound rules (position_at r counter) ≡ true
unfolding is_sound
numbered rules p r counter h same is =
    let (repeat_sound, counter_low) = and_parts _ _ (and_parts _ _ (and_parts _ _ h).0).0 in
    let first : is_sound_repeat rules r ≡ true = subst (λ x. is_sound_repeat rules x ≡ true) same repeat_sound in
    let second : nat_le counter 9999 ≡ true = subst (λ c. nat_le c 9999 ≡ true) is counter_low in
    ap (λ b. b && nat_le counter 9999 && nat_le 1 1 && nat_le 1 9999) first ∙ ap (λ b. true && b && nat_le 1 1 && nat_le 1 9999) second

pub evidence_is_sound : EvidenceIsSound
evidence_is_sound g n side e played is =
    let u = is.unsettled in
    let there : Member e.first u.counters = subst (λ counters. Member e.first counters) (sym is.counters) (inl refl) in
    let line = u.on_lines e.first there in
    let last = behind g.rules (story g).last line.line in
    numbered g.rules last e.repeat e.first
    (sound_along g.rules played.fit (blocked g.rules (story g)) side n (story g).last line.line (played-last-sound g played) line.won)
    (line.repeat ∙ is.repeat) line.counter

-- ---- no shorter win

below_or_at : (j k : ℕ) → j < k + 1 → (j < k) ⊎ (j ≡ k)
below_or_at zero zero h = inr refl
below_or_at zero (suc k) h = inl (omega arith)
below_or_at (suc j) zero h = absurd (omega arith)
below_or_at (suc j) (suc k) h = elim (below_or_at j k (omega arith)) [
  | inl less ↦ inl (omega arith)
  | inr same ↦ inr (ap suc same)
]

pub no_shorter_than_one : (g : Played) → HasNoShorter g 1
no_shorter_than_one g j some few = absurd (omega arith)

pub no_shorter_more : (g : Played) (k : ℕ) → HasNoShorter g k → IsNoWin g k (mover g) → HasNoShorter g (k + 1)
no_shorter_more g k none not_here j some few = elim (below_or_at j k few) [
  | inl less ↦ none j some less
  | inr same ↦ subst (λ i. IsNoWin g i (mover g)) (sym same) not_here
]
