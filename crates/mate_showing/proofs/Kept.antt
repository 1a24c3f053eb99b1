-- That tables are kept sound, and their positions as they are written.
use Rattle.std.proofs.Common.{◌≡◌, ℕ, zero, suc, ◌-◌, ◌<◌, ◌≤◌, List, [], ◌∷◌, length, Some, slice_get, Bool, true, false, min, refl, ap, sym, ◌∙◌, subst, arith}
use Rattle.rules_model.specs.declared.board.Position.{Position}
use Rattle.rules_model.specs.declared.board.Repeat.{Repeat}
use Rattle.rules_model.specs.declared.moves.Move.{Move}
use Rattle.rules_model.specs.declared.rules.Rules.{Rules}
use Rattle.rules_model.specs.Next.{with_counts}
use Rattle.rules_model.specs.Repeats.{repeat_of}
use Rattle.rules_model.specs.Sound.{is_sound}
use Rattle.sound_play.proofs.SoundLaws.{SoundCounts, position_parts, position_of_parts, repeat_of_parts}
use Rattle.forced_wins.specs.Games.{Game}
use Rattle.forced_wins.specs.Strategies.{IsWritten}
use Rattle.forced_wins.specs.Wins.{is_in}
use Rattle.forced_wins.proofs.Counts.{by_cases}
use Rattle.forced_wins.proofs.Rules.{laws}
use Rattle.mate_core.specs.declared.frame.Frame.{Frame}
use Rattle.mate_settle.specs.Lines.{plies, seen_in}
use Rattle.legality.specs.Stance.{Stance}
use Rattle.strategy.specs.declared.nodes.Node.{Node}
use Rattle.mate_showing.specs.declared.plan.StrategyPlan.{StrategyPlan}
use Rattle.mate_showing.specs.Tabled.{Tabled, IsKept, GrowsTo}
use Rattle.mate_showing.specs.Tables.{highest, most, is_key, AreEdges, Grows, IsNext, IsSound, Stands}
use Rattle.mate_showing.proofs.Growth.{IsPut, equal_or, one_of, put-well, found-stands}
use Rattle.mate_showing.proofs.Judged.{first-sound}

pub counter-low : (rules : Rules) (p : Position) → is_sound rules p ≡ true → p.counter ≤ 9999
counter-low rules p h = (position_parts rules p h).1.counter

pub written-at : (rules : Rules) (p : Position) (c : ℕ) → is_sound rules p ≡ true → c ≤ 9999 → IsWritten rules (with_counts (repeat_of p) c 1)
written-at rules p c h low =
    let counts : SoundCounts (with_counts (repeat_of p) c 1) = record { counter = low; number_least = omega arith; number_most = omega arith } in
    record {
      sound = position_of_parts rules (with_counts (repeat_of p) c 1) (repeat_of_parts rules (repeat_of p) (position_parts rules p h).0) counts;
      number = refl;
      counter = low;
    }

module _ (f : Frame) (plan : StrategyPlan) where
  pub kept-put : (s t : List Node) (k : ℕ) (v : Node) → IsPut s k v t → IsKept f plan s → IsSound (seen_in f) (is_in f.blocked) plan t → IsWritten f.rules v.position → IsKept f plan t
  kept-put s t k v at kept sound w = record { sound = sound; written = written }
    where
      written : (i : ℕ) (u : Node) → slice_get t i ≡ Some u → IsWritten f.rules u.position
      written i u h = equal_or i k
          (λ e. subst (λ (x : Node). IsWritten f.rules x.position) (sym (one_of (slice_get t k) v u at.here (subst (λ z. slice_get t z ≡ Some u) e h))) w)
          (λ d. kept.written i u (sym (at.there i d) ∙ h))

  pub first-kept : (s : List Node) (u : Node) → s ≡ u ∷ [] → repeat_of u.position ≡ repeat_of plan.root → u.position.counter ≡ plan.root.counter → u.rank ≡ 65535 → IsWritten f.rules u.position → IsKept f plan s
  first-kept s u e same count rank w = record {
    sound = first-sound (seen_in f) (laws f.rules f.attacker) (is_in f.blocked) plan s u e same count rank;
    written = λ i v h. subst (λ (x : Node). IsWritten f.rules x.position) (one_at i v (subst (λ l. slice_get l i ≡ Some v) e h)) w;
  }
    where
      one_at : (i : ℕ) (v : Node) → slice_get (u ∷ []) i ≡ Some v → u ≡ v
      one_at zero v k = cc
      one_at (suc i) v k = cc

  -- the root's node alone
  pub root-kept : (b : Stance) (s : List Node) (u : Node) → b.rules ≡ f.rules → plan.root ≡ b.position → is_sound b.rules b.position ≡ true → s ≡ u ∷ [] → u.position ≡ with_counts (repeat_of plan.root) plan.root.counter 1 → u.rank ≡ 65535 → IsKept f plan s
  root-kept b s u e root h is at rank =
      let sound : is_sound f.rules plan.root ≡ true = subst (λ (x : Rules). is_sound x plan.root ≡ true) e (subst (λ (y : Position). is_sound b.rules y ≡ true) (sym root) h) in
      first-kept s u is (ap repeat_of at) (ap (λ (y : Position). y.counter) at) rank
      (subst (IsWritten f.rules) (sym at) (written-at f.rules plan.root plan.root.counter sound (counter-low f.rules plan.root sound)))

  -- ---- a node comes in

  abbrev r : Game Position Repeat Move
  r = seen_in f

  abbrev barred : Repeat → Bool
  barred = is_in f.blocked

  pub record IsFinished (s t : List Node) (p : Position) (n k : ℕ) : Type 0 where
    pub kept : IsKept f plan t
    pub grows : Grows r plan.exact s t
    pub stands : Stands r plan.exact t p n k

  pub finished : (s t : List Node) (k c : ℕ) (v : Node) (b : Stance) (n : ℕ) → b.rules ≡ f.rules → is_sound b.rules b.position ≡ true → n ≤ most → IsNext r barred plan n b.position → AreEdges r plan.exact s b.position n v.edges (r.own b.position) (r.attacking b.position) → v.position ≡ with_counts (repeat_of b.position) c 1 → (plan.exact ≡ true → c ≡ b.position.counter) → (plan.exact ≡ false → c ≡ min highest (plan.room - plies r n b.position)) → v.rank ≡ n → IsPut s k v t → ((u : Node) → slice_get s k ≡ Some u → (is_key plan.exact b.position u ≡ true) × (n < u.rank)) → ((j : ℕ) (u : Node) → j < k → slice_get s j ≡ Some u → is_key plan.exact b.position u ≡ false) → k ≤ length s → IsKept f plan s → IsFinished s t b.position n k
  finished s t k c v b n e h small next edges at exact falling rank is here before end kept =
      let p = b.position in
      let sound : is_sound f.rules p ≡ true = subst (λ (x : Rules). is_sound x p ≡ true) e h in
      let count : v.position.counter ≡ c = ap (λ (y : Position). y.counter) at in
      let low : c ≤ 9999 = by_cases plan.exact
      (λ z. let x = exact z in let y = counter-low f.rules p sound in omega arith)
      (λ z. let x = falling z in omega arith) in
      let well = put-well r (laws f.rules f.attacker) barred plan s t k v p n small next edges (ap repeat_of at) (λ z. count ∙ exact z) (λ z. count ∙ falling z) rank is here before end kept.sound in
      record {
        kept = kept-put s t k v is kept well.sound (subst (IsWritten f.rules) (sym at) (written-at f.rules p c sound low));
        grows = well.grows;
        stands = well.stands;
      }

  -- the node that is there already
  pub found : (s : List Node) (p : Position) (n k : ℕ) → (v : Node) × (slice_get s k ≡ Some v) × (v.rank ≤ n) → ((v : Node) → slice_get s k ≡ Some v → is_key plan.exact p v ≡ true) → Stands r plan.exact s p n k
  found s p n k x here = found-stands r (laws f.rules f.attacker) plan.exact s p n k x.0 x.1 x.2 (here x.0 x.1)

-- a table of the same frame and plan
pub grows-to : (t : Tabled) (f : Frame) (plan : StrategyPlan) (s u : List Node) → ◌≡◌ {A = Tabled} (record { frame = f; plan = plan; nodes = s }) t → Grows (seen_in f) plan.exact s u → GrowsTo t (record { frame = f; plan = plan; nodes = u })
grows-to t f plan s u e h = subst (λ x. GrowsTo x (record { frame = f; plan = plan; nodes = u })) e (record { frame = refl; plan = refl; grows = h })
