use Rattle.std.proofs.Common.{◌≡◌, ℕ, Bool, true, ◌==◌, not, subst, refl, sym, ◌∙◌}
use Rattle.std.proofs.lemmas.Bool.{and_parts, eq-eqb, not-true}
use Rattle.std.proofs.Math.Bool.{or-false, or-true}
use Rattle.square_set.specs.Members.{has}
use Rattle.square_set.proofs.Cases.{by_equal}
use Rattle.attack_tables.proofs.MaskLaws.{and_not}
use Rattle.pins.specs.Danger.{IsDangerAt}
use Rattle.pins.proofs.danger.danger_at_each.Goals as goal

pub is_danger_at-requires-clause-to : goal.is_danger_at-requires-clause-to
is_danger_at-requires-clause-to c = c.requires.targets c.in-Some.to (c.loop-to.invariant.inside c.in-Some.to c.in-Some.ensures.some.member)

pub loop-to-preserved-then-is_danger_at : goal.loop-to-preserved-then-is_danger_at
loop-to-preserved-then-is_danger_at c =
    let to = c.in-Some.to in
    let At : ℕ → Bool → Type 0 = λ s b. IsDangerAt c.args.tables.now c.args.side c.args.cells.now c.args.king.0 c.args.enemies c.args.occupied s b in
    let new = c.with-danger.result in
    record {
      inside = λ s h. c.loop-to.invariant.inside s (and_parts (has c.loop-to.rest s) (not (s == to)) (sym (c.in-Some.ensures.rest s) ∙ h)).0;
      clear = λ s h.
          let p = and_parts (has c.loop-to.rest s) (not (s == to)) (sym (c.in-Some.ensures.rest s) ∙ h) in
          c.with-danger.ensures s ∙ rw (c.loop-to.invariant.clear s p.0, not-true _ p.1) refl;
      done = λ s target h.
          by_equal s to (At s (has new s))
          (λ e q.
          let here : has new to ≡ true = c.with-danger.ensures to ∙ rw (eq-eqb to to refl) (or-true (has c.loop-to.danger to)) in
          subst (λ t. At t (has new t)) (sym q) (λ men moved board gone is by_it. here ∙ sym c.if-is_danger_at.true ∙ c.is_danger_at.ensures men moved board gone is by_it))
          (λ e q.
          let same : has new s ≡ has c.loop-to.danger s = c.with-danger.ensures s ∙ rw e (or-false (has c.loop-to.danger s)) in
          let old = c.loop-to.invariant.done s target (and_not (has c.loop-to.rest s) (s == to) e (sym (c.in-Some.ensures.rest s) ∙ h)) in
          λ men moved board gone is by_it. same ∙ old men moved board gone is by_it);
    }

pub loop-to-preserved : goal.loop-to-preserved
loop-to-preserved c =
    let to = c.in-Some.to in
    let At : ℕ → Bool → Type 0 = λ s b. IsDangerAt c.args.tables.now c.args.side c.args.cells.now c.args.king.0 c.args.enemies c.args.occupied s b in
    let old = c.loop-to.danger in
    record {
      inside = λ s h. c.loop-to.invariant.inside s (and_parts (has c.loop-to.rest s) (not (s == to)) (sym (c.in-Some.ensures.rest s) ∙ h)).0;
      clear = λ s h. c.loop-to.invariant.clear s (and_parts (has c.loop-to.rest s) (not (s == to)) (sym (c.in-Some.ensures.rest s) ∙ h)).0;
      done = λ s target h.
          by_equal s to (At s (has old s))
          (λ e q.
          let none = c.loop-to.invariant.clear to c.in-Some.ensures.some.member in
          subst (λ t. At t (has old t)) (sym q) (λ men moved board gone is by_it. none ∙ sym c.if-is_danger_at.false ∙ c.is_danger_at.ensures men moved board gone is by_it))
          (λ e q. c.loop-to.invariant.done s target (and_not (has c.loop-to.rest s) (s == to) e (sym (c.in-Some.ensures.rest s) ∙ h)));
    }

pub returns : goal.returns
returns c = λ s target. c.loop-to.invariant.done s target (c.in_default.ensures.none s)
