use Rattle.std.proofs.Common.{None, true≢false, refl, sym, ◌∙◌, List, get_or, subst}
use Rattle.std.specs.List.{Contains}
use Rattle.foundation.specs.Member.{Member}
use Rattle.foundation.proofs.Members.{contains-member, member-contains}
use Rattle.rules_model.specs.declared.moves.Move.{Move}
use Rattle.rules_model.specs.declared.moves.Move.TheVariants.{Go}
use Rattle.rules_model.specs.declared.moves.Promo.TheVariants.{Stays}
use Rattle.alpha_beta.proofs.DistinctLemmas.{distinct-kept, distinct-added}
use Rattle.alpha_beta.proofs.roots.distinct.Goals as goal
use Rattle.alpha_beta.proofs.roots.distinct.Goals.{then-not-is_among+in_ok-push, else-not-is_among}

abbrev nothing : Move
nothing = Go (record { 0 = 0 }) (record { 0 = 0 }) Stays None

pub loop-m-preserved : goal.loop-m-preserved
loop-m-preserved c =
    let moves = c.loop-m.moves.items in
    let m = get_or c.args.roots.now c.loop-m.m-index nothing in
    elim c.if-not-is_among.branch [
      | then-not-is_among+in_ok-push w ↦
          let new : Member m moves → ⊥ = λ k. true≢false (sym (c.is_among.ensures.1 (subst (λ (ms : List Move). Contains ms m) (sym c.deref.ensures.value) (contains-member m moves k))) ∙ w.if-not-is_among.true) in
          rw (w.moves-is, w.in_ok-push.ensures.items) (distinct-added c.args.roots.now moves c.loop-m.m-index m nothing c.loop-m-test.true refl c.loop-m.invariant new)
      | else-not-is_among w ↦
          let there : Member m moves = member-contains m moves (subst (λ (ms : List Move). Contains ms m) c.deref.ensures.value (c.is_among.ensures.0 w.if-not-is_among.false)) in
          rw w.moves-is (distinct-kept c.args.roots.now moves c.loop-m.m-index m nothing c.loop-m-test.true refl c.loop-m.invariant there)
    ]
