use Rattle.std.proofs.Common.{◌≡◌, Some, refl, ap, sym, ◌∙◌, subst}
use mathlib.Core.List.{IsPrefix}
use Rattle.std.specs.Prelude.{IsSome}
use Rattle.fact_lock.proofs.Keeps.{closes}
use Rattle.fact_lock.proofs.lock.Lock.close.Goals as goal

pub unwrap-value-requires : goal.unwrap-value-requires
unwrap-value-requires g c =
    let h = closes g.V.Journal.key g.V.Journal.list _ _ _ _ _ _ c.pass.invariant.rests (ap (λ p. p.parts) c.pass.view_is ∙ c.requires.parts) c.close_with-closed.ensures.values.2 c.take.ensures.value in
    subst (λ o. IsSome o) (sym h.1) refl

pub returns-clause-key : goal.returns-clause-key
returns-clause-key g c =
    let h = closes g.V.Journal.key g.V.Journal.list _ _ _ _ _ _ c.pass.invariant.rests (ap (λ p. p.parts) c.pass.view_is ∙ c.requires.parts) c.close_with-closed.ensures.values.2 c.take.ensures.value in
    let both : Some c.unwrap-value.result ≡ Some h.0 = sym c.unwrap-value.ensures ∙ h.1 in
    let same : c.unwrap-value.result ≡ h.0 = cc in
    ap g.V.Journal.key same ∙ h.2 ∙ ap (λ l. l.key) c.self.view_is

pub returns-clause-list : goal.returns-clause-list
returns-clause-list g c =
    let h = closes g.V.Journal.key g.V.Journal.list _ _ _ _ _ _ c.pass.invariant.rests (ap (λ p. p.parts) c.pass.view_is ∙ c.requires.parts) c.close_with-closed.ensures.values.2 c.take.ensures.value in
    let both : Some c.unwrap-value.result ≡ Some h.0 = sym c.unwrap-value.ensures ∙ h.1 in
    let same : h.0 ≡ c.unwrap-value.result = cc in
    subst (λ p. IsPrefix p.seen (g.V.Journal.list c.unwrap-value.result)) c.pass.view_is
    (subst (λ x. IsPrefix c.pass.inside.seat.me.0.seen (g.V.Journal.list x)) same h.3)
