use Rattle.std.proofs.Common.{◌≡◌, ◌∙◌, ap, sym}
use Rattle.std.specs.Prelude.{Ok}
use Rattle.std.proofs.lemmas.Result.{err_from_is_err_and}
use Rattle.session_model.specs.UciState.{State}
use Rattle.variant_rules.proofs.PlayableLaws.{entry_playable}
use Rattle.uci_front.proofs.MoveLemmas.{placed_fault}
use Rattle.uci_front.proofs.session.UciSession.place.Goals as goal

pub placed-requires : goal.placed-requires
placed-requires c =
    record { start = (entry_playable c.self.inside.sections c.self.inside.place (Ok c.self.inside.game.rules) (sym c.self.invariant.accepted)).start }

pub returns-in_err-self-inside-clause-outcome : goal.returns-in_err-self-inside-clause-outcome
returns-in_err-self-inside-clause-outcome c =
    let p = err_from_is_err_and c.from_residual.result c.from_residual.ensures.1 in
    let same : c.args.self.now.game.rules ≡ c.self.inside.game.rules =
    sym (ap (λ (s : State). s.game.rules) c.self.view_is) in
    rw (p.1, p.2) (placed_fault c.args.self.now _ c.args.self.now c.in_err-self-inside.field-0.0 (c.in_err-self-inside.ensures.leads c.args.self.now same) (Unit {0}))

pub invariant_of-self : goal.invariant_of-self
invariant_of-self c = record {
  judged = c.self.invariant.judged;
  there = c.self.invariant.there;
  accepted = c.self.invariant.accepted ∙ ap (λ r. Ok r) (sym c.in_ok-self-inside.ensures.rules);
  printable = tt;
}
