use Rattle.std.proofs.Common.{rules, ◌∷◌, []}
use Rattle.mate_fact.specs.InFrame as In
use Rattle.mate_fact.proofs.FactLemmas.{truth-of}
use Rattle.mate_fact.proofs.refuted.refuted_by_move.Goals as goal

pub returns-clause-truth : goal.returns-clause-truth
returns-clause-truth c =
    let derived : In.DerivesIn c.args.frame.now (c.args.known.now ∷ []) c.args.p.now c.refutation_of.result = search rules in
    truth-of c.args.frame.now c.args.p.now c.args.known.now c.refutation_of.result derived
