use Rattle.std.proofs.Common.{refl, sym, ◌∙◌, arith}
use Rattle.std.proofs.lemmas.Bool.{and_parts}
use Rattle.std.proofs.lemmas.Result.{on_err_weaker, on_ok_weaker}
use Rattle.piece_moves.specs.InTurn.{go_from}
use Rattle.square_set.specs.Members.{has}
use Rattle.legality.proofs.AskedLaws.{narrow_all, narrow_none, narrow_some}
use Rattle.legality.proofs.asked_sink.AskedSinkMoveSink.take_all.Goals as goal

pub returns-then-is_empty-clause-ok : goal.returns-then-is_empty-clause-ok
returns-then-is_empty-clause-ok c =
    narrow_none c.args.self.now (go_from (λ to. c.args.from) c.args.gate) c.args.targets c.of_targets-asked.result (λ to. refl) (λ k e. let l = c.requires.targets k e in omega (arith, l)) c.of_targets-asked.ensures c.if-is_empty.ensures.empty

pub returns-clause-ok : goal.returns-clause-ok
returns-clause-ok c =
    on_ok_weaker c.take_all.result
    (λ u. narrow_all c.args.self.now (go_from (λ to. c.args.from) c.args.gate) c.args.targets c.of_targets-asked.result (λ to. refl) (λ k e. let l = c.requires.targets k e in omega (arith, l)) c.of_targets-asked.ensures _ u)
    c.take_all.ensures.ok

pub returns-clause-err : goal.returns-clause-err
returns-clause-err c =
    on_err_weaker c.take_all.result
    (λ u. narrow_some c.args.self.now (go_from (λ to. c.args.from) c.args.gate) c.args.targets c.of_targets-asked.result (λ to. refl) (λ k e. let l = c.requires.targets k e in omega (arith, l)) c.of_targets-asked.ensures _ u)
    c.take_all.ensures.err

pub take_all-requires-clause-targets : goal.take_all-requires-clause-targets
take_all-requires-clause-targets c = λ k e. c.requires.targets k (and_parts (has c.args.targets k) _ (sym (c.of_targets-asked.ensures k) ∙ e)).0
