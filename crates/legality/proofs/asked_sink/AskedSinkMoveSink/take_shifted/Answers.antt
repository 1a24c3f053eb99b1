use Rattle.std.proofs.Common.{None, refl, sym, ◌∙◌, arith}
use Rattle.std.proofs.lemmas.Bool.{and_parts}
use Rattle.std.proofs.lemmas.Result.{on_err_weaker, on_ok_weaker}
use Rattle.square_set.specs.Members.{has, origin}
use Rattle.piece_moves.specs.InTurn.{go_from}
use Rattle.legality.proofs.AskedLaws.{narrow_all, narrow_none, narrow_some}
use Rattle.legality.proofs.asked_sink.AskedSinkMoveSink.take_shifted.Goals as goal

pub returns-then-is_empty-clause-ok : goal.returns-then-is_empty-clause-ok
returns-then-is_empty-clause-ok c =
    narrow_none c.args.self.now (go_from (λ to. record { 0 = origin c.args.shift to }) None) c.args.targets c.of_shift-asked.result (λ to. refl) (λ k e. let l = c.requires.targets k e in omega (arith, l)) c.of_shift-asked.ensures c.if-is_empty.ensures.empty

pub returns-clause-ok : goal.returns-clause-ok
returns-clause-ok c =
    on_ok_weaker c.take_shifted.result
    (λ u. narrow_all c.args.self.now (go_from (λ to. record { 0 = origin c.args.shift to }) None) c.args.targets c.of_shift-asked.result (λ to. refl) (λ k e. let l = c.requires.targets k e in omega (arith, l)) c.of_shift-asked.ensures _ u)
    c.take_shifted.ensures.ok

pub returns-clause-err : goal.returns-clause-err
returns-clause-err c =
    on_err_weaker c.take_shifted.result
    (λ u. narrow_some c.args.self.now (go_from (λ to. record { 0 = origin c.args.shift to }) None) c.args.targets c.of_shift-asked.result (λ to. refl) (λ k e. let l = c.requires.targets k e in omega (arith, l)) c.of_shift-asked.ensures _ u)
    c.take_shifted.ensures.err

pub take_shifted-requires-clause-targets : goal.take_shifted-requires-clause-targets
take_shifted-requires-clause-targets c = λ k e. c.requires.targets k (and_parts (has c.args.targets k) _ (sym (c.of_shift-asked.ensures k) ∙ e)).0

pub take_shifted-requires-clause-starts : goal.take_shifted-requires-clause-starts
take_shifted-requires-clause-starts c = λ k e. c.requires.starts k (and_parts (has c.args.targets k) _ (sym (c.of_shift-asked.ensures k) ∙ e)).0
