use Rattle.std.proofs.Common.{List, ap, ◌∙◌}
use Rattle.std.proofs.lemmas.Result.{err_from_is_err_and}
use Rattle.rules_model.specs.declared.rules.Term.{Term}
use Rattle.one_shot_checks.specs.ReachText.{reach_text}
use Rattle.one_shots.specs.Shot.{faulty_square}
use Rattle.one_shot_checks.specs.UnplacedView.{unplaced_of}
use Rattle.one_shots.proofs.AnswerLemmas.{reach_answers, word_answers, word_heard}
use Rattle.one_shots.proofs.refereed.reach.Goals as goal

pub returns-in_err-betza-clause-answers : goal.returns-in_err-betza-clause-answers
returns-in_err-betza-clause-answers c =
    let p = err_from_is_err_and c.from_residual.result c.from_residual.ensures.1 in
    rw (p.1, p.2) (word_answers _ _ _ _ c.in_err-betza.field-0.0 (rw c.as_bytes.ensures.value at c.in_err-betza.ensures.fault))

pub returns-in_err-betza-clause-reads_nothing : goal.returns-in_err-betza-clause-reads_nothing
returns-in_err-betza-clause-reads_nothing c =
    let p = err_from_is_err_and c.from_residual.result c.from_residual.ensures.1 in
    rw (p.1, p.2) (word_heard c.in_err-betza.field-0.0)

pub returns-in_err-setup-clause-answers : goal.returns-in_err-setup-clause-answers
returns-in_err-setup-clause-answers c =
    let p = err_from_is_err_and c.from_residual-in_err-setup.result c.from_residual-in_err-setup.ensures.1 in
    rw (p.1, p.2) (faulty_square c.in_ok-betza.betza (unplaced_of c.in_err-setup.field-0.0) (rw c.as_bytes.ensures.value at c.in_ok-betza.ensures.read) c.in_err-setup.ensures.setup)

pub returns-in_err-setup-clause-reads_nothing : goal.returns-in_err-setup-clause-reads_nothing
returns-in_err-setup-clause-reads_nothing c =
    let p = err_from_is_err_and c.from_residual-in_err-setup.result c.from_residual-in_err-setup.ensures.1 in
    rw (p.1, p.2) (λ unheard. unheard)

pub returns-clause-answers : goal.returns-clause-answers
returns-clause-answers c =
    reach_answers _ _ _ _ c.in_ok-betza.betza c.in_ok-setup.setup.from c.in_ok-setup.setup.cells _ (rw c.as_bytes.ensures.value at c.in_ok-betza.ensures.read) c.in_ok-setup.ensures.setup
    (c.in_ok-reach_text.ensures ∙ ap (λ (x : List Term). reach_text c.in_ok-setup.setup.cells x c.in_ok-setup.setup.from) (c.as_slice.ensures.value ∙ c.terms.view_is ∙ c.compile-terms.ensures))
