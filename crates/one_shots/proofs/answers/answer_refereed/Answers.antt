use Rattle.one_shots.proofs.AnswerLemmas.{outcome_answers, outcome_unheard, outcome_unsaid}
use Rattle.game_text.proofs.HeardLemmas.{heard_so, same_needed}
use Rattle.one_shots.proofs.HeardLemmas.{settle}
use Rattle.one_shots.specs.Shot.{SaysCommand}
use Rattle.words.specs.View.{command_seen}
use Rattle.one_shots.proofs.answers.answer_refereed.Goals as goal

pub returns-clause-heard : goal.returns-clause-heard
returns-clause-heard g c =
    heard_so _ _ _ _ _ _ c.refereed_text-outcome.ensures.heard (same_needed _) (λ lines says.
    outcome_answers c.refereed_text-outcome.result c.answer_of.result (SaysCommand c.args.opened.now.sections (command_seen c.args.opened.now.asked.command) lines) c.answer_of.ensures says)

pub returns-clause-cause : goal.returns-clause-cause
returns-clause-cause g c =
    let cause = c.refereed_text-outcome.ensures.cause in
    record { later = cause.later; failed = λ unread. cause.failed (outcome_unheard c.refereed_text-outcome.result c.answer_of.result c.answer_of.ensures unread) }

pub returns-clause-unsaid : goal.returns-clause-unsaid
returns-clause-unsaid g c =
    let settled = settle _ _ _ _ c.refereed_text-outcome.ensures.heard in
    λ unsaid. outcome_unsaid c.refereed_text-outcome.result c.answer_of.result _ c.answer_of.ensures settled.holds unsaid
