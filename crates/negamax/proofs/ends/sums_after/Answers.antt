use Rattle.std.proofs.Common.{ap, ◌∙◌, subst}
use Rattle.evaluation.specs.Tallies.{IsTally}
use Rattle.game_line.specs.Lined.{story_of_line}
use Rattle.rules_model.specs.Next.{next}
use Rattle.rules_model.specs.Repeats.{repeat_of}
use Rattle.rules_model.proofs.LegalLaws.{legal-member}
use Rattle.negamax.proofs.ends.sums_after.Goals as goal

pub tally_after-requires-clause-move_fits : goal.tally_after-requires-clause-move_fits
tally_after-requires-clause-move_fits c =
    (legal-member c.args.line.now.rules (repeat_of (story_of_line c.args.line.now).last) c.args.m.now c.requires.legal).0

pub returns : goal.returns
returns c =
    let m = c.args.m.now in
    let rules = c.rules.ensures ∙ ap (λ s. s.rules) c.board-board.ensures in
    let position = c.position.ensures ∙ ap (λ s. s.position) c.board-board.ensures in
    let next_is = subst (λ p. IsTally c.rules.result.now (next c.rules.result.now p m) c.tally_after.result) position c.tally_after.ensures in
    subst (λ r. IsTally r (next r (story_of_line c.args.line.now).last m) c.tally_after.result) rules next_is
