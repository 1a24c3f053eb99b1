use Rattle.std.proofs.Common.{ap, ◌∙◌, sym, arith}
use Rattle.std.proofs.lemmas.Int.{ints}
use Rattle.game_line.specs.Lined.{story_of_line}
use Rattle.evaluation.proofs.GamesByRules.{play_laws}
use Rattle.negamax.proofs.ends.stand_pat.Goals as goal

pub returns-clause-is : goal.returns-clause-is
returns-clause-is c =
    let last = c.position.ensures ∙ ap (λ s. s.position) c.board.ensures in
    let is = c.value.ensures.of_positions c.args.line.now.rules (story_of_line c.args.line.now).last c.requires (ap (λ p. p.side) (sym last)) in
    let calm = (play_laws c.args.line.now.rules).calm (story_of_line c.args.line.now) in
    let least = calm.least in let most = calm.most in
    omega (arith, ints)

pub returns-clause-within : goal.returns-clause-within
returns-clause-within c =
    let last = c.position.ensures ∙ ap (λ s. s.position) c.board.ensures in
    let is = c.value.ensures.of_positions c.args.line.now.rules (story_of_line c.args.line.now).last c.requires (ap (λ p. p.side) (sym last)) in
    let calm = (play_laws c.args.line.now.rules).calm (story_of_line c.args.line.now) in
    let least = calm.least in let most = calm.most in
    record { least = omega (arith, ints); most = omega (arith, ints) }
