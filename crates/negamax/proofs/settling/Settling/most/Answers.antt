use Rattle.std.proofs.Common.{ap, sym, ◌∙◌, arith}
use Rattle.std.proofs.lemmas.Bool.{OnTrue_at}
use Rattle.std.proofs.lemmas.Int.{ints}
use Rattle.rules_model.specs.declared.board.Position.{Position}
use Rattle.rules_model.specs.Games.{played}
use Rattle.rules_model.specs.Next.{next}
use Rattle.rules_model.specs.Sides.{other}
use Rattle.legality.specs.Stance.{Stance}
use Rattle.evaluation.proofs.GamesByRules.{play_laws}
use Rattle.game_line.specs.Lined.{story_of_line}
use Rattle.negamax.proofs.SettledLaws.{other-moves, scores_most}
use Rattle.negamax.proofs.settling.Settling.most.Goals as goal

pub returns-clause-low : goal.returns-clause-low
returns-clause-low c = let high = c.if-floor-most.false in omega (arith, ints, high)

pub returns-clause-within : goal.returns-clause-within
returns-clause-within c =
    let l = c.args.line.now in
    let p = next l.rules (story_of_line l).last c.args.m.now in
    let here = ap (λ (q : Position). q.side) (c.position.ensures ∙ ap (λ (s : Stance). s.position) c.board.ensures) in
    let side = other-moves l.rules (story_of_line l).last c.args.m.now ∙ sym (c.other.ensures ∙ ap other here) in
    let is = c.value-most.ensures.of_positions l.rules p c.requires.sums side in
    let calm = (play_laws l.rules).calm (played l.rules (story_of_line l) c.args.m.now) in
    let least = calm.least in let most = calm.most in
    record { least = omega (arith, ints); most = omega (arith, ints) }

pub returns-clause-most : goal.returns-clause-most
returns-clause-most c =
    let l = c.args.line.now in
    let p = next l.rules (story_of_line l).last c.args.m.now in
    let here = ap (λ (q : Position). q.side) (c.position.ensures ∙ ap (λ (s : Stance). s.position) c.board.ensures) in
    let side = other-moves l.rules (story_of_line l).last c.args.m.now ∙ sym (c.other.ensures ∙ ap other here) in
    let is = c.value-most.ensures.of_positions l.rules p c.requires.sums side in
    let calm = (play_laws l.rules).calm (played l.rules (story_of_line l) c.args.m.now) in
    let least = calm.least in let most = calm.most in
    scores_most l c.args.m.now c.value-most.result _ (OnTrue_at c.if-not-goes_on.false c.goes_on.ensures.on) is (omega (arith, ints))
