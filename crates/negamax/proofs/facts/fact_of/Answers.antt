use Rattle.std.proofs.Common.{refl, arith}
use Rattle.std.proofs.lemmas.Int.{ints}
use Rattle.game_line.specs.Lined.{story_of_line}
use Rattle.negamax.proofs.RootLaws.{score-within}
use Rattle.negamax.proofs.WindowLaws.{reframe}
use Rattle.negamax.proofs.facts.fact_of.Goals as goal

pub returns-clause-fact : goal.returns-clause-fact
returns-clause-fact c =
    let within = score-within c.args.line.now.rules c.args.depth c.args.ply (story_of_line c.args.line.now) c.args.chosen.now in
    let low = c.requires.within.least in let high = c.requires.within.most in
    let least = c.least_of.ensures.least _ within (reframe _ _ _ _ _ _ _ c.requires.bounds refl refl (omega (arith, ints))) in
    let most = c.most_of.ensures.most _ within (reframe _ _ _ _ _ _ _ c.requires.bounds refl refl (omega (arith, ints))) in
    let l1 = c.least_of.ensures.within.least in let u1 = c.least_of.ensures.within.most in
    let l2 = c.most_of.ensures.within.least in let u2 = c.most_of.ensures.within.most in
    record {
      least = omega (arith, ints);
      most = omega (arith, ints);
      least_within = record { least = omega (arith, ints); most = omega (arith, ints) };
      most_within = record { least = omega (arith, ints); most = omega (arith, ints) };
    }
