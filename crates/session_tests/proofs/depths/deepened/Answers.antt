use Rattle.std.proofs.Common.{◌∙◌, ◌<◌, refl, length, arith}
use Rattle.std.proofs.lemmas.Grind.{common_steps}
use Rattle.thinking.proofs.FindingLaws.{whole_task}
use Rattle.session_tests.proofs.depths.deepened.Goals as goal

pub iterative_deepening-depths-requires-clause-task : goal.iterative_deepening-depths-requires-clause-task
iterative_deepening-depths-requires-clause-task g c κs bounds =
    let all = rw (c.rules.ensures, c.position.ensures.is) at (c.as_slice.ensures.value ∙ c.roots.view_is ∙ c.in_ok-roots.ensures) in
    let some : 0 < length c.as_slice.result.now = first_of (omega (arith, c.as_slice.ensures.len), grind (arith, common_steps)) in
    whole_task _ all some refl c.requires.least c.requires.most
