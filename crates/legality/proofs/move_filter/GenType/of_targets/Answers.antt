use Rattle.std.proofs.Common.{◌&&◌, ap, sym, ◌∙◌}
use Rattle.std.proofs.Math.Bool.{and-true}
use Rattle.square_set.specs.Members.{has}
use Rattle.legality.specs.Chosen.{is_in}
use Rattle.legality.proofs.move_filter.GenType.of_targets.Goals as goal

pub returns-in-All : goal.returns-in-All
returns-in-All c s =
    let targets = c.args.targets in
    sym (ap (λ gen_type. has targets s && is_in gen_type (has c.args.enemies s)) c.in-All.is ∙ and-true (has targets s))
