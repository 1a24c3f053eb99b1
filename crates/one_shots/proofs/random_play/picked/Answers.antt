use Rattle.std.proofs.Common.{◌%◌, ◌<◌, length, arith}
use Rattle.one_shots.proofs.StepLemmas.{picks_at}
use Rattle.one_shots.proofs.random_play.picked.Goals as goal

pub returns : goal.returns
returns c =
    let below : c.next_word.result % length c.args.moves.now < length c.args.moves.now = omega arith in
    picks_at c.args.moves.now c.args.generator.now c.next_word.new.self c.next_word.result _ c.next_word.ensures below
