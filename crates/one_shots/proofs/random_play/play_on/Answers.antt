use Rattle.std.proofs.Common.{◌≡◌, ◌-◌, ◌<◌, ◌∙◌, sym, arith}
use Rattle.one_shots.proofs.StepLemmas.{none_left, stopped}
use Rattle.one_shots.proofs.random_play.play_on.Goals as goal

pub returns-then-not-branch : goal.returns-then-not-branch
returns-then-not-branch c =
    let some : 0 < c.args.plies - c.loop-ply.ply = omega arith in
    stopped (c.args.plies - c.loop-ply.ply) c.loop-ply.generator c.loop-ply.game c.play_one.new.game _ some (rw c.if-not-branch.true at c.in_ok-play_one.ensures.plays) c.loop-ply.invariant.0

pub returns : goal.returns
returns c =
    let none : c.args.plies - c.loop-ply.ply ≡ 0 = omega arith in
    sym (none_left (c.args.plies - c.loop-ply.ply) c.loop-ply.generator c.loop-ply.game none) ∙ c.loop-ply.invariant.0
