use Rattle.std.proofs.Common.{◌∙◌, arith}
use Rattle.cecp_front.proofs.SessionLaws.{some_left, taken_more, taken_none}
use Rattle.cecp_front.proofs.answers.undo_plies.Goals as goal

pub loop-ply-init : goal.loop-ply-init
loop-ply-init c = taken_none c.args.game.now

pub loop-ply-preserved : goal.loop-ply-preserved
loop-ply-preserved c =
    c.undo_one.ensures ∙ taken_more c.args.game.now c.loop-ply.game c.loop-ply._ply (omega arith) c.loop-ply.invariant

pub undo_one-requires : goal.undo_one-requires
undo_one-requires c = some_left c.args.game.now c.loop-ply.game c.loop-ply._ply (omega arith) c.loop-ply.invariant
