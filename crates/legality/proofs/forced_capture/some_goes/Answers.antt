use Rattle.std.proofs.Common.{sym, ◌∙◌}
use Rattle.legality.proofs.ListLaws.{found_goes, found_is}
use Rattle.legality.proofs.forced_capture.some_goes.Goals as goal

pub returns-in-Ok : goal.returns-in-Ok
returns-in-Ok c =
    let all = c.in-Ok.ensures.ok in
    sym all.taken.1 ∙ found_is _ _ c.args.move_filter.gen_type all.moves all.each

pub returns-in-Err : goal.returns-in-Err
returns-in-Err c =
    let some = c.in-Err.ensures.err in
    sym (found_goes _ _ c.args.move_filter.gen_type some.moves some.sound some.taken.1)
