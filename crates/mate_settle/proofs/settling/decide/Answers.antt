use Rattle.std.proofs.Common.{sym, subst}
use Rattle.mate_core.specs.declared.frame.Frame.{Frame}
use Rattle.mate_fact.specs.InFrame.{left_after}
use Rattle.mate_settle.specs.Steps.{Decides}
use Rattle.mate_settle.specs.Tellings.{IsTold}
use Rattle.mate_settle.proofs.Settled.{decides-by, told-one, told-short}
use Rattle.legality.specs.Stance.{after}
use Rattle.mate_settle.proofs.settling.decide.Goals as goal

pub keep_one-requires-clause-decides : goal.keep_one-requires-clause-decides
keep_one-requires-clause-decides c =
    let r = c.requires in
    let a = c.args.attacking in
    let m = c.args.chosen in
    let s = c.args.board.now in
    let k = c.args.known in
    subst (λ (f : Frame). Decides f s.position a k.moves m) (sym c.learn.ensures)
    (decides-by c.args.facts.now s m a (left_after a c.args.n) k r.rules r.ongoing r.turn r.legal r.told r.wins)

pub keep_one-requires-clause-short : goal.keep_one-requires-clause-short
keep_one-requires-clause-short c =
    let r = c.requires in
    told-short c.args.facts.now c.args.attacking c.args.n (after c.args.board.now c.args.chosen).position c.args.known r.told r.wins r.small

pub moves_by_one-requires : goal.moves_by_one-requires
moves_by_one-requires c =
    let r = c.requires in
    told-short c.args.facts.now c.args.attacking c.args.n (after c.args.board.now c.args.chosen).position c.args.known r.told r.wins r.small

pub returns-clause-told : goal.returns-clause-told
returns-clause-told c =
    let r = c.requires in
    let f = c.args.facts.now in
    let a = c.args.attacking in
    let m = c.args.chosen in
    let s = c.args.board.now in
    let n = c.args.n in
    let k = c.args.known in
    let d = decides-by f s m a (left_after a n) k r.rules r.ongoing r.turn r.legal r.told r.wins in
    subst (λ moves. IsTold f s.position n (record { wins = a; moves = moves })) (sym c.moves_by_one.ensures)
    (told-one f a n s.position (after s m).position m k d r.told r.wins r.some)
