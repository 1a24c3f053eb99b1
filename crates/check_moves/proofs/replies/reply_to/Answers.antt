use Rattle.std.proofs.Common.{subst, arith}
use Rattle.rules_model.specs.declared.board.Position.{Position}
use Rattle.rules_model.specs.declared.rules.Rules.{Rules}
use Rattle.check_moves.specs.Shut.{AreShut}
use Rattle.check_moves.proofs.ReplyLaws.{reply-of}
use Rattle.check_moves.proofs.replies.reply_to.Goals as goal

pub returns : goal.returns
returns c =
    let s = c.args.board.now in
    let leaper = c.args.leaper.now in
    let to = c.args.to in
    let p = c.position-p.result.now in
    let kings = c.sets-sets.result.now.enemy_kings in
    let stepped = c.with-stepped.result in
    let By : Rules → Position → Type 0 = λ rules x. AreShut rules x.side x.cells stepped kings c.shut-shut.result in
    let of_rules = subst (λ (x : Rules). By x p) c.tables.ensures c.shut-shut.ensures in
    let are = subst (By s.rules) c.position-p.ensures of_rules in
    let occupied = c.occupied.ensures _ _ _ c.sets-sets.ensures in
    reply-of s leaper to c.occupied.result c.without.result stepped kings c.shut-shut.result c.requires.leaper c.requires.leap (omega arith) occupied c.without.ensures c.with-stepped.ensures c.sets-sets.ensures.enemy_kings are
