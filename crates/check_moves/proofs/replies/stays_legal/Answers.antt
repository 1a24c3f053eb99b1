use Rattle.std.proofs.Common.{◌≡◌, length, sym, ◌∙◌, subst, arith}
use Rattle.std.proofs.lemmas.Bool.{OnTrue_from, ne_eqb, not-true}
use Rattle.rules_model.specs.declared.board.Position.{Position}
use Rattle.rules_model.specs.declared.rules.Rules.{Rules}
use Rattle.check_moves.specs.Checks.{ReachesNone}
use Rattle.check_moves.proofs.FlightLaws.{moved-by}
use Rattle.check_moves.proofs.ReplyLaws.{stays-legal}
use Rattle.check_moves.proofs.replies.stays_legal.Goals as goal

pub returns : goal.returns
returns c =
    let s = c.args.board.now in
    let reply = c.args.reply.now in
    let coming = c.args.coming.now in
    let start = reply.leaper.from in
    let from = coming.from in
    let to = coming.to in
    let moved = c.with-moved.result in
    let size = subst (λ (x : Position). length x.cells ≡ 120) c.position.ensures c.prove_position_sizes.ensures.cells in
    let occupied = c.occupied.ensures _ _ _ c.sets.ensures in
    let later = c.prove_moved.ensures from to (let l = c.requires.from in omega (arith, l)) (let l = c.requires.to in omega (arith, l)) in
    let Spared : Rules → Position → Type 0 = λ rules p. ReachesNone rules p.side coming.kind to moved reply.kings in
    OnTrue_from _ _ (λ told.
    let quiet = c.reaches_some.ensures (not-true c.reaches_some.result told) in
    let of_rules = subst (λ (x : Rules). Spared x c.position-2.result.now) c.tables.ensures quiet in
    let spared = subst (Spared s.rules) c.position-2.ensures of_rules in
    stays-legal s reply c.requires.reply size coming
    (ne_eqb from start c.if-from-start.false) (ne_eqb from reply.to c.if-from-reply.false) (ne_eqb to start c.if-to-start.false) (ne_eqb to reply.to c.if-to-reply.false)
    (sym c.has.ensures ∙ c.if-not-has.false) c.occupied.result later.set moved occupied later.is
    (moved-by reply.stepped c.without.result moved from to c.without.ensures c.with-moved.ensures)
    spared)
