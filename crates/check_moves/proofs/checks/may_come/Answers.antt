use Rattle.std.proofs.Common.{◌≡◌, ◌||◌, ◌==◌, true, false, ap, sym, ◌∙◌}
use Rattle.square_set.specs.Members.{has}
use Rattle.check_moves.proofs.ComeLaws.{comes_quietly}
use Rattle.check_moves.proofs.checks.may_come.Goals as goal

pub returns : goal.returns
returns c = λ quiet later come.
    let p = c.args.p.now in
    let walks : c.args.tables.now.flying ≡ false = sym (ap (λ r. r.flying) c.rules-rules.ensures.is) ∙ c.if-rules.false in
    let closed : has c.args.checks.now.shut c.args.from ≡ true = sym c.has.ensures ∙ c.if-not-has.false in
    comes_quietly c.args.tables.now p.side c.args.kind p.cells c.args.from c.args.to later come c.args.occupied c.with-moved.result c.requires.occupied
    (λ s. c.with-moved.ensures s ∙ ap (λ b. b || (s == c.args.to)) (c.without.ensures s))
    c.args.checks.now c.requires.checks closed (c.reaches_some.ensures quiet) walks
