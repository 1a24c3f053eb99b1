use Rattle.std.proofs.Common.{◌≡◌, false, refl, ap, sym, ◌∙◌}
use Rattle.std.specs.List.{list_any}
use Rattle.std.proofs.lemmas.Bool.{or_parts}
use Rattle.square_set.specs.Members.{has}
use Rattle.move_tables.specs.Lines.{by_jump, on_line}
use Rattle.pins.proofs.guards.guards.Goals as goal

pub returns : goal.returns
returns c = λ from to new l out moved.
    let o = or_parts (has c.along.result from) (has c.over.result from) (sym (c.or.ensures from) ∙ out) in
    let leaps : has c.args.spot.now.leaps c.args.target ≡ false = sym c.has-2.ensures ∙ c.if-has.false in
    let lines = sym (ap (list_any (λ line. on_line line new c.args.target)) c.deref.ensures.value) ∙ c.along.ensures from to new l o.0 moved in
    let jumps = sym (ap (list_any (λ jump. by_jump jump new c.args.target)) c.deref-2.ensures.value) ∙ c.over.ensures from to new l o.1 moved in
    rw (leaps, lines, jumps) refl
