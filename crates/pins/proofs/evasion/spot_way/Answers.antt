use Rattle.std.proofs.Common.{◌≡◌, true, refl, ap, sym, ◌∙◌}
use Rattle.std.specs.List.{list_any}
use Rattle.square_set.specs.Members.{has}
use Rattle.move_tables.specs.Lines.{by_jump, on_line}
use Rattle.pins.proofs.DependLaws.{agree_old, agree_one}
use Rattle.pins.proofs.evasion.spot_way.Goals as goal

pub returns-then-has : goal.returns-then-has
returns-then-has c = λ a b agree.
    let leaps : has c.args.spot.now.leaps c.args.target ≡ true = sym c.has.ensures ∙ c.if-has.true in
    rw leaps refl

pub returns : goal.returns
returns c = λ a b agree.
    let along = c.lines_way.ensures a b (agree_old c.lines_way.result c.jumps_way.result c.or.result a b c.or.ensures agree) in
    let over = c.jumps_way.ensures a b (agree_one c.lines_way.result c.jumps_way.result c.or.result a b c.or.ensures agree) in
    let lines = sym (ap (list_any (λ line. on_line line a c.args.target)) c.deref.ensures.value) ∙ along ∙ ap (list_any (λ line. on_line line b c.args.target)) c.deref.ensures.value in
    let jumps = sym (ap (list_any (λ jump. by_jump jump a c.args.target)) c.deref-2.ensures.value) ∙ over ∙ ap (list_any (λ jump. by_jump jump b c.args.target)) c.deref-2.ensures.value in
    rw (lines, jumps) refl
