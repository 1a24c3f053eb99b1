use Rattle.std.proofs.Common.{◌≡◌, ◌&&◌, ◌||◌, ap, sym, ◌∙◌}
use Rattle.std.proofs.lemmas.Bool.{and_right}
use Rattle.std.specs.List.{list_any}
use Rattle.square_set.specs.Members.{has}
use Rattle.square_set.proofs.Cases.{by_order}
use Rattle.move_tables.specs.Lines.{by_jump, by_parts, by_spot, on_line}
use Rattle.move_tables.proofs.spot.Spot.reach.Goals as goal

pub returns : goal.returns
returns c = λ t.
    by_order t 128 (has c.and.result t ≡ by_spot c.args.self.now c.args.occupied t)
    (λ l.
    let jumps = ap (list_any (λ jump. by_jump jump c.args.occupied t)) c.deref-2.ensures.value in
    let lines = ap (list_any (λ line. on_line line c.args.occupied t)) c.deref.ensures.value in
    let straight = c.along-straight.ensures t l ∙ ap (λ b. has c.args.self.now.leaps t || b) lines in
    c.and.ensures t ∙ ap (λ b. b && has c.args.self.now.within t)
    (c.over.ensures t l ∙ ap (λ b. has c.along-straight.result t || b) jumps ∙ ap (λ b. b || list_any (λ jump. by_jump jump c.args.occupied t) c.args.self.now.jumps.items) straight))
    (λ l. let none = c.prove_none_beyond.ensures t l in
    c.and.ensures t ∙ and_right (has c.over.result t) (has c.args.self.now.within t) none ∙ sym (and_right (by_parts c.args.self.now c.args.occupied t) (has c.args.self.now.within t) none))
