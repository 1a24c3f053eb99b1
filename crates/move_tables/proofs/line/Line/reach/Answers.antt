use Rattle.std.proofs.Common.{◌&&◌, ap, ◌∙◌}
use Rattle.square_set.specs.Members.{has}
use Rattle.move_tables.specs.Lines.{in_both}
use Rattle.move_tables.proofs.LineLaws.{slides, hops, lands}
use Rattle.move_tables.proofs.line.Line.reach.Goals as goal

pub returns-in-Slide : goal.returns-in-Slide
returns-in-Slide c = λ t l.
    rw c.in-Slide.is
    (c.and.ensures t
    ∙ slides c.args.self.rising c.args.self.squares c.cover-near.result (in_both c.args.self.squares c.args.occupied) (has c.and-blockers.result) t l (λ u k. c.and-blockers.ensures u) c.cover-near.ensures)

pub returns-in-Hop : goal.returns-in-Hop
returns-in-Hop c = λ t l.
    rw c.in-Hop.is
    (c.and-in-Hop.ensures t ∙ ap (λ b. has c.args.self.squares t && b) (c.minus-in-Hop.ensures t)
    ∙ hops c.args.self.rising c.args.self.squares c.cover-near.result (in_both c.args.self.squares c.args.occupied) (has c.and-blockers.result) t l (λ u k. c.and-blockers.ensures u) c.cover-near.ensures
    c.cover-second.result (has c.minus.result) (λ u k. c.minus.ensures u) (c.cover-second.ensures t l))

pub returns-in-Grass : goal.returns-in-Grass
returns-in-Grass c = λ t l.
    rw c.in-Grass.is
    (c.and-in-Grass.ensures t
    ∙ lands c.args.self.rising c.args.self.squares c.cover-near.result (in_both c.args.self.squares c.args.occupied) (has c.and-blockers.result) t l (λ u k. c.and-blockers.ensures u) c.cover-near.ensures
    c.minus-far.result c.cover.result c.minus-far.ensures (c.cover.ensures t l))
