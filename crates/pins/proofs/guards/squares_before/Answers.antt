use Rattle.std.proofs.Common.{◌&&◌, ◌||◌, ◌==◌, not, refl, ap, ◌∙◌}
use Rattle.square_set.specs.Members.{has}
use Rattle.square_set.proofs.CoverLaws.{has-zero}
use Rattle.pins.proofs.CountLaws.{before-single}
use Rattle.pins.proofs.guards.squares_before.Goals as goal

pub returns : goal.returns
returns c = λ s l.
    let single = before-single c.args.line.rising (has c.with.result) s c.args.target l c.requires (λ u. c.with.ensures u ∙ ap (λ b. b || (u == c.args.target)) (has-zero (record { 0 = 0 }) refl u)) in
    let near = c.without-near.ensures s ∙ ap (λ b. b && not (s == c.args.target)) (c.cover.ensures s l) ∙ single in
    c.and.ensures s ∙ ap (λ b. has c.args.line.squares s && b) near
