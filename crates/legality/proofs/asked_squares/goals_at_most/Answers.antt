use Rattle.std.proofs.Common.{◌≡◌, ◌&&◌, ◌||◌, false, not, sym, ap, ◌∙◌}
use Rattle.square_set.specs.Members.{has}
use Rattle.legality.proofs.AskedSquaresLaws.{no_goal}
use Rattle.legality.proofs.asked_squares.goals_at_most.Goals as goal

pub returns : goal.returns
returns c = λ cells all t e.
    let quiet = c.spot-quiet.result.now in
    let takes = c.spot-takes.result.now in
    let occupied = c.args.occupied in
    let enemies = c.args.enemies in
    let none : ((has quiet.within t && not (has occupied t)) || (has takes.within t && has enemies t)) ≡ false =
    sym
    (c.or.ensures t
    ∙ ap (λ b. b || has c.and.result t) (c.minus.ensures t)
    ∙ ap (λ b. (has quiet.within t && not (has occupied t)) || b) (c.and.ensures t))
    ∙ e in
    no_goal _ (has quiet.within t) _ (has occupied t) _ (has takes.within t) _ (has enemies t)
    (c.spot-quiet.ensures occupied cells all t) (c.spot-takes.ensures occupied cells all t) none
