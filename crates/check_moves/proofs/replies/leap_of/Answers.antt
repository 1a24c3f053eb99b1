use Rattle.std.proofs.Common.{◌≡◌, ℕ, true, false, Option, None, Some, List, is_some, refl, sym, ap, ◌∙◌, subst}
use Rattle.rules_model.specs.declared.board.Cell.{Cell}
use Rattle.rules_model.specs.declared.board.Position.{Position}
use Rattle.rules_model.specs.declared.board.Side.{Side}
use Rattle.rules_model.specs.declared.rules.Rules.{Rules}
use Rattle.rules_model.specs.Sides.{other}
use Rattle.rules_model.specs.Squares.{cell_at}
use Rattle.square_set.specs.declared.Set.{Set}
use Rattle.square_set.specs.Members.{has}
use Rattle.move_tables.specs.declared.mode.Mode.TheVariants.{Quiet}
use Rattle.move_tables.specs.Occupied.{IsOccupied}
use Rattle.move_tables.specs.Reached.{reaches_as}
use Rattle.check_moves.proofs.FlightLaws.{leaps-reach}
use Rattle.check_moves.proofs.ReplyLaws.{in_option, free_parts}
use Rattle.check_moves.proofs.replies.leap_of.Goals as goal

pub returns : goal.returns
returns c =
    let s = c.args.board.now in
    let leaper = c.args.leaper.now in
    let spot = c.spot-spot.result.now in
    let Reached : Rules → Side → ℕ → Type 0 = λ rules by to. (occupied : Set) (board : List (Option Cell)) → IsOccupied occupied board → reaches_as rules board by leaper.kind (record { 0 = leaper.from }) Quiet to ≡ true in
    let all = c.occupied-occupied.ensures _ _ _ c.sets.ensures in
    in_option c.take_first.result c.take_first.ensures.some (λ to first.
    let p = free_parts (has spot.leaps to) (has spot.within to) (has c.and.result to) (has c.occupied-occupied.result to) (has c.minus-free.result to) (c.and.ensures to) (c.minus-free.ensures to) first.member in
    let of_spot : Reached c.tables.result.now c.other-by.result to = λ occupied board is. sym (c.spot-spot.ensures occupied board is to) ∙ leaps-reach spot occupied to p.0 in
    let of_side = subst (λ (x : Side). Reached c.tables.result.now x to) (c.other-by.ensures ∙ ap (λ (q : Position). other q.side) c.position.ensures) of_spot in
    record {
      empty = none_there (cell_at s.position.cells to) (sym (all to) ∙ p.1);
      reached = subst (λ (x : Rules). Reached x (other s.position.side) to) c.tables.ensures of_side;
    })
  where
    none_there : (o : Option Cell) → is_some o ≡ false → o ≡ None
    none_there None e = refl
    none_there (Some x) e = cc
