use Rattle.std.proofs.Common.{◌≡◌, ◌&&◌, true, Option, List, sym, ap, ◌∙◌, subst}
use Rattle.std.proofs.lemmas.Bool.{OnTrue_from}
use Rattle.rules_model.specs.declared.board.Cell.{Cell}
use Rattle.rules_model.specs.declared.board.Position.{Position}
use Rattle.rules_model.specs.declared.board.Side.{Side}
use Rattle.rules_model.specs.declared.rules.Rules.{Rules}
use Rattle.rules_model.specs.Sides.{other}
use Rattle.square_set.specs.declared.Set.{Set}
use Rattle.square_set.specs.Members.{has}
use Rattle.move_tables.specs.declared.mode.Mode.TheVariants.{Take}
use Rattle.move_tables.specs.Occupied.{IsOccupied}
use Rattle.move_tables.specs.Reached.{reaches_as}
use Rattle.check_moves.proofs.FlightLaws.{leaps-reach}
use Rattle.check_moves.proofs.flights.takes_there.Goals as goal

pub returns : goal.returns
returns c =
    let s = c.args.board.now in
    let flight = c.args.flight.now in
    let at = flight.king.at in
    let spot = c.spot-spot.result.now in
    let Reached : Rules → Side → Type 0 = λ rules by. (occupied : Set) (board : List (Option Cell)) → IsOccupied occupied board → reaches_as rules board by flight.king.kind (record { 0 = at }) Take flight.to ≡ true in
    OnTrue_from _ _ (λ told.
    let leap : (has spot.leaps flight.to && has spot.within flight.to) ≡ true = sym (c.and.ensures flight.to) ∙ sym c.has.ensures ∙ told in
    let of_spot : Reached c.tables.result.now c.other-by.result = λ occupied board is. sym (c.spot-spot.ensures occupied board is flight.to) ∙ leaps-reach spot occupied flight.to leap in
    let of_side = subst (Reached c.tables.result.now) (c.other-by.ensures ∙ ap (λ (p : Position). other p.side) c.position.ensures) of_spot in
    subst (λ (x : Rules). Reached x (other s.position.side)) c.tables.ensures of_side)
