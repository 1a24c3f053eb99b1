use Rattle.std.proofs.Common.{sym, ap, ◌∙◌}
use Rattle.std.proofs.lemmas.Bool.{OnTrue_at}
use Rattle.rules_model.specs.declared.rules.Rules.{Rules}
use Rattle.check_moves.specs.Flights.{are_steps_plain}
use Rattle.check_moves.proofs.FlightLaws.{king-alone}
use Rattle.check_moves.proofs.flights.lone_king.Goals as goal

pub king_on-requires-clause-plain : goal.king_on-requires-clause-plain
king_on-requires-clause-plain c = ap (λ (x : Rules). are_steps_plain x) (sym c.rules.ensures) ∙ sym c.are_steps_plain.ensures ∙ c.if-not-are_steps_plain.false

pub king_on-requires-clause-king : goal.king_on-requires-clause-king
king_on-requires-clause-king c = sym (c.sets.ensures.enemy_kings c.in-Some.at) ∙ c.in-Some.ensures.some.member

pub king_on-requires-clause-only : goal.king_on-requires-clause-only
king_on-requires-clause-only c =
    king-alone c.args.board.now c.sets.result.now.enemy_kings _ c.in-Some.at c.sets.ensures.enemy_kings c.in-Some.ensures.rest (OnTrue_at c.if-not-is_empty.false c.is_empty.ensures.empty)
