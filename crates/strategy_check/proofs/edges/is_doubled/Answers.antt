use Rattle.std.proofs.Common.{true, false, sym, ◌∙◌, ◌+◌, arith}
use Rattle.strategy_check.proofs.EdgeLemmas.{doubled-first, doubled-next}
use Rattle.strategy_check.proofs.edges.is_doubled.Goals as goal

pub returns-then-has_move : goal.returns-then-has_move
returns-then-has_move c = λ rules a.
    sym (doubled-first rules a c.args.edges.now (c.loop-i.i + 1)
    (doubled-next rules a c.args.edges.now c.loop-i.i _ true (omega arith) (c.loop-i.invariant rules a) (sym c.has_move.ensures ∙ c.if-has_move.true)))

pub loop-i-preserved : goal.loop-i-preserved
loop-i-preserved c = λ rules a.
    doubled-next rules a c.args.edges.now c.loop-i.i _ false (omega arith) (c.loop-i.invariant rules a) (sym c.has_move.ensures ∙ c.if-has_move.false)
