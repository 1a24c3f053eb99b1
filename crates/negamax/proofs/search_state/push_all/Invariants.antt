use Rattle.std.proofs.Common.{take}
use Rattle.negamax.specs.Trials.{Copies}
use Rattle.negamax.proofs.search_state.push_all.Given as goal

abbrev pub invariant-loop-m : goal.invariant-loop-m
invariant-loop-m l = Copies (take l.m-index l.listed) l.fn.waiting.items l.waiting.items
