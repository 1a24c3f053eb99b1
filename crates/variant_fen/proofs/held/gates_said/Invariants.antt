use Rattle.std.proofs.Common.{◌≡◌}
use Rattle.fen_model.specs.Held.{bits_of, gate_said}
use Rattle.variant_fen.proofs.held.gates_said.Given as goal

abbrev pub invariant-loop-file : goal.invariant-loop-file
invariant-loop-file l = l.gates ≡ bits_of (gate_said l.rules l.cells l.text l.side) l.file
