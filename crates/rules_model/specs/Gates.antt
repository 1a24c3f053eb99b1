-- Gate rights (S-Chess, Fairy-Stockfish's `gating`): bit f of a side's number for file f of its first rank.
use Rattle.std.specs.Prelude.{ℕ, ◌-◌, ◌^◌, ◌%◌, Bool, ◌==◌, if◌then◌else◌, List, slice_index, bit_and}
use Rattle.std.specs.Int.{bit_at}
use Rattle.rules_model.specs.declared.board.Side.{Side}
use Rattle.rules_model.specs.declared.rules.Rules.{Rules}
use Rattle.rules_model.specs.Sides.{side_index}
use Rattle.rules_model.specs.Regions.{on_first_rank}

-- the side holds the gate right of the file
abbrev pub has_gate : List ℕ → Side → ℕ → Bool
has_gate gates side file = bit_at (slice_index gates (side_index side)) file == 1

-- a side's gates without that of the file
abbrev pub without_gate : ℕ → ℕ → ℕ
without_gate gates file = bit_and gates (65535 - 2 ^ file)

-- a side's gates after the square was left or entered
abbrev pub closed_at : Rules → Side → ℕ → ℕ → ℕ
closed_at rules side s gates = if on_first_rank rules side s then without_gate gates (s % 12) else gates
