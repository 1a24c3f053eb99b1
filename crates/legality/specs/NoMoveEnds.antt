-- Ends of positions that have no early end.
use Rattle.std.specs.Prelude.{Bool, if◌then◌else◌}
use Rattle.rules_model.specs.declared.board.Repeat.{Repeat}
use Rattle.rules_model.specs.declared.moves.Outcome.{Outcome}
use Rattle.rules_model.specs.declared.moves.Outcome.TheVariants.{Ongoing}
use Rattle.rules_model.specs.declared.rules.Rules.{Rules}
use Rattle.rules_model.specs.Attacks.{king_attacked}
use Rattle.rules_model.specs.Ends.{no_move}

-- the end that stands where some move is legal or none is
abbrev pub no_move_end_where : Rules → Repeat → Bool → Outcome
no_move_end_where rules r any = if any then Ongoing else no_move rules r.side (king_attacked rules r.cells r.side)
