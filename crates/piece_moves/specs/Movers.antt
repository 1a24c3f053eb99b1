-- The moves of an own piece, and those of them to one square.
use Rattle.std.specs.Prelude.{◌≡◌, ◌<◌, ℕ, Option, Some, true}
use Rattle.rules_model.specs.declared.board.Kind.{Kind}
use Rattle.rules_model.specs.declared.board.Position.{Position}
use Rattle.rules_model.specs.declared.moves.Move.{Move}
use Rattle.rules_model.specs.declared.rules.Rules.{Rules}
use Rattle.rules_model.specs.Repeats.{repeat_of}
use Rattle.rules_model.specs.Squares.{cell_at}
use Rattle.piece_moves.specs.InTurn.{At, target_of}
use Rattle.piece_moves.specs.declared.generate.Mover.{Mover}
use Rattle.piece_moves.specs.Goals.{own_piece}
use Rattle.piece_moves.specs.Parts.{IsMoveFrom}
use Rattle.piece_moves.specs.Targets.{AreTargets}
use Rattle.square_set.specs.Members.{has}

-- the piece stands on its square, is an own one and not the pawn, and goes to the targets
pub record IsMover (rules : Rules) (p : Position) (mover : Mover) : Type 0 where
  pub own : own_piece rules p.side (cell_at p.cells mover.from.0) ≡ Some mover.piece
  pub from : mover.from.0 < 120
  pub goes : AreTargets rules p.cells p.side mover.piece.kind mover.from mover.targets
  pub small : (s : ℕ) → has mover.targets s ≡ true → s < 120

abbrev pub IsMoveOf : Rules → Position → Mover → Option Kind → Move → Type 0
IsMoveOf rules p mover gate = IsMoveFrom rules (repeat_of p) mover.from gate

abbrev pub IsMoveTo : Rules → Position → Mover → Option Kind → ℕ → Move → Type 0
IsMoveTo rules p mover gate to = At (IsMoveOf rules p mover gate) target_of to
