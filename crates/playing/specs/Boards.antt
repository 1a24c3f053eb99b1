-- What is kept of a position.
use Rattle.std.specs.Prelude.{Option, IfSome}
use Rattle.rules_model.specs.declared.board.Position.{Position}
use Rattle.rules_model.specs.declared.rules.Rules.{Rules}
use Rattle.rules_model.specs.Ready.{IsReady}
use Rattle.rules_model.specs.Repeats.{repeat_of}
use Rattle.board_sets.specs.declared.sets.BoardSets.{BoardSets}
use Rattle.board_sets.specs.Sets.{AreSets}
use Rattle.position_key.specs.declared.board_key.BoardKey.{BoardKey}
use Rattle.position_key.specs.Key.{IsBoardKey}

-- the position is sound for rules that fit, the sets are those of its board, and the key, if one is kept, is that of its
-- board and hands
pub record IsBoard (rules : Rules) (position : Position) (sets : BoardSets) (key : Option BoardKey) : Type 0 where
  pub prove_ready : IsReady rules rules position
  pub are_sets : AreSets rules position.side position.cells sets
  pub is_key : IfSome key (λ k. IsBoardKey k (repeat_of position))
