use Rattle.std.proofs.Common.{◌≡◌, ◌++◌, take}
use Rattle.game_play.specs.Played.{story}
use Rattle.suite.specs.FirstMoves.{keys_among}
use Rattle.suite.proofs.first_moves.push_keys.Given as goal

abbrev pub invariant-loop-chosen : goal.invariant-loop-chosen
invariant-loop-chosen g l = record {
  same : l.game ≡ l.initial.game;
  keys : l.keys.items
      ≡ l.initial.keys.items
      ++ keys_among l.initial.game.rules l.n (story l.initial.game) (take l.chosen-index l.moves);
}
