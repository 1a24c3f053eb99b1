use Rattle.std.proofs.Common.{◌≡◌, drop}
use Rattle.game_play.specs.Played.{story}
use Rattle.suite.specs.AtOnce.{all_end_won}
use Rattle.suite.proofs.at_once.all_end_won.Given as goal

abbrev pub invariant-loop-reply : goal.invariant-loop-reply
invariant-loop-reply l = record {
  same : l.game ≡ l.initial.game;
  all : all_end_won l.initial.game.rules (story l.initial.game) l.side l.replies
      ≡ all_end_won l.initial.game.rules (story l.initial.game) l.side (drop l.reply-index l.replies);
}
