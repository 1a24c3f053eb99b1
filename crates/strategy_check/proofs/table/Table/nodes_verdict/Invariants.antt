use Rattle.std.proofs.Common.{◌≡◌, drop}
use Rattle.game_play.specs.Played.{story}
use Rattle.strategy_check.specs.Rows.{nodes_verdict}
use Rattle.strategy_check.proofs.table.Table.nodes_verdict.Given as goal

abbrev pub invariant-loop-i : goal.invariant-loop-i
invariant-loop-i l =
    nodes_verdict l.self.game.now.rules l.self.attacker l.self.nodes.now (story l.self.game.now) l.i (drop l.i l.self.nodes.now)
    ≡ nodes_verdict l.self.game.now.rules l.self.attacker l.self.nodes.now (story l.self.game.now) 0 l.self.nodes.now
