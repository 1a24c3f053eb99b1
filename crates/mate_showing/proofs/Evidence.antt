-- Evidence of a game as its attacker sees it is evidence by the rules of play, of the same repeat and counters.
use Rattle.std.proofs.Common.{◌≡◌, ℕ, ◌<◌, List, length}
use Rattle.rules_model.specs.declared.board.Position.{Position}
use Rattle.rules_model.specs.declared.board.Repeat.{Repeat}
use Rattle.rules_model.specs.declared.board.Side.{Side}
use Rattle.rules_model.specs.declared.moves.Move.{Move}
use Rattle.rules_model.specs.declared.rules.Rules.{Rules}
use Rattle.rules_model.specs.Games.{Story}
use Rattle.forced_wins.specs.Lines as AnyLines
use Rattle.forced_wins.specs.Views.{seen_by, as_any}
use Rattle.forced_wins.proofs.StrategyLaws.{unsettled}
use Rattle.mate_showing.specs.Answers.{IsEvidence}

pub evidence : (rules : Rules) (a : Side) (g : Story) (n : ℕ) (h : AnyLines.IsUnsettled Position Repeat Move (seen_by rules a) n (as_any g)) (x : Repeat) (cs : List ℕ) → h.repeat ≡ x → h.counters ≡ cs → 0 < length cs → IsEvidence rules g a n x cs
unfolding unsettled
evidence rules a g n h x cs d e some = record {
  unsettled = unsettled rules a g n h;
  repeat = d;
  counters = e;
  some = some;
}
