-- The moves from which a search begins.
use Rattle.std.specs.Prelude.{ℕ, List, sum_by}
use Rattle.std.specs.List.{All}
use Rattle.foundation.specs.Member.{Member, IsEachOnce}
use Rattle.rules_model.specs.declared.moves.Move.{Move}
use Rattle.rules_model.specs.declared.rules.Rules.{Rules}
use Rattle.rules_model.specs.Games.{Story}
use Rattle.rules_model.specs.Legal.{legal}
use Rattle.rules_model.specs.Repeats.{repeat_of}
use Rattle.game_play.specs.Played.{Played, story}
use Rattle.negamax.specs.RootFacts.{root_tree}

-- they are legal
abbrev pub AreLegal : Rules → Story → List Move → Type 0
AreLegal rules g roots = All (λ m. Member m (legal rules (repeat_of g.last))) roots

-- how many lines a search of them goes along at most
abbrev pub root_lines : Rules → ℕ → Story → List Move → ℕ
root_lines rules depth g roots = sum_by (root_tree rules depth g) roots

-- the same, after a game
abbrev pub lines_of : Played → ℕ → List Move → ℕ
lines_of game depth roots = root_lines game.rules depth (story game) roots

-- each of the moves once
pub record AreDistinct (roots distinct : List Move) : Type 0 where
  pub once : IsEachOnce distinct
  pub sound : (m : Move) → Member m distinct → Member m roots
  pub complete : (m : Move) → Member m roots → Member m distinct
