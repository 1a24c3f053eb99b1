-- What one search and one solve answer.
use Rattle.std.specs.Prelude.{◌≡◌, ℕ, ◌≤◌, List}
use Rattle.rules_model.specs.declared.board.Repeat.{Repeat}
use Rattle.rules_model.specs.declared.board.Side.{Side}
use Rattle.rules_model.specs.declared.moves.Move.{Move}
use Rattle.game_play.specs.Played.{Played, story}
use Rattle.evaluation.specs.Bounds.{search_bound}
use Rattle.evaluation.specs.Values.{Attains, value_of}
use Rattle.session_model.specs.Mates.{Evidence, IsEvidence, IsNoWin, IsShown, counters_of}
use Rattle.alpha_beta.specs.declared.searching.Found.{Found}
use Rattle.mate_showing.specs.declared.answer.Settled.{Settled}
use Rattle.mate_showing.specs.declared.answer.Settled.TheVariants as settled

-- the value at the depth over these root moves, one of them that attains it, and no more nodes than the bound
pub record IsFound (game : Played) (roots : List Move) (depth : ℕ) (found : Found) : Type 0 where
  pub value_is : found.value ≡ value_of game.rules depth (story game) roots
  pub attains : Attains game.rules depth (story game) roots found.value found.best
  pub few : found.nodes ≤ search_bound game.rules depth (story game)

-- what keeps a near win of the side from being shown: evidence of this repeat, at these counters
pub record IsUnsettledAt (game : Played) (n : ℕ) (attacker : Side) (repeat : Repeat) (counters : List ℕ)
    : Type 0 where
  pub evidence : Evidence
  pub proves : IsEvidence game n attacker evidence
  pub repeat_is : evidence.repeat ≡ repeat
  pub counters_are : counters_of evidence ≡ counters

-- the answer for a win of the game by the side within n moves is right
abbrev pub IsRight : Played → Side → ℕ → Settled → Type 0
IsRight game attacker n (settled.Shown s) = IsShown game n attacker s
IsRight game attacker n settled.NoMate = IsNoWin game n attacker
IsRight game attacker n (settled.Unsettled repeat counters) = IsUnsettledAt game n attacker repeat counters
