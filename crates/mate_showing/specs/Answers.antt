-- What an answer says.
use Rattle.std.specs.Prelude.{◌≡◌, ◌-◌, ◌<◌, ◌≤◌, ℕ, List, length, Bool, true, false, not, ◌&&◌, is_some}
use Rattle.std.specs.List.{All}
use Rattle.foundation.specs.Member.{Member}
use Rattle.rules_model.specs.declared.board.Position.{Position}
use Rattle.rules_model.specs.declared.board.Repeat.{Repeat}
use Rattle.rules_model.specs.declared.board.Side.{Side}
use Rattle.rules_model.specs.declared.rules.Rules.{Rules}
use Rattle.rules_model.specs.declared.moves.Move.{Move}
use Rattle.rules_model.specs.Games.{Story, result}
use Rattle.rules_model.specs.Next.{next}
use Rattle.rules_model.specs.Sides.{same_side}
use Rattle.forced_wins.specs.Strategies.{IsGood, IsUnsettled}
use Rattle.forced_wins.specs.Views.{won_by}
use Rattle.forced_wins.specs.Wins.{wins, blocked}
use Rattle.game_play.specs.Played.{Played, story}
use Rattle.mate_core.specs.declared.frame.Frame.{Frame}
use Rattle.mate_fact.specs.InFrame.{near_in, legal_in}
use Rattle.strategy.specs.declared.nodes.Strategy.{Strategy}
use Rattle.strategy.specs.Reading.{AreSound}
use Rattle.mate_showing.specs.declared.answer.Settled.{Settled}
use Rattle.mate_showing.specs.declared.answer.Settled.TheVariants.{Shown, NoMate, Unsettled}
use Rattle.mate_showing.specs.Tables.{nodes}

-- the rules of the game, and the repeats that may not stand in it again
pub record IsFrameOf (g : Played) (f : Frame) : Type 0 where
  pub rules : f.rules ≡ g.rules
  pub blocked : f.blocked ≡ blocked g.rules (story g)

-- the game goes on, and the attacker is to move
abbrev pub is_at_move : Frame → Story → Bool
is_at_move f g = not (is_some (won_by f.attacker (result f.rules g))) && same_side g.last.side f.attacker

-- the move is legal, and leads to a position that is won within fewer than n moves
pub record IsWinningMove (f : Frame) (n : ℕ) (p : Position) (m : Move) : Type 0 where
  pub is_legal : Member m (legal_in f p)
  pub won : near_in f (n - 1) (next f.rules p m) ≡ true

-- a strategy of the side in which no fault stands, of sound positions with the number 1, with ranks of 16 bits
pub record IsShown (rules : Rules) (g : Story) (a : Side) (n : ℕ) (s : Strategy) : Type 0 where
  pub good : IsGood rules nodes g a n s.attacker s.nodes
  pub sound : AreSound rules s.nodes
  pub numbers : All (λ v. v.position.number ≡ 1) s.nodes
  pub ranks : All (λ v. v.rank ≤ 65535) s.nodes

-- what keeps a near win from being shown: a repeat that stands on winning lines at these counters, at least one
pub record IsEvidence (rules : Rules) (g : Story) (a : Side) (n : ℕ) (x : Repeat) (cs : List ℕ) : Type 0 where
  pub unsettled : IsUnsettled rules n g a
  pub repeat : unsettled.repeat ≡ x
  pub counters : unsettled.counters ≡ cs
  pub some : 0 < length cs

-- the answer for a win of the game by the side within n moves is right
abbrev pub IsRight : Rules → Story → Side → ℕ → Settled → Type 0
IsRight rules g a n (Shown s) = IsShown rules g a n s
IsRight rules g a n NoMate = wins rules n g a ≡ false
IsRight rules g a n (Unsettled x counters) = IsEvidence rules g a n x counters

-- it is shown, or there is no win
abbrev pub IsDecided : Settled → Type 0
IsDecided (Shown s) = Unit {0}
IsDecided NoMate = Unit {0}
IsDecided (Unsettled x counters) = ⊥
