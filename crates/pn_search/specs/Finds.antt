-- What is found of a game.
use Rattle.std.specs.Prelude.{◌≡◌, ℕ, ◌<◌, length, Bool, if◌then◌else◌}
use Rattle.rules_model.specs.declared.board.Position.{Position}
use Rattle.rules_model.specs.declared.moves.Outcome.TheVariants.{Ongoing}
use Rattle.rules_model.specs.Games.{result}
use Rattle.forced_wins.specs.Wins.{wins, IsInLimit}
use Rattle.game_play.specs.Played.{Played, story}
use Rattle.mate_core.specs.declared.frame.Frame.{Frame}
use Rattle.mate_showing.specs.Answers.{IsFrameOf}
use Rattle.pn_search.specs.Meaning.{root_pair, won_pair, lost_pair}
use Rattle.pn_search.specs.Trees.{ProofTree, HasGrown, position_of}

-- the game may be searched in the frame, which is its own: it is ongoing, and its counter cannot run out
pub record IsSought (g : Played) (f : Frame) (n : ℕ) : Type 0 where
  pub frame : IsFrameOf g f
  pub ongoing : result g.rules (story g) ≡ Ongoing
  pub in_limit : IsInLimit g.rules n (story g)

-- whether the game is won, with the tree that says so
pub record IsFound (g : Played) (f : Frame) (n : ℕ) (won : Bool) (t : ProofTree) : Type 0 where
  pub won_is : won ≡ wins g.rules n (story g) f.attacker
  pub frame : t.frame ≡ f
  pub root : t.root ≡ (story g).last
  pub moves : t.moves ≡ n
  pub grown : HasGrown t
  pub pair : root_pair t ≡ (if won then won_pair else lost_pair)

-- the node with the number is there, and this is its position
pub record IsAt (t : ProofTree) (place : ℕ) (p : Position) : Type 0 where
  pub within : place < length t.nodes
  pub position : p ≡ position_of t place
