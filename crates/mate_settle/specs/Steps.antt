-- How a position is settled from those that its moves lead to.
use Rattle.std.specs.Prelude.{◌≡◌, ℕ, ◌+◌, ◌≤◌, List, Bool, true, false, not, min, max, None}
use Rattle.foundation.specs.Member.{Member}
use Rattle.rules_model.specs.declared.board.Position.{Position}
use Rattle.rules_model.specs.declared.moves.Move.{Move}
use Rattle.rules_model.specs.Next.{next}
use Rattle.rules_model.specs.Sides.{same_side}
use Rattle.forced_wins.specs.Facts.{smaller}
use Rattle.mate_core.specs.declared.frame.Frame.{Frame}
use Rattle.mate_fact.specs.InFrame.{end_in, legal_in, near_in}

-- of refutations the fewest moves count, of wins the most
abbrev pub far_at_first : Bool → ℕ
far_at_first true = 65535
far_at_first false = 0

abbrev pub farther_of : Bool → ℕ → ℕ → ℕ
farther_of true far moves = min far moves
farther_of false far moves = max far moves

-- what one move comes to, and what all come to
abbrev pub after_one : Bool → ℕ → ℕ
after_one true moves = moves + 1
after_one false moves = moves

abbrev pub after_all : Bool → ℕ → ℕ
after_all true far = smaller (far + 1) 65535
after_all false far = far

-- it speaks for the moves that are left
abbrev pub IsFar : Bool → ℕ → ℕ → Type 0
IsFar true left far = left ≤ far
IsFar false left far = far ≤ left

-- this legal move decides: the position goes on, and after it the attacker wins within `moves` where he is to
-- move, and else does not
pub record Decides (f : Frame) (p : Position) (attacking : Bool) (moves : ℕ) (m : Move) : Type 0 where
  pub ongoing : end_in f p ≡ None
  pub turn : same_side p.side f.attacker ≡ attacking
  pub legal : Member m (legal_in f p)
  pub after : near_in f moves (next f.rules p m) ≡ attacking

-- none of these moves decides: where the attacker is to move, each is refuted for `far` moves, else each is won within
-- as many
pub record NoneDecides (f : Frame) (p : Position) (attacking : Bool) (far : ℕ) (ms : List Move) : Type 0 where
  pub each : (m : Move) → Member m ms → near_in f far (next f.rules p m) ≡ not attacking
