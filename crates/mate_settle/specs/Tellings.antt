-- What is told of a position.
use Rattle.std.specs.Prelude.{◌≡◌, ℕ, ◌≤◌, Bool, true, false}
use Rattle.rules_model.specs.declared.board.Position.{Position}
use Rattle.forced_wins.specs.declared.fact.Fact.{Fact}
use Rattle.mate_core.specs.declared.frame.Frame.{Frame}
use Rattle.mate_fact.specs.InFrame.{near_in}
use Rattle.mate_settle.specs.declared.told.Told.{Told}

-- it says whether the attacker wins from the position within its own number of moves, and so whether he does within n
pub record IsTold (f : Frame) (p : Position) (n : ℕ) (told : Told) : Type 0 where
  pub own : near_in f told.moves p ≡ told.wins
  pub won : told.wins ≡ true → told.moves ≤ n
  pub lost : told.wins ≡ false → n ≤ told.moves

-- what a fact tells of its positions
abbrev pub told_of : Fact → Told
told_of k = record { wins = k.wins; moves = k.moves }

-- what is told of a position that is ended: for any number of moves
abbrev pub told_of_end : Bool → Told
told_of_end true = record { wins = true; moves = 0 }
told_of_end false = record { wins = false; moves = 65535 }
