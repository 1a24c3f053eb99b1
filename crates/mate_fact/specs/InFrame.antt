-- What is said of a position in a frame: the rules, the repeats that may not be entered again, and the side that
-- attacks.
use Rattle.std.specs.Prelude.{ℕ, ◌-◌, Bool, true, false, List, Option}
use Rattle.foundation.specs.Member.{Member}
use Rattle.rules_model.specs.declared.board.Position.{Position}
use Rattle.rules_model.specs.declared.moves.Move.{Move}
use Rattle.rules_model.specs.Legal.{legal}
use Rattle.rules_model.specs.Repeats.{repeat_of}
use Rattle.forced_wins.specs.declared.fact.Fact.{Fact}
use Rattle.forced_wins.specs.Facts.{Derives, Each, ServesMove}
use Rattle.forced_wins.specs.RuleSentences.{IsNearAttack, IsNearDefence}
use Rattle.forced_wins.specs.Wins.{near, near_end}
use Rattle.mate_core.specs.declared.frame.Frame.{Frame}
use Rattle.mate_core.specs.Runs.{IsTrueIn}

-- how it is ended; None where it is ongoing
abbrev pub end_in : Frame → Position → Option Bool
end_in f p = near_end f.rules f.blocked f.attacker p

-- the attacker wins from it within n of his moves
abbrev pub near_in : Frame → ℕ → Position → Bool
near_in f n p = near f.rules n p f.blocked f.attacker

abbrev pub legal_in : Frame → Position → List Move
legal_in f p = legal f.rules (repeat_of p)

-- how many moves the attacker has left after a move, his own or the other side's
abbrev pub left_after : Bool → ℕ → ℕ
left_after true n = n - 1
left_after false n = n

-- it is ongoing, and the attacker is to move
abbrev pub IsAttackIn : Frame → Position → Type 0
IsAttackIn f p = IsNearAttack f.rules f.blocked p f.attacker

-- it is ongoing, and the other side is to move
abbrev pub IsDefenceIn : Frame → Position → Type 0
IsDefenceIn f p = IsNearDefence f.rules f.blocked p f.attacker

-- the fact wins, or refutes, the position after the move
abbrev pub ServesMoveIn : Frame → Position → Move → Bool → Fact → Type 0
ServesMoveIn f p m wins k = ServesMove f.rules p m wins k

-- the facts win, or refute, the positions after the legal moves, one for each in the order of the list
abbrev pub ServeMovesIn : Frame → Position → Bool → List Fact → Type 0
ServeMovesIn f p wins ks = Each f.rules p wins ks (legal_in f p) ks

-- the fact on the position follows from the known ones
abbrev pub DerivesIn : Frame → List Fact → Position → Fact → Type 0
DerivesIn f known p fact = Derives f.rules f.blocked f.attacker known p fact

-- where the known facts are true in the frame, so is the fact
abbrev pub TruthPasses : Frame → List Fact → Fact → Type 0
TruthPasses f known fact = ((k : Fact) → Member k known → IsTrueIn f k) → IsTrueIn f fact
