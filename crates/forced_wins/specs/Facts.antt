-- Facts on positions without their history: what they say, which queries they serve, and how they follow from others.
use Rattle.std.specs.Prelude.{◌≡◌, ◌⊎◌, ℕ, ◌+◌, ◌<◌, ◌≤◌, List, [], ◌∷◌, ◌++◌, Bool, true, false, ◌&&◌, Option, Some, None, nat_le, if◌then◌else◌}
use Rattle.foundation.specs.Member.{Member}
use Rattle.rules_model.specs.declared.board.Position.{Position}
use Rattle.rules_model.specs.declared.board.Repeat.{Repeat}
use Rattle.rules_model.specs.declared.board.Side.{Side}
use Rattle.rules_model.specs.declared.moves.Move.{Move}
use Rattle.rules_model.specs.declared.rules.Rules.{Rules}
use Rattle.rules_model.specs.Repeats.{repeat_of}
use Rattle.rules_model.specs.Sides.{same_side}
use Rattle.rules_model.specs.Next.{next}
use Rattle.rules_model.specs.Legal.{legal}
use Rattle.rules_model.specs.Games.{same_repeat}
use Rattle.forced_wins.specs.declared.fact.Fact.{Fact}
use Rattle.forced_wins.specs.Wins.{near, near_end}

-- ---- what a fact says

-- what a winning fact says, and what a refuting one
abbrev pub Says : Rules → List Repeat → Side → Fact → Bool → Type 0
Says rules barred a f true =
    (q : Position) → repeat_of q ≡ f.repeat → q.counter ≤ f.counter → near rules f.moves q barred a ≡ true
Says rules barred a f false =
    (q : Position) → repeat_of q ≡ f.repeat → f.counter ≤ q.counter → near rules f.moves q barred a ≡ false

-- the fact is true in the frame of the rules, the barred repeats and the attacker
abbrev pub IsTrueFact : Rules → List Repeat → Side → Fact → Type 0
IsTrueFact rules barred a f = Says rules barred a f f.wins

-- ---- which queries it serves

abbrev pub covers : Fact → Bool → ℕ → ℕ → Bool
covers f true counter moves = nat_le f.moves moves && nat_le counter f.counter
covers f false counter moves = nat_le moves f.moves && nat_le f.counter counter

-- the fact answers whether the repeat at the counter is won within so many moves
unfoldable pub serves : Fact → Repeat → ℕ → ℕ → Bool
serves f repeat counter moves = same_repeat f.repeat repeat && covers f f.wins counter moves

-- ---- how facts follow

-- the fact wins, or refutes, the position after the move, at that position's counter and with its own moves
pub record ServesMove (rules : Rules) (p : Position) (m : Move) (wins : Bool) (k : Fact) : Type 0 where
  pub kind : k.wins ≡ wins
  pub serves : serves k (repeat_of (next rules p m)) (next rules p m).counter k.moves ≡ true

-- known facts, one for each of the moves in order
abbrev pub Each : Rules → Position → Bool → List Fact → List Move → List Fact → Type 0
Each rules p wins known [] [] = Unit {0}
Each rules p wins known [] (k ∷ ks) = ⊥
Each rules p wins known (m ∷ ms) [] = ⊥
Each rules p wins known (m ∷ ms) (k ∷ ks) = ServesMove rules p m wins k × Member k known × Each rules p wins known ms ks

abbrev pub larger : ℕ → ℕ → ℕ
larger m n = if nat_le m n then n else m

abbrev pub smaller : ℕ → ℕ → ℕ
smaller m n = if nat_le m n then m else n

abbrev pub greatest : List Fact → ℕ
greatest [] = 0
greatest (k ∷ ks) = larger k.moves (greatest ks)

abbrev pub least : List Fact → ℕ
least [] = 65535
least (k ∷ ks) = smaller k.moves (least ks)

-- a fact on the position at its own counter
abbrev pub fact_of : Position → Side → ℕ → Option Move → Bool → Fact
fact_of p a moves best wins = record {
  repeat = repeat_of p;
  attacker = a;
  moves = moves;
  counter = p.counter;
  best = best;
  wins = wins;
}

-- the position is ended as won by the attacker
pub record WonNow (rules : Rules) (barred : List Repeat) (a : Side) (p : Position) (f : Fact) : Type 0 where
  pub won : near_end rules barred a p ≡ Some true
  pub is : f ≡ record (fact_of p a 0 None true) { counter = 9999 }

-- some legal move of the attacker is won
pub record ByMove (rules : Rules) (barred : List Repeat) (a : Side) (known : List Fact) (p : Position)
    (f : Fact) : Type 0 where
  pub ongoing : near_end rules barred a p ≡ None
  pub turn : same_side p.side a ≡ true
  pub move : Move
  pub legal_move : Member move (legal rules (repeat_of p))
  pub fact : Fact
  pub listed : Member fact known
  pub serves : ServesMove rules p move true fact
  pub short : fact.moves < 65535
  pub is : f ≡ fact_of p a (fact.moves + 1) (Some move) true

-- each legal move of the other side is won
pub record ByAll (rules : Rules) (barred : List Repeat) (a : Side) (known : List Fact) (p : Position)
    (f : Fact) : Type 0 where
  pub ongoing : near_end rules barred a p ≡ None
  pub turn : same_side p.side a ≡ false
  pub facts : List Fact
  pub each : Each rules p true known (legal rules (repeat_of p)) facts
  pub is : f ≡ fact_of p a (greatest facts) None true

-- the position is ended otherwise, so it is not won by any number of moves
abbrev pub EndedLost : Rules → List Repeat → Side → Position → Fact → Type 0
EndedLost rules barred a p f = (near_end rules barred a p ≡ Some false) × (f ≡ fact_of p a 65535 None false)

-- it is ongoing, and the attacker, who is to move, has no move left
abbrev pub OutOfMoves : Rules → List Repeat → Side → Position → Fact → Type 0
OutOfMoves rules barred a p f =
    (near_end rules barred a p ≡ None) × (same_side p.side a ≡ true) × (f ≡ fact_of p a 0 None false)

pub record RefutedNow (rules : Rules) (barred : List Repeat) (a : Side) (p : Position) (f : Fact) : Type 0 where
  pub is : EndedLost rules barred a p f ⊎ OutOfMoves rules barred a p f

-- each legal move of the attacker is refuted
pub record RefutedByAll (rules : Rules) (barred : List Repeat) (a : Side) (known : List Fact) (p : Position)
    (f : Fact) : Type 0 where
  pub ongoing : near_end rules barred a p ≡ None
  pub turn : same_side p.side a ≡ true
  pub facts : List Fact
  pub each : Each rules p false known (legal rules (repeat_of p)) facts
  pub is : f ≡ fact_of p a (smaller (least facts + 1) 65535) None false

-- some legal move of the other side is refuted
pub record RefutedByMove (rules : Rules) (barred : List Repeat) (a : Side) (known : List Fact) (p : Position)
    (f : Fact) : Type 0 where
  pub ongoing : near_end rules barred a p ≡ None
  pub turn : same_side p.side a ≡ false
  pub move : Move
  pub legal_move : Member move (legal rules (repeat_of p))
  pub fact : Fact
  pub listed : Member fact known
  pub serves : ServesMove rules p move false fact
  pub is : f ≡ fact_of p a fact.moves (Some move) false

-- the fact on p follows from the known ones
pub data Derives (rules : Rules) (barred : List Repeat) (a : Side) (known : List Fact) (p : Position)
    (f : Fact) : Type 0 where
  won_now : WonNow rules barred a p f → Derives rules barred a known p f
  by_move : ByMove rules barred a known p f → Derives rules barred a known p f
  by_all : ByAll rules barred a known p f → Derives rules barred a known p f
  refuted_now : RefutedNow rules barred a p f → Derives rules barred a known p f
  refuted_by_all : RefutedByAll rules barred a known p f → Derives rules barred a known p f
  refuted_by_move : RefutedByMove rules barred a known p f → Derives rules barred a known p f

-- each of the facts, the last one first, derives from the known ones and those before it
abbrev pub AreDerived : Rules → List Repeat → Side → List Fact → List Fact → Type 0
AreDerived rules barred a known [] = Unit {0}
AreDerived rules barred a known (f ∷ fs) =
    ((p : Position) × Derives rules barred a (fs ++ known) p f) × AreDerived rules barred a known fs

-- the fact is the last of such a list
abbrev pub IsGrounded : Rules → List Repeat → Side → List Fact → Fact → Type 0
IsGrounded rules barred a known f = (fs : List Fact) × AreDerived rules barred a known (f ∷ fs)
