-- What a sink takes from a generator of moves.
use Rattle.std.specs.Prelude.{◌≡◌, Bool, true, List, [], ◌++◌}
use Rattle.foundation.specs.Member.{Member, IsEachOnce, Lists}
use Rattle.rules_model.specs.declared.moves.Move.{Move}

-- the one move, where it is wanted
abbrev pub IsChosen : Bool → Move → Move → Type 0
IsChosen wanted m x = (wanted ≡ true) × (m ≡ x)

-- the sink took exactly the moves that meet P, each once, in any order
pub record TakesAll {S : Type 0} (takes : S → List Move → S → Type 0) (P : Move → Type 0) (old new : S) : Type 0 where
  pub moves : List Move
  pub taken : takes old moves new
  pub each : Lists P moves

-- some of these, each at most once: what a generator has done whose sink was full
pub record TakesSome {S : Type 0} (takes : S → List Move → S → Type 0) (P : Move → Type 0) (old new : S) : Type 0 where
  pub moves : List Move
  pub taken : takes old moves new
  pub once : IsEachOnce moves
  pub sound : (m : Move) → Member m moves → P m

-- what is taken in turn is taken, also where the sink is full at the end
pub record IsSink {S : Type 0} (takes stops : S → List Move → S → Type 0) : Type 0 where
  pub none : (s : S) → takes s [] s
  pub on : (s t u : S) (xs ys : List Move) → takes s xs t → takes t ys u → takes s (xs ++ ys) u
  pub full : (s t u : S) (xs ys : List Move) → takes s xs t → stops t ys u → stops s (xs ++ ys) u
