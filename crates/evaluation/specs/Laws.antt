-- What is said of values: their range, how mates stand in them, and which roots have one value.
use Rattle.std.specs.Prelude.{◌≡◌, ◌⊎◌, ℕ, ◌+◌, ◌-◌, ◌*◌, ◌≤◌, ◌<◌, List, ◌∷◌, Some, None, sum_by, nat_abs, ℤ, pos, negsuc, neg_ℤ, ◌≤ℤ◌}
use Rattle.foundation.specs.Member.{Member, IsEachOnce}
use Rattle.rules_model.specs.declared.rules.Rules.{Rules}
use Rattle.rules_model.specs.declared.moves.Move.{Move}
use Rattle.rules_model.specs.Games.{Story}
use Rattle.evaluation.specs.Bounds.{asked_bound, solve_bound}
use Rattle.evaluation.specs.Values.{Attains, Play, quiet, root_score, root_value, tree, value, value_of}

-- ---- scores

-- from -32,001 to 32,001
pub record Within (v : ℤ) : Type 0 where
  pub least : negsuc 32000 ≤ℤ v
  pub most : v ≤ℤ pos 32001

-- from -30,000 to 30,000: a draw, or what a position is worth at a glance
pub record IsCalm (v : ℤ) : Type 0 where
  pub least : negsuc 29999 ≤ℤ v
  pub most : v ≤ℤ pos 30000

-- what an end is worth, so many plies from the root, to either side
abbrev pub IsWorthAt : ℕ → ℤ → Type 0
IsWorthAt ply v = (v ≡ pos (32000 - ply)) ⊎ (v ≡ neg_ℤ (pos (32000 - ply)))

-- the worth of an end that is at least and at most so many plies from the root
pub record IsEnd (first last : ℕ) (v : ℤ) : Type 0 where
  pub ply : ℕ
  pub from : first ≤ ply
  pub upto : ply ≤ last
  pub is : IsWorthAt ply v

abbrev pub IsScore : ℕ → ℕ → ℤ → Type 0
IsScore first last v = IsCalm v ⊎ IsEnd first last v

-- ---- what the laws ask of a game

-- an ended state is drawn or won, what an ongoing one is worth at a glance is no mate, it has a move, and captures
-- are moves
pub record PlayLaws {X M : Type 0} (g : Play X M) : Type 0 where
  pub ends : (x : X) (ply : ℕ) (v : ℤ) → g.ended x ply ≡ Some v → (v ≡ pos 0) ⊎ IsWorthAt ply v
  pub calm : (x : X) → IsCalm (g.eval x)
  pub lively : (x : X) (ply : ℕ) → g.ended x ply ≡ None → (m : M) × Member m (g.moves x)
  pub moves : (x : X) (m : M) → Member m (g.captures x) → Member m (g.moves x)

-- ---- laws

-- values are scores, of ends no nearer than the state and no further than the depth and the captures behind it
abbrev pub ValuesAreScores : {X M : Type 0} → Play X M → Type 0
ValuesAreScores {X = X} g = (depth ply : ℕ) (x : X) → IsScore ply (ply + (depth + 4)) (value g depth ply x)

abbrev pub QuietValuesAreScores : {X M : Type 0} → Play X M → Type 0
QuietValuesAreScores {X = X} g = (limit ply : ℕ) (x : X) → IsScore ply (ply + limit) (quiet g limit ply x)

abbrev pub RootValuesAreScores : {X M : Type 0} → Play X M → Type 0
RootValuesAreScores {X = X} {M = M} g =
    (depth : ℕ) (x : X) (roots : List M) (m : M) → 0 < depth → Member m roots
    → IsScore 1 (depth + 4) (root_value g depth x roots)

-- some root move attains the value
abbrev pub RootsAttain : {X M : Type 0} → Play X M → Type 0
RootsAttain {X = X} {M = M} g =
    (depth : ℕ) (x : X) (roots : List M) (m : M) → Member m roots
    → (best : M) × Member best roots × (root_score g depth x best ≡ root_value g depth x roots)

-- the same root moves, in any order and as often as one likes, have one value
abbrev pub RootsAreASet : {X M : Type 0} → Play X M → Type 0
RootsAreASet {X = X} {M = M} g =
    (depth : ℕ) (x : X) (roots others : List M)
    → ((m : M) → Member m roots → Member m others) → ((m : M) → Member m others → Member m roots)
    → root_value g depth x roots ≡ root_value g depth x others

-- there are more lines of more moves
abbrev pub TreesGrow : {X M : Type 0} → Play X M → Type 0
TreesGrow {X = X} g = (m n : ℕ) (x : X) → m ≤ n → tree g m x ≤ tree g n x

-- the lines after root moves, each once, are among the lines
abbrev pub RootsAreLines : {X M : Type 0} → Play X M → Type 0
RootsAreLines {X = X} {M = M} g =
    (length : ℕ) (x : X) (roots : List M) → IsEachOnce roots → ((m : M) → Member m roots → Member m (g.moves x))
    → 1 + sum_by (λ m. tree g length (g.after x m)) roots ≤ tree g (length + 1) x

-- ---- games by the rules of play

-- where there is a root move, some root move attains the value
abbrev pub IsAttained : Type 0
IsAttained =
    (rules : Rules) (depth : ℕ) (g : Story) (first : Move) (roots : List Move)
    → (m : Move) × Attains rules depth g (first ∷ roots) (value_of rules depth g (first ∷ roots)) m

-- a score of 31,000 or more either way is the worth of an end
abbrev pub LargeScoresAreEnds : Type 0
LargeScoresAreEnds = (first last : ℕ) (v : ℤ) → IsScore first last v → 31000 ≤ nat_abs v → IsEnd first last v

-- a mate that a search of this depth finds is so near that a solve for it stays within what the depth allows
abbrev pub MatesAreNear : Type 0
MatesAreNear =
    (rules : Rules) (depth n ply : ℕ) (g : Story) → ply ≤ depth + 4 → 2 * n ≤ ply + 1
    → solve_bound rules n g ≤ asked_bound rules depth g
