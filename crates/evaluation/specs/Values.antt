-- The value of a game at a depth: plain negamax over its whole history, and a search of captures at the end of each
-- line.
use Rattle.std.specs.Prelude.{◌≡◌, ℕ, zero, suc, ◌+◌, ◌-◌, List, filter, fold, Option, Some, None, if◌then◌else◌, ℤ, pos, negsuc, neg_ℤ, sum_by}
use Rattle.std.specs.Int.{int_max}
use Rattle.foundation.specs.Member.{Member}
use Rattle.rules_model.specs.declared.board.Side.{Side}
use Rattle.rules_model.specs.declared.moves.Move.{Move}
use Rattle.rules_model.specs.declared.moves.Outcome.{Outcome}
use Rattle.rules_model.specs.declared.moves.Outcome.TheVariants.{Ongoing, Won, Drawn}
use Rattle.rules_model.specs.declared.rules.Rules.{Rules}
use Rattle.rules_model.specs.Games.{Story, played, result}
use Rattle.rules_model.specs.Legal.{legal}
use Rattle.rules_model.specs.Next.{captures}
use Rattle.rules_model.specs.Repeats.{repeat_of}
use Rattle.rules_model.specs.Sides.{same_side}
use Rattle.evaluation.specs.Evaluation.{evaluation}

-- ---- any game of two sides

pub record Play (X M : Type 0) : Type 0 where
  -- what an ended state is worth to the side to move, so many plies from the root; None where it is ongoing
  pub ended : X → ℕ → Option ℤ
  pub eval : X → ℤ
  pub moves : X → List M
  pub captures : X → List M
  pub after : X → M → X

-- below every value
abbrev pub worst : ℤ
worst = negsuc 32000

-- the greatest of these and a floor
unfoldable pub greatest : {M : Type 0} → ℤ → (M → ℤ) → List M → ℤ
greatest floor worth ms = fold (λ best m. int_max best (worth m)) floor ms

abbrev pub settled : Option ℤ → ℤ → ℤ
settled None v = v
settled (Some w) v = w

-- standing pat, or the best line of at most so many captures
unfoldable pub quiet : {X M : Type 0} → Play X M → ℕ → ℕ → X → ℤ
quiet g zero ply x = settled (g.ended x ply) (g.eval x)
quiet g (suc q) ply x =
    settled (g.ended x ply) (greatest (g.eval x) (λ m. neg_ℤ (quiet g q (ply + 1) (g.after x m))) (g.captures x))

-- at a depth, so many plies from the root
unfoldable pub value : {X M : Type 0} → Play X M → ℕ → ℕ → X → ℤ
value g zero ply x = quiet g 4 ply x
value g (suc depth) ply x =
    settled (g.ended x ply) (greatest worst (λ m. neg_ℤ (value g depth (ply + 1) (g.after x m))) (g.moves x))

-- what a root move scores at a depth, which is 1 or more
unfoldable pub root_score : {X M : Type 0} → Play X M → ℕ → X → M → ℤ
root_score g depth x m = neg_ℤ (value g (depth - 1) 1 (g.after x m))

-- the best of the root moves. The root itself is not asked for an end
unfoldable pub root_value : {X M : Type 0} → Play X M → ℕ → X → List M → ℤ
root_value g depth x roots = greatest worst (root_score g depth x) roots

-- how many lines of at most so many moves there are, the empty one included
unfoldable pub tree : {X M : Type 0} → Play X M → ℕ → X → ℕ
tree g zero x = 1
tree g (suc length) x = 1 + sum_by (λ m. tree g length (g.after x m)) (g.moves x)

-- ---- games by the rules of play

-- 32,000 less the plies to the winner
abbrev pub worth : Side → ℕ → Outcome → Option ℤ
worth mover ply Ongoing = None
worth mover ply (Won side cause) = Some (if same_side side mover then pos (32000 - ply) else neg_ℤ (pos (32000 - ply)))
worth mover ply (Drawn cause) = Some (pos 0)

abbrev pub play : Rules → Play Story Move
play rules = record {
  ended = λ g ply. worth g.last.side ply (result rules g);
  eval = λ g. evaluation rules g.last;
  moves = λ g. legal rules (repeat_of g.last);
  captures = λ g. filter (captures rules (repeat_of g.last)) (legal rules (repeat_of g.last));
  after = played rules;
}

-- the value of a game at a depth over these root moves
abbrev pub value_of : Rules → ℕ → Story → List Move → ℤ
value_of rules depth g roots = root_value (play rules) depth g roots

-- the root move attains this value
pub record Attains (rules : Rules) (depth : ℕ) (g : Story) (roots : List Move) (v : ℤ) (m : Move) : Type 0 where
  pub root : Member m roots
  pub attained : root_score (play rules) depth g m ≡ v

-- how many lines of at most so many legal moves there are from a game
abbrev pub tree_size : Rules → ℕ → Story → ℕ
tree_size rules length g = tree (play rules) length g
