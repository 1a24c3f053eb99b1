-- A contest of two sides as states and moves, seen by the side that attacks.
use Rattle.std.specs.Prelude.{ℕ, zero, suc, List, Bool, false, Option, Some, None, if◌then◌else◌}
use Rattle.std.specs.List.{list_any, list_all}

pub record Contest (X M : Type 0) : Type 0 where
  -- None where the state is ongoing, else whether it counts as won by the attacker
  pub end : X → Option Bool
  -- the attacker is to move
  pub attacking : X → Bool
  pub moves : X → List M
  pub after : X → M → X

-- an ended state is worth its end, an ongoing one what the test says
abbrev pub decided : Option Bool → Bool → Bool
decided None test = test
decided (Some won) test = won

-- the other side is to move: the state is ended as won, or each move leads to a state that passes
unfoldable pub replies : {X M : Type 0} → Contest X M → (X → Bool) → X → Bool
replies g f x = decided (g.end x) (list_all (λ m. f (g.after x m)) (g.moves x))

-- the attacker is to move: the state is ended as won, or he wins by n moves of his own, with the one that he makes now
unfoldable pub attacks_by : {X M : Type 0} → Contest X M → ℕ → X → Bool
attacks_by g zero x = decided (g.end x) false
attacks_by g (suc n) x = decided (g.end x) (list_any (λ m. replies g (attacks_by g n) (g.after x m)) (g.moves x))

-- the attacker wins by n moves of his own, whoever is to move
unfoldable pub forced : {X M : Type 0} → Contest X M → ℕ → X → Bool
forced g n x = if g.attacking x then attacks_by g n x else replies g (attacks_by g n) x

-- the attacker wins by t plies, the moves of both sides together
unfoldable pub within : {X M : Type 0} → Contest X M → ℕ → X → Bool
within g zero x = decided (g.end x) false
within g (suc t) x =
    decided (g.end x)
    (if g.attacking x then list_any (λ m. within g t (g.after x m)) (g.moves x) else
    list_all (λ m. within g t (g.after x m)) (g.moves x))
