-- How the positions that play reaches are written down as those of nodes.
use Rattle.std.proofs.Common.{◌≡◌, ℕ, ◌<◌, ◌≤◌, List}
use Rattle.foundation.specs.Member.{Member}
use Rattle.forced_wins.specs.Games.{Game, Story}
use Rattle.forced_wins.specs.PlainTables.{Edge, Node, plain}
use Rattle.forced_wins.specs.Tables.{AreFaultless}

-- `Reached` is what holds of each position that play reaches, `Written` what is to hold of the positions of nodes
pub record Writing (P R M : Type 0) (r : Game P R M) (Reached Written : P → Type 0) : Type 0 where
  pub goes_on : (p : P) (m : M) → Reached p → Member m (r.legal p) → Reached (r.next p m)
  -- a position at a counter, which is cut off where it is too high to be written
  pub at : P → ℕ → P
  pub at_repeat : (p : P) (c : ℕ) → r.repeat (at p c) ≡ r.repeat p
  pub at_low : (p : P) (c : ℕ) → r.counter (at p c) ≤ c
  pub at_high : (p : P) (c : ℕ) → Reached p → r.counter p ≤ c → r.counter p ≤ r.counter (at p c)
  pub at_next : (p q : P) (m : M) (c d : ℕ) → c < d → r.counter (r.next (at p c) m) ≤ r.counter (at q d)
  pub at_written : (p : P) (c : ℕ) → Reached p → Written (at p c)
  -- a position at its own counter
  pub exact : P → P
  pub exact_repeat : (p : P) → r.repeat (exact p) ≡ r.repeat p
  pub exact_counter : (p : P) → r.counter (exact p) ≡ r.counter p
  pub exact_written : (p : P) → Reached p → Written (exact p)

-- a table without a fault, each of its positions as it is to be
pub record GoodTable (P R M : Type 0) (r : Game P R M) (Written : P → Type 0) (g : Story P) (n : ℕ) : Type 0 where
  pub nodes : List (Node P M)
  pub faultless : AreFaultless P R M (Node P M) (Edge M) r plain nodes g n
  pub written : (v : Node P M) → Member v nodes → Written v.position
