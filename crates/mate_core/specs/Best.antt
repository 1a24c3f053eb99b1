-- Lists of facts: the best answer to a query, and whether a fact is worth a place.
use Rattle.std.specs.Prelude.{◌≡◌, ℕ, ◌<◌, ◌≤◌, nat_le, List, [], ◌∷◌, Bool, true, false, ◌&&◌, ◌||◌, Option, Some, None, length, slice_get, if◌then◌else◌}
use Rattle.std.specs.List.{list_any}
use Rattle.foundation.specs.Tests.{same_bool}
use Rattle.rules_model.specs.declared.board.Repeat.{Repeat}
use Rattle.forced_wins.specs.declared.fact.Fact.{Fact}
use Rattle.forced_wins.specs.Facts.{serves}

-- ---- look

-- of two answers, the first of which comes from earlier facts, the one with fewer moves; at as many, the earlier one
abbrev pub sooner : Option Fact → Option Fact → Option Fact
sooner None b = b
sooner (Some f) None = Some f
sooner (Some f) (Some g) = if nat_le f.moves g.moves then Some f else Some g

-- the fact, if it answers whether the repeat at the counter is won within so many moves
abbrev pub if_serves : Fact → Repeat → ℕ → ℕ → Option Fact
if_serves f repeat counter moves = if serves f repeat counter moves then Some f else None

-- the first of the facts with the least moves among those that answer
unfoldable pub best : List Fact → Repeat → ℕ → ℕ → Option Fact
best [] repeat counter moves = None
best (f ∷ fs) repeat counter moves = sooner (if_serves f repeat counter moves) (best fs repeat counter moves)

-- ---- publish

-- k is of the repeat and the kind of f, and answers every query that f answers: it answers the one for which f is just
-- enough
unfoldable pub is_as_good : Fact → Fact → Bool
is_as_good k f = same_bool k.wins f.wins && serves k f.repeat f.counter f.moves

-- some fact of the list is as good as f
abbrev pub has_better : List Fact → Fact → Bool
has_better fs f = list_any (λ k. is_as_good k f) fs

abbrev pub is_full : ℕ → List Fact → Bool
is_full capacity fs = nat_le capacity (length fs)

-- the fact that a list takes in, if it takes this one
abbrev pub stored : ℕ → List Fact → Fact → Option Fact
stored capacity fs f = if has_better fs f || is_full capacity fs then None else Some f

-- ---- the same in other words

-- k is of the repeat and the kind of f, and serves every query that f serves
pub record ServesAsMuch (k f : Fact) : Type 0 where
  pub repeat : k.repeat ≡ f.repeat
  pub kind : k.wins ≡ f.wins
  pub serves_all : (r : Repeat) (counter moves : ℕ) → serves f r counter moves ≡ true → serves k r counter moves ≡ true

-- no fact of the list serves the query
abbrev pub NoneServes : List Fact → Repeat → ℕ → ℕ → Type 0
NoneServes fs repeat counter moves =
    (i : ℕ) (g : Fact) → slice_get fs i ≡ Some g → serves g repeat counter moves ≡ false

-- f stands in the list and serves the query; those that serve it have no fewer moves, and those before f have more
pub record IsFirstOfLeast (fs : List Fact) (repeat : Repeat) (counter moves : ℕ) (f : Fact) : Type 0 where
  pub place : ℕ
  pub stands : slice_get fs place ≡ Some f
  pub serves_it : serves f repeat counter moves ≡ true
  pub least : (i : ℕ) (g : Fact) → slice_get fs i ≡ Some g → serves g repeat counter moves ≡ true → f.moves ≤ g.moves
  pub first : (i : ℕ) (g : Fact) → i < place → slice_get fs i ≡ Some g → serves g repeat counter moves ≡ true
      → f.moves < g.moves
