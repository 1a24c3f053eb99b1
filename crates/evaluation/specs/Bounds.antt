-- How many nodes a worker enters at most, and so how many polls a search can take.
use Rattle.std.specs.Prelude.{ℕ, zero, suc, ◌+◌, ◌*◌}
use Rattle.rules_model.specs.declared.rules.Rules.{Rules}
use Rattle.rules_model.specs.Games.{Story}
use Rattle.evaluation.specs.Values.{tree_size}

-- a search of this depth
unfoldable pub search_bound : Rules → ℕ → Story → ℕ
search_bound rules depth g = 4 * tree_size rules (depth + 4) g

-- a solve within this number of moves
unfoldable pub solve_bound : Rules → ℕ → Story → ℕ
solve_bound rules n g = 4 * (n + 1) * tree_size rules (2 * n + 1) g

-- the searches of the first depths
unfoldable pub searches_bound : Rules → ℕ → Story → ℕ
searches_bound rules zero g = 0
searches_bound rules (suc depth) g = searches_bound rules depth g + search_bound rules (suc depth) g

-- the solves within the first numbers of moves
unfoldable pub solves_bound : Rules → ℕ → Story → ℕ
solves_bound rules zero g = 0
solves_bound rules (suc n) g = solves_bound rules n g + solve_bound rules (suc n) g

-- a solve that a search of this depth can ask for
unfoldable pub asked_bound : Rules → ℕ → Story → ℕ
asked_bound rules depth g = 4 * (depth + 4) * tree_size rules (depth + 6) g

-- `go depth`: the searches of the first depths, and a solve after each
unfoldable pub depths_bound : Rules → ℕ → Story → ℕ
depths_bound rules zero g = 0
depths_bound rules (suc depth) g =
    depths_bound rules depth g + (search_bound rules (suc depth) g + asked_bound rules (suc depth) g)

-- `go mate`: the solves, and depth 1
unfoldable pub mates_bound : Rules → ℕ → Story → ℕ
mates_bound rules n g = solves_bound rules n g + depths_bound rules 1 g
