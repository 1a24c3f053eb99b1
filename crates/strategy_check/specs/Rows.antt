-- The rows of the verdict on a strategy, by the rules of play and of its nodes as they are kept.
use Rattle.std.specs.Prelude.{ℕ, Bool, Option, List}
use Rattle.rules_model.specs.declared.board.Position.{Position}
use Rattle.rules_model.specs.declared.board.Side.{Side}
use Rattle.rules_model.specs.declared.moves.Move.{Move}
use Rattle.rules_model.specs.declared.rules.Rules.{Rules}
use Rattle.rules_model.specs.Games.{Story}
use Rattle.rules_model.specs.Legal.{own_end}
use Rattle.rules_model.specs.Repeats.{repeat_of}
use Rattle.forced_wins.specs.Tables as Tables
use Rattle.forced_wins.specs.Tables.{Accessors, Verdict}
use Rattle.forced_wins.specs.Strategies as Strategies
use Rattle.forced_wins.specs.Views.{won_by, seen_by, as_any}
use Rattle.strategy.specs.declared.nodes.Edge.{Edge}
use Rattle.strategy.specs.declared.nodes.Node.{Node}
use Rattle.strategy.specs.declared.nodes.Strategy.{Strategy}

-- how the nodes and edges of a strategy are read
abbrev pub kept : Accessors Position Move Node Edge
kept =
    record {
      position = λ v. v.position;
      rank = λ v. v.rank;
      edges = λ v. v.edges;
      chosen = λ e. e.chosen;
      to = λ e. e.to;
    }

-- the verdict on the strategy, for a win of the game by the side within n moves
abbrev pub verdict : Rules → Story → Side → ℕ → Strategy → Verdict Move
verdict rules g a n s = Strategies.verdict rules kept g a n s.attacker s.nodes

-- ---- its parts, as the side sees the rules

abbrev pub node_end : Rules → Side → Node → Option Bool
node_end rules a v = Tables.node_end (seen_by rules a) kept v

abbrev pub root_fits : Rules → Side → List Node → Story → ℕ → Bool
root_fits rules a s g n = Tables.root_fits (seen_by rules a) kept s (as_any g) n

abbrev pub fits_edge : Rules → Side → List Node → Node → Edge → Bool
fits_edge rules a s v e = Tables.fits_edge (seen_by rules a) kept s v e

abbrev pub wrong_move : Rules → Side → List Node → Node → Bool
wrong_move rules a s v = Tables.wrong_move (seen_by rules a) kept s v

abbrev pub missing_reply : Rules → Side → Node → Option Move
missing_reply rules a v = Tables.missing_reply (seen_by rules a) kept v

abbrev pub bad_rank : Rules → Side → List Node → Node → Bool
bad_rank rules a s v = Tables.bad_rank (seen_by rules a) kept s v

abbrev pub bad_counter : Rules → Side → List Node → Node → Bool
bad_counter rules a s v = Tables.bad_counter (seen_by rules a) kept s v

abbrev pub is_root_again : Rules → Side → List Node → Node → Bool
is_root_again rules a s v = Tables.is_root_again (seen_by rules a) kept s v

abbrev pub stands_often : Rules → Side → List Node → Story → Node → Bool
stands_often rules a s g v = Tables.stands_often (seen_by rules a) kept s (as_any g) v

abbrev pub repeats_at : Rules → Side → List Node → Story → ℕ → Node → Bool
repeats_at rules a s g i v = Tables.repeats_at (seen_by rules a) kept s (as_any g) i v

abbrev pub is_cut : Rules → Side → Story → Bool
is_cut rules a g = Tables.is_cut (seen_by rules a) (won_by a (own_end rules (repeat_of g.last))) (as_any g)

abbrev pub not_won : Rules → Side → Story → ℕ → Node → Bool
not_won rules a g i v = Tables.not_won (seen_by rules a) kept (as_any g) i v

abbrev pub node_verdict : Rules → Side → List Node → Story → ℕ → Node → Verdict Move
node_verdict rules a s g i v = Tables.node_verdict (seen_by rules a) kept s (as_any g) i v

abbrev pub nodes_verdict : Rules → Side → List Node → Story → ℕ → List Node → Verdict Move
nodes_verdict rules a s g i vs = Tables.nodes_verdict (seen_by rules a) kept s (as_any g) i vs
