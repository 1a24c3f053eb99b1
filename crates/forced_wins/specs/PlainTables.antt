-- The plainest strategy: nodes with their position, rank and edges.
use Rattle.std.specs.Prelude.{ℕ, List}
use Rattle.forced_wins.specs.Tables.{Accessors}

pub record Edge (M : Type 0) : Type 0 where
  pub chosen : M
  pub to : ℕ

pub record Node (P M : Type 0) : Type 0 where
  pub position : P
  pub rank : ℕ
  pub edges : List (Edge M)

abbrev pub plain : {P M : Type 0} → Accessors P M (Node P M) (Edge M)
plain =
    record {
      position = λ v. v.position;
      rank = λ v. v.rank;
      edges = λ v. v.edges;
      chosen = λ e. e.chosen;
      to = λ e. e.to;
    }
