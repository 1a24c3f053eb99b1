-- What is known of the table of a near win when it is made.
use Rattle.std.specs.Prelude.{◌≡◌, ◌⊎◌, ◌+◌, ◌<◌, ◌≤◌, ℕ, List, map, Bool, true, false, ◌&&◌, nat_lt, nat_le, if◌then◌else◌}
use Rattle.std.specs.List.{filter}
use Rattle.rules_model.specs.declared.board.Position.{Position}
use Rattle.rules_model.specs.declared.board.Repeat.{Repeat}
use Rattle.rules_model.specs.declared.moves.Move.{Move}
use Rattle.forced_wins.specs.Games as AnyGame
use Rattle.forced_wins.specs.Games.{Game, IsPlayed, near_root, near_attack, near_defence, times, history}
use Rattle.forced_wins.specs.Tables.{nodes_of}
use Rattle.strategy.specs.declared.nodes.Node.{Node}
use Rattle.mate_settle.specs.Lines.{plies}
use Rattle.mate_showing.specs.declared.plan.StrategyPlan.{StrategyPlan}
use Rattle.mate_showing.specs.Tables.{nodes, most, highest, Stands, IsSound}

-- the moves of the root lead on to a win within n moves
abbrev pub moves_win : Game Position Repeat Move → (Repeat → Bool) → ℕ → Position → Bool
moves_win r barred n p = if r.attacking p then near_attack r barred n p else near_defence r barred n p

-- the counters of the nodes that have the repeat
abbrev pub counters_at : Game Position Repeat Move → Repeat → List Node → List ℕ
counters_at r x s = map (λ v. r.counter v.position) (filter (λ v. r.same (r.repeat v.position) x) s)

abbrev pub stands_often : Game Position Repeat Move → AnyGame.Story Position → List Node → Repeat → Bool
stands_often r g s x = nat_lt 0 r.fold && nat_le r.fold (times r x (history g) + nodes_of r nodes x s)

-- what is known when the table is made
pub record IsTabled (r : Game Position Repeat Move) (barred : Repeat → Bool) (plan : StrategyPlan)
    (g : AnyGame.Story Position) (s : List Node) : Type 0 where
  pub same : (x : Repeat) → barred x ≡ AnyGame.blocked r g x
  pub root : plan.root ≡ g.last
  pub small : plan.whole ≤ most
  pub sound : IsSound r barred plan s
  pub stands : (i : ℕ) × Stands r plan.exact s plan.root plan.whole i
  pub near_win : near_root r plan.whole g ≡ true
  pub played : IsPlayed r g
  pub close : plan.exact ≡ true → (0 < r.limit) × (r.limit ≤ r.counter g.last + (plan.whole + plan.whole))
  pub inside : plan.exact ≡ false → (r.limit ≡ 0) ⊎ (r.counter g.last + (plan.whole + plan.whole) < r.limit)
  pub capped : (p : Position) (m : Move) → r.counter p ≤ highest → r.counter (r.next p m) ≤ highest
  pub low : r.counter g.last ≤ highest
  pub room : plan.room ≡ r.counter g.last + plies r plan.whole g.last
