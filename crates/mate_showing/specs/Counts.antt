-- How often a repeat stands in a game and in a table of nodes.
use Rattle.std.specs.Prelude.{ℕ, ◌+◌, List, map, Bool, ◌&&◌, nat_lt, nat_le, count_by}
use Rattle.std.specs.List.{filter}
use Rattle.rules_model.specs.declared.board.Repeat.{Repeat}
use Rattle.rules_model.specs.Games.{Story, history, times, same_repeat}
use Rattle.rules_model.specs.Repeats.{repeat_of}
use Rattle.mate_core.specs.declared.frame.Frame.{Frame}
use Rattle.forced_wins.specs.Views.{as_any}
use Rattle.forced_wins.specs.Wins.{is_in}
use Rattle.mate_settle.specs.Lines.{seen_in}
use Rattle.strategy.specs.declared.nodes.Node.{Node}
use Rattle.mate_showing.specs.declared.plan.StrategyPlan.{StrategyPlan}
use Rattle.mate_showing.specs.Mates.{IsTabled}

-- how many nodes have the repeat, and their counters
abbrev pub nodes_at : Repeat → List Node → ℕ
nodes_at x s = count_by (λ v. same_repeat (repeat_of v.position) x) s

abbrev pub counters_of : Repeat → List Node → List ℕ
counters_of x s = map (λ v. v.position.counter) (filter (λ v. same_repeat (repeat_of v.position) x) s)

-- the repeat stands in the game and in the nodes as often as the fold says, or more often
abbrev pub is_often : ℕ → Story → List Node → Repeat → Bool
is_often fold g s x = nat_lt 0 fold && nat_le fold (times x (history g) + nodes_at x s)

-- what is known of the table of a near win of the game
abbrev pub IsTabledIn : Story → Frame → StrategyPlan → List Node → Type 0
IsTabledIn g f plan s = IsTabled (seen_in f) (is_in f.blocked) plan (as_any g) s
