-- What workers hand back.
use Rattle.std.specs.Prelude.{◌≡◌, ℕ, ◌+◌, ◌≤◌, List, [], ◌∷◌, ◌++◌, fold, length, max}
use Rattle.std.specs.List.{All}
use Rattle.foundation.specs.Member.{Member}
use Rattle.rules_model.specs.declared.moves.Move.{Move}
use Rattle.game_line.specs.Lined.{legal_in, story_of_line}
use Rattle.negamax.specs.declared.facts.Fact.{Fact}
use Rattle.negamax.specs.RootFacts.{IsTrueFact, root_tree}
use Rattle.alpha_beta.specs.declared.jobs.Job.{Job}
use Rattle.alpha_beta.specs.declared.plan.Plan.{Plan}
use Rattle.alpha_beta.specs.declared.taking.Other.{Other}
use Rattle.alpha_beta.specs.Roots.{root_lines}

-- the depth is at least 1, it and the plies from the root are at most 64, the line has room, and the moves are legal
pub record IsPlan {G : Type 0} (plan : Plan G) : Type 0 where
  pub least : 1 ≤ plan.depth
  pub plies : plan.ply + plan.depth ≤ 64
  pub room : length plan.line.now.moves + plan.depth + 4 ≤ plan.line.now.room
  pub legal : All (λ m. Member m (legal_in plan.line.now)) plan.moves.now

-- these facts are true of the moves after its line
abbrev pub AreTrueFacts : {G : Type 0} → Plan G → List Fact → Type 0
AreTrueFacts plan facts = All (IsTrueFact plan.line.now.rules plan.depth plan.ply (story_of_line plan.line.now)) facts

-- how many lines a search of the move goes along at most
abbrev pub lines_after : {G : Type 0} → Plan G → Move → ℕ
lines_after plan m = root_tree plan.line.now.rules plan.depth (story_of_line plan.line.now) m

-- how many lines a search of its moves goes along at most
abbrev pub lines_in : {G : Type 0} → Plan G → ℕ
lines_in plan = root_lines plan.line.now.rules plan.depth (story_of_line plan.line.now) plan.moves.now

-- it has entered no node
abbrev pub IsNew : Job → Type 0
IsNew job = job.nodes ≡ 0

-- what a worker found is true
abbrev pub IsSound : {G : Type 0} → Plan G → Job → Type 0
IsSound plan job = AreTrueFacts plan job.facts.items

-- it entered at most so many nodes more
abbrev pub HasEntered : ℕ → Job → Job → Type 0
HasEntered n before after = after.nodes ≤ before.nodes + n

-- what a worker beside the first found is true, and it entered at most the lines of the race
abbrev pub HasHelped : {G : Type 0} → Plan G → Job → Job → Type 0
HasHelped plan before after = IsSound plan after × HasEntered (lines_in plan) before after

-- the move at this place was added to those that another worker had taken
abbrev pub IsSetAside : List Other → List Other → ℕ → Move → Type 0
IsSetAside before after place chosen = after ≡ before ++ record { place = place; chosen = chosen } ∷ []

-- the greatest of a count and those of the others
abbrev pub most_nodes : ℕ → List Job → ℕ
most_nodes nodes jobs = fold (λ most (job : Job). max most job.nodes) nodes jobs
