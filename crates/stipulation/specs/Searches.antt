-- The certificate that a plain search finds: the first move that does where one is to be chosen, and else every reply.
use Rattle.std.specs.Prelude.{◌≡◌, ℕ, zero, suc, ◌+◌, ◌*◌, List, [], ◌∷◌, ◌++◌, Bool, true, false, is_some, Option, Some, None, if◌then◌else◌}
use Rattle.std.specs.Option.{option_map, option_or}
use Rattle.rules_model.specs.declared.moves.Move.{Move}
use Rattle.rules_model.specs.declared.rules.Rules.{Rules}
use Rattle.rules_model.specs.Games.{Story}
use Rattle.forced_wins.specs.Contests.{Contest}
use Rattle.stipulation.specs.declared.cert.Cert.{Cert}
use Rattle.stipulation.specs.declared.cert.Step.{Step}
use Rattle.stipulation.specs.Stipulations.{self_games, help_games}

-- the steps of the first move that has some
unfoldable pub first_of : (Move → Option (List Step)) → List Move → Option (List Step)
first_of f [] = None
first_of f (m ∷ ms) = option_or (f m) (first_of f ms)

abbrev pub joined : Option (List Step) → Option (List Step) → Option (List Step)
joined None later = None
joined (Some steps) None = None
joined (Some steps) (Some later) = Some (steps ++ later)

-- those of all moves, where each has some
unfoldable pub all_of : (Move → Option (List Step)) → List Move → Option (List Step)
all_of f [] = Some []
all_of f (m ∷ ms) = joined (f m) (all_of f ms)

abbrev pub step : ℕ → Move → Step
step ply m = record { ply = ply; chosen = m }

-- the steps after a move, with its own
abbrev pub led : ℕ → Move → Option (List Step) → Option (List Step)
led ply m None = None
led ply m (Some steps) = Some (step ply m ∷ steps)

-- an ended state is won with no step or not at all
abbrev pub ended : Option Bool → Option (List Step) → Option (List Step)
ended None found = found
ended (Some true) found = Some []
ended (Some false) found = None

-- the steps from the state on, which has this ply, with so many plies left
unfoldable pub found : {X : Type 0} → Contest X Move → ℕ → ℕ → X → Option (List Step)
found c zero ply x = ended (c.end x) None
found c (suc t) ply x =
    ended (c.end x)
    (if c.attacking x then first_of (λ m. led (ply + 1) m (found c t (ply + 1) (c.after x m))) (c.moves x) else
    all_of (λ m. led (ply + 1) m (found c t (ply + 1) (c.after x m))) (c.moves x))

-- the steps by a move from the state, with so many plies left after it
abbrev pub followed : {X : Type 0} → Contest X Move → ℕ → ℕ → X → Move → Option (List Step)
followed c t ply x m = led (ply + 1) m (found c t (ply + 1) (c.after x m))

-- what was found was put at the end of a list, and the answer says whether it was
abbrev pub IsFound : Option (List Step) → List Step → List Step → Bool → Type 0
IsFound None old new answer = (answer ≡ false) × (new ≡ old)
IsFound (Some steps) old new answer = (answer ≡ true) × (new ≡ old ++ steps)

abbrev pub is_ended : {X : Type 0} → Contest X Move → X → Bool
is_ended c x = is_some (c.end x)

-- ---- of a game

-- the certificate of a selfmate within n moves
abbrev pub self_found : Rules → ℕ → Story → Option (List Step)
self_found rules n g = found (self_games rules g.last.side) (2 * n) 0 g

-- with this number of plies, or else with one more, and so on for so many numbers
unfoldable pub least_found : {X : Type 0} → Contest X Move → ℕ → ℕ → X → Option (List Step)
least_found c zero plies x = None
least_found c (suc more) plies x = option_or (found c plies 0 x) (least_found c more (plies + 1) x)

-- the certificate of a helpmate within n moves of each side, of least length; a game that is ended has none
unfoldable pub help_found : Rules → ℕ → Story → Option (List Step)
help_found rules n g =
    if is_ended (help_games rules g.last.side) g then None else least_found (help_games rules g.last.side) (2 * n) 1 g

abbrev pub steps_of : Option Cert → Option (List Step)
steps_of answer = option_map (λ cert. cert.steps) answer
