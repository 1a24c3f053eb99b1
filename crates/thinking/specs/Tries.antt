-- Mates that are looked for within 1, 2, .. moves.
use Rattle.std.specs.Prelude.{◌≡◌, ℕ, ◌+◌, List, [], Option, Some, None}
use Rattle.io_ports.specs.declared.dialect.Dialect.{Dialect}
use Rattle.io_ports.specs.declared.limits.Limits.{Limits}
use Rattle.io_ports.specs.Owing.{Spends}
use Rattle.io_ports.specs.Source.{Owed}
use Rattle.game_play.specs.Played.{Played, story}
use Rattle.evaluation.specs.Bounds.{solve_bound, solves_bound}
use Rattle.watching.specs.declared.halt.Cut.{Cut}
use Rattle.watching.specs.Events.{Listens, readings}
use Rattle.watching.specs.Looks.{Broke, Moved, Ran, held}
use Rattle.session_model.specs.Mates.{HasNoShorter, IsEvidence, IsShown, mover, root_move}
use Rattle.session_model.specs.UciSession as answer
use Rattle.session_model.specs.UciSession.{Decides, MateAnswer}
use Rattle.thinking.specs.Cuts.{CutsBy, cause_of}
use Rattle.thinking.specs.Views.{evidence_of}
use Rattle.thinking.specs.declared.mates.MateAttempt.{MateAttempt}
use Rattle.thinking.specs.declared.mates.MateAttempt.TheVariants.{Shown, Unsettled, Stopped, NoMate}

abbrev pub answer_seen : MateAttempt → MateAnswer
answer_seen (Shown moves strategy best) = answer.Shown moves strategy best
answer_seen (Unsettled moves unsettled) = answer.Unsettled moves (evidence_of unsettled)
answer_seen (Stopped moves why) = answer.Stopped moves (cause_of why)
answer_seen NoMate = answer.NoMate

abbrev pub cut_in : MateAttempt → Option Cut
cut_in (Shown moves strategy best) = None
cut_in (Unsettled moves unsettled) = None
cut_in (Stopped moves why) = Some why
cut_in NoMate = None

-- the answer is right: the first number that is not without a mate decides
abbrev pub IsMate : Played → ℕ → MateAnswer → Type 0
IsMate g last (answer.Shown n s best) =
    Decides g last n × IsShown g n (mover g) s × (root_move s ≡ Some best)
IsMate g last (answer.Unsettled n e) = Decides g last n × IsEvidence g n (mover g) e
IsMate g last (answer.Stopped n cause) = Decides g last n
IsMate g last answer.NoMate = HasNoShorter g (last + 1)

-- a solve that was stopped was cut
abbrev pub IsCutBy : Dialect → Owed → Limits → Played → ℕ → List ℕ → List ℕ → MateAttempt → Type 0
IsCutBy dialect owed limits g last taken text (Shown moves strategy best) = Unit {0}
IsCutBy dialect owed limits g last taken text (Unsettled moves unsettled) = Unit {0}
IsCutBy dialect owed limits g last taken text (Stopped moves why) =
    CutsBy dialect owed (solves_bound g.rules last (story g)) limits.quota limits.deadline
    (solve_bound g.rules moves (story g)) taken text why
IsCutBy dialect owed limits g last taken text NoMate = Unit {0}

pub record IsTried (dialect : Dialect) (moved : Moved) (owed owed' : Owed) (limits : Limits) (g : Played) (last : ℕ)
    (text : List ℕ) (tried : MateAttempt) : Type 0 where
  pub ran : Ran dialect moved (held (cut_in tried) text)
      (λ events. Listens dialect events × IsCutBy dialect owed limits g last (readings events) text tried)
  pub is : IsMate g last (answer_seen tried)
  pub spends : Spends owed owed' (solves_bound g.rules last (story g))

-- a fault came where the mover has no win within fewer moves
pub record BrokeTrying (dialect : Dialect) (moved : Moved) (g : Played) (last : ℕ) : Type 0 where
  pub moves : ℕ
  pub decides : Decides g last moves
  pub broke : Broke dialect moved (Listens dialect)

-- the loop over numbers of moves: the mover has no win within so many moves
pub record Trying (dialect : Dialect) (moved : Moved) (owed owed' : Owed) (g : Played) (before : ℕ) : Type 0 where
  pub ran : Ran dialect moved [] (Listens dialect)
  pub none : HasNoShorter g (before + 1)
  pub spends : Spends owed owed' (solves_bound g.rules before (story g))
