-- What `stipulate check` says: whether the certificate of the input holds in the game of the input, by its stipulation.
-- The input is a problem, whose goal is a stipulation, and a certificate after it.
use Rattle.std.specs.Prelude.{◌≡◌, ◌⊎◌, ℕ, ◌+◌, Bool, true, false, List, drop, Result, Ok, Err, codes}
use Rattle.io_ports.specs.Lines.{Line}
use Rattle.rules_model.specs.declared.rules.Rules.{Rules}
use Rattle.rules_model.specs.Games.{Story}
use Rattle.variant_rules.specs.Entries.{Named}
use Rattle.game_play.specs.Played.{Played, story}
use Rattle.game_text.specs.declared.fault.GameFault.{GameFault}
use Rattle.game_text.specs.declared.goal.Stipulation.{Stipulation}
use Rattle.game_text.specs.declared.problem.Problem.{Problem}
use Rattle.game_text.specs.Goal.{stipulation_said}
use Rattle.game_text.specs.Problem.{lines_of_problem, problem_of}
use Rattle.stipulation.specs.declared.cert.Cert.{Cert}
use Rattle.stipulation.specs.declared.cert.Step.{Step}
use Rattle.stipulation.specs.declared.verdict.CertVerdict.{CertVerdict}
use Rattle.stipulation.specs.declared.verdict.CertVerdict.TheVariants.{Holds, BadPly, BadMove, TooDeep, NotMate, MissingReply, Unfinished}
use Rattle.stipulation.specs.Stipulations.{HelpWins, self_wins}
use Rattle.stipulation.specs.Verdicts.{help_verdict, self_verdict, verdict_text}
use Rattle.cert_text.specs.declared.fault.CertFault.{CertFault}
use Rattle.cert_text.specs.Needed.{lines_of_cert}
use Rattle.cert_text.specs.Reading.{cert_of}
use Rattle.cert_text.specs.Writing.{cert_text}
use Rattle.one_shot_checks.specs.declared.fault.Fault.{Fault}
use Rattle.one_shot_checks.specs.declared.fault.Fault.TheVariants as fault
use Rattle.one_shot_checks.specs.declared.certificates.Stipulated.{Stipulated}
use Rattle.one_shot_checks.specs.Fault.{error_line, fault_text}

-- ---- what the input states

abbrev pub with_cert : Problem Stipulation → Result Cert CertFault → Result Stipulated Fault
with_cert p (Ok cert) = Ok (record { problem = p; cert = cert })
with_cert p (Err why) = Err (fault.Cert why)

-- a problem, and the certificate for its game that the lines after its four say
abbrev pub by_problem : Result (Problem Stipulation) GameFault → List Line → Result Stipulated Fault
by_problem (Ok p) input = with_cert p (cert_of p.game.rules (story p.game) (drop 4 input))
by_problem (Err why) input = Err (fault.Game why)

-- what the input states where there are these variants, or its first fault
abbrev pub stipulated_in : List Named → List Line → Result Stipulated Fault
stipulated_in variants input = by_problem (problem_of stipulation_said variants input) input

-- ---- the answer

abbrev pub verdict_by : Bool → Rules → ℕ → Story → List Step → CertVerdict
verdict_by false rules n g steps = self_verdict rules n g steps
verdict_by true rules n g steps = help_verdict rules n g steps

-- the verdict on the certificate
abbrev pub verdict_in : Stipulated → CertVerdict
verdict_in s =
    verdict_by s.problem.goal.help s.problem.game.rules s.problem.goal.moves (story s.problem.game) s.cert.steps

-- that the certificate holds, or its first failure
abbrev pub SaysVerdict : CertVerdict → ℕ → List ℕ → Type 0
SaysVerdict Holds status text = (status ≡ 0) × (text ≡ codes "holds\n")
SaysVerdict (BadPly i) status text = (status ≡ 3) × (text ≡ error_line (verdict_text (BadPly i)))
SaysVerdict (BadMove i) status text = (status ≡ 3) × (text ≡ error_line (verdict_text (BadMove i)))
SaysVerdict (TooDeep i) status text = (status ≡ 3) × (text ≡ error_line (verdict_text (TooDeep i)))
SaysVerdict (NotMate i) status text = (status ≡ 3) × (text ≡ error_line (verdict_text (NotMate i)))
SaysVerdict (MissingReply i m) status text = (status ≡ 3) × (text ≡ error_line (verdict_text (MissingReply i m)))
SaysVerdict (Unfinished i) status text = (status ≡ 3) × (text ≡ error_line (verdict_text (Unfinished i)))

-- the fault of the input, or else of its certificate
abbrev pub SaysStipulated : Result Stipulated Fault → ℕ → List ℕ → Type 0
SaysStipulated (Ok s) status text = SaysVerdict (verdict_in s) status text
SaysStipulated (Err why) status text = (status ≡ 3) × (text ≡ error_line (fault_text why))

-- the answer to an input with these lines, where there are these variants
abbrev pub SaysCertCheck : List Named → List Line → ℕ → List ℕ → Type 0
SaysCertCheck variants input status text = SaysStipulated (stipulated_in variants input) status text

-- the stipulation of the problem can be met in its game
abbrev pub Meets : Bool → Rules → ℕ → Story → Type 0
Meets false rules n g = self_wins rules n g g.last.side ≡ true
Meets true rules n g = HelpWins rules n g

-- the certificate that the input states holds, so that its stipulation can be met
pub record IsMet (variants : List Named) (input : List Line) : Type 0 where
  pub stated : Stipulated
  pub states : stipulated_in variants input ≡ Ok stated
  pub holds : verdict_in stated ≡ Holds
  pub met : let p = stated.problem in Meets p.goal.help p.game.rules p.goal.moves (story p.game)

-- ---- what is printed of a game

-- the text of a certificate that this holds of, or `none`, and then nothing is so
abbrev pub Prints : Bool → (List Step → Type 0) → Type 0 → List ℕ → Type 0
Prints help HoldsOf IsSo text =
    ((steps : List Step) × HoldsOf steps × (text ≡ cert_text help steps)) ⊎ ((text ≡ codes "none\n") × (IsSo → ⊥))

-- a selfmate within n moves
abbrev pub PrintsSelf : Played → ℕ → List ℕ → Type 0
PrintsSelf g n text =
    Prints false (λ steps. self_verdict g.rules n (story g) steps ≡ Holds) (Meets false g.rules n (story g)) text

-- a helpmate within n moves of each side
abbrev pub PrintsHelp : Played → ℕ → List ℕ → Type 0
PrintsHelp g n text =
    Prints true (λ steps. help_verdict g.rules n (story g) steps ≡ Holds) (Meets true g.rules n (story g)) text

-- ---- how many lines tell it: all of them, or those up to the first faulty one

abbrev pub lines_after : Result (Problem Stipulation) GameFault → List Line → ℕ
lines_after (Ok p) lines = lines_of_cert p.game.rules (story p.game) lines
lines_after (Err fault) lines = 0

unfoldable pub lines_of_cert_check : List Named → List Line → ℕ
lines_of_cert_check variants input =
    lines_of_problem variants input + lines_after (problem_of stipulation_said variants input) (drop 4 input)
