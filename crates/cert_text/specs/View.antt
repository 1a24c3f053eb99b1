-- What the code reads, as the definitions have it.
use Rattle.std.specs.Prelude.{◌≡◌, ℕ, List, length, reverse, Option, option_map, Result, Ok, Err, MatchResult, ⊤}
use Rattle.io_ports.specs.Lines.{Line}
use Rattle.game_play.specs.Played.{Played, story}
use Rattle.stipulation.specs.declared.cert.Cert.{Cert}
use Rattle.stipulation.specs.Lines.{AreSound, IsPathTo}
use Rattle.stipulation.specs.Stipulations.{help_games}
use Rattle.cert_text.specs.declared.fault.CertFault.{CertFault}
use Rattle.cert_text.specs.declared.fault.NoCert.{NoCert}
use Rattle.cert_text.specs.declared.fault.NoCert.TheVariants.{Faulty, Unread}
use Rattle.cert_text.specs.declared.reader.Reader.{Reader}
use Rattle.cert_text.specs.declared.said.SaidText.{SaidText}
use Rattle.cert_text.specs.declared.said.SaidText.TheVariants as text
use Rattle.cert_text.specs.Fault.{IsFaultOrMemory}
use Rattle.cert_text.specs.Needed as Needed
use Rattle.cert_text.specs.Reading as Reading
use Rattle.cert_text.specs.Reading.{SoFar, last_ply}
use Rattle.cert_text.specs.Said.{Said, step_line, end_line}

abbrev pub said_view : SaidText → Said
said_view (text.Step ply chosen) = step_line ply chosen.now
said_view text.End = end_line

-- ---- a reader

abbrev pub so_far : Reader → SoFar
so_far r = record { line = r.line; earlier = reverse r.steps.items; is_ended = r.is_ended }

-- the positions along the moves to the reader's last step, for the game
pub record IsOnPath (g : Played) (r : Reader) : Type 0 where
  pub sound : AreSound g.rules r.path
  pub leads : IsPathTo (help_games g.rules (story g).last.side) (story g) (reverse r.steps.items) r.path
  pub long : length r.path ≡ last_ply (reverse r.steps.items)

-- the game's lines, after those of the reader
abbrev pub with_step : Played → Reader → ℕ → List ℕ → Result SoFar CertFault
with_step g r ply text = Reading.with_step g.rules (story g) (so_far r) ply text

abbrev pub with_said : Played → Reader → Option SaidText → Result SoFar CertFault
with_said g r said = Reading.with_said g.rules (story g) (so_far r) (option_map said_view said)

abbrev pub with_text : Played → Reader → List ℕ → Result SoFar CertFault
with_text g r text = Reading.with_text g.rules (story g) (so_far r) text

abbrev pub step : Played → Reader → Line → Result SoFar CertFault
step g r line = Reading.step g.rules (story g) (so_far r) line

abbrev pub taken : Played → Reader → List Line → Result SoFar CertFault
taken g r lines = Reading.taken g.rules (story g) (so_far r) lines

abbrev pub lines_on : Played → Reader → List Line → ℕ
lines_on g r lines = Needed.lines_on g.rules (story g) (so_far r) lines

-- ---- what calls answer

-- a call took what was said: the reader is now so, or the answer is the first fault, or out of memory
abbrev pub Takes : Result SoFar CertFault → Reader → Result (Unit {0}) CertFault → Type 0
Takes said new answer = MatchResult answer (λ _. said ≡ Ok (so_far new)) (IsFaultOrMemory said)

-- the certificate that is said, or else its first fault, or out of memory
abbrev pub Answers : Result Cert CertFault → Result Cert CertFault → Type 0
Answers said answer = MatchResult answer (λ cert. said ≡ Ok cert) (IsFaultOrMemory said)

-- ---- a source

-- the source failed
abbrev pub IsUnread : {A : Type 0} → Result A NoCert → Type 0
IsUnread (Ok x) = ⊥
IsUnread (Err (Faulty fault)) = ⊥
IsUnread (Err Unread) = ⊤

-- why nothing was read: the lines have this fault, or there was no memory, or the source failed
abbrev pub HasWhy : {A : Type 0} → Result A CertFault → NoCert → Type 0
HasWhy said (Faulty fault) = IsFaultOrMemory said fault
HasWhy said Unread = ⊤

-- the reader that the code has now is the one that the lines give, or the lines have this fault
abbrev pub SaysTaken : Result SoFar CertFault → Reader → Result (Unit {0}) NoCert → Type 0
SaysTaken said now (Ok x) = said ≡ Ok (so_far now)
SaysTaken said now (Err why) = HasWhy said why

-- the lines say this certificate, or have this fault
abbrev pub SaysCert : Result Cert CertFault → Result Cert NoCert → Type 0
SaysCert said (Ok cert) = said ≡ Ok cert
SaysCert said (Err why) = HasWhy said why
