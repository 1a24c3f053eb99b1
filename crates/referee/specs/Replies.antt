-- What the referee answers.
use Rattle.std.specs.Prelude.{◌≡◌, ℕ, List, Option, Result, Ok, Err, false, ⊤}
use Rattle.io_ports.specs.Lines.{lines_of}
use Rattle.one_shot_checks.specs.declared.stop.Stop.{Stop}
use Rattle.one_shots.specs.Commands.{is_refereed}
use Rattle.one_shots.specs.declared.answers.Answer.{Answer}
use Rattle.one_shots.specs.declared.opening.Opened.{Opened}
use Rattle.one_shots.specs.Shot.{SaysCommand}
use Rattle.referee.specs.declared.answering.Reply.{Reply}
use Rattle.referee.specs.declared.answering.Reply.TheVariants.{Said, NotRefereed}
use Rattle.referee.specs.Refereed.{IsUnrefereed, Refereed}
use Rattle.words.specs.View.{command_seen}

-- the answer of the program; or none, where the words are of a command that no referee answers
abbrev pub Replies : List (List ℕ) → Option (List ℕ) → List ℕ → Reply → Type 0
Replies words file input (Said answer) = Refereed words file input answer.status answer.text
Replies words file input NotRefereed = IsUnrefereed words

-- the same, where the words were read, and the file
abbrev pub RepliesTo : Opened → List ℕ → Reply → Type 0
RepliesTo opened input (Said answer) =
    SaysCommand opened.sections (command_seen opened.asked.command) (lines_of input) answer.status answer.text
RepliesTo opened input NotRefereed = is_refereed (command_seen opened.asked.command) ≡ false

-- the answer is said, where there is one
abbrev pub IsSaid : {E : Type 0} → Result Answer Stop → Result Reply E → Type 0
IsSaid (Ok answer) (Ok reply) = reply ≡ Said answer
IsSaid (Err why) (Ok reply) = ⊥
IsSaid answer (Err why) = ⊤
