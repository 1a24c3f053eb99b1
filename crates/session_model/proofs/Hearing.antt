-- A session reads and answers a line as a search that hears it does.
use Rattle.std.proofs.Common.{◌≡◌, ℕ, List, [], ◌∷◌, Some, None, refl}
use Rattle.std.specs.Prelude.{Option}
use Rattle.std.specs.List.{slice_split}
use Rattle.foundation.specs.Cuts.{is_blank}
use Rattle.io_ports.specs.Command.{first_command}
use Rattle.io_ports.specs.declared.command.UciWord.{UciWord}
use Rattle.io_ports.specs.declared.command.UciWord.TheVariants as word
use Rattle.io_ports.specs.Heard.{heard_command, heard_word}
use Rattle.io_ports.specs.Lines.{Text, TooLong}
use Rattle.session_model.specs.CecpLines as Cecp
use Rattle.session_model.specs.Laws.{AnswersAsHeard, HearsAsRead, heard_as}
use Rattle.session_model.specs.UciLines.{command_found, command_named, command_of}

word_agrees : (found : UciWord) (words : List (List ℕ)) → heard_word found ≡ heard_as (command_named found words)
word_agrees word.Uci words = refl
word_agrees word.IsReady words = refl
word_agrees word.UciNewGame words = refl
word_agrees word.SetOption words = refl
word_agrees word.Position words = refl
word_agrees word.Go words = refl
word_agrees word.Stop words = refl
word_agrees word.PonderHit words = refl
word_agrees word.Debug words = refl
word_agrees word.Register words = refl
word_agrees word.Moves words = refl
word_agrees word.Status words = refl
word_agrees word.Checkers words = refl
word_agrees word.Strategy words = refl
word_agrees word.Quit words = refl

found_agrees : (found : Option (UciWord × List (List ℕ))) → heard_command found ≡ heard_as (command_found found)
found_agrees None = refl
found_agrees (Some found) = word_agrees found.0 _

pub hears_as_read : HearsAsRead
unfolding command_of
hears_as_read text = found_agrees (first_command (slice_split is_blank text))

-- what a CECP session answers to a line that does not stop a search is what a search answers
pub answers_as_heard : AnswersAsHeard
unfolding Cecp.command_of
answers_as_heard state (Text []) h = refl
answers_as_heard state (Text (byte ∷ bytes)) h = cc
answers_as_heard state TooLong h = refl
