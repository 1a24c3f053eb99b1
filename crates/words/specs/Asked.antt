-- What the words of a run ask: options first, and then a command with its arguments.
use Rattle.std.specs.Prelude.{ℕ, List, [], Option, Some, None, Bool, true, ◌&&◌, if◌then◌else◌}
use Rattle.std.specs.List.{list_all}
use Rattle.words.specs.Command.{Command, command_in, flag_in}
use Rattle.words.specs.Number.{number_in}
use Rattle.words.specs.Options.{Text, Variants, Threads, Given, Cut, cut_from, has_no_dash, is_value, value_of}

pub record Asked : Type 0 where
  -- the name of the file of variants
  pub variants : Option Text
  -- how many threads may work
  pub threads : ℕ
  pub command : Command

-- from 1 to 64, and 1 where the option is not given
abbrev pub threads_in : Option Text → Option ℕ
threads_in None = Some 1
threads_in (Some text) = number_in 1 64 text

-- an option's value, where it is given, is not empty and does not begin with a dash
abbrev pub is_sound : Option Text → Bool
is_sound None = true
is_sound (Some text) = is_value text

-- and no word of the command begins with a dash
abbrev pub are_sound : Option Text → Option Text → List Text → Bool
are_sound variants threads words = is_sound variants && is_sound threads && list_all has_no_dash words

abbrev pub asked_with : Option Text → Option ℕ → Option Command → Option Asked
asked_with variants (Some threads) (Some command) = Some (record {
  variants = variants;
  threads = threads;
  command = command;
})
asked_with variants threads command = None

-- what options of these values and the words after them ask
abbrev pub asked_by : Option Text → Option Text → List Text → Option Asked
asked_by variants threads words =
    if are_sound variants threads words then asked_with variants (threads_in threads) (command_in words) else None

abbrev pub asked_of : Given → List Text → Option Asked
asked_of given words = asked_by (value_of Variants given) (value_of Threads given) words

abbrev pub asked_cut : Cut → Option Asked
asked_cut None = None
asked_cut (Some cut) = asked_of cut.0 cut.1

-- what options and the words after them ask
abbrev pub asked_after : List Text → Option Asked
asked_after words = asked_cut (cut_from None [] words)

-- one thread, and no file of variants
abbrev pub asked_alone : Command → Asked
asked_alone command = record {
  variants = None;
  threads = 1;
  command = command;
}

abbrev pub asked_or : Option Command → List Text → Option Asked
asked_or None words = asked_after words
asked_or (Some command) words = Some (asked_alone command)

-- what the words ask, where they are of the command set
abbrev pub asked : List Text → Option Asked
asked words = asked_or (flag_in words) words
