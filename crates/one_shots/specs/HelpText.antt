-- What `help` and `--version` print.
use Rattle.std.specs.Prelude.{ℕ, List, ◌++◌, codes}
use Rattle.words.specs.declared.help.TheConstants.{HELP}
use Rattle.words.specs.declared.version.TheConstants.{VERSION}

-- the commands and the options
unfoldable pub help_text : List ℕ
help_text = HELP.now

-- the name of the program and its version
unfoldable pub version_text : List ℕ
version_text = codes "vengine " ++ VERSION.now ++ codes "\n"
