-- What is told of the first moves that win: a line for each, and how many there are.
use Rattle.std.specs.Prelude.{ℕ, List, ◌++◌, codes, length}
use Rattle.std.specs.Fmt.{decimal}
use Rattle.std.specs.List.{flat_map}
use Rattle.rules_model.specs.MoveText.{text_of}
use Rattle.suite.specs.declared.first_moves.Key.{Key}

-- `MOVE mate K`
abbrev pub key_line : Key → List ℕ
key_line key = text_of key.chosen ++ codes " mate " ++ decimal key.moves ++ codes "\n"

-- `keys C`
abbrev pub count_line : ℕ → List ℕ
count_line count = codes "keys " ++ decimal count ++ codes "\n"

unfoldable pub keys_text : List Key → List ℕ
keys_text keys = flat_map key_line keys ++ count_line (length keys)
