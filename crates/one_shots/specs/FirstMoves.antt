-- What `keys N` says: the first moves with which the side that is to move wins the game of the input within N moves, or
-- the first fault.
use Rattle.std.specs.Prelude.{◌≡◌, ℕ, List, Result, Ok, Err}
use Rattle.io_ports.specs.Lines.{Line}
use Rattle.variant_rules.specs.Entries.{Named}
use Rattle.game_play.specs.Played.{Played}
use Rattle.game_text.specs.declared.fault.GameFault.{GameFault}
use Rattle.game_text.specs.Fault as game
use Rattle.game_text.specs.GameText.{game_of}
use Rattle.suite.specs.declared.keys_fault.KeysFault.{KeysFault}
use Rattle.suite.specs.declared.first_moves.Key.{Key}
use Rattle.suite.specs.FirstMoves.{keys_fault_text, mate_keys}
use Rattle.suite.specs.KeysText.{keys_text}
use Rattle.one_shot_checks.specs.Fault.{error_line}

-- the moves, each within how many moves, or why the game is not asked
abbrev pub SaysKeyList : Result (List Key) KeysFault → ℕ → List ℕ → Type 0
SaysKeyList (Ok keys) status text = (status ≡ 0) × (text ≡ keys_text keys)
SaysKeyList (Err fault) status text = (status ≡ 3) × (text ≡ error_line (keys_fault_text fault))

-- those of a game, or the fault of the text that says none
abbrev pub SaysKeysOf : ℕ → Result Played GameFault → ℕ → List ℕ → Type 0
SaysKeysOf n (Ok g) status text = SaysKeyList (mate_keys n g) status text
SaysKeysOf n (Err fault) status text = (status ≡ 3) × (text ≡ error_line (game.fault_text fault))

-- the answer to an input with these lines, where there are these variants
abbrev pub SaysKeys : ℕ → List Named → List Line → ℕ → List ℕ → Type 0
SaysKeys n variants input status text = SaysKeysOf n (game_of variants input) status text
