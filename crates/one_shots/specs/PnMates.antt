-- What `pnmate N` says: within how many moves, up to N, the side that is to move wins the game of the input, or the
-- first fault.
use Rattle.std.specs.Prelude.{◌≡◌, ℕ, List, ◌++◌, Option, Some, None, Result, Ok, Err, codes}
use Rattle.std.specs.Fmt.{decimal}
use Rattle.io_ports.specs.Lines.{Line}
use Rattle.variant_rules.specs.Entries.{Named}
use Rattle.game_play.specs.Played.{Played, story}
use Rattle.game_text.specs.declared.fault.GameFault.{GameFault}
use Rattle.game_text.specs.Fault as game
use Rattle.game_text.specs.GameText.{game_of}
use Rattle.pn_search.specs.declared.fault.PnFault.{PnFault}
use Rattle.pn_search.specs.MateCount.{mate_count, pn_fault_text}
use Rattle.one_shot_checks.specs.Fault.{error_line}

-- a number of moves, or that there is none
abbrev pub mate_line : Option ℕ → List ℕ
mate_line (Some k) = codes "mate " ++ decimal k ++ codes "\n"
mate_line None = codes "none\n"

-- the least number of moves within which the game is won, or why the game is not asked
abbrev pub SaysMateCount : Result (Option ℕ) PnFault → ℕ → List ℕ → Type 0
SaysMateCount (Ok least) status text = (status ≡ 0) × (text ≡ mate_line least)
SaysMateCount (Err fault) status text = (status ≡ 3) × (text ≡ error_line (pn_fault_text fault))

-- that of a game, or the fault of the text that says none
abbrev pub SaysMateOf : ℕ → Result Played GameFault → ℕ → List ℕ → Type 0
SaysMateOf n (Ok g) status text = SaysMateCount (mate_count g.rules n (story g)) status text
SaysMateOf n (Err fault) status text = (status ≡ 3) × (text ≡ error_line (game.fault_text fault))

-- the answer to an input with these lines, where there are these variants
abbrev pub SaysPnMate : ℕ → List Named → List Line → ℕ → List ℕ → Type 0
SaysPnMate n variants input status text = SaysMateOf n (game_of variants input) status text
