-- What the code answers of the game text that a command reads, as the definitions have it.
use Rattle.std.specs.Prelude.{◌≡◌, Result, Ok, Err, ⊤}
use Rattle.game_play.specs.Played.{Played}
use Rattle.game_text.specs.declared.fault.GameFault.{GameFault}
use Rattle.one_shot_checks.specs.declared.fault.Fault.{Fault}
use Rattle.one_shot_checks.specs.declared.fault.Fault.TheVariants.{Game}
use Rattle.one_shot_checks.specs.declared.no_answer.NoAnswer.{NoAnswer}
use Rattle.one_shot_checks.specs.declared.no_answer.NoAnswer.TheVariants as no_answer
use Rattle.one_shot_checks.specs.declared.stop.Stop.TheVariants as stop

-- the game text has this fault
pub record IsGameFault (said : Result Played GameFault) (fault : Fault) : Type 0 where
  pub why : GameFault
  pub has : said ≡ Err why
  pub is : fault ≡ Game why

-- the game text says this game, or has this fault; where the run was cut short nothing is known of it
abbrev pub SaysGame : Result Played GameFault → Result Played NoAnswer → Type 0
SaysGame said (Ok g) = said ≡ Ok g
SaysGame said (Err no_answer.Usage) = ⊥
SaysGame said (Err (no_answer.Fault fault)) = IsGameFault said fault
SaysGame said (Err (no_answer.Stop stop.Source)) = ⊤
SaysGame said (Err (no_answer.Stop stop.Sink)) = ⊥
SaysGame said (Err (no_answer.Stop stop.Memory)) = ⊤
