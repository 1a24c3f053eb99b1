-- Within how many moves the side that is to move wins a game, or why the game is not asked, and how the reason prints.
use Rattle.std.specs.Prelude.{ℕ, List, Option, Result, Ok, Err, not, codes, if◌then◌else◌}
use Rattle.rules_model.specs.declared.rules.Rules.{Rules}
use Rattle.rules_model.specs.Ends.{is_ongoing}
use Rattle.rules_model.specs.Games.{Story, result}
use Rattle.mate_search.specs.Least.{is_counted, least}
use Rattle.pn_search.specs.declared.fault.PnFault.{PnFault}
use Rattle.pn_search.specs.declared.fault.PnFault.TheVariants.{NearCount, Ended}

-- A game that is not ongoing is not asked, and then one that the move-count rule could end within n moves.
unfoldable pub mate_count : Rules → ℕ → Story → Result (Option ℕ) PnFault
mate_count rules n g =
    if not (is_ongoing (result rules g)) then Err Ended else
    if is_counted rules n g.last then Err NearCount else
    Ok (least rules n g)

-- the type's name, the fault's number and its name
abbrev pub pn_fault_text : PnFault → List ℕ
pn_fault_text NearCount = codes "PnFault 1 NearCount"
pn_fault_text Ended = codes "PnFault 2 Ended"
