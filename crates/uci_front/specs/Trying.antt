-- What `go mate` comes to after a mate was looked for.
use Rattle.std.specs.Prelude.{Option, Some, None}
use Rattle.rules_model.specs.declared.moves.Move.{Move}
use Rattle.thinking.specs.declared.mates.MateAttempt.{MateAttempt}
use Rattle.thinking.specs.declared.mates.MateAttempt.TheVariants as tried
use Rattle.uci_front.specs.declared.searching.GoResult.{GoResult}

-- The mate that is shown; or the first legal move, where a solve was cut; or depth 1 is searched.
abbrev pub came_by : Move → MateAttempt → Option GoResult
came_by first (tried.Shown n s best) =
    Some (record { best = Some best; kept = Some (record { strategy = s; moves = n }); why = None })
came_by first (tried.Stopped n why) = Some (record { best = Some first; kept = None; why = Some why })
came_by first (tried.Unsettled n e) = None
came_by first tried.NoMate = None
