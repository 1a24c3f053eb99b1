-- That facts are true is shown in one way only, so that a type may carry it.
use Rattle.std.specs.Prelude.{List, Bool, true, false, slice_index_or}
use mathlib.Core.Bool.{Bool-set}
use mathlib.Core.HLevel.{Π_prop}
use Rattle.rules_model.specs.declared.board.Repeat.{Repeat}
use Rattle.rules_model.specs.declared.board.Side.{Side}
use Rattle.rules_model.specs.declared.rules.Rules.{Rules}
use Rattle.forced_wins.specs.declared.fact.Fact.{Fact}
use Rattle.forced_wins.specs.Facts.{Says}
use Rattle.mate_core.specs.declared.frame.Frame.{Frame}
use Rattle.mate_core.specs.Runs.{AreTrueIn}

pub Says-prop : (rules : Rules) (barred : List Repeat) (a : Side) (f : Fact) (wins : Bool)
    → IsProp (Says rules barred a f wins)
Says-prop rules barred a f true = Π_prop (λ q. Π_prop (λ same. Π_prop (λ low. Bool-set _ _)))
Says-prop rules barred a f false = Π_prop (λ q. Π_prop (λ same. Π_prop (λ high. Bool-set _ _)))

pub AreTrueIn-prop : (frame : Frame) (fs : List Fact) → IsProp (AreTrueIn frame fs)
AreTrueIn-prop frame fs =
    Π_prop (λ k. Π_prop (λ d. Π_prop
    (λ l. Says-prop frame.rules frame.blocked frame.attacker (slice_index_or fs k d) (slice_index_or fs k d).wins)))
