-- Frames in which the attacker never wins.
use Rattle.std.specs.Prelude.{◌≡◌, false}
use Rattle.forced_wins.specs.declared.fact.Fact.{Fact}
use Rattle.mate_core.specs.declared.frame.Frame.{Frame}
use Rattle.mate_core.specs.Runs.{IsTrueIn}

-- every fact that refutes is true
abbrev pub RefutesAll : Frame → Type 0
RefutesAll frame = (f : Fact) → f.wins ≡ false → IsTrueIn frame f
