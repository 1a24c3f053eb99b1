use Rattle.std.proofs.Common.{◌≡◌, drop}
use Rattle.std.specs.Prelude.{max}
use Rattle.cert_text.specs.Writing.{greatest_ply}
use Rattle.cert_text.proofs.writing.greatest_ply.Given as goal

abbrev pub invariant-loop-s : goal.invariant-loop-s
invariant-loop-s l = max l.greatest (greatest_ply (drop l.s-index l.steps)) ≡ greatest_ply l.steps
