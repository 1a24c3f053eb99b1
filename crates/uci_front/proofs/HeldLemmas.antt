-- The line that a search heard last, which is held, and what a fault leaves.
use Rattle.std.proofs.Common.{◌≡◌, ℕ, List, [], true, Option, Some, None, refl}
use Rattle.std.specs.Prelude.{Result, Ok, Err, OnErr}
use Rattle.io_ports.specs.declared.dialect.Dialect.TheVariants.{Uci}
use Rattle.io_ports.specs.Heard.{stops}
use Rattle.io_ports.specs.Lines.{Text}
use Rattle.session_model.specs.Events.{IsStopped}
use Rattle.session_model.specs.Lines.{Follows}
use Rattle.watching.specs.declared.halt.Cut.{Cut}
use Rattle.watching.specs.declared.halt.Cut.TheVariants as cut
use Rattle.watching.specs.Looks.{held}

-- the line that is held follows
pub held_follows : (why : Option Cut) (text : List ℕ) → Follows why text (held why text)
held_follows None text = tt
held_follows (Some cut.Line) text = ([], refl)
held_follows (Some cut.End) text = refl
held_follows (Some (cut.Quota quota)) text = tt
held_follows (Some (cut.Deadline reading)) text = tt

pub held_stopped : (why : Option Cut) (text : List ℕ) → (why ≡ Some cut.Line → stops Uci (Text text) ≡ true) → IsStopped Uci (held why text)
held_stopped None text stops = tt
held_stopped (Some cut.Line) text stops = stops refl
held_stopped (Some cut.End) text stops = tt
held_stopped (Some (cut.Quota quota)) text stops = tt
held_stopped (Some (cut.Deadline reading)) text stops = tt

pub on_err : {T E X : Type 0} (r : Result T E) → X → OnErr r X
on_err (Ok x) h = tt
on_err (Err why) h = h
