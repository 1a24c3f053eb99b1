-- Which moves are tried as the attacker's last.
use Rattle.std.specs.Prelude.{◌≡◌, true, Option, Some, None, List}
use Rattle.foundation.specs.Member.{Member, Lists}
use Rattle.rules_model.specs.declared.board.Position.{Position}
use Rattle.rules_model.specs.declared.moves.Move.{Move}
use Rattle.rules_model.specs.Next.{next}
use Rattle.legality.specs.Stance.{Stance, legal_in}
use Rattle.check_moves.specs.declared.checks.Checks.{Checks}
use Rattle.check_moves.specs.Listing.{ListsChecks}
use Rattle.mate_core.specs.declared.frame.Frame.{Frame}
use Rattle.mate_fact.specs.InFrame as In

-- each that gives check, where the checks are known, and else all
abbrev pub AreTried : Stance → Option Checks → List Move → Type 0
AreTried s None ms = Lists (λ m. Member m (legal_in s)) ms
AreTried s (Some checks) ms = ListsChecks s ms

-- legal moves, and among them each that wins at once
pub record HoldsWins (f : Frame) (p : Position) (ms : List Move) : Type 0 where
  pub sound : (m : Move) → Member m ms → Member m (In.legal_in f p)
  pub complete : (m : Move) → Member m (In.legal_in f p) → In.near_in f 0 (next f.rules p m) ≡ true → Member m ms
