use Rattle.std.proofs.Common.{subst}
use Rattle.std.specs.Prelude.{OnOk}
use Rattle.foundation.specs.Member.{Appends}
use Rattle.legality.specs.Asking.{IsAskedIn}
use Rattle.legality.specs.Stance.{Stance}
use Rattle.playing.proofs.board.Board.push_asked.Goals as goal

pub returns-clause-ok : goal.returns-clause-ok
returns-clause-ok c =
    let At : Stance → Type 0 = λ s. OnOk c.push_asked.result (Appends (IsAskedIn c.args.asked.now s) c.args.out.now c.push_asked.new.out) in
    subst At c.known.ensures c.push_asked.ensures.ok
