use Rattle.std.proofs.Common.{subst}
use Rattle.std.specs.Prelude.{OnOk}
use Rattle.foundation.specs.Member.{Appends, Member}
use Rattle.legality.specs.Stance.{Stance, legal_in}
use Rattle.playing.proofs.board.Board.push_legal.Goals as goal

pub returns-clause-ok : goal.returns-clause-ok
returns-clause-ok c =
    let At : Stance → Type 0 = λ s. OnOk c.push_legal.result (Appends (λ m. Member m (legal_in s)) c.args.out.now c.push_legal.new.out) in
    subst At c.known.ensures c.push_legal.ensures.ok
