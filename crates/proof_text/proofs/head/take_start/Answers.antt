use Rattle.std.proofs.Common.{◌+◌, arith, rules}
use Rattle.fen_model.specs.Reading.{fen_of}
use Rattle.proof_text.specs.declared.fault.ProofFault.TheVariants.{Header}
use Rattle.proof_text.specs.Reading.{history_on, start_on, with_start}
use Rattle.proof_text.specs.Words.{start_said}
use Rattle.proof_text.proofs.ReadingLemmas.{reads-on, starts-read, text-bad, text-goes}
use Rattle.proof_text.proofs.head.take_start.Goals as goal

pub returns-in-Some-clause-reads : goal.returns-in-Some-clause-reads
unfolding start_on
returns-in-Some-clause-reads g c =
    let r = c.args.rules.now in
    let goes = text-goes (Header c.args.number) start_said (λ fen. with_start c.args.number r (fen_of r fen)) _ _ c.take_text.new.line c.in_ok-is_there.is_there c.in-Some.fen.now c.in_ok-is_there.ensures.takes (search rules) in
    reads-on _ _ _ _ _ (λ game. history_on (c.args.number + 1) game) c.started.result goes (starts-read _ c.args.number r (fen_of r c.in-Some.fen.now) c.started.result c.started.ensures.starts)

pub returns-in-Some-clause-cause : goal.returns-in-Some-clause-cause
returns-in-Some-clause-cause g c = record { later = omega arith; failed = λ unread. absurd (c.started.ensures.heard unread) }

pub returns-in-None-clause-reads : goal.returns-in-None-clause-reads
unfolding start_on
returns-in-None-clause-reads g c =
    let r = c.args.rules.now in
    text-bad (Header c.args.number) start_said (λ fen. with_start c.args.number r (fen_of r fen)) _ _ c.take_text.new.line c.in_ok-is_there.is_there c.in_ok-is_there.ensures.takes (search rules)
