use Rattle.std.proofs.Common.{◌+◌, arith}
use Rattle.proof_text.specs.declared.fault.ProofFault.TheVariants.{BadHistory}
use Rattle.proof_text.specs.Reading.{moves_on, played_by}
use Rattle.proof_text.proofs.ReadingLemmas.{reads-unit}
use Rattle.proof_text.proofs.history.take_move.Goals as goal

pub returns-clause-reads : goal.returns-clause-reads
unfolding moves_on
returns-clause-reads g c = λ count.
    reads-unit (BadHistory c.args.number) (played_by c.args.game.now) (moves_on count (c.args.number + 1)) _ _ c.take_text.new.line c.in_ok-is_there.is_there _ c.play_text.new.game c.play_text.result
    c.in_ok-is_there.ensures.takes c.text_if.ensures c.play_text.ensures.says c.play_text.ensures.heard

pub returns-clause-cause : goal.returns-clause-cause
returns-clause-cause g c = record { later = omega arith; failed = λ unread. absurd (c.play_text.ensures.heard unread) }
