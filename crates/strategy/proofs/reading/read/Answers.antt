use Rattle.std.proofs.Common.{◌≡◌, ◌<◌, length, sym, subst, arith}
use Rattle.std.proofs.lemmas.Grind.{common_steps}
use Rattle.std.proofs.lemmas.List.{nil_from_length}
use Rattle.std.proofs.lemmas.Result.{err_from_is_err_and}
use Rattle.strategy.specs.declared.reader.Reader.{Reader}
use Rattle.strategy.specs.Reading.{AreSound}
use Rattle.strategy.proofs.SoundLemmas.{none-sound}
use Rattle.strategy.proofs.ReadLemmas.{stands-fault, stands-first, stands-last, stands-next}
use Rattle.strategy.proofs.reading.read.Goals as goal

pub loop-rest-init : goal.loop-rest-init
loop-rest-init c = record {
  sound = subst (λ (b : Reader). AreSound c.args.rules.now b.nodes) (sym c.new-reader.ensures) (none-sound c.args.rules.now);
  stands = stands-first c.args.rules.now c.args.text.now c.new-reader.result c.new-reader.ensures;
}

pub loop-rest-preserved : goal.loop-rest-preserved
loop-rest-preserved c =
    let some : 0 < length c.loop-rest.rest.now = grind (arith, common_steps) in
    record {
      sound = c.take_line.ensures.sound;
      stands = stands-next c.args.rules.now c.args.text.now c.loop-rest.reader c.take_line.new.self c.loop-rest.rest.now c.cut_line.result.0.now c.cut_line.result.1.now c.loop-rest.invariant.stands some c.cut_line.ensures.line c.cut_line.ensures.rest c.in_ok-take_line.ensures.takes;
    }

pub returns-in_err-take_line-clause-answer : goal.returns-in_err-take_line-clause-answer
returns-in_err-take_line-clause-answer c =
    let some : 0 < length c.loop-rest.rest.now = grind (arith, common_steps) in
    let p = err_from_is_err_and c.from_residual.result c.from_residual.ensures.1 in
    rw (p.1, p.2) (stands-fault c.args.rules.now c.args.text.now c.loop-rest.reader c.loop-rest.rest.now c.cut_line.result.0.now c.cut_line.result.1.now _ c.loop-rest.invariant.stands some c.cut_line.ensures.line c.cut_line.ensures.rest c.in_err-take_line.ensures.takes.1)

pub returns-clause-answer : goal.returns-clause-answer
returns-clause-answer c =
    let none : length c.loop-rest.rest.now ≡ 0 = grind (arith, common_steps) in
    stands-last c.args.rules.now c.args.text.now c.loop-rest.reader c.loop-rest.rest.now c.finish.result c.loop-rest.invariant.stands (nil_from_length c.loop-rest.rest.now none) c.finish.ensures
