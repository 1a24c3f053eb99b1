use Rattle.std.proofs.Common.{◌/◌, length, sym, ◌∙◌, arith}
use Rattle.foundation.proofs.CountLemmas.{any_below-true}
use Rattle.betza_text.specs.Steps.{is_pair_to}
use Rattle.betza_text.proofs.steps.has_pair_to.Goals as goal

pub returns-then-is_pair_to : goal.returns-then-is_pair_to
returns-then-is_pair_to c =
    sym (any_below-true (is_pair_to c.args.shape c.args.letters.now c.args.step) (length c.args.letters.now / 2) c.loop-k.k (omega arith) (sym c.is_pair_to.ensures ∙ c.if-is_pair_to.true))
