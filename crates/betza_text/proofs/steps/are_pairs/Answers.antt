use Rattle.std.proofs.Common.{◌≡◌, ◌&&◌, ◌/◌, Bool, true, false, not, length, sym, ◌∙◌, arith}
use Rattle.foundation.specs.Count.{any_below}
use Rattle.foundation.proofs.CountLemmas.{any_below-true}
use Rattle.betza_text.specs.Steps.{are_pairs, is_bad_pair}
use Rattle.betza_text.proofs.steps.are_pairs.Goals as goal

and_not : (a b : Bool) → b ≡ true → false ≡ (a && not b)
and_not a true h = grind arith
and_not a false h = cc

pub returns-then-is_bad_pair : goal.returns-then-is_bad_pair
unfolding are_pairs
returns-then-is_bad_pair c =
    and_not _ (any_below (is_bad_pair c.args.shape c.args.letters.now) (length c.args.letters.now / 2)) (any_below-true (is_bad_pair c.args.shape c.args.letters.now) (length c.args.letters.now / 2) c.loop-k.k (omega arith) (sym c.is_bad_pair.ensures ∙ c.if-is_bad_pair.true))
