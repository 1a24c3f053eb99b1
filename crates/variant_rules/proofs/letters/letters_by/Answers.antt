use Rattle.std.proofs.Common.{None, get_or, rules}
use Rattle.std.proofs.lemmas.List.FromFn.{fill_by_all}
use Rattle.variant_rules.specs.Letters.{letter_by}
use Rattle.variant_rules.proofs.letters.letters_by.Goals as goal

pub returns : goal.returns
returns c = fill_by_all (λ k. letter_by (get_or c.args.own.now k None) (get_or c.args.inherited.now k None) c.args.own.now) c.loop-i.letters 56 None c.loop-i.invariant.0 (search rules)
