use Rattle.std.proofs.Common.{false, rules}
use Rattle.std.proofs.lemmas.List.FromFn.{fill_by_all}
use Rattle.rules_model.specs.Kinds.{names}
use Rattle.variant_options.specs.Letters.{kind}
use Rattle.variant_options.proofs.letters.mask_of.Goals as goal

pub returns : goal.returns
returns c = fill_by_all (λ k. names c.args.named (kind k)) c.loop-k.mask 26 false c.loop-k.invariant.0 (search rules)
