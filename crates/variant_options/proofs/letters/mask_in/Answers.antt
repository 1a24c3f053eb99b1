use Rattle.std.proofs.Common.{false, rules}
use Rattle.std.specs.List.{list_any}
use Rattle.std.proofs.lemmas.List.FromFn.{fill_by_all}
use Rattle.rules_model.specs.Kinds.{names}
use Rattle.variant_options.specs.Letters.{kind, letter_of}
use Rattle.variant_options.proofs.letters.mask_in.Goals as goal

pub returns : goal.returns
returns c = fill_by_all (λ k. list_any (λ b. names (letter_of b) (kind k)) c.args.bytes.now) c.loop-k.mask 26 false c.loop-k.invariant.0 (search rules)
