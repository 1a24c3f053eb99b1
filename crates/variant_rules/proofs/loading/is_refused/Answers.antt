use Rattle.std.proofs.Common.{is_err, sym, ap, ◌∙◌}
use Rattle.variant_rules.proofs.EntryLemmas.{entry_read, is_err-lent}
use Rattle.variant_rules.proofs.loading.is_refused.Goals as goal

pub returns : goal.returns
returns c =
    c.is_err.ensures.value
    ∙ sym (is_err-lent c.entry.result)
    ∙ ap is_err (c.entry.ensures.is ∙ entry_read c.args.above.now c.args.place c.index-above-place.result c.requires c.index-above-place.is)
