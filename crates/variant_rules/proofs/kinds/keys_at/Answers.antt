use Rattle.std.proofs.Common.{[], None, get_or, sym, ap, ◌∙◌, arith}
use Rattle.std.proofs.lemmas.List.{get_or-map}
use Rattle.variant_options.specs.Options.{region_keys}
use Rattle.variant_options.specs.PieceTable.{pieces, wordless}
use Rattle.variant_options.specs.PieceView.{key_pair}
use Rattle.variant_rules.proofs.kinds.keys_at.Goals as goal

pub returns : goal.returns
returns c =
    sym (get_or-map key_pair c.region_keys-table.result.now c.args.place _ None (omega (arith, c.requires, c.region_keys-table.ensures.count)))
    ∙ ap (λ keys. get_or keys c.args.place None) c.region_keys-table.ensures.rows
    ∙ get_or-map region_keys pieces c.args.place (wordless []) None c.requires
