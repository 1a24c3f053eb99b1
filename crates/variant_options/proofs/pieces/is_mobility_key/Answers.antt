use Rattle.std.proofs.Common.{ℕ, Bool, List, Option, sym, ap, ◌∙◌}
use Rattle.std.specs.List.{list_any}
use Rattle.variant_options.specs.Options.{is_region_key, region_keys}
use Rattle.variant_options.specs.PieceTable.{pieces}
use Rattle.variant_options.specs.PieceView.{key_pair}
use Rattle.variant_options.proofs.FindLemmas.{list_any-map}
use Rattle.variant_options.proofs.pieces.is_mobility_key.Goals as goal

pub returns : goal.returns
returns c =
    let is_key : Option (List ℕ × List ℕ) → Bool = λ keys. is_region_key keys c.args.key.now in
    c.some_region_key.ensures
    ∙ sym (list_any-map key_pair is_key c.region_keys.result.now)
    ∙ ap (list_any is_key) c.region_keys.ensures.rows
    ∙ list_any-map region_keys is_key pieces
