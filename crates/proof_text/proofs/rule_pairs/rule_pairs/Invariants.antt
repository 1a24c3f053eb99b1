use Rattle.std.proofs.Common.{◌≡◌, map, take}
use Rattle.std.specs.List.{flat_map}
use Rattle.variant_ini.specs.LineView.{pair_view}
use Rattle.variant_options.specs.Keys.{ordered_keys}
use Rattle.variant_model.specs.Told.{told_of}
use Rattle.proof_text.proofs.rule_pairs.rule_pairs.Given as goal

abbrev pub invariant-loop-place : goal.invariant-loop-place
invariant-loop-place l =
    map pair_view l.pairs.items ≡ flat_map (told_of l.sections l.section) (take l.place ordered_keys)
