use Rattle.std.proofs.Common.{◌≡◌, [], refl, rules}
use Rattle.variant_ini.specs.FirstPlaces.{FindsFirst}
use Rattle.variant_ini.specs.OptionValue.{first_named}
use Rattle.variant_ini.proofs.names.names_of.Goals as goal

pub returns : goal.returns
unfolding first_named
returns c =
    let none : FindsFirst c.new-names.result [] = search rules in
    c.in_ok-add_names-2.ensures c.args.kept.now refl (c.in_ok-add_names.ensures [] refl none)
