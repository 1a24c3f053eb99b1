use Rattle.std.proofs.Common.{◌≡◌, ◌++◌, ◌+◌, length, sym, ap, ◌∙◌, take, option_and_then}
use Rattle.std.proofs.Math.Seq.{take-append-add}
use Rattle.variant_ini.specs.OptionValue.{first_named}
use Rattle.variant_ini.proofs.ParentLaws.{parent_place_behind}
use Rattle.variant_ini.proofs.parents.parent_place.Goals as goal

pub returns-in_err-parent : goal.returns-in_err-parent
returns-in_err-parent c =
    c.from_residual.ensures
    ∙ ap (option_and_then (first_named (c.args.kept.now ++ take c.args.place c.args.new.now))) c.in_err-parent.ensures
    ∙ sym (parent_place_behind c.args.kept.now c.args.new.now c.args.place c.index-new-place.result c.requires.place c.index-new-place.is)

pub returns : goal.returns
returns c =
    c.first_above.ensures (c.args.kept.now ++ c.args.new.now) c.requires.names
    ∙ ap (λ above. first_named above c.in_ok-parent.field-0.now) (take-append-add c.args.kept.now c.args.new.now c.args.place)
    ∙ ap (option_and_then (first_named (c.args.kept.now ++ take c.args.place c.args.new.now))) c.in_ok-parent.ensures
    ∙ sym (parent_place_behind c.args.kept.now c.args.new.now c.args.place c.index-new-place.result c.requires.place c.index-new-place.is)
