use Rattle.std.proofs.Common.{rules, ◌≡◌, sym, ap, ◌∙◌}
use Rattle.std.specs.Option.{option_copied}
use Rattle.variant_ini.proofs.IndexLaws.{found_at}
use Rattle.variant_ini.proofs.NameLaws.{FindsFirst-put, FindsFirst-kept}
use Rattle.variant_ini.proofs.names.add_name.Goals as goal

pub returns-in-Some : goal.returns-in-Some
returns-in-Some c = λ before at finds.
    FindsFirst-kept before c.args.section.now c.args.names.now c.in-Some._first.now
    (ap (found_at c.args.names.now) (sym c.name.ensures) ∙ sym c.get.ensures.value ∙ ap option_copied c.in-Some.is)
    finds

pub returns : goal.returns
returns c = λ before at finds.
    let key_is : c.in_ok-name.name.items ≡ c.args.section.now.name = search rules in
    FindsFirst-put before c.args.section.now c.in_ok-name.name c.args.place c.args.names.now c.insert.new.self
    key_is (sym at)
    (ap (found_at c.args.names.now) (sym c.name.ensures) ∙ sym c.in_default.ensures.value)
    finds c.in_ok-insert.ensures.updates
