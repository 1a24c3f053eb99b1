use Rattle.std.proofs.Common.{◌≡◌, Some, None, false, get_or, sym, ap, ◌∙◌, arith}
use Rattle.std.specs.Option.{option_copied}
use Rattle.variant_ini.specs.Classes.{class_of}
use Rattle.variant_ini.specs.LastPlaces.{last_place}
use Rattle.variant_ini.proofs.IndexLaws.{last_value_none, last_value_at}
use Rattle.variant_ini.proofs.section.IndexedSection.last_value.Goals as goal

pub returns-then-not-self-class : goal.returns-then-not-self-class
returns-then-not-self-class c =
    let unmarked : get_or c.self.inside.marks (class_of c.args.key.now) false ≡ false = ap (λ class. get_or c.self.inside.marks class false) (sym c.requires.class) ∙ c.if-not-self-class.true in
    rw (← c.self.view_is) (sym (last_value_none c.self.inside.lines.items c.args.key.now (c.self.invariant.1 c.args.key.now unmarked)))

pub returns-in_err-place : goal.returns-in_err-place
returns-in_err-place c =
    let none : last_place c.self.inside.lines.items c.args.key.now ≡ None = sym (c.self.invariant.0 c.args.key.now) ∙ sym c.get.ensures.value ∙ ap option_copied c.in_err-place.was in
    rw (c.from_residual.ensures, ← c.self.view_is) (sym (last_value_none _ _ none))

pub index-line-requires : goal.index-line-requires
index-line-requires c =
    let place_is : last_place c.self.inside.lines.items c.args.key.now ≡ Some c.in_ok-place.field-0.now = sym (c.self.invariant.0 c.args.key.now) ∙ sym c.get.ensures.value ∙ ap option_copied c.in_ok-place.was in
    omega (arith, (last_value_at c.self.inside.lines.items c.args.key.now c.in_ok-place.field-0.now place_is).0, c.self.inside.lines.ok.0)

pub returns : goal.returns
returns c =
    let place_is : last_place c.self.inside.lines.items c.args.key.now ≡ Some c.in_ok-place.field-0.now = sym (c.self.invariant.0 c.args.key.now) ∙ sym c.get.ensures.value ∙ ap option_copied c.in_ok-place.was in
    rw (← c.self.view_is)
    (ap Some (c.as_slice.ensures.value ∙ c.value.view_is ∙ ap (λ l. l.value) c.index-line.ensures) ∙ sym ((last_value_at _ _ _ place_is).1 c.index-line.result.now))
