use Rattle.std.proofs.Common.{◌≡◌, true, false, ap, sym, ◌∙◌}
use Rattle.square_set.specs.Members.{has}
use Rattle.move_tables.specs.Lines.{on_line}
use Rattle.pins.proofs.GuardLaws.{grass_guarded, hop_guarded, slide_guarded}
use Rattle.pins.proofs.guards.line_guards.Goals as goal

pub returns-in-Slide : goal.returns-in-Slide
returns-in-Slide c = λ from to new l out moved.
    let on : has c.args.line.squares c.args.target ≡ true = sym c.has.ensures ∙ c.if-not-has.false in
    let no : on_line c.args.line c.args.occupied c.args.target ≡ false = sym (c.reach.ensures c.args.target c.requires) ∙ sym c.has-2.ensures ∙ c.if-has.false in
    slide_guarded c.args.line c.args.occupied new from to c.args.target moved c.requires l c.blockers-blockers.result c.blockers-blockers.ensures on no c.in-Slide.is (λ le. sym (ap (λ s. has s from) (c.at_most.ensures.few le)) ∙ out)

pub returns-in-Hop : goal.returns-in-Hop
returns-in-Hop c = λ from to new l out moved.
    let on : has c.args.line.squares c.args.target ≡ true = sym c.has.ensures ∙ c.if-not-has.false in
    let no : on_line c.args.line c.args.occupied c.args.target ≡ false = sym (c.reach.ensures c.args.target c.requires) ∙ sym c.has-2.ensures ∙ c.if-has.false in
    hop_guarded c.args.line c.args.occupied new from to c.args.target moved c.requires l c.blockers-blockers.result c.blockers-blockers.ensures on no c.in-Hop.is (c.screens.ensures from l out)

pub returns-in-Grass : goal.returns-in-Grass
returns-in-Grass c = λ from to new l out moved.
    let on : has c.args.line.squares c.args.target ≡ true = sym c.has.ensures ∙ c.if-not-has.false in
    let no : on_line c.args.line c.args.occupied c.args.target ≡ false = sym (c.reach.ensures c.args.target c.requires) ∙ sym c.has-2.ensures ∙ c.if-has.false in
    grass_guarded c.args.line c.args.occupied new from to c.args.target moved c.requires l c.blockers-blockers.result c.blockers-blockers.ensures on no c.in-Grass.is (c.screens-in-Grass.ensures from l out)
