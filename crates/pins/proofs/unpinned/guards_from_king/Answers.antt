use Rattle.std.proofs.Common.{◌≡◌, true, false, ap, sym, ◌∙◌}
use Rattle.std.proofs.lemmas.Bool.{and_right}
use Rattle.rules_model.specs.Attacks.{is_own_king}
use Rattle.rules_model.specs.Squares.{cell_at}
use Rattle.move_tables.specs.declared.line.Passage.TheVariants.{Slide}
use Rattle.move_tables.specs.Lines.{on_line}
use Rattle.attack_tables.specs.Sights.{sees}
use Rattle.attack_tables.proofs.AttackLaws.{faces_seen, not_facing}
use Rattle.pins.proofs.GuardLaws.{neither}
use Rattle.pins.proofs.unpinned.guards_from_king.Goals as goal

pub returns-then-not-is_own_king : goal.returns-then-not-is_own_king
returns-then-not-is_own_king c = λ leave to moved board l out gone is same own.
    let none : is_own_king c.args.tables.now c.args.by (cell_at board c.args.from) ≡ false =
    ap (is_own_king c.args.tables.now c.args.by) (same ∙ sym c.cell_on.ensures) ∙ ap (λ r. is_own_king r c.args.by c.cell_on.result) (sym c.rules-rules.ensures.is) ∙ sym c.is_own_king.ensures ∙ c.if-not-is_own_king.true in
    not_facing c.args.tables.now board c.args.by c.args.king.0 c.args.from none

pub returns : goal.returns
returns c = λ leave to moved board l out gone is same own.
    let sight = c.sight-sight.result in
    let up = on_line (record { squares = sight.above; rising = true; passage = Slide }) moved c.args.from in
    let down = on_line (record { squares = sight.below; rising = false; passage = Slide }) moved c.args.from in
    let unseen = neither up down (rw (c.slide.ensures, c.slide-2.ensures) at c.along.ensures leave to moved l out gone) in
    faces_seen c.args.tables.now board c.args.by c.args.king.0 moved is c.requires.king sight c.sight-sight.ensures own c.args.from c.requires.from
    ∙ and_right (is_own_king c.args.tables.now c.args.by (cell_at board c.args.from)) (sees sight moved c.args.from) unseen
