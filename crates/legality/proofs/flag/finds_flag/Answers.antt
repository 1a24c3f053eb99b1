use Rattle.std.proofs.Common.{ap, sym, ◌∙◌}
use Rattle.rules_model.specs.Attacks.{is_own}
use Rattle.rules_model.specs.Kinds.{names}
use Rattle.legality.proofs.FlagLaws.{flag_elsewhere, flag_nowhere, flag_there}
use Rattle.legality.proofs.flag.finds_flag.Goals as goal

pub returns-then-is_flag_piece : goal.returns-then-is_flag_piece
returns-then-is_flag_piece c =
    let here = c.in-Some.ensures.some.member in
    let may = c.loop-at.invariant in
    let is = ap (is_own c.args.side (names c.args.rules.now.flag_kind)) (sym c.cell_on.ensures) ∙ sym c.is_flag_piece.ensures ∙ c.if-is_flag_piece.true in
    sym (flag_there c.args.rules.now c.args.cells.now c.args.side c.in-Some.at (may.on_board _ here) is (may.region _ here))

pub loop-at-preserved : goal.loop-at-preserved
loop-at-preserved c =
    let is = ap (is_own c.args.side (names c.args.rules.now.flag_kind)) (sym c.cell_on.ensures) ∙ sym c.is_flag_piece.ensures ∙ c.if-is_flag_piece.false in
    flag_elsewhere c.args.rules.now c.args.cells.now c.args.side _ c.in-Some.at _ c.loop-at.invariant c.in-Some.ensures.rest is

pub returns : goal.returns
returns c = sym (flag_nowhere c.args.rules.now c.args.cells.now c.args.side _ c.loop-at.invariant c.in_default.ensures.none)
