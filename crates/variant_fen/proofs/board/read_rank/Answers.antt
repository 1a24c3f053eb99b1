use Rattle.std.proofs.Common.{◌≡◌, ◌==◌, true, false, None, Some, [], ◌∷◌, refl, sym, ap, ◌∙◌, arith, take}
use Rattle.std.proofs.lemmas.Bool.{eq-eqb, ne_eqb}
use Rattle.std.specs.List.{prefix_len}
use Rattle.foundation.specs.Numbers.{is_digit, begins_with_zero}
use Rattle.variant_fen.proofs.RowLemmas.{ended_none, step_run, step_zero, step_put, step_bad, step_end, free_after, same_after, no_bytes}
use Rattle.variant_fen.proofs.board.read_rank.Goals as goal

pub loop-first-init : goal.loop-first-init
loop-first-init c = record {
  said = ended_none c.args.rules.now c.args.cells.now c.args.rank c.args.text.now;
  free = c.requires.empty;
  others = λ s differs. refl;
}

pub loop-first-preserved-then-is_digit : goal.loop-first-preserved-then-is_digit
loop-first-preserved-then-is_digit c =
    let left = c.loop-first.left.now in
    let first : left ≡ c.in-Some.first.now ∷ c.in-Some.field-0-1.now = c.in-Some.ensures.cases.0 in
    let digit : is_digit c.in-Some.first.now ≡ true = sym c.is_digit.ensures ∙ c.if-is_digit.true in
    let zero : begins_with_zero (take (prefix_len is_digit left) left) ≡ false = ap begins_with_zero (sym c.cut_run.ensures.run) ∙ sym c.begins_with_zero.ensures ∙ c.if-begins_with_zero.false in
    let step = step_run c.args.rules.now c.loop-first.cells c.args.rank c.loop-first.file c.in-Some.first.now c.in-Some.field-0-1.now left c.requires.fit.files_most c.loop-first.invariant.free first digit zero in
    record {
      said = c.loop-first.invariant.said ∙ cc (step, c.cut_run.ensures.run, c.cut_run.ensures.rest, c.value.ensures, c.saturating_add-file.ensures);
      free = λ f from below. c.loop-first.invariant.free f (omega arith) below;
      others = c.loop-first.invariant.others;
    }

pub loop-first-preserved : goal.loop-first-preserved
loop-first-preserved c =
    let step = step_put c.args.rules.now c.loop-first.cells c.args.rank c.loop-first.file c.loop-first.left.now c.in-Some-cut_piece.rest.now c.in-Some-cut_piece.cell c.requires.fit.files_most c.requires.rank c.put.ensures.long c.in-Some-cut_piece.ensures.said in
    record {
      said = c.loop-first.invariant.said ∙ cc (step, c.put.ensures.is, c.saturating_add-file-else-is_digit.ensures);
      free = free_after c.args.rules.now c.loop-first.cells c.put.new.cells c.args.rank c.loop-first.file _ _ c.put.ensures.is c.saturating_add-file-else-is_digit.ensures c.loop-first.invariant.free;
      others = same_after c.args.rules.now c.args.cells.now c.loop-first.cells c.put.new.cells c.args.rank c.loop-first.file _ c.put.ensures.is c.requires.fit.files_most c.loop-first.invariant.others;
    }

pub returns-then-begins_with_zero-clause-row : goal.returns-then-begins_with_zero-clause-row
returns-then-begins_with_zero-clause-row c =
    let left = c.loop-first.left.now in
    let digit : is_digit c.in-Some.first.now ≡ true = sym c.is_digit.ensures ∙ c.if-is_digit.true in
    let zero : begins_with_zero (take (prefix_len is_digit left) left) ≡ true = ap begins_with_zero (sym c.cut_run.ensures.run) ∙ sym c.begins_with_zero.ensures ∙ c.if-begins_with_zero.true in
    c.loop-first.invariant.said ∙ step_zero c.args.rules.now c.loop-first.cells c.args.rank c.loop-first.file c.in-Some.first.now c.in-Some.field-0-1.now left c.in-Some.ensures.cases.0 digit zero

pub returns-in_default-cut_piece-clause-row : goal.returns-in_default-cut_piece-clause-row
returns-in_default-cut_piece-clause-row c =
    c.loop-first.invariant.said ∙ step_bad c.args.rules.now c.loop-first.cells c.args.rank c.loop-first.file c.loop-first.left.now c.in_default-cut_piece.ensures.fault

pub returns-then-file-from-clause-row : goal.returns-then-file-from-clause-row
returns-then-file-from-clause-row c =
    let nothing : c.loop-first.left.now ≡ [] = no_bytes _ c.in_default.ensures.cases in
    let all : (c.loop-first.file == c.args.rules.now.files) ≡ true = eq-eqb _ _ (c.if-file-from.true ∙ c.from.ensures) in
    c.loop-first.invariant.said ∙ step_end c.args.rules.now c.loop-first.cells c.args.rank c.loop-first.file c.loop-first.left.now nothing ∙ (rw all refl)

pub returns-else-file-from-clause-row : goal.returns-else-file-from-clause-row
returns-else-file-from-clause-row c =
    let nothing : c.loop-first.left.now ≡ [] = no_bytes _ c.in_default.ensures.cases in
    let wrong : (c.loop-first.file == c.args.rules.now.files) ≡ false = ne_eqb _ _ (λ e. c.if-file-from.false (e ∙ sym c.from.ensures)) in
    c.loop-first.invariant.said ∙ step_end c.args.rules.now c.loop-first.cells c.args.rank c.loop-first.file c.loop-first.left.now nothing ∙ (rw wrong refl)
