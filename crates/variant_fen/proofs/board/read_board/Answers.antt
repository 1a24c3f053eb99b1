use Rattle.std.proofs.Common.{◌==◌, ◌≡◌, ℕ, ◌<◌, ◌+◌, ◌-◌, ◌∷◌, [], List, length, Option, None, sym, ap, ◌∙◌, arith}
use Rattle.std.specs.List.{slice_split}
use Rattle.std.specs.Option.{option_copied}
use Rattle.std.proofs.lemmas.List.{length-replicate}
use Rattle.std.proofs.lemmas.Result.{err_from_is_err_and}
use Rattle.rules_model.specs.declared.board.Cell.{Cell}
use Rattle.fen_model.specs.Board.{is_slash, rows_of}
use Rattle.foundation.specs.Cuts.{parts_after}
use Rattle.variant_fen.proofs.BoardLemmas.{after_rows, after_none, step_row, step_row_fault, all_rows, rank_fault, row_fault, empty_anywhere, beside_after}
use Rattle.variant_fen.proofs.board.read_board.Goals as goal

pub returns-then-rank_count-from : goal.returns-then-rank_count-from
returns-then-rank_count-from c =
    rank_fault c.args.rules.now c.args.board.now (λ e. c.if-rank_count-from.true (c.rank_count.ensures ∙ e ∙ sym c.from.ensures))

pub loop-left-init : goal.loop-left-init
loop-left-init c =
    let free = empty_anywhere c.args.cells.now c.requires.empty in
    let none : c.args.rules.now.ranks - c.args.rules.now.ranks ≡ 0 = omega arith in
    record {
      said = rw none (after_none c.args.rules.now c.args.cells.now (rows_of c.args.rules.now (slice_split is_slash c.args.board.now)));
      left = sym c.rank_count.ensures ∙ c.if-rank_count-from.false ∙ c.from.ensures;
      low = omega arith;
      long = ap length c.requires.empty ∙ length-replicate {A = Option Cell} 120 None;
      free = λ s below. free s;
      beside = λ s from. free s;
      above = λ s from. free s;
    }

pub returns-in_err-read_rank : goal.returns-in_err-read_rank
returns-in_err-read_rank c =
    let rules = c.args.rules.now in
    let n : ℕ = rules.ranks - c.loop-left.rank in
    let parts : List (List ℕ) = parts_after (λ b. b == 47) (option_copied c.cut_at.result.1) in
    let cut : parts_after (λ b. b == 47) (option_copied c.loop-left.left) ≡ c.cut_at.result.0.now ∷ parts = ap (λ o. parts_after (λ b. b == 47) (option_copied o)) c.in-Some.is ∙ c.cut_at.ensures.parts in
    let p = err_from_is_err_and c.from_residual.result c.from_residual.ensures.1 in
    rw (p.1, p.2) (row_fault rules c.args.board.now _ (sym c.rank_count.ensures ∙ c.if-rank_count-from.false ∙ c.from.ensures)
    (c.loop-left.invariant.said ∙ ap (λ ps. after_rows rules c.loop-left.cells n (rows_of rules ps)) cut ∙ step_row_fault rules c.loop-left.cells n c.cut_at.result.0.now parts _ c.in_err-read_rank.ensures.row))

pub loop-left-preserved : goal.loop-left-preserved
loop-left-preserved c =
    let rules = c.args.rules.now in
    let rank : ℕ = c.loop-left.rank - 1 in
    let parts : List (List ℕ) = parts_after (λ b. b == 47) (option_copied c.cut_at.result.1) in
    let cut : parts_after (λ b. b == 47) (option_copied c.loop-left.left) ≡ c.cut_at.result.0.now ∷ parts = ap (λ o. parts_after (λ b. b == 47) (option_copied o)) c.in-Some.is ∙ c.cut_at.ensures.parts in
    let count : 1 + length parts ≡ c.loop-left.rank = omega (arith, ap length cut, c.loop-left.invariant.left) in
    let lower : rank < rules.ranks = omega arith in
    let said = step_row rules c.loop-left.cells c.read_rank.new.cells (rules.ranks - c.loop-left.rank) rank c.cut_at.result.0.now parts (omega arith) (omega arith) c.requires.fit.files_most c.in_ok-read_rank.ensures.others c.in_ok-read_rank.ensures.row in
    record {
      said = c.loop-left.invariant.said ∙ ap (λ ps. after_rows rules c.loop-left.cells (rules.ranks - c.loop-left.rank) (rows_of rules ps)) cut ∙ said ∙ ap (λ n. after_rows rules c.read_rank.new.cells n (rows_of rules parts)) (let next : (rules.ranks - c.loop-left.rank) + 1 ≡ rules.ranks - (c.loop-left.rank - 1) = omega arith in next);
      left = omega arith;
      low = omega arith;
      long = c.read_rank.array_long;
      free = λ s below. c.in_ok-read_rank.ensures.others s (omega arith) ∙ c.loop-left.invariant.free s (omega arith);
      beside = beside_after rules.files rank c.loop-left.cells c.read_rank.new.cells c.in_ok-read_rank.ensures.others c.in_ok-read_rank.ensures.beyond c.loop-left.invariant.beside;
      above = λ s from. c.in_ok-read_rank.ensures.others s (omega arith) ∙ c.loop-left.invariant.above s from;
    }

pub returns : goal.returns
returns c =
    let rules = c.args.rules.now in
    let none : parts_after (λ b. b == 47) (option_copied c.loop-left.left) ≡ [] = ap (λ o. parts_after (λ b. b == 47) (option_copied o)) c.in_default.is in
    let none_left : length (parts_after (λ b. b == 47) (option_copied c.loop-left.left)) ≡ 0 = ap length none in
    let all : rules.ranks - c.loop-left.rank ≡ rules.ranks = omega arith in
    all_rows rules c.loop-left.cells c.args.board.now (sym c.rank_count.ensures ∙ c.if-rank_count-from.false ∙ c.from.ensures)
    (c.loop-left.invariant.said ∙ ap (λ ps. after_rows rules c.loop-left.cells (rules.ranks - c.loop-left.rank) (rows_of rules ps)) none ∙ ap (λ n. after_rows rules c.loop-left.cells n (rows_of rules [])) all)
    c.loop-left.invariant.long c.loop-left.invariant.beside c.loop-left.invariant.above
