use Rattle.std.proofs.Common.{◌≡◌, ◌++◌, ◌+◌, drop, arith}
use Rattle.fen_model.specs.Board.{row_at}
use Rattle.fen_model.specs.Printing.{cell_text, row_text, run_text}
use Rattle.variant_fen.proofs.WriteLemmas.{after_ok, row_none, row_some, row_done, three_after}
use Rattle.variant_fen.proofs.write.push_rank.Goals as goal
use Rattle.variant_fen.proofs.write.push_rank.Goals.{in-None, in-Some+in_ok-push_run-in-Some+in_ok-push_cell-in-Some}

pub loop-file-preserved : goal.loop-file-preserved
loop-file-preserved c =
    elim c.match-cells-rank.branch [
      | in-None w ↦
          let row = row_none c.args.rules.now c.args.cells.now c.args.rank c.loop-file.file c.loop-file.empty c.loop-file-test.true w.in-None.is in
          record { written = cc (row, w.text-is, w.empty-is, c.loop-file.invariant.written); few = omega arith }
      | in-Some+in_ok-push_run-in-Some+in_ok-push_cell-in-Some w ↦
          let row = row_some c.args.rules.now c.args.cells.now c.args.rank c.loop-file.file c.loop-file.empty w.in-Some.cell c.loop-file-test.true w.in-Some.is in
          let join = three_after c.loop-file.text.items (run_text c.loop-file.empty) (cell_text c.args.rules.now w.in-Some.cell) (row_text c.args.rules.now 0 (drop (c.loop-file.file + 1) (row_at c.args.cells.now c.args.rank c.args.rules.now.files))) in
          record { written = cc (row, join, w.text-is, w.empty-is, w.in_ok-push_run-in-Some.ensures, w.in_ok-push_cell-in-Some.ensures, c.loop-file.invariant.written); few = omega arith }
    ]

pub returns : goal.returns
returns c =
    let done = row_done c.args.rules.now c.args.cells.now c.args.rank c.loop-file.file c.loop-file.empty c.loop-file-test.false in
    after_ok c.push_run-2.result (c.push_run-2.new.text.items ≡ c.loop-file.text.items ++ run_text c.loop-file.empty) (c.push_run-2.new.text.items ≡ c.args.text.now.items ++ row_text c.args.rules.now 0 (row_at c.args.cells.now c.args.rank c.args.rules.now.files))
    (λ h. cc (h, done, c.loop-file.invariant.written)) c.push_run-2.ensures
