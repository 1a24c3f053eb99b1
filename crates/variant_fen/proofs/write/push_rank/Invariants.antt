use Rattle.std.proofs.Common.{◌≡◌, ◌≤◌, ◌++◌, drop}
use Rattle.fen_model.specs.Board.{row_at}
use Rattle.fen_model.specs.Printing.{row_text}
use Rattle.variant_fen.proofs.write.push_rank.Given as goal

abbrev pub invariant-loop-file : goal.invariant-loop-file
invariant-loop-file l = record {
  written : l.text.items ++ row_text l.rules l.empty (drop l.file (row_at l.cells l.rank l.rules.files)) ≡ l.initial.text.items ++ row_text l.rules 0 (row_at l.cells l.rank l.rules.files);
  few : l.empty ≤ l.file;
}
