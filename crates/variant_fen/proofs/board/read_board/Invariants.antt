use Rattle.std.proofs.Common.{◌==◌, ◌≡◌, ℕ, ◌<◌, ◌≤◌, ◌-◌, ◌*◌, length, get_or, None}
use Rattle.std.specs.List.{slice_split}
use Rattle.std.specs.Option.{option_copied}
use Rattle.fen_model.specs.Board.{is_slash, rows_of}
use Rattle.foundation.specs.Cuts.{parts_after}
use Rattle.fen_model.proofs.BoardLaws.{IsFreeAbove, IsFreeBeside}
use Rattle.variant_fen.proofs.BoardLemmas.{after_rows}
use Rattle.variant_fen.proofs.board.read_board.Given as goal

abbrev pub invariant-loop-left : goal.invariant-loop-left
invariant-loop-left l = record {
  said : rows_of l.rules (slice_split is_slash l.board) ≡ after_rows l.rules l.cells (l.rules.ranks - l.rank) (rows_of l.rules (parts_after (λ b. b == 47) (option_copied l.left)));
  left : length (parts_after (λ b. b == 47) (option_copied l.left)) ≡ l.rank;
  low : l.rank ≤ l.rules.ranks;
  long : length l.cells ≡ 120;
  free : (s : ℕ) → s < 12 * l.rank → get_or l.cells s None ≡ None;
  beside : IsFreeBeside l.rules.files l.cells;
  above : IsFreeAbove l.rules.ranks l.cells;
}

abbrev pub decreases-loop-left : goal.decreases-loop-left
decreases-loop-left l = l.rank
