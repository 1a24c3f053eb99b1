use Rattle.std.proofs.Common.{◌≡◌, ◌++◌, ◌∷◌, [], ◌-◌, ap, sym, ◌∙◌, arith, append_assoc}
use Rattle.std.proofs.lemmas.List.{append-nil}
use Rattle.fen_model.specs.Board.{row_at}
use Rattle.fen_model.specs.Printing.{row_text}
use Rattle.variant_fen.proofs.WriteLemmas.{ranks_text, ranks_text-none, ranks_text-next, ranks_text-more}
use Rattle.variant_fen.proofs.write.push_board.Goals as goal
use Rattle.variant_fen.proofs.write.push_board.Goals.{then-above-gt0+in_ok-push, else-above-gt0}

pub loop-above-init : goal.loop-above-init
loop-above-init c = sym (ap (λ t. c.args.text.now.items ++ t) (ranks_text-none c.args.rules.now c.args.cells.now) ∙ append-nil c.args.text.now.items)

pub loop-above-preserved : goal.loop-above-preserved
loop-above-preserved c =
    elim c.if-above-gt0.branch [
      | then-above-gt0+in_ok-push w ↦
          let row = row_text c.args.rules.now 0 (row_at c.args.cells.now (c.args.rules.now.ranks - 1 - c.loop-above.above) c.args.rules.now.files) in
          let more = ranks_text-more c.args.rules.now c.args.cells.now c.loop-above.above w.if-above-gt0.true in
          let slash = append_assoc c.loop-above.text.items (47 ∷ []) row in
          let join = append_assoc c.args.text.now.items (ranks_text c.args.rules.now c.args.cells.now c.loop-above.above) (47 ∷ row) in
          cc (more, slash, join, w.text-is, w.in_ok-push.ensures.items, c.in_ok-push_rank.ensures, c.loop-above.invariant)
      | else-above-gt0 w ↦
          let zero : c.loop-above.above ≡ 0 = omega (arith, w.if-above-gt0.false) in
          let first = ranks_text-next c.args.rules.now c.args.cells.now c.loop-above.above zero in
          let none = ap (ranks_text c.args.rules.now c.args.cells.now) zero ∙ ranks_text-none c.args.rules.now c.args.cells.now in
          let nothing = append-nil c.args.text.now.items in
          cc (first, none, nothing, w.text-is, c.in_ok-push_rank.ensures, c.loop-above.invariant)
    ]
