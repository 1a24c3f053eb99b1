use Rattle.std.proofs.Common.{◌∙◌}
use Rattle.uci_front.proofs.TextLemmas.{mate_said}
use Rattle.uci_front.proofs.texts.mate_line.Goals as goal

pub returns : goal.returns
returns c = λ s.
    mate_said _ c.args.moves s c.args.best.now c.into_bytes-items.result.items c.as_slice.result.now c.extend_from_slice.new.self.items _
    (rw c.into_bytes-items.ensures.value c.in_ok-format.ensures.ok) (c.as_slice.ensures.value ∙ c.write_move-2.view_is ∙ c.write_move.ensures)
    c.in_ok-extend_from_slice.ensures.items c.in_ok-extend_from_slice-2.ensures.items
