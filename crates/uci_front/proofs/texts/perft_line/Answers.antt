use Rattle.std.proofs.Common.{◌∙◌}
use Rattle.uci_front.proofs.TextLemmas.{perft_said}
use Rattle.uci_front.proofs.texts.perft_line.Goals as goal

pub returns : goal.returns
returns c =
    perft_said c.args.plies c.args.game.now c.into_bytes-items.result.items c.as_slice.result.now _
    (rw c.into_bytes-items.ensures.value c.in_ok-format.ensures.ok) (c.as_slice.ensures.value ∙ c.count.view_is ∙ c.in_ok-count.ensures)
    c.in_ok-extend_from_slice.ensures.items
