use Rattle.uci_front.proofs.searching.mate_text.Goals as goal

pub returns-in-Shown : goal.returns-in-Shown
returns-in-Shown c = rw c.in-Shown.is (c.mate_line.ensures c.in-Shown.strategy)
