-- What code reads of a line, without where its bytes lie in memory. It counts a number above 2^64 - 1 as that one.
use Rattle.foundation.specs.Numbers.{capped}
use Rattle.strategy.specs.declared.said.SaidText.{SaidText}
use Rattle.strategy.specs.declared.said.SaidText.TheVariants as text
use Rattle.strategy.specs.Said.{Said, node_line, edge_line, end_line}

abbrev pub said_view : SaidText → Said
said_view (text.Node number rank fen) = node_line number rank fen.now
said_view (text.Edge chosen to) = edge_line chosen.now to
said_view text.End = end_line

abbrev pub said_capped : Said → Said
said_capped (node_line number rank fen) = node_line (capped number) (capped rank) fen
said_capped (edge_line chosen to) = edge_line chosen (capped to)
said_capped end_line = end_line
