-- What code cuts off the front of a text, without where its bytes lie in memory.
use Rattle.move_text.specs.declared.squares.SplitNumber.{SplitNumber}
use Rattle.move_text.specs.declared.squares.CutSquares.{CutSquares}
use Rattle.move_text.specs.Squares.{Front, TwoSquares}

abbrev pub cut_view : SplitNumber → Front
cut_view c = record { value = c.value; rest = c.rest.now }

abbrev pub squares_view : CutSquares → TwoSquares
squares_view c = record { from = c.from; to = c.to; ending = c.ending.now }
