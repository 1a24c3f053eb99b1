-- What a repetition asks of a position.
use Rattle.rules_model.specs.declared.board.Position.{Position}
use Rattle.rules_model.specs.declared.board.Repeat.{Repeat}

-- a position without its counts: what its moves depend on
abbrev pub repeat_of : Position → Repeat
repeat_of p = record {
  cells = p.cells;
  hands = p.hands;
  gates = p.gates;
  rights = p.rights;
  checks = p.checks;
  ep = p.ep;
  side = p.side;
}
