-- What the fields of a text say of the parts of a position, field by field.
use Rattle.std.specs.Prelude.{◌≡◌, ◌↔◌, ℕ, max, true, List, Ok}
use Rattle.rules_model.specs.declared.board.Position.{Position}
use Rattle.rules_model.specs.declared.rules.Rules.{Rules}
use Rattle.rules_model.specs.Sound.{is_sound}
use Rattle.fen_model.specs.Board.{cells_of}
use Rattle.fen_model.specs.Counts.{checks_of, count_of, side_of}
use Rattle.fen_model.specs.Fields.{Fields, fields_of}
use Rattle.fen_model.specs.declared.held.Held.{Held}
use Rattle.fen_model.specs.Held.{held_of}
use Rattle.fen_model.specs.Passed.{passed_of}
use Rattle.fen_model.specs.Pocket.{hands_of}
use Rattle.fen_model.specs.Reading.{Fen}

-- the rights and gates of a position
abbrev pub held_in : Position → Held
held_in p = record { rights = p.rights; gates = p.gates }

-- the text of the move's number says n, and 0 is read as 1
pub record SaysNumber (text : List ℕ) (n number : ℕ) : Type 0 where
  pub said : count_of text ≡ Ok n
  pub least : number ≡ max n 1

-- each field says its part
pub record Says (rules : Rules) (f : Fields) (p : Position) : Type 0 where
  pub cells : cells_of rules f.board ≡ Ok p.cells
  pub hands : hands_of rules f.pocket ≡ Ok p.hands
  pub side : side_of f.side ≡ Ok p.side
  pub held : held_of rules p.cells f.rights ≡ Ok (held_in p)
  pub ep : passed_of rules p.cells p.side f.ep ≡ Ok p.ep
  pub checks : checks_of f.checks ≡ Ok p.checks
  pub counter : count_of f.halfmoves ≡ Ok p.counter
  pub number : (n : ℕ) × SaysNumber f.number n p.number

-- the text has fields, and these say the position
abbrev pub TextSays : Rules → List ℕ → Position → Type 0
TextSays rules text p = (f : Fields) × (fields_of rules text ≡ Ok f) × Says rules f p
