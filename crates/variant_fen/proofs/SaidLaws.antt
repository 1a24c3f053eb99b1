-- The fields of a text one after another.
use Rattle.std.proofs.Common.{◌≡◌, true, ℕ, ◌+◌, max, List, Option, Ok, Err, map, refl, sym, ap, ◌∙◌}
use Rattle.std.specs.declared.result.Result.{Result}
use Rattle.std.specs.Result.{IfOk}
use Rattle.rules_model.specs.declared.board.Cell.{Cell}
use Rattle.rules_model.specs.declared.board.Position.{Position}
use Rattle.rules_model.specs.declared.board.Side.{Side}
use Rattle.rules_model.specs.declared.board.Square.{Square}
use Rattle.rules_model.specs.declared.rules.Rules.{Rules}
use Rattle.rules_model.specs.Sound.{is_sound}
use Rattle.fen_model.specs.declared.fault.FenFault.{FenFault}
use Rattle.fen_model.specs.declared.held.Held.{Held}
use Rattle.fen_model.specs.Board.{cells_of}
use Rattle.fen_model.specs.Counts.{checks_of, count_of, side_of}
use Rattle.fen_model.specs.Fields.{Fields, fields_of}
use Rattle.fen_model.specs.Held.{held_of}
use Rattle.fen_model.specs.Passed.{passed_of}
use Rattle.fen_model.specs.Pocket.{hands_of}
use Rattle.fen_model.specs.Reading.{fen_of, judged, position_with, said_by}
use Rattle.variant_fen.specs.Hands.{capped, capped_result}

-- ---- hands under a cap

pub capped_fault : (r : Result (List (List ℕ)) FenFault) (e : FenFault) → Err e ≡ capped_result r → r ≡ Err e
capped_fault (Ok hands) e h = cc
capped_fault (Err fault) e h = cc

pub capped_hands : (r : Result (List (List ℕ)) FenFault) (hands : List (List ℕ)) → Ok hands ≡ capped_result r → (said : List (List ℕ)) × (r ≡ Ok said) × (hands ≡ map capped said)
capped_hands (Ok said) hands h = (said, refl, cc)
capped_hands (Err fault) hands h = cc

-- ---- field by field

-- what the fields up to the side to move say
pub record Begun (rules : Rules) (f : Fields) (cells : List (Option Cell)) (hands : List (List ℕ)) (side : Side) : Type 0 where
  pub cells_read : cells_of rules f.board ≡ Ok cells
  pub hands_read : hands_of rules f.pocket ≡ Ok hands
  pub side_read : side_of f.side ≡ Ok side

-- and those up to the checks
pub record GoneOn (rules : Rules) (f : Fields) (cells : List (Option Cell)) (side : Side) (held : Held) (ep : Option Square) (checks : List ℕ) : Type 0 where
  pub held_read : held_of rules cells f.rights ≡ Ok held
  pub ep_read : passed_of rules cells side f.ep ≡ Ok ep
  pub checks_read : checks_of f.checks ≡ Ok checks

pub said_cells : (rules : Rules) (f : Fields) (e : FenFault) → cells_of rules f.board ≡ Err e → said_by rules f ≡ Err e
unfolding said_by
said_cells rules f e a = rw a refl

pub said_hands : (rules : Rules) (f : Fields) (cells : List (Option Cell)) (e : FenFault) → cells_of rules f.board ≡ Ok cells → hands_of rules f.pocket ≡ Err e → said_by rules f ≡ Err e
unfolding said_by
said_hands rules f cells e a b = rw (a, b) refl

pub said_side : (rules : Rules) (f : Fields) (cells : List (Option Cell)) (hands : List (List ℕ)) (e : FenFault) → cells_of rules f.board ≡ Ok cells → hands_of rules f.pocket ≡ Ok hands → side_of f.side ≡ Err e → said_by rules f ≡ Err e
unfolding said_by
said_side rules f cells hands e a b c = rw (a, b, c) refl

pub said_held : (rules : Rules) (f : Fields) (cells : List (Option Cell)) (hands : List (List ℕ)) (side : Side) (e : FenFault) → Begun rules f cells hands side → held_of rules cells f.rights ≡ Err e → said_by rules f ≡ Err e
unfolding said_by
said_held rules f cells hands side e begun d =
    let a = begun.cells_read in let b = begun.hands_read in let c = begun.side_read in rw (a, b, c, d) refl

pub said_passed : (rules : Rules) (f : Fields) (cells : List (Option Cell)) (hands : List (List ℕ)) (side : Side) (held : Held) (e : FenFault) → Begun rules f cells hands side → held_of rules cells f.rights ≡ Ok held
    → passed_of rules cells side f.ep ≡ Err e → said_by rules f ≡ Err e
unfolding said_by
said_passed rules f cells hands side held e begun d g =
    let a = begun.cells_read in let b = begun.hands_read in let c = begun.side_read in rw (a, b, c, d, g) refl

pub said_checks : (rules : Rules) (f : Fields) (cells : List (Option Cell)) (hands : List (List ℕ)) (side : Side) (held : Held) (ep : Option Square) (e : FenFault) → Begun rules f cells hands side → held_of rules cells f.rights ≡ Ok held
    → passed_of rules cells side f.ep ≡ Ok ep → checks_of f.checks ≡ Err e → said_by rules f ≡ Err e
unfolding said_by
said_checks rules f cells hands side held ep e begun d g h =
    let a = begun.cells_read in let b = begun.hands_read in let c = begun.side_read in rw (a, b, c, d, g, h) refl

pub said_counter : (rules : Rules) (f : Fields) (cells : List (Option Cell)) (hands : List (List ℕ)) (side : Side) (held : Held) (ep : Option Square) (checks : List ℕ) (e : FenFault) → Begun rules f cells hands side → GoneOn rules f cells side held ep checks
    → count_of f.halfmoves ≡ Err e → said_by rules f ≡ Err e
unfolding said_by
said_counter rules f cells hands side held ep checks e begun gone i =
    let a = begun.cells_read in let b = begun.hands_read in let c = begun.side_read in
    let d = gone.held_read in let g = gone.ep_read in let h = gone.checks_read in rw (a, b, c, d, g, h, i) refl

pub said_number : (rules : Rules) (f : Fields) (cells : List (Option Cell)) (hands : List (List ℕ)) (side : Side) (held : Held) (ep : Option Square) (checks : List ℕ) (counter : ℕ) (e : FenFault) → Begun rules f cells hands side
    → GoneOn rules f cells side held ep checks → count_of f.halfmoves ≡ Ok counter → count_of f.number ≡ Err e → said_by rules f ≡ Err e
unfolding said_by
said_number rules f cells hands side held ep checks counter e begun gone i n =
    let a = begun.cells_read in let b = begun.hands_read in let c = begun.side_read in
    let d = gone.held_read in let g = gone.ep_read in let h = gone.checks_read in rw (a, b, c, d, g, h, i, n) refl

pub said_all : (rules : Rules) (f : Fields) (cells : List (Option Cell)) (hands : List (List ℕ)) (side : Side) (held : Held) (ep : Option Square) (checks : List ℕ) (counter number : ℕ) → Begun rules f cells hands side
    → GoneOn rules f cells side held ep checks → count_of f.halfmoves ≡ Ok counter → count_of f.number ≡ Ok number → said_by rules f ≡ judged rules (position_with cells hands side held ep checks counter (max number 1))
unfolding said_by
said_all rules f cells hands side held ep checks counter number begun gone i n =
    let a = begun.cells_read in let b = begun.hands_read in let c = begun.side_read in
    let d = gone.held_read in let g = gone.ep_read in let h = gone.checks_read in rw (a, b, c, d, g, h, i, n) refl

-- the text as a whole
pub fen_fields : (rules : Rules) (text : List ℕ) (f : Fields) → fields_of rules text ≡ Ok f → fen_of rules text ≡ said_by rules f
unfolding fen_of
fen_fields rules text f h = rw h refl

pub fen_fault : (rules : Rules) (text : List ℕ) (e : FenFault) → fields_of rules text ≡ Err e → fen_of rules text ≡ Err e
unfolding fen_of
fen_fault rules text e h = rw h refl

pub if_said : (rules : Rules) (text : List ℕ) (r : Result Position FenFault) → r ≡ fen_of rules text → ((p : Position) → fen_of rules text ≡ Ok p → is_sound rules p ≡ true) → IfOk r (λ p. is_sound rules p ≡ true)
if_said rules text (Ok p) h f = f p (sym h)
if_said rules text (Err e) h f = tt
