-- The parts of the moves with a gate.
use Rattle.std.proofs.Common.{◌≡◌, ℕ, ◌%◌, ◌<◌, Bool, true, false, ◌&&◌, Option, Some, None, refl, ap, sym, ◌∙◌, subst}
use Rattle.std.proofs.lemmas.Bool.{and_parts, lt-ltb}
use Rattle.rules_model.specs.declared.board.Kind.{Kind}
use Rattle.rules_model.specs.declared.board.Repeat.{Repeat}
use Rattle.rules_model.specs.declared.board.Square.{Square}
use Rattle.rules_model.specs.declared.moves.Move.{Move}
use Rattle.rules_model.specs.declared.moves.Move.TheVariants.{Go, Castle, Drop}
use Rattle.rules_model.specs.declared.rules.Rules.{Rules}
use Rattle.rules_model.specs.Gates.{has_gate}
use Rattle.rules_model.specs.Gating.{gates_from}
use Rattle.rules_model.specs.Hands.{holds}
use Rattle.rules_model.specs.Regions.{first_rank, on_first_rank}
use Rattle.rules_model.specs.Squares.{cell_at, square_on}
use Rattle.rules_model.proofs.CandidateLaws.{not_both}
use Rattle.rules_model.proofs.SquareLaws.{file_of_at}
use Rattle.square_set.specs.declared.Set.{Set}
use Rattle.square_set.specs.Members.{has}
use Rattle.piece_moves.specs.InTurn.{At}
use Rattle.piece_moves.specs.Goals.{own_piece}
use Rattle.piece_moves.specs.Parts.{IsMoveFrom}
use Rattle.piece_moves.proofs.PartLemmas.{no_piece}
use Rattle.special_moves.specs.Parts.{IsGate, IsGateAt, IsGateFrom, IsGateWith, AreHeld, holds_kind, kind_at}
use Rattle.special_moves.proofs.SquareLemmas.{same_file}
use Rattle.special_moves.proofs.BelowLemmas.{AreApart}

from_of : Move → ℕ
from_of (Go from to promo gate) = from.0
from_of (Castle from to rook gate) = from.0
from_of (Drop kind to) = 0

abbrev kind_number : Option Kind → ℕ
kind_number None = 0
kind_number (Some kind) = kind.0

-- the number of the kind that an ordinary move places on the square that it leaves; 0 where it places none
abbrev pub placed_number : Move → ℕ
placed_number (Go from to promo gate) = kind_number gate
placed_number (Castle from to rook gate) = 0
placed_number (Drop kind to) = 0

same_number : (i j : ℕ) (g : Option Kind) → g ≡ Some (kind_at i) → g ≡ Some (kind_at j) → i ≡ j
same_number i j g e f = ap kind_number (sym e ∙ f)

pub kinds-apart : (rules : Rules) (r : Repeat) (from : Square) → AreApart (IsGateWith rules r from)
kinds-apart rules r from i j (Go f to promo g) h k = same_number i j g h.1.1 k.1.1
kinds-apart rules r from i j (Castle f to rook g) h k = absurd h.1
kinds-apart rules r from i j (Drop kind to) h k = absurd h.1

pub files-apart : (rules : Rules) (r : Repeat) → AreApart (IsGateFrom rules r)
files-apart rules r i j (Go f to promo g) h k = same_file (first_rank rules r.side) i j (ap (λ (s : Square). s.0) (sym h.is.1.0 ∙ k.is.1.0))
files-apart rules r i j (Castle f to rook g) h k = absurd h.is.1
files-apart rules r i j (Drop kind to) h k = absurd h.is.1

gate_held : (rules : Rules) (r : Repeat) (from : Square) (kind : Kind) → gates_from rules r from kind ≡ true → (rules.gate_hand ≡ true) × (has_gate r.gates r.side (from.0 % 12) ≡ true)
gate_held rules r from kind e =
    let a = and_parts _ (holds r.hands r.side kind) e in
    let b = and_parts (rules.gate_hand && on_first_rank rules r.side from.0) (has_gate r.gates r.side (from.0 % 12)) a.0 in
    ((and_parts rules.gate_hand (on_first_rank rules r.side from.0) b.0).0, b.1)

both : (a b : Bool) → a ≡ true → b ≡ true → (a && b) ≡ true
both true b e f = f
both false b e f = e

pub none-from : (rules : Rules) (r : Repeat) (file : ℕ) → file < 12 → (rules.gate_hand && has_gate r.gates r.side file) ≡ false → (m : Move) → IsGateFrom rules r file m → ⊥
none-from rules r file l none m h =
    let from = square_on file (first_rank rules r.side) in
    let e = gate_held rules r from (kind_at h.number) h.is.0 in
    let g = subst (λ f. has_gate r.gates r.side f ≡ true) (file_of_at file (first_rank rules r.side) l) e.1 in
    not_both _ (both _ _ e.0 g) none

-- ---- kind by kind

left-is : (rules : Rules) (r : Repeat) (from : Square) (k : ℕ) (m : Move) → IsGateWith rules r from k m → placed_number m ≡ k
left-is rules r from k (Go f to promo g) h = ap kind_number h.1.1
left-is rules r from k (Castle f to rook g) h = absurd h.1
left-is rules r from k (Drop kind to) h = absurd h.1

-- a piece of the kind that is placed is held
pub placed-held : (rules : Rules) (r : Repeat) (from : Square) (held : Set) → AreHeld r held → (m : Move) → IsGateAt rules r from m → has held (placed_number m) ≡ true
placed-held rules r from held are m h =
    let some = (and_parts _ (holds_kind r h.number) h.is.0).1 in
    ap (has held) (left-is rules r from h.number m h.is) ∙ are h.number ∙ rw (lt-ltb h.number 26 h.below, some) refl

-- nothing is placed where pieces do not come in by gates, nor where none is held
pub no-gates : (rules : Rules) (r : Repeat) → rules.gate_hand ≡ false → (m : Move) → IsGate rules r m → ⊥
no-gates rules r none m h =
    let from = square_on h.number (first_rank rules r.side) in
    not_both _ (gate_held rules r from (kind_at h.is.number) h.is.is.0).0 none

pub none-held : (rules : Rules) (r : Repeat) (held : Set) → AreHeld r held → ((s : ℕ) → has held s ≡ false) → (m : Move) → IsGate rules r m → ⊥
none-held rules r held are none m h =
    not_both _ (placed-held rules r (square_on h.number (first_rank rules r.side)) held are m h.is) (none (placed_number m))

module _ (rules : Rules) (r : Repeat) (from : Square) (k : ℕ) where
  pub placed-there : k < 26 → gates_from rules r from (kind_at k) ≡ true → (m : Move) → IsMoveFrom rules r from (Some (kind_at k)) m → At (IsGateAt rules r from) placed_number k m
  placed-there l gates m h = (record { number = k; below = l; is = (gates, h) }, left-is rules r from k m (gates, h))

  with-it : (m : Move) → At (IsGateAt rules r from) placed_number k m → IsGateWith rules r from k m
  with-it m h = subst (λ n. IsGateWith rules r from n m) (sym (left-is rules r from h.0.number m h.0.is) ∙ h.1) h.0.is

  pub there-placed : (m : Move) → At (IsGateAt rules r from) placed_number k m → IsMoveFrom rules r from (Some (kind_at k)) m
  there-placed m h = (with-it m h).1

  -- a move without the gate's right places nothing
  pub none-placed : gates_from rules r from (kind_at k) ≡ false → (m : Move) → At (IsGateAt rules r from) placed_number k m → ⊥
  none-placed none m h = not_both _ (with-it m h).0 none

-- no own piece stands there
pub none-there : (rules : Rules) (r : Repeat) (from : Square) → own_piece rules r.side (cell_at r.cells from.0) ≡ None → (m : Move) → IsGateAt rules r from m → ⊥
none-there rules r from none m h = no_piece rules r from (Some (kind_at h.number)) none m h.is.1
