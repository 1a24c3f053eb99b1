-- The parts of the moves: those between two squares by their promotions, and those of a piece among all.
use Rattle.std.proofs.Common.{◌≡◌, ◌<◌, Bool, true, false, not, ◌&&◌, ◌⊎◌, inl, inr, Option, Some, None, List, refl, ap, sym, ◌∙◌, subst}
use Rattle.std.proofs.lemmas.Bool.{and_parts, not-true}
use Rattle.rules_model.specs.declared.board.Cell.{Cell}
use Rattle.rules_model.specs.declared.board.Kind.{Kind}
use Rattle.rules_model.specs.declared.board.Repeat.{Repeat}
use Rattle.rules_model.specs.declared.board.Square.{Square}
use Rattle.rules_model.specs.declared.moves.Move.{Move}
use Rattle.rules_model.specs.declared.moves.Move.TheVariants.{Go, Castle, Drop}
use Rattle.rules_model.specs.declared.moves.Promo.{Promo}
use Rattle.rules_model.specs.declared.moves.Promo.TheVariants.{Stays, Pawn, Plus}
use Rattle.rules_model.specs.declared.rules.Rules.{Rules}
use Rattle.rules_model.specs.Attacks.{is_own}
use Rattle.rules_model.specs.Candidates.{is_piece_move, own_piece_moves}
use Rattle.rules_model.specs.Kinds.{is_pawn}
use Rattle.rules_model.specs.Moves.{IsFitPromo}
use Rattle.rules_model.specs.Pieces.{piece_goes, piece_moves, piece_promo, may_plus, means_castling}
use Rattle.rules_model.specs.Sides.{same_side}
use Rattle.rules_model.specs.Squares.{cell_at}
use Rattle.rules_model.proofs.CandidateLaws.{not_both}
use Rattle.square_set.specs.declared.Set.{Set}
use Rattle.square_set.specs.Members.{has}
use Rattle.move_tables.specs.Occupied.{AreMen}
use Rattle.board_sets.specs.Sets.{AreOwnPieces}
use Rattle.piece_moves.specs.InTurn.{At, start_of, target_of}
use Rattle.piece_moves.specs.Taking.{IsChosen, IsSink, TakesAll, TakesSome}
use Rattle.piece_moves.proofs.TakingLemmas.{all-none, all-join, all-same, some-behind, some-within}
use Rattle.piece_moves.specs.Goals.{own_piece, makes}
use Rattle.piece_moves.specs.Parts.{IsMoveFrom, FitMovesFrom, FitPieceMoves}
use Rattle.piece_moves.proofs.GoalLemmas.{own_makes}

same_square : (a b : Square) → a.0 ≡ b.0 → a ≡ b
same_square a b e = λ i. record { 0 = e i }

-- ---- the moves from a square to another

all_true : (a b c : Bool) → a ≡ true → b ≡ true → c ≡ false → (a && b && not c) ≡ true
all_true true true true e f g = cc
all_true true true false e f g = refl
all_true true false c e f g = cc
all_true false b c e f g = cc

middle : (a b c : Bool) → (a && b && not c) ≡ true → b ≡ true
middle a b c e = (and_parts a b (and_parts (a && b) (not c) e).0).1

module _ (rules : Rules) (r : Repeat) (piece : Cell) (from to : Square) (gate : Option Kind) where
  abbrev goes : Bool
  goes = piece_goes rules r.cells r.side piece.kind from to.0

  abbrev becomes : Promo → Bool
  becomes promo = piece_promo rules (may_plus rules r.side piece.kind from.0 to.0) promo

  abbrev castles : Bool
  castles = means_castling rules r piece.kind from.0 to.0

  abbrev Moves : Move → Type 0
  Moves = At (IsMoveFrom rules r from gate) target_of to.0

  abbrev go : Promo → Move
  go promo = Go from to promo gate

  pub moves_is : own_piece rules r.side (cell_at r.cells from.0) ≡ Some piece → (promo : Promo) → own_piece_moves rules r from to promo (cell_at r.cells from.0) ≡ (goes && becomes promo && not castles)
  unfolding piece_moves
  moves_is own promo = rw (own_makes rules r from to promo (cell_at r.cells from.0), own) refl

  -- a move between the squares is one by its promotion
  made : own_piece rules r.side (cell_at r.cells from.0) ≡ Some piece → (m : Move) → Moves m → (promo : Promo) × (go promo ≡ m) × ((goes && becomes promo && not castles) ≡ true)
  made own (Go f t promo g) h =
      let at : t ≡ to = same_square t to h.1 in (
        promo,
        (let a = h.0.0 in let b = h.0.1 in cc),
        sym (moves_is own promo) ∙ ap (λ x. own_piece_moves rules r from x promo (cell_at r.cells from.0)) (sym at) ∙ h.0.4,
      )
  made own (Castle f t rook g) h = absurd h.0
  made own (Drop kind t) h = absurd h.0

  goes-not : own_piece rules r.side (cell_at r.cells from.0) ≡ Some piece → goes ≡ false → (m : Move) → Moves m → ⊥
  goes-not own e m h =
      let k = (made own m h).2 in
      not_both goes (and_parts goes (becomes (made own m h).0) (and_parts (goes && becomes (made own m h).0) (not castles) k).0).0 e

  castles-not : own_piece rules r.side (cell_at r.cells from.0) ≡ Some piece → castles ≡ true → (m : Move) → Moves m → ⊥
  castles-not own e m h =
      let k = (made own m h).2 in
      not_both castles e (not-true castles (and_parts (goes && becomes (made own m h).0) (not castles) k).1)

  split : (promo : Promo) (m : Move) → go promo ≡ m → becomes promo ≡ true → IsChosen (becomes Stays) (go Stays) m ⊎ IsChosen (becomes Plus) (go Plus) m
  split Stays m e b = inl (b, e)
  split (Pawn kind) m e b = cc
  split Plus m e b = inr (b, e)

  join : own_piece rules r.side (cell_at r.cells from.0) ≡ Some piece → goes ≡ true → castles ≡ false → to.0 < 120 → (promo : Promo) (m : Move) → IsFitPromo promo → IsChosen (becomes promo) (go promo) m → Moves m
  join own g e l promo m fit h = subst Moves h.1 ((refl, refl, l, fit, moves_is own promo ∙ all_true goes (becomes promo) castles g h.0 e), refl)

  apart : (m : Move) → IsChosen (becomes Stays) (go Stays) m → IsChosen (becomes Plus) (go Plus) m → ⊥
  apart m h k = let e = h.1 in let f = k.1 in cc

  module _ {S : Type 0} {takes stops : S → List Move → S → Type 0} (sink : IsSink takes stops) where
    pub to-none : own_piece rules r.side (cell_at r.cells from.0) ≡ Some piece → castles ≡ true → (s : S) → TakesAll takes Moves s s
    to-none own e s = all-none sink Moves s (castles-not own e)

    pub to-all : own_piece rules r.side (cell_at r.cells from.0) ≡ Some piece → goes ≡ true → castles ≡ false → to.0 < 120 → (s t u : S) → TakesAll takes (IsChosen (becomes Stays) (go Stays)) s t → TakesAll takes (IsChosen (becomes Plus) (go Plus)) t u → TakesAll takes Moves s u
    to-all own g e l s t u a b =
        all-join sink (IsChosen (becomes Stays) (go Stays)) (IsChosen (becomes Plus) (go Plus)) Moves s t u a b apart
        (λ m h. split (made own m h).0 m (made own m h).1 (middle goes (becomes (made own m h).0) castles (made own m h).2))
        (λ m x. elim x as (λ _. Moves m) [ inl h ↦ join own g e l Stays m tt h | inr h ↦ join own g e l Plus m tt h ])

    -- the sink was full at the first
    pub to-first : own_piece rules r.side (cell_at r.cells from.0) ≡ Some piece → goes ≡ true → castles ≡ false → to.0 < 120 → (s t : S) → TakesSome stops (IsChosen (becomes Stays) (go Stays)) s t → TakesSome stops Moves s t
    to-first own g e l s t a = some-within stops (IsChosen (becomes Stays) (go Stays)) Moves s t a (λ m h. join own g e l Stays m tt h)

    -- the sink was full at the second
    pub to-second : own_piece rules r.side (cell_at r.cells from.0) ≡ Some piece → goes ≡ true → castles ≡ false → to.0 < 120 → (s t u : S) → TakesAll takes (IsChosen (becomes Stays) (go Stays)) s t → TakesSome stops (IsChosen (becomes Plus) (go Plus)) t u → TakesSome stops Moves s u
    to-second own g e l s t u a b =
        some-behind sink (IsChosen (becomes Stays) (go Stays)) (IsChosen (becomes Plus) (go Plus)) Moves s t u a b apart
        (λ m h. join own g e l Stays m tt h)
        (λ m h. join own g e l Plus m tt h)

-- ---- the moves from a square

module _ (rules : Rules) (r : Repeat) (from : Square) (gate : Option Kind) where
  -- to a square to which the piece goes
  pub to_target : (piece : Cell) (m : Move) → own_piece rules r.side (cell_at r.cells from.0) ≡ Some piece → IsMoveFrom rules r from gate m → piece_goes rules r.cells r.side piece.kind from (target_of m) ≡ true
  unfolding piece_moves
  to_target piece (Go f t promo g) own h =
      let e : (goes rules r piece from t gate && becomes rules r piece from t gate promo && not (castles rules r piece from t gate)) ≡ true = sym (moves_is rules r piece from t gate own promo) ∙ h.4 in
      (and_parts (goes rules r piece from t gate) (becomes rules r piece from t gate promo) (and_parts (goes rules r piece from t gate && becomes rules r piece from t gate promo) (not (castles rules r piece from t gate)) e).0).0
  to_target piece (Castle f t rook g) own h = absurd h
  to_target piece (Drop kind t) own h = absurd h

  -- no own piece stands there, so none leaves
  pub no_piece : own_piece rules r.side (cell_at r.cells from.0) ≡ None → (m : Move) → IsMoveFrom rules r from gate m → ⊥
  no_piece none (Go f t promo g) h =
      not_both (own_piece_moves rules r from t promo (cell_at r.cells from.0)) h.4
      (own_makes rules r from t promo (cell_at r.cells from.0) ∙ ap (λ o. makes rules r o from t promo) none)
  no_piece none (Castle f t rook g) h = h
  no_piece none (Drop kind t) h = h

  pub from-none : {S : Type 0} {takes stops : S → List Move → S → Type 0} (sink : IsSink takes stops) (s : S) → own_piece rules r.side (cell_at r.cells from.0) ≡ None → TakesAll takes (IsMoveFrom rules r from gate) s s
  from-none sink s none = all-none sink (IsMoveFrom rules r from gate) s (no_piece none)

-- ---- the fit moves from all squares

module _ (rules : Rules) (r : Repeat) where
  own_side : (c : Cell) (from to : Square) (promo : Promo) → (same_side c.side r.side && not (is_pawn rules c.kind) && piece_moves rules r c from to promo) ≡ true → same_side c.side r.side ≡ true
  own_side c from to promo e =
      (and_parts (same_side c.side r.side) (not (is_pawn rules c.kind)) (and_parts (same_side c.side r.side && not (is_pawn rules c.kind)) (piece_moves rules r c from to promo) e).0).0

  by_own : (o : Option Cell) (from to : Square) (promo : Promo) → own_piece_moves rules r from to promo o ≡ true → is_own r.side (λ kind. true) o ≡ true
  by_own None from to promo e = e
  by_own (Some c) from to promo e = ap (λ b. b && true) (own_side c from to promo e)

  -- one from the square starts from an own man
  pub man_there : (men : Set) → AreMen r.side r.cells men → (from : Square) (gate : Option Kind) (m : Move) → IsMoveFrom rules r from gate m → has men from.0 ≡ true
  man_there men are from gate (Go f t promo g) h = are from.0 ∙ by_own (cell_at r.cells from.0) from t promo h.4
  man_there men are from gate (Castle f t rook g) h = absurd h
  man_there men are from gate (Drop kind t) h = absurd h

  by_piece : (o : Option Cell) (from to : Square) (promo : Promo) → own_piece_moves rules r from to promo o ≡ true → is_own r.side (λ kind. not (is_pawn rules kind)) o ≡ true
  by_piece None from to promo e = e
  by_piece (Some c) from to promo e = (and_parts (same_side c.side r.side && not (is_pawn rules c.kind)) (piece_moves rules r c from to promo) e).0

  -- each starts from one of the own pieces that are not the pawn
  pub from_piece : (pieces : Set) → AreOwnPieces rules r.side r.cells pieces → (m : Move) → FitPieceMoves rules r m → has pieces (start_of m) ≡ true
  unfolding is_piece_move
  from_piece pieces are (Go f t promo None) h = are f.0 ∙ by_piece (cell_at r.cells f.0) f t promo h.1
  from_piece pieces are (Go f t promo (Some kind)) h = let e = h.1 in cc
  from_piece pieces are (Castle f t rook g) h = let e = h.1 in cc
  from_piece pieces are (Drop kind t) h = let e = h.1 in cc

  module _ (from : Square) (l : from.0 < 120) where
    fit_there : (m : Move) → IsMoveFrom rules r from None m → At (FitPieceMoves rules r) start_of from.0 m
    unfolding is_piece_move
    fit_there (Go f t promo None) h =
        let at : f.0 ≡ from.0 = ap (λ x. x.0) h.0 in
        (((subst (λ n. n < 120) (sym at) l, h.2, h.3, tt), subst (λ x. own_piece_moves rules r x t promo (cell_at r.cells x.0) ≡ true) (sym h.0) h.4), at)
    fit_there (Go f t promo (Some kind)) h = let e = h.1 in cc
    fit_there (Castle f t rook g) h = absurd h
    fit_there (Drop kind t) h = absurd h

    there_fit : (m : Move) → At (FitPieceMoves rules r) start_of from.0 m → IsMoveFrom rules r from None m
    unfolding is_piece_move
    there_fit (Go f t promo None) h =
        let at : f ≡ from = same_square f from h.1 in
        (at, refl, h.0.0.1, h.0.0.2, subst (λ x. own_piece_moves rules r x t promo (cell_at r.cells x.0) ≡ true) at h.0.1)
    there_fit (Go f t promo (Some kind)) h = let e = h.0.1 in cc
    there_fit (Castle f t rook g) h = let e = h.0.1 in cc
    there_fit (Drop kind t) h = let e = h.0.1 in cc

    -- those from the square are those of a set that has it
    module _ (set : Set) (member : has set from.0 ≡ true) where
      set_there : (m : Move) → IsMoveFrom rules r from None m → At (FitMovesFrom rules r set) start_of from.0 m
      set_there m h = let k = fit_there m h in ((k.0, ap (has set) k.1 ∙ member), k.1)

      there_set : (m : Move) → At (FitMovesFrom rules r set) start_of from.0 m → IsMoveFrom rules r from None m
      there_set m h = there_fit m (h.0.0, h.1)

      pub set-at : {S : Type 0} (takes : S → List Move → S → Type 0) (s t : S) → TakesAll takes (IsMoveFrom rules r from None) s t → TakesAll takes (At (FitMovesFrom rules r set) start_of from.0) s t
      set-at takes s t a = all-same takes (IsMoveFrom rules r from None) (At (FitMovesFrom rules r set) start_of from.0) s t a set_there there_set

      pub set-some : {S : Type 0} (stops : S → List Move → S → Type 0) (s t : S) → TakesSome stops (IsMoveFrom rules r from None) s t → TakesSome stops (At (FitMovesFrom rules r set) start_of from.0) s t
      set-some stops s t a = some-within stops (IsMoveFrom rules r from None) (At (FitMovesFrom rules r set) start_of from.0) s t a set_there

  -- ---- those from the squares of a set

  pub whole-all : (pieces : Set) → AreOwnPieces rules r.side r.cells pieces → {S : Type 0} (takes : S → List Move → S → Type 0) (s t : S) → TakesAll takes (FitMovesFrom rules r pieces) s t → TakesAll takes (FitPieceMoves rules r) s t
  whole-all pieces are takes s t a = all-same takes (FitMovesFrom rules r pieces) (FitPieceMoves rules r) s t a (λ m h. h.0) (λ m h. (h, from_piece pieces are m h))

  pub whole-some : (set : Set) {S : Type 0} (stops : S → List Move → S → Type 0) (s t : S) → TakesSome stops (FitMovesFrom rules r set) s t → TakesSome stops (FitPieceMoves rules r) s t
  whole-some set stops s t a = some-within stops (FitMovesFrom rules r set) (FitPieceMoves rules r) s t a (λ m h. h.0)
