-- Squares from which no move is asked for, and the list of the moves from them.
use Rattle.std.proofs.Common.{◌≡◌, Bool, true, false, ◌&&◌, ◌||◌, not, is_some, ◌⊎◌, inl, inr, Option, Some, None, List, ◌++◌, refl, sym, ap, ◌∙◌, append-nil}
use Rattle.std.specs.List.{filter}
use Rattle.std.proofs.lemmas.Bool.{and_from, and_parts, and_right, not-true, or_from, or_parts}
use Rattle.foundation.specs.Member.{Member, Lists}
use Rattle.foundation.proofs.Members.{filter-member, member-filter}
use Rattle.foundation.proofs.Ordered.{sorted-once}
use Rattle.rules_model.specs.declared.board.Cell.{Cell}
use Rattle.rules_model.specs.declared.board.Repeat.{Repeat}
use Rattle.rules_model.specs.declared.board.Square.{Square}
use Rattle.rules_model.specs.declared.moves.Move.{Move}
use Rattle.rules_model.specs.declared.moves.Move.TheVariants.{Go, Castle, Drop}
use Rattle.rules_model.specs.declared.moves.Promo.{Promo}
use Rattle.rules_model.specs.declared.moves.Promo.TheVariants.{Stays, Pawn, Plus}
use Rattle.rules_model.specs.declared.rules.Rules.{Rules}
use Rattle.rules_model.specs.Attacks.{is_own}
use Rattle.rules_model.specs.Candidates.{is_piece_move, own_piece_moves}
use Rattle.rules_model.specs.Kinds.{is_pawn, promoted_of}
use Rattle.rules_model.specs.Legal.{every_move}
use Rattle.rules_model.specs.Pieces.{piece_goes, piece_moves, piece_promo, may_plus, means_castling}
use Rattle.rules_model.specs.Repeats.{repeat_of}
use Rattle.rules_model.specs.Sides.{other, same_side}
use Rattle.rules_model.specs.Squares.{cell_at}
use Rattle.rules_model.proofs.CandidateLaws.{not_both}
use Rattle.rules_model.proofs.LegalLaws.{every-fit, every-has, every-sorted, move_cmp-total}
use Rattle.square_set.specs.declared.Set.{Set}
use Rattle.square_set.specs.Members.{has}
use Rattle.square_set.proofs.Cases.{by_bool}
use Rattle.move_tables.specs.Occupied.{AreMen, IsOccupied}
use Rattle.piece_moves.specs.Goals.{own_piece}
use Rattle.piece_moves.specs.InTurn.{Outside, start_of}
use Rattle.piece_moves.specs.Parts.{FitMovesFrom, FitPieceMoves}
use Rattle.piece_moves.specs.Taking.{TakesAll, TakesSome}
use Rattle.piece_moves.proofs.GoalLemmas.{there}
use Rattle.piece_moves.proofs.TakingLemmas.{all-join, some-within}
use Rattle.piece_moves.proofs.TargetLemmas.{targets_go}
use Rattle.legality.specs.declared.asked.Asked.{Asked}
use Rattle.legality.specs.declared.asked_sink.AskedSink.{AskedSink}
use Rattle.legality.specs.AskedChoices.{KeepsAsked, asked_by, filter_of}
use Rattle.legality.specs.AskedSquares.{AsksNoneFrom, GoesInVain, HasAskedStarts}
use Rattle.legality.specs.Asking.{is_asked, is_to, is_to_of}
use Rattle.legality.specs.Choices.{chosen_by}
use Rattle.legality.proofs.AskedLaws.{asked_sink}
use Rattle.legality.proofs.ListLaws.{once_filter}
use Rattle.legality.proofs.ListSinkLaws.{none_kept}

-- ---- the goals of a kind, by those of any board

narrow : (parts within reached there : Bool) → (parts && within) ≡ reached → (within && there) ≡ false → (reached && there) ≡ false
narrow true within reached there e f = ap (λ b. b && there) (sym e) ∙ f
narrow false within reached there e f = ap (λ b. b && there) (sym e)

pub no_goal : (p w q o b v t e : Bool) → (p && w) ≡ q → (b && v) ≡ t → ((w && not o) || (v && e)) ≡ false → ((q && not o) || (t && e)) ≡ false
no_goal p w q o b v t e quiet takes none =
    let parts = or_parts (w && not o) (v && e) none in
    or_from (q && not o) (t && e) (narrow p w q (not o) quiet parts.0) (narrow b v t e takes parts.1)

pub no_promoted : {X : Type 0} (o : Option X) → is_some o ≡ false → o ≡ None
no_promoted None e = refl
no_promoted (Some x) e = cc

no_plus : {X : Type 0} (o : Option X) (there : Bool) → o ≡ None → (is_some o && there) ≡ true → ⊥
no_plus None there e f = cc
no_plus (Some x) there e f = cc

pub none_hit : (goal there : Bool) → (goal && there) ≡ false → goal ≡ true → there ≡ false
none_hit true there e f = e
none_hit false there e f = cc

-- ---- the moves from one square

own_here : (rules : Rules) (r : Repeat) (piece : Cell) → is_own r.side (λ kind. not (is_pawn rules kind)) (Some piece) ≡ true → same_side piece.side r.side ≡ true
own_here rules r piece e = (and_parts (same_side piece.side r.side) (not (is_pawn rules piece.kind)) e).0

same_square : (a b : Square) → a.0 ≡ b.0 → a ≡ b
same_square a b e = λ i. record { 0 = e i }

module _ (asked : Asked) (rules : Rules) (r : Repeat) (piece : Cell) (from : Square) where
  -- the parts of an ordinary move
  goes_parts : (t : Square) (promo : Promo) → own_piece_moves rules r from t promo (Some piece) ≡ true → (piece_goes rules r.cells r.side piece.kind from t.0 ≡ true) × (piece_promo rules (may_plus rules r.side piece.kind from.0 t.0) promo ≡ true)
  unfolding piece_moves
  goes_parts t promo e =
      let m = (and_parts (same_side piece.side r.side && not (is_pawn rules piece.kind)) (piece_moves rules r piece from t promo) e).1 in
      let goes = piece_goes rules r.cells r.side piece.kind from t.0 in
      let becomes = piece_promo rules (may_plus rules r.side piece.kind from.0 t.0) promo in
      and_parts goes becomes (and_parts (goes && becomes) (not (means_castling rules r piece.kind from.0 t.0)) m).0

  -- one that stays what it is, to a square that is not one of its kind's
  unasked : (t : Square) → has asked.shut from.0 ≡ true → same_side piece.side r.side ≡ true → is_to asked piece.kind t.0 ≡ false → cell_at r.cells from.0 ≡ Some piece → is_asked asked r (Go from t Stays None) ≡ false
  unasked t shut own miss is =
      ap (λ b. not b || is_to_of asked r.side (cell_at r.cells from.0) t.0) shut
      ∙ ap (λ o. is_to_of asked r.side o t.0) is
      ∙ ap (λ b. not b || is_to asked piece.kind t.0) own
      ∙ miss

  by_promo : (t : Square) (promo : Promo) → promoted_of rules piece.kind ≡ None → piece_promo rules (may_plus rules r.side piece.kind from.0 t.0) promo ≡ true → is_asked asked r (Go from t Stays None) ≡ false → is_asked asked r (Go from t promo None) ≡ false
  by_promo t Stays none e f = f
  by_promo t (Pawn kind) none e f = cc
  by_promo t Plus none e f = absurd (no_plus (promoted_of rules piece.kind) _ none e)

  pub vain_none : (occupied enemies : Set) → IsOccupied occupied r.cells → AreMen (other r.side) r.cells enemies → has asked.shut from.0 ≡ true → cell_at r.cells from.0 ≡ Some piece
      → is_own r.side (λ kind. not (is_pawn rules kind)) (cell_at r.cells from.0) ≡ true → GoesInVain asked rules r.side piece.kind from occupied enemies → AsksNoneFrom asked rules r from.0
  unfolding is_piece_move
  vain_none occupied enemies all men shut is own vain (Go f t promo None) h at =
      let same : f ≡ from = same_square f from at in
      let e : own_piece_moves rules r from t promo (Some piece) ≡ true =
      ap (own_piece_moves rules r from t promo) (sym is) ∙ ap (λ x. own_piece_moves rules r x t promo (cell_at r.cells x.0)) (sym same) ∙ h.1 in
      let parts = goes_parts t promo e in
      let stands : own_piece rules r.side (cell_at r.cells from.0) ≡ Some piece = there rules r.side (cell_at r.cells from.0) piece is own in
      let miss = vain.misses r.cells all t.0 (targets_go rules r.cells r.side from piece stands occupied enemies t.0 all men ∙ parts.0) in
      let here = own_here rules r piece (ap (is_own r.side (λ kind. not (is_pawn rules kind))) (sym is) ∙ own) in
      ap (λ x. is_asked asked r (Go x t promo None)) same ∙ by_promo t promo vain.stays parts.1 (unasked t shut here miss is)
  vain_none occupied enemies all men shut is own vain (Go f t promo (Some kind)) h at = let e = h.1 in cc
  vain_none occupied enemies all men shut is own vain (Castle f t rook g) h at = let e = h.1 in cc
  vain_none occupied enemies all men shut is own vain (Drop kind t) h at = let e = h.1 in cc

-- a square that is taken out of the set is the one, or was outside before
pub taken_out : (kept other : Bool) → (kept && not other) ≡ false → (other ≡ false → kept ≡ false)
taken_out true other e f = let g = rw f at e in cc
taken_out false other e f = refl

-- ---- the moves that are left out, as a list

module _ (rules : Rules) (r : Repeat) (from : Set) where
  abbrev is_left : Move → Bool
  is_left m = is_piece_move rules r m && not (has from (start_of m))

  abbrev pub left_out : List Move
  left_out = filter is_left every_move

  abbrev pub LeftOut : Move → Type 0
  LeftOut = Outside (FitPieceMoves rules r) start_of from

  pub left_sound : (m : Move) → Member m left_out → LeftOut m
  left_sound m h =
      let k = filter-member is_left m every_move h in
      let p = and_parts (is_piece_move rules r m) (not (has from (start_of m))) k.1 in
      ((every-fit m k.0, p.0), not-true (has from (start_of m)) p.1)

  left_complete : (m : Move) → LeftOut m → Member m left_out
  left_complete m h =
      member-filter is_left m every_move (every-has m h.0.0) (and_from (is_piece_move rules r m) (not (has from (start_of m))) h.0.1 (ap not h.1))

  pub left_lists : Lists LeftOut left_out
  left_lists = record {
    once = once_filter is_left every_move (sorted-once move_cmp-total every_move every-sorted);
    sound = left_sound;
    complete = left_complete;
  }

-- ---- what a sink takes that leaves them out

module _ (s : AskedSink) (from : Set) where
  abbrev rules : Rules
  rules = s.keeper.move_filter.pin_info.tables.now

  abbrev r : Repeat
  r = repeat_of s.keeper.move_filter.pin_info.p.now

  module _ (starts : HasAskedStarts s.asked.now rules r from) where
    none_asked : (m : Move) → Member m (left_out rules r from) → asked_by (filter_of s) m ≡ false
    none_asked m h =
        let k = left_sound rules r from m h in
        and_right (chosen_by s.keeper.move_filter m) (is_asked s.asked.now r m) (starts m k.0 k.1)

    left_taken : TakesAll KeepsAsked (LeftOut rules r from) s s
    left_taken = record {
      moves = left_out rules r from;
      taken = (refl, sym (ap (λ l. s.keeper.list ++ l) (none_kept (asked_by (filter_of s)) (left_out rules r from) none_asked) ∙ append-nil s.keeper.list));
      each = left_lists rules r from;
    }

    -- all ordinary moves are taken where those from the set are
    pub pieces_all : (t : AskedSink) → TakesAll KeepsAsked (FitMovesFrom rules r from) s t → TakesAll KeepsAsked (FitPieceMoves rules r) s t
    pieces_all t a =
        all-join asked_sink (LeftOut rules r from) (FitMovesFrom rules r from) (FitPieceMoves rules r) s s t left_taken a
        (λ m h k. not_both (has from (start_of m)) k.1 h.1)
        (λ m h. by_bool (has from (start_of m)) (LeftOut rules r from m ⊎ FitMovesFrom rules r from m) (λ e. inr (h, e)) (λ e. inl (h, e)))
        (λ m h. elim h as (λ _. FitPieceMoves rules r m) [ inl k ↦ k.0 | inr k ↦ k.0 ])

  pub pieces_some : (t : AskedSink) → TakesSome KeepsAsked (FitMovesFrom rules r from) s t → TakesSome KeepsAsked (FitPieceMoves rules r) s t
  pieces_some t a = some-within KeepsAsked (FitMovesFrom rules r from) (FitPieceMoves rules r) s t a (λ m h. h.0)
