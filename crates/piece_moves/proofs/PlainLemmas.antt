-- A plain piece's moves are those to its targets, as it is.
use Rattle.std.proofs.Common.{◌≡◌, ℕ, ◌<◌, Bool, true, false, not, ◌&&◌, ◌||◌, is_none, Option, Some, None, List, refl, sym, ◌∙◌, subst}
use Rattle.std.proofs.lemmas.Bool.{and_parts}
use Rattle.rules_model.specs.declared.board.Cell.{Cell}
use Rattle.rules_model.specs.declared.board.Kind.{Kind}
use Rattle.rules_model.specs.declared.board.Repeat.{Repeat}
use Rattle.rules_model.specs.declared.board.Square.{Square}
use Rattle.rules_model.specs.declared.moves.Move.{Move}
use Rattle.rules_model.specs.declared.moves.Move.TheVariants.{Go, Castle, Drop}
use Rattle.rules_model.specs.declared.moves.Promo.{Promo}
use Rattle.rules_model.specs.declared.moves.Promo.TheVariants.{Stays, Pawn, Plus}
use Rattle.rules_model.specs.declared.rules.Rules.{Rules}
use Rattle.rules_model.specs.declared.board.Wing.TheVariants.{Kingside, Queenside}
use Rattle.rules_model.specs.Candidates.{own_piece_moves}
use Rattle.rules_model.specs.Castling.{holds_right}
use Rattle.rules_model.specs.Kinds.{names, promoted_of}
use Rattle.rules_model.specs.Pieces.{piece_goes, piece_promo, may_plus, means_castling}
use Rattle.rules_model.specs.Squares.{cell_at}
use Rattle.rules_model.proofs.CandidateLaws.{not_both}
use Rattle.square_set.specs.declared.Set.{Set}
use Rattle.square_set.specs.Members.{has}
use Rattle.piece_moves.specs.InTurn.{GoesTo, target_of}
use Rattle.piece_moves.specs.Taking.{IsSink, TakesAll, TakesSome}
use Rattle.piece_moves.proofs.TakingLemmas.{all-none, all-same, some-within}
use Rattle.piece_moves.specs.Goals.{own_piece}
use Rattle.piece_moves.specs.Parts.{IsMoveFrom}
use Rattle.piece_moves.specs.Plain.{holds_a_right, is_plain}
use Rattle.piece_moves.specs.Targets.{AreTargets}
use Rattle.piece_moves.proofs.PartLemmas.{moves_is}

none_of : (o : Option Kind) → is_none o ≡ true → o ≡ None
none_of None e = refl
none_of (Some kind) e = cc

middle : (a b c : Bool) → (a && b && not c) ≡ true → (a ≡ true) × (b ≡ true)
middle a b c e = and_parts a b (and_parts (a && b) (not c) e).0

whole : (a b c : Bool) → a ≡ true → b ≡ true → c ≡ false → (a && b && not c) ≡ true
whole true true true e f g = cc
whole true true false e f g = refl
whole true false c e f g = cc
whole false b c e f g = cc

no_castle : (king near far a b c d : Bool) → not (king && (near || far)) ≡ true → (king && ((near && a && b) || (far && c && d))) ≡ false
no_castle true true far a b c d e = cc
no_castle true false true a b c d e = cc
no_castle true false false a b c d e = refl
no_castle false near far a b c d e = refl

module _ (rules : Rules) (r : Repeat) (piece : Cell) (from : Square) (gate : Option Kind) (targets : Set) (plain : is_plain rules r piece.kind ≡ true) (own : own_piece rules r.side (cell_at r.cells from.0) ≡ Some piece) (are : AreTargets rules r.cells r.side piece.kind from targets) where
  abbrev may_castle : Bool
  may_castle = names rules.king piece.kind && holds_a_right r

  may_not : (to : ℕ) → may_plus rules r.side piece.kind from.0 to ≡ false
  may_not to = rw (none_of (promoted_of rules piece.kind) (and_parts (not may_castle) (is_none (promoted_of rules piece.kind)) plain).1) refl

  castles_not : (to : ℕ) → means_castling rules r piece.kind from.0 to ≡ false
  castles_not to =
      no_castle (names rules.king piece.kind) (holds_right r.rights r.side Kingside) (holds_right r.rights r.side Queenside) _ _ _ _
      (and_parts (not may_castle) (is_none (promoted_of rules piece.kind)) plain).0

  -- it becomes nothing else
  stays_only : (to : ℕ) (promo : Promo) → piece_promo rules (may_plus rules r.side piece.kind from.0 to) promo ≡ true → promo ≡ Stays
  stays_only to Stays e = refl
  stays_only to (Pawn kind) e = cc
  stays_only to Plus e = let f = may_not to in cc

  stays_may : (to : ℕ) → piece_promo rules (may_plus rules r.side piece.kind from.0 to) Stays ≡ true
  stays_may to = rw (may_not to) refl

  parts : (to : Square) (promo : Promo) → own_piece_moves rules r from to promo (cell_at r.cells from.0) ≡ true → (piece_goes rules r.cells r.side piece.kind from to.0 ≡ true) × (promo ≡ Stays)
  parts to promo e =
      let h = middle (piece_goes rules r.cells r.side piece.kind from to.0) _ (means_castling rules r piece.kind from.0 to.0) (sym (moves_is rules r piece from to gate own promo) ∙ e) in
      (h.0, stays_only to.0 promo h.1)

  to_goes : (m : Move) → IsMoveFrom rules r from gate m → GoesTo from gate targets m
  to_goes (Go f t promo g) h =
      let k = parts t promo h.4 in
      let a = h.0 in let b = h.1 in let c = k.1 in
      (cc, are t.0 ∙ k.0)
  to_goes (Castle f t rook g) h = absurd h
  to_goes (Drop kind t) h = absurd h

  from_goes : ((s : ℕ) → has targets s ≡ true → s < 120) → (m : Move) → GoesTo from gate targets m → IsMoveFrom rules r from gate m
  from_goes small m h =
      let to : Square = record { 0 = target_of m } in
      subst (IsMoveFrom rules r from gate) h.0 (
        refl,
        refl,
        small (target_of m) h.1,
        tt,
        moves_is rules r piece from to gate own Stays
            ∙ whole (piece_goes rules r.cells r.side piece.kind from to.0) _ (means_castling rules r piece.kind from.0 to.0) (sym (are to.0) ∙ h.1) (stays_may to.0) (castles_not to.0),
      )

  -- it goes nowhere
  pub plain-none : {S : Type 0} {takes stops : S → List Move → S → Type 0} (sink : IsSink takes stops) (s : S) → ((k : ℕ) → has targets k ≡ false) → TakesAll takes (IsMoveFrom rules r from gate) s s
  plain-none sink s none = all-none sink (IsMoveFrom rules r from gate) s (λ m h. not_both (has targets (target_of m)) (to_goes m h).1 (none (target_of m)))

  pub plain-all : {S : Type 0} (takes : S → List Move → S → Type 0) (s t : S) → ((k : ℕ) → has targets k ≡ true → k < 120) → TakesAll takes (GoesTo from gate targets) s t → TakesAll takes (IsMoveFrom rules r from gate) s t
  plain-all takes s t small a = all-same takes (GoesTo from gate targets) (IsMoveFrom rules r from gate) s t a (from_goes small) to_goes

  pub plain-some : {S : Type 0} (stops : S → List Move → S → Type 0) (s t : S) → ((k : ℕ) → has targets k ≡ true → k < 120) → TakesSome stops (GoesTo from gate targets) s t → TakesSome stops (IsMoveFrom rules r from gate) s t
  plain-some stops s t small a = some-within stops (GoesTo from gate targets) (IsMoveFrom rules r from gate) s t a (from_goes small)
