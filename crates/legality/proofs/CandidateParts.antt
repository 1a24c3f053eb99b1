-- The candidates, from the ordinary moves of pieces and the others.
use Rattle.std.proofs.Common.{◌≡◌, ◌&&◌, not, true, ◌⊎◌, inl, inr, Option, Some, None, List, subst}
use Rattle.std.proofs.lemmas.Bool.{and_parts, or_cases, or_left, or_right, not-true}
use Rattle.rules_model.specs.declared.board.Cell.{Cell}
use Rattle.rules_model.specs.declared.board.Repeat.{Repeat}
use Rattle.rules_model.specs.declared.board.Square.{Square}
use Rattle.rules_model.specs.declared.moves.Move.{Move}
use Rattle.rules_model.specs.declared.moves.Move.TheVariants.{Go, Castle, Drop}
use Rattle.rules_model.specs.declared.moves.Promo.{Promo}
use Rattle.rules_model.specs.declared.rules.Rules.{Rules}
use Rattle.rules_model.specs.Squares.{cell_at}
use Rattle.rules_model.specs.Sides.{same_side}
use Rattle.rules_model.specs.Kinds.{is_pawn}
use Rattle.rules_model.specs.Pieces.{piece_moves}
use Rattle.rules_model.specs.Pawns.{pawn_moves}
use Rattle.rules_model.specs.Candidates.{own_piece_moves, own_pawn_moves, is_piece_move, is_special_move, is_candidate}
use Rattle.rules_model.proofs.CandidateLaws.{not_both}
use Rattle.piece_moves.specs.Taking.{IsSink, TakesAll, TakesSome}
use Rattle.piece_moves.proofs.TakingLemmas.{all-join, some-behind, some-within}
use Rattle.piece_moves.specs.Parts.{FitPieceMoves}
use Rattle.special_moves.specs.Parts.{FitSpecialMoves}
use Rattle.legality.specs.Chosen.{FitCandidates}

-- a piece is a pawn or not
pawn_apart : (rules : Rules) (r : Repeat) (from to : Square) (promo : Promo) (c : Option Cell) → own_piece_moves rules r from to promo c ≡ true → own_pawn_moves rules r from to promo c ≡ true → ⊥
pawn_apart rules r from to promo None e f = cc
pawn_apart rules r from to promo (Some x) e f =
    let a = and_parts (same_side x.side r.side && not (is_pawn rules x.kind)) (piece_moves rules r x from to promo) e in
    let b = and_parts (same_side x.side r.side && is_pawn rules x.kind) (pawn_moves rules r from to promo) f in
    not_both (is_pawn rules x.kind) (and_parts (same_side x.side r.side) (is_pawn rules x.kind) b.0).1 (not-true _ (and_parts (same_side x.side r.side) (not (is_pawn rules x.kind)) a.0).1)

-- no move is both an ordinary one of a piece and another
special_apart : (rules : Rules) (r : Repeat) (m : Move) → is_piece_move rules r m ≡ true → is_special_move rules r m ≡ true → ⊥
unfolding is_piece_move is_special_move
special_apart rules r (Go from to promo None) e f = pawn_apart rules r from to promo (cell_at r.cells from.0) e f
special_apart rules r (Go from to promo (Some kind)) e f = cc
special_apart rules r (Castle from to rook gate) e f = cc
special_apart rules r (Drop kind to) e f = cc

from_piece : (rules : Rules) (r : Repeat) (m : Move) → FitPieceMoves rules r m → FitCandidates rules r m
unfolding is_candidate
from_piece rules r m h = (h.0, or_left _ _ h.1)

from_special : (rules : Rules) (r : Repeat) (m : Move) → FitSpecialMoves rules r m → FitCandidates rules r m
unfolding is_candidate
from_special rules r m h = (h.0, or_right _ _ h.1)

split : (rules : Rules) (r : Repeat) (m : Move) → FitCandidates rules r m → FitPieceMoves rules r m ⊎ FitSpecialMoves rules r m
unfolding is_candidate
split rules r m h =
    elim (or_cases (is_piece_move rules r m) (is_special_move rules r m) h.1) as (λ _. FitPieceMoves rules r m ⊎ FitSpecialMoves rules r m) [ inl e ↦ inl (h.0, e) | inr e ↦ inr (h.0, e) ]

apart : (rules : Rules) (r : Repeat) (m : Move) → FitPieceMoves rules r m → FitSpecialMoves rules r m → ⊥
apart rules r m h k = special_apart rules r m h.1 k.1

-- the moves of both kinds are those of some rules, which are these
module _ {S : Type 0} {takes stops : S → List Move → S → Type 0} (sink : IsSink takes stops) (given rules : Rules) (same : given ≡ rules) (r : Repeat) where
  pub candidates-all : (s t u : S) → TakesAll takes (FitPieceMoves given r) s t → TakesAll takes (FitSpecialMoves given r) t u → TakesAll takes (FitCandidates rules r) s u
  candidates-all s t u a b =
      let All : Rules → Type 0 = λ rules'. TakesAll takes (FitCandidates rules' r) s u in
      subst All same (all-join sink (FitPieceMoves given r) (FitSpecialMoves given r) (FitCandidates given r) s t u a b (apart given r) (split given r)
      (λ m h. elim h as (λ _. FitCandidates given r m) [ inl k ↦ from_piece given r m k | inr k ↦ from_special given r m k ]))

  pub candidates-first : (s t : S) → TakesSome stops (FitPieceMoves given r) s t → TakesSome stops (FitCandidates rules r) s t
  candidates-first s t a =
      let Taken : Rules → Type 0 = λ rules'. TakesSome stops (FitCandidates rules' r) s t in
      subst Taken same (some-within stops (FitPieceMoves given r) (FitCandidates given r) s t a (from_piece given r))

  pub candidates-second : (s t u : S) → TakesAll takes (FitPieceMoves given r) s t → TakesSome stops (FitSpecialMoves given r) t u → TakesSome stops (FitCandidates rules r) s u
  candidates-second s t u a b =
      let Taken : Rules → Type 0 = λ rules'. TakesSome stops (FitCandidates rules' r) s u in
      subst Taken same (some-behind sink (FitPieceMoves given r) (FitSpecialMoves given r) (FitCandidates given r) s t u a b (apart given r) (from_piece given r) (from_special given r))
