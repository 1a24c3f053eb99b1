-- The parts are the moves that are no ordinary move of a piece without a gate, and no two of them have a move in common.
use Rattle.std.proofs.Common.{◌≡◌, ℕ, ◌+◌, ◌*◌, ◌/◌, ◌%◌, ◌<◌, ◌≤◌, ◌&&◌, inl, inr, Some, None, List, refl, ap, sym, subst, arith}
use Rattle.std.proofs.lemmas.Bool.{and_from, and_parts}
use Rattle.std.proofs.lemmas.Bool.Decides.{Decides-eqb}
use Rattle.rules_model.specs.declared.board.Kind.{Kind}
use Rattle.rules_model.specs.declared.board.Repeat.{Repeat}
use Rattle.rules_model.specs.declared.board.Side.{Side}
use Rattle.rules_model.specs.declared.board.Side.TheVariants.{White, Black}
use Rattle.rules_model.specs.declared.board.Square.{Square}
use Rattle.rules_model.specs.declared.board.Wing.TheVariants.{Kingside, Queenside}
use Rattle.rules_model.specs.declared.moves.Move.{Move}
use Rattle.rules_model.specs.declared.moves.Move.TheVariants.{Go, Castle, Drop}
use Rattle.rules_model.specs.declared.moves.Promo.{Promo}
use Rattle.rules_model.specs.declared.rules.Rules.{Rules}
use Rattle.rules_model.specs.Candidates.{is_special_move, own_piece_moves}
use Rattle.rules_model.specs.Fit.{IsFit}
use Rattle.rules_model.specs.Gates.{has_gate}
use Rattle.rules_model.specs.Gating.{gates_from}
use Rattle.rules_model.specs.Hands.{holds}
use Rattle.rules_model.specs.Regions.{first_rank, on_first_rank}
use Rattle.rules_model.specs.Squares.{cell_at, square_on}
use Rattle.piece_moves.specs.Taking.{IsSink, TakesAll, TakesSome}
use Rattle.piece_moves.proofs.TakingLemmas.{all-same, some-within}
use Rattle.special_moves.specs.PawnMoves.{FitPawnMoves, is_pawn_move}
use Rattle.special_moves.specs.Parts.{FitSpecialMoves, IsCastle, IsDrop, IsEither, IsBelow, IsGate, IsGateWith, kind_at}
use Rattle.special_moves.proofs.SquareLemmas.{on_board}
use Rattle.special_moves.proofs.BelowLemmas.{either-all, either-some}
use Rattle.special_moves.proofs.CastleLemmas.{made-to}
use Rattle.special_moves.proofs.CastlesLaws.{castle-special, castle-split}

-- which part a move is of
shape : Move → ℕ
shape (Go from to promo None) = 0
shape (Go from to promo (Some kind)) = 1
shape (Castle from to rook gate) = 2
shape (Drop kind to) = 3

module _ (rules : Rules) (r : Repeat) where
  pawn_shape : (m : Move) → FitPawnMoves rules r m → shape m ≡ 0
  unfolding shape is_pawn_move
  pawn_shape (Go from to promo None) h = refl
  pawn_shape (Go from to promo (Some kind)) h = let e = h.1 in cc
  pawn_shape (Castle from to rook gate) h = let e = h.1 in cc
  pawn_shape (Drop kind to) h = let e = h.1 in cc

  gate_shape : (m : Move) → IsGate rules r m → shape m ≡ 1
  unfolding shape
  gate_shape (Go from to promo None) h = let e = h.is.is.1.1 in cc
  gate_shape (Go from to promo (Some kind)) h = refl
  gate_shape (Castle from to rook gate) h = absurd h.is.is.1
  gate_shape (Drop kind to) h = absurd h.is.is.1

  castle_shape : (m : Move) → IsCastle rules r m → shape m ≡ 2
  unfolding shape
  castle_shape m (inl h) = ap shape (sym (made-to rules r Kingside m h).move.is)
  castle_shape m (inr h) = ap shape (sym (made-to rules r Queenside m h).move.is)

  drop_shape : (m : Move) → IsDrop rules r m → shape m ≡ 3
  unfolding shape
  drop_shape m h = ap shape (sym h.is.is.1)

  -- ---- each part is of these moves

  pawn_special : (m : Move) → FitPawnMoves rules r m → FitSpecialMoves rules r m
  unfolding is_special_move is_pawn_move
  pawn_special (Go from to promo None) h = h
  pawn_special (Go from to promo (Some kind)) h = let e = h.1 in cc
  pawn_special (Castle from to rook gate) h = let e = h.1 in cc
  pawn_special (Drop kind to) h = let e = h.1 in cc

  drop_special : (m : Move) → IsDrop rules r m → FitSpecialMoves rules r m
  unfolding is_special_move
  drop_special m h = subst (FitSpecialMoves rules r) h.is.is.1 ((h.below, h.is.below), h.is.is.0)

  first_below : (side : Side) → IsFit rules → first_rank rules side < 10
  first_below White fit = omega arith
  first_below Black fit = omega (arith, fit.ranks_least, fit.ranks_most)

  some_kind : (a b : Kind) → Some a ≡ Some b → a ≡ b
  some_kind a b e = cc

  gate_special : IsFit rules → (m : Move) → IsGate rules r m → FitSpecialMoves rules r m
  unfolding is_special_move
  gate_special fit (Go from to promo None) h = let e = h.is.is.1.1 in cc
  gate_special fit (Go from to promo (Some kind)) h =
      let start = square_on h.number (first_rank rules r.side) in
      let k = h.is.is.1 in
      let low = on_board (first_rank rules r.side) h.number (first_below r.side fit) h.below in
      let is_kind = some_kind kind (kind_at h.is.number) k.1 in
      subst (λ s. FitSpecialMoves rules r (Go s to promo (Some kind))) (sym k.0)
      (subst (λ x. FitSpecialMoves rules r (Go start to promo (Some x))) (sym is_kind)
      ((low, k.2, k.3, h.is.below), and_from (own_piece_moves rules r start to promo (cell_at r.cells start.0)) (gates_from rules r start (kind_at h.is.number)) k.4 h.is.is.0))
  gate_special fit (Castle from to rook gate) h = absurd h.is.is.1
  gate_special fit (Drop kind to) h = absurd h.is.is.1

  -- ---- each of these moves is of a part

  on_file : (s : Square) (rank : ℕ) → s.0 / 12 ≡ rank → s ≡ square_on (s.0 % 12) rank
  on_file s rank e = let n : s.0 ≡ 12 * rank + s.0 % 12 = omega (arith, e) in λ i. record { 0 = n i }

  gate_split : (from to : Square) (promo : Promo) (kind : Kind) → FitSpecialMoves rules r (Go from to promo (Some kind)) → IsGate rules r (Go from to promo (Some kind))
  unfolding is_special_move
  gate_split from to promo kind h =
      let a = and_parts (own_piece_moves rules r from to promo (cell_at r.cells from.0)) (gates_from rules r from kind) h.1 in
      let b = and_parts (rules.gate_hand && on_first_rank rules r.side from.0 && has_gate r.gates r.side (from.0 % 12)) (holds r.hands r.side kind) a.1 in
      let c = and_parts (rules.gate_hand && on_first_rank rules r.side from.0) (has_gate r.gates r.side (from.0 % 12)) b.0 in
      let d = (Decides-eqb (from.0 / 12) (first_rank rules r.side)).0 (and_parts rules.gate_hand (on_first_rank rules r.side from.0) c.0).1 in
      let start = on_file from (first_rank rules r.side) d in
      record {
        number = from.0 % 12;
        below = omega arith;
        is = subst (λ s. IsBelow (IsGateWith rules r s) 26 (Go from to promo (Some kind))) start (record {
          number = kind.0;
          below = h.0.3;
          is = (a.1, (refl, refl, h.0.1, h.0.2, a.0));
        });
      }

  -- the parts in turn
  abbrev pub Pawns : Move → Type 0
  Pawns = FitPawnMoves rules r

  abbrev pub Gated : Move → Type 0
  Gated = IsEither Pawns (IsGate rules r)

  abbrev pub Castled : Move → Type 0
  Castled = IsEither Gated (IsCastle rules r)

  abbrev pub Dropped : Move → Type 0
  Dropped = IsEither Castled (IsDrop rules r)

  split : (m : Move) → FitSpecialMoves rules r m → Dropped m
  unfolding is_special_move is_pawn_move
  split (Go from to promo None) h = inl (inl (inl h))
  split (Go from to promo (Some kind)) h = inl (inl (inr (gate_split from to promo kind h)))
  split (Castle from to rook gate) h = inl (inr (castle-split rules r from to rook gate h))
  split (Drop kind to) h = inr (record { number = kind.0; below = h.0.0; is = record { number = to.0; below = h.0.1; is = (h.1, refl) } })

  gated_special : IsFit rules → (m : Move) → Gated m → FitSpecialMoves rules r m
  gated_special fit m (inl h) = pawn_special m h
  gated_special fit m (inr h) = gate_special fit m h

  castled_special : IsFit rules → (m : Move) → Castled m → FitSpecialMoves rules r m
  castled_special fit m (inl h) = gated_special fit m h
  castled_special fit m (inr h) = castle-special rules r fit m h

  dropped_special : IsFit rules → (m : Move) → Dropped m → FitSpecialMoves rules r m
  dropped_special fit m (inl h) = castled_special fit m h
  dropped_special fit m (inr h) = drop_special m h

  gated_shape : (m : Move) → Gated m → shape m ≤ 1
  gated_shape m (inl h) = let e = pawn_shape m h in omega (arith, e)
  gated_shape m (inr h) = let e = gate_shape m h in omega (arith, e)

  castled_shape : (m : Move) → Castled m → shape m ≤ 2
  castled_shape m (inl h) = let e = gated_shape m h in omega (arith, e)
  castled_shape m (inr h) = let e = castle_shape m h in omega (arith, e)

  gates_apart : (m : Move) → Pawns m → IsGate rules r m → ⊥
  gates_apart m h k = let a = pawn_shape m h in let b = gate_shape m k in omega (arith, a, b)

  castles_apart : (m : Move) → Gated m → IsCastle rules r m → ⊥
  castles_apart m h k = let a = gated_shape m h in let b = castle_shape m k in omega (arith, a, b)

  drops_apart : (m : Move) → Castled m → IsDrop rules r m → ⊥
  drops_apart m h k = let a = castled_shape m h in let b = drop_shape m k in omega (arith, a, b)

  -- ---- what a sink takes of them

  module _ {S : Type 0} {takes stops : S → List Move → S → Type 0} (sink : IsSink takes stops) (fit : IsFit rules) where
    pub some-pawns : (s t : S) → TakesSome stops Pawns s t → TakesSome stops (FitSpecialMoves rules r) s t
    some-pawns s t a = some-within stops Pawns (FitSpecialMoves rules r) s t a pawn_special

    gated : (s t u : S) → TakesAll takes Pawns s t → TakesAll takes (IsGate rules r) t u → TakesAll takes Gated s u
    gated s t u a b = either-all sink Pawns (IsGate rules r) s t u gates_apart a b

    pub some-gates : (s t u : S) → TakesAll takes Pawns s t → TakesSome stops (IsGate rules r) t u → TakesSome stops (FitSpecialMoves rules r) s u
    some-gates s t u a b = some-within stops Gated (FitSpecialMoves rules r) s u (either-some sink Pawns (IsGate rules r) s t u gates_apart a b) (gated_special fit)

    castled : (s t u v : S) → TakesAll takes Pawns s t → TakesAll takes (IsGate rules r) t u → TakesAll takes (IsCastle rules r) u v → TakesAll takes Castled s v
    castled s t u v a b c = either-all sink Gated (IsCastle rules r) s u v castles_apart (gated s t u a b) c

    pub some-castles : (s t u v : S) → TakesAll takes Pawns s t → TakesAll takes (IsGate rules r) t u → TakesSome stops (IsCastle rules r) u v → TakesSome stops (FitSpecialMoves rules r) s v
    some-castles s t u v a b c = some-within stops Castled (FitSpecialMoves rules r) s v (either-some sink Gated (IsCastle rules r) s u v castles_apart (gated s t u a b) c) (castled_special fit)

    pub all-moves : (s t u v w : S) → TakesAll takes Pawns s t → TakesAll takes (IsGate rules r) t u → TakesAll takes (IsCastle rules r) u v → TakesAll takes (IsDrop rules r) v w → TakesAll takes (FitSpecialMoves rules r) s w
    all-moves s t u v w a b c d =
        all-same takes Dropped (FitSpecialMoves rules r) s w (either-all sink Castled (IsDrop rules r) s v w drops_apart (castled s t u v a b c) d) (dropped_special fit) split

    pub some-drops : (s t u v w : S) → TakesAll takes Pawns s t → TakesAll takes (IsGate rules r) t u → TakesAll takes (IsCastle rules r) u v → TakesSome stops (IsDrop rules r) v w → TakesSome stops (FitSpecialMoves rules r) s w
    some-drops s t u v w a b c d =
        some-within stops Dropped (FitSpecialMoves rules r) s w (either-some sink Castled (IsDrop rules r) s v w drops_apart (castled s t u v a b c) d) (dropped_special fit)
