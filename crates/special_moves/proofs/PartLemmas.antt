-- How the parts of the pawns' moves make the whole.
use Rattle.std.proofs.Common.{◌≡◌, ℕ, ◌+◌, ◌<◌, ◌≤◌, Bool, true, false, ◌&&◌, ◌||◌, not, ◌⊎◌, inl, inr, ⊎_elim, Option, Some, None, is_none, is_some, List, ℤ, pos, negsuc, refl, arith, ap, sym, ◌∙◌, subst}
use Rattle.std.proofs.lemmas.Bool.{or_cases, and_parts, and_from, and_right}
use Rattle.std.proofs.Math.Nat.{eq-or-lt_of_le}
use Rattle.rules_model.specs.declared.board.Cell.{Cell}
use Rattle.rules_model.specs.declared.board.Kind.{Kind}
use Rattle.rules_model.specs.declared.board.Repeat.{Repeat}
use Rattle.rules_model.specs.declared.board.Square.{Square}
use Rattle.rules_model.specs.declared.moves.Move.{Move}
use Rattle.rules_model.specs.declared.moves.Move.TheVariants.{Go, Castle, Drop}
use Rattle.rules_model.specs.declared.moves.Promo.{Promo}
use Rattle.rules_model.specs.declared.moves.Promo.TheVariants.{Stays, Pawn, Plus}
use Rattle.rules_model.specs.declared.rules.Rules.{Rules}
use Rattle.rules_model.specs.Attacks.{ahead, pawn_ray, right_ahead, left_ahead, is_diagonal, is_own_pawn}
use Rattle.rules_model.specs.Candidates.{own_pawn_moves}
use Rattle.rules_model.specs.Fit.{IsFit}
use Rattle.rules_model.specs.Kinds.{board_of, is_pawn, masks, names}
use Rattle.rules_model.specs.Moves.{IsFitPromo}
use Rattle.rules_model.specs.Pawns.{is_enemy, is_ep, is_stays, may_promote, pawn_goes, pawn_moves, pawn_promo, passes_by, steps_twice}
use Rattle.rules_model.specs.Reach.{is_at}
use Rattle.rules_model.specs.Sides.{same_side}
use Rattle.rules_model.specs.Squares.{step_to, cell_at}
use Rattle.rules_model.proofs.CandidateLaws.{at_some, not_both}
use Rattle.square_set.specs.declared.Set.{Set}
use Rattle.square_set.specs.Members.{has}
use Rattle.board_sets.specs.Sets.{AreOwnPawns}
use Rattle.piece_moves.specs.InTurn.{At, start_of}
use Rattle.piece_moves.specs.Taking.{IsChosen, TakesAll, TakesSome}
use Rattle.piece_moves.proofs.TakingLemmas.{all-same, some-within}
use Rattle.special_moves.specs.declared.pawn.Flank.TheVariants.{Right, Left}
use Rattle.special_moves.specs.PawnParts.{go, IsPromotion, becomes, IsMoveTo, IsMoveToSome, IsAhead, IsStep, IsAside, IsTake, IsMoveFrom, IsOwnMoveFrom, may_step_twice}
use Rattle.special_moves.specs.PawnMoves.{is_pawn_move, FitPawnMoves}
use Rattle.special_moves.proofs.GoalLemmas.{fit_board, two_goes, two_passes}
use Rattle.special_moves.proofs.StepLemmas.{Differ, step_below, one_two, one_right, one_left, right_left}

-- ---- promotions, by the kinds below a number

cases : (k n : ℕ) → k < n + 1 → (k < n) ⊎ (k ≡ n)
cases k n l = elim (eq-or-lt_of_le (let h : k ≤ n = omega arith in h)) as (λ _. (k < n) ⊎ (k ≡ n)) [ inl e ↦ inr e | inr s ↦ inl s ]

same_kind : (a : Kind) (k : ℕ) → a.0 ≡ k → a ≡ record { 0 = k }
same_kind a k e = λ i. record { 0 = e i }

module _ (mask : List Bool) (from to : Square) where
  abbrev kind : ℕ → Kind
  kind k = record { 0 = k }

  abbrev One : ℕ → Move → Type 0
  One k m = IsChosen (masks mask (kind k)) (go from to (Pawn (kind k))) m

  pub promotions-none : (m : Move) → IsPromotion mask from to 0 m → ⊥
  promotions-none m h = omega (arith, h.1)

  pub promotions-apart : (k : ℕ) (m : Move) → IsPromotion mask from to k m → One k m → ⊥
  promotions-apart k m h o =
      let a = h.3 in
      let b = o.1 in
      let same : h.0 ≡ kind k = cc in
      let number : h.0.0 ≡ k = ap (λ x. x.0) same in
      let below = h.1 in
      omega (arith, number, below)

  pub promotions-split : (k : ℕ) (m : Move) → IsPromotion mask from to (k + 1) m → IsPromotion mask from to k m ⊎ One k m
  promotions-split k m h =
      elim (cases h.0.0 k h.1) as (λ _. IsPromotion mask from to k m ⊎ One k m) [
        | inl l ↦ inl (h.0, l, h.2, h.3)
        | inr e ↦ inr (ap (masks mask) (sym (same_kind h.0 k e)) ∙ h.2, ap (λ x. go from to (Pawn x)) (sym (same_kind h.0 k e)) ∙ h.3)
      ]

  pub promotions-grow : (k n : ℕ) → k ≤ n → (m : Move) → IsPromotion mask from to k m → IsPromotion mask from to n m
  promotions-grow k n l m h = (h.0, omega (arith, l, h.1), h.2, h.3)

  pub promotions-gain : (k n : ℕ) → k < n → (m : Move) → One k m → IsPromotion mask from to n m
  promotions-gain k n l m o = (kind k, l, o.0, o.1)

  pub promotions-join : (k : ℕ) (m : Move) → IsPromotion mask from to k m ⊎ One k m → IsPromotion mask from to (k + 1) m
  promotions-join k m s = ⊎_elim (promotions-grow k (k + 1) (omega arith) m) (promotions-gain k (k + 1) (omega arith) m) s

-- ---- the moves from a square to another

module _ (rules : Rules) (r : Repeat) (from to : Square) where
  abbrev may : Bool
  may = may_promote rules r.side to.0

  abbrev goes : Bool
  goes = pawn_goes rules r from to.0

  abbrev passes : Bool
  passes = passes_by rules r from to.0

  -- where it may promote, as the generator asks
  abbrev promotes : Bool
  promotes = goes && may

  abbrev Stay : Move → Type 0
  Stay = IsChosen (becomes rules promotes goes passes Stays) (go from to Stays)

  abbrev Promotions : Move → Type 0
  Promotions = IsPromotion rules.promotion_kinds from to 26

  stays_is : (g y p m : Bool) → ((g && not (y && m)) || (p && true)) ≡ ((g && not ((g && y) && m)) || (p && true))
  stays_is true y p m = refl
  stays_is false y p m = refl

  pawn_is : (g y p k : Bool) → ((g && (y && k)) || (p && false)) ≡ ((g && y) && k)
  pawn_is true true true true = refl
  pawn_is true true true false = refl
  pawn_is true true false true = refl
  pawn_is true true false false = refl
  pawn_is true false true k = refl
  pawn_is true false false k = refl
  pawn_is false y true k = refl
  pawn_is false y false k = refl

  plus_is : (g p : Bool) → ((g && false) || (p && false)) ≡ false
  plus_is true true = refl
  plus_is true false = refl
  plus_is false true = refl
  plus_is false false = refl

  at_stays : pawn_moves rules r from to Stays ≡ becomes rules promotes goes passes Stays
  unfolding pawn_moves
  at_stays = stays_is goes may passes rules.must_promote_pawn

  at_pawn : (kind : Kind) → pawn_moves rules r from to (Pawn kind) ≡ (promotes && masks rules.promotion_kinds kind)
  unfolding pawn_moves
  at_pawn kind = pawn_is goes may passes (masks rules.promotion_kinds kind)

  at_plus : pawn_moves rules r from to Plus ≡ false
  unfolding pawn_moves
  at_plus = plus_is goes passes

  pub to-apart : (m : Move) → Stay m → Promotions m → ⊥
  to-apart m s p = let a = s.1 in let b = p.3 in cc

  split : (promo : Promo) (m : Move) → IsFitPromo promo → pawn_moves rules r from to promo ≡ true → go from to promo ≡ m → Stay m ⊎ ((promotes ≡ true) × Promotions m)
  split Stays m f e g = inl (sym at_stays ∙ e, g)
  split (Pawn kind) m f e g =
      let both = and_parts promotes (masks rules.promotion_kinds kind) (sym (at_pawn kind) ∙ e) in
      inr (both.0, (kind, f, both.1, g))
  split Plus m f e g = absurd (not_both (pawn_moves rules r from to Plus) e at_plus)

  pub to-split : (m : Move) → IsMoveTo rules r from to m → Stay m ⊎ Promotions m
  to-split m h = elim (split h.0 m h.1 h.2 h.3) as (λ _. Stay m ⊎ Promotions m) [ inl s ↦ inl s | inr p ↦ inr p.1 ]

  -- where it does not promote
  pub to-only : promotes ≡ false → (m : Move) → IsMoveTo rules r from to m → Stay m
  to-only e m h = elim (split h.0 m h.1 h.2 h.3) as (λ _. Stay m) [ inl s ↦ s | inr p ↦ absurd (not_both promotes p.0 e) ]

  pub to-stays : (m : Move) → Stay m → IsMoveTo rules r from to m
  to-stays m s = (Stays, tt, at_stays ∙ s.0, s.1)

  pub to-promotes : promotes ≡ true → (m : Move) → Promotions m → IsMoveTo rules r from to m
  to-promotes e m p = (Pawn p.0, p.1, at_pawn p.0 ∙ and_from promotes (masks rules.promotion_kinds p.0) e p.2, p.3)

  pub to-join : promotes ≡ true → (m : Move) → Stay m ⊎ Promotions m → IsMoveTo rules r from to m
  to-join e m s = ⊎_elim (to-stays m) (to-promotes e m) s

  nothing : (g p a b : Bool) → g ≡ false → p ≡ false → ((g && a) || (p && b)) ≡ true → ⊥
  nothing true p a b g q e = cc
  nothing false true a b g q e = cc
  nothing false false a b g q e = cc

  -- it neither goes there nor passes
  pub to-none : goes ≡ false → passes ≡ false → (m : Move) → IsMoveTo rules r from to m → ⊥
  unfolding pawn_moves
  to-none g p m h = nothing goes passes (pawn_promo rules may h.0) (is_stays h.0) g p h.2

-- ---- the moves from a square

module _ (rules : Rules) (r : Repeat) (from : Square) where
  abbrev AtSome : Option ℕ → Move → Type 0
  AtSome = IsMoveToSome rules r from

  abbrev one : Option ℕ
  one = ahead (board_of rules) r.side from 1

  abbrev two : Option ℕ
  two = ahead (board_of rules) r.side from 2

  abbrev right : Option ℕ
  right = right_ahead (board_of rules) r.side from

  abbrev left : Option ℕ
  left = left_ahead (board_of rules) r.side from

  pub some-none : (o : Option ℕ) → o ≡ None → (m : Move) → AtSome o m → ⊥
  some-none None e m h = h
  some-none (Some to) e m h = cc

  pub some-at : (o : Option ℕ) (to : Square) → o ≡ Some to.0 → (m : Move) → IsMoveTo rules r from to m → AtSome o m
  some-at o to e m h = subst (λ x. AtSome x m) (sym e) h

  pub at-some : (o : Option ℕ) (to : Square) → o ≡ Some to.0 → (m : Move) → AtSome o m → IsMoveTo rules r from to m
  at-some o to e m h = subst (λ x. AtSome x m) e h

  some_apart : (a b : Option ℕ) → Differ a b → (m : Move) → AtSome a m → AtSome b m → ⊥
  some_apart None b apart m h k = h
  some_apart (Some s) None apart m h k = k
  some_apart (Some s) (Some t) apart m h k =
      let a = h.3 in
      let b = k.3 in
      let to : Square = record { 0 = s } in
      let other : Square = record { 0 = t } in
      let same : to ≡ other = cc in
      apart s refl (ap (λ x. Some x.0) (sym same))

  some_from : (o : Option ℕ) → ((s : ℕ) → o ≡ Some s → s < 120) → (m : Move) → AtSome o m → IsMoveFrom rules r from m
  some_from None below m h = absurd h
  some_from (Some s) below m h = (record { 0 = s }, below s refl, h)

  -- ---- straight forward

  not_twice : IsFit rules → may_step_twice rules r from ≡ false → (m : Move) (o : Option ℕ) → two ≡ o → AtSome o m → ⊥
  not_twice fit e m None f h = h
  not_twice fit e m (Some to) f h =
      let goes = two_goes rules r from fit to f ∙ and_right (is_none (cell_at r.cells to)) (may_step_twice rules r from) e in
      to-none rules r from (record { 0 = to }) goes (two_passes rules r from fit to f) m h

  -- not from there
  pub two-none : IsFit rules → may_step_twice rules r from ≡ false → (m : Move) → IsAhead rules r from 2 m → ⊥
  two-none fit e m h = not_twice fit e m two refl h

  pub step-apart : IsFit rules → (m : Move) → IsAhead rules r from 1 m → IsAhead rules r from 2 m → ⊥
  step-apart fit = some_apart one two (one_two (board_of rules) from (fit_board rules fit) r.side (pos 0) (pos 0))

  pub take-apart : IsFit rules → (m : Move) → IsAside rules r from Right m → IsAside rules r from Left m → ⊥
  take-apart fit = some_apart right left (right_left (board_of rules) from (fit_board rules fit) r.side)

  -- ---- all of them

  two_aside : IsFit rules → (dx : ℤ) → Differ two (step_to (pawn_ray (board_of rules) r.side dx from) 1)
  two_aside fit dx s e f = one_two (board_of rules) from (fit_board rules fit) r.side dx (pos 0) s f e

  pub from-apart : IsFit rules → (m : Move) → IsStep rules r from m → IsTake rules r from m → ⊥
  from-apart fit m (inl a) (inl b) = some_apart one right (one_right (board_of rules) from (fit_board rules fit) r.side) m a b
  from-apart fit m (inl a) (inr b) = some_apart one left (one_left (board_of rules) from (fit_board rules fit) r.side) m a b
  from-apart fit m (inr a) (inl b) = some_apart two right (two_aside fit (pos 1)) m a b
  from-apart fit m (inr a) (inr b) = some_apart two left (two_aside fit (negsuc 0)) m a b

  -- the square is one of the targets
  abbrev IsTarget : ℕ → Type 0
  IsTarget to = ((one ≡ Some to) ⊎ (two ≡ Some to)) ⊎ ((right ≡ Some to) ⊎ (left ≡ Some to))

  by_diagonal : (to : ℕ) → is_diagonal (board_of rules) r.side from to ≡ true → IsTarget to
  unfolding is_diagonal
  by_diagonal to e = ⊎_elim (λ h. inr (inl (at_some to right h))) (λ h. inr (inr (at_some to left h))) (or_cases (is_at to right) (is_at to left) e)

  by_step : (to : ℕ) → (is_at to one || steps_twice rules r from to) ≡ true → IsTarget to
  by_step to e =
      ⊎_elim (λ h. inl (inl (at_some to one h))) (λ h. inl (inr (at_some to two (and_parts (may_step_twice rules r from) (is_at to two) h).1)))
      (or_cases (is_at to one) (steps_twice rules r from to) e)

  by_going : (to : ℕ) → pawn_goes rules r from to ≡ true → IsTarget to
  unfolding pawn_goes
  by_going to e =
      ⊎_elim
      (λ h. by_step to (and_parts (is_none (cell_at r.cells to)) (is_at to one || steps_twice rules r from to) h).1)
      (λ h. by_diagonal to (and_parts (is_enemy r.side (cell_at r.cells to)) (is_diagonal (board_of rules) r.side from to) h).1)
      (or_cases (is_none (cell_at r.cells to) && (is_at to one || steps_twice rules r from to)) (is_enemy r.side (cell_at r.cells to) && is_diagonal (board_of rules) r.side from to) e)

  by_passing : (to : ℕ) → passes_by rules r from to ≡ true → IsTarget to
  unfolding passes_by
  by_passing to e = by_diagonal to (and_parts (is_own_pawn rules r.side (cell_at r.cells from.0) && is_ep r.ep to) (is_diagonal (board_of rules) r.side from to) e).1

  -- a pawn moves to no other square
  target : (to : Square) (promo : Promo) → pawn_moves rules r from to promo ≡ true → IsTarget to.0
  unfolding pawn_moves
  target to promo e =
      ⊎_elim
      (λ h. by_going to.0 (and_parts (pawn_goes rules r from to.0) (pawn_promo rules (may_promote rules r.side to.0) promo) h).0)
      (λ h. by_passing to.0 (and_parts (passes_by rules r from to.0) (is_stays promo) h).0)
      (or_cases (pawn_goes rules r from to.0 && pawn_promo rules (may_promote rules r.side to.0) promo) (passes_by rules r from to.0 && is_stays promo) e)

  pub from-split : (m : Move) → IsMoveFrom rules r from m → IsStep rules r from m ⊎ IsTake rules r from m
  from-split m h =
      ⊎_elim
      (λ s. inl (⊎_elim (λ e. inl (some-at one h.0 e m h.2)) (λ e. inr (some-at two h.0 e m h.2)) s))
      (λ s. inr (⊎_elim (λ e. inl (some-at right h.0 e m h.2)) (λ e. inr (some-at left h.0 e m h.2)) s))
      (target h.0 h.2.0 h.2.2)

  below : IsFit rules → (dx : ℤ) (k s : ℕ) → step_to (pawn_ray (board_of rules) r.side dx from) k ≡ Some s → s < 120
  below fit dx k s e = step_below (pawn_ray (board_of rules) r.side dx from) k s (fit_board rules fit) e

  pub from-step : IsFit rules → (m : Move) → IsStep rules r from m → IsMoveFrom rules r from m
  from-step fit m (inl h) = some_from one (below fit (pos 0) 1) m h
  from-step fit m (inr h) = some_from two (below fit (pos 0) 2) m h

  pub from-take : IsFit rules → (m : Move) → IsTake rules r from m → IsMoveFrom rules r from m
  from-take fit m (inl h) = some_from right (below fit (pos 1) 1) m h
  from-take fit m (inr h) = some_from left (below fit (negsuc 0) 1) m h

  pub from-join : IsFit rules → (m : Move) → IsStep rules r from m ⊎ IsTake rules r from m → IsMoveFrom rules r from m
  from-join fit m s = ⊎_elim (from-step fit m) (from-take fit m) s

-- ---- the moves from all squares

same_square : (a : Square) (s : ℕ) → a.0 ≡ s → a ≡ record { 0 = s }
same_square a s e = λ i. record { 0 = e i }

module _ (rules : Rules) (r : Repeat) where
  -- ---- the fit moves

  own_moves : (o : Option Cell) (a b : Square) (promo : Promo) → own_pawn_moves rules r a b promo o ≡ (is_own_pawn rules r.side o && pawn_moves rules r a b promo)
  own_moves None a b promo = refl
  own_moves (Some c) a b promo = refl

  pub go_is : (a b : Square) (promo : Promo) → is_pawn_move rules r (go a b promo) ≡ (is_own_pawn rules r.side (cell_at r.cells a.0) && pawn_moves rules r a b promo)
  unfolding is_pawn_move
  go_is a b promo = own_moves (cell_at r.cells a.0) a b promo

  pub go_parts : (a b : Square) (promo : Promo) → is_pawn_move rules r (go a b promo) ≡ true → (is_own_pawn rules r.side (cell_at r.cells a.0) ≡ true) × (pawn_moves rules r a b promo ≡ true)
  go_parts a b promo e = and_parts (is_own_pawn rules r.side (cell_at r.cells a.0)) (pawn_moves rules r a b promo) (sym (go_is a b promo) ∙ e)

  -- each starts from an own pawn
  own_there : (m : Move) → FitPawnMoves rules r m → is_own_pawn rules r.side (cell_at r.cells (start_of m)) ≡ true
  unfolding is_pawn_move
  own_there (Go a b promo None) h = (go_parts a b promo h.1).0
  own_there (Go a b promo (Some kind)) h = let e = h.1 in cc
  own_there (Castle a b rook gate) h = let e = h.1 in cc
  own_there (Drop kind b) h = let e = h.1 in cc

  pub from_pawn : (pawns : Set) → AreOwnPawns rules r.side r.cells pawns → (m : Move) → FitPawnMoves rules r m → has pawns (start_of m) ≡ true
  from_pawn pawns are m h = are (start_of m) ∙ own_there m h

  module _ (from : Square) (l : from.0 < 120) (own : is_own_pawn rules r.side (cell_at r.cells from.0) ≡ true) where
    fit_there : (m : Move) → IsOwnMoveFrom rules r from m → At (FitPawnMoves rules r) start_of from.0 m
    fit_there m h =
        let to = h.1.0 in
        let promo = h.1.2.0 in
        subst (At (FitPawnMoves rules r) start_of from.0) h.1.2.3
        (((l, h.1.1, h.1.2.1, tt), go_is from to promo ∙ and_from (is_own_pawn rules r.side (cell_at r.cells from.0)) (pawn_moves rules r from to promo) h.0 h.1.2.2), refl)

    there_fit : (m : Move) → At (FitPawnMoves rules r) start_of from.0 m → IsOwnMoveFrom rules r from m
    unfolding is_pawn_move
    there_fit (Go a b promo None) h =
        let k = go_parts a b promo h.0.1 in
        subst (λ x. IsOwnMoveFrom rules r x (go a b promo)) (same_square a from.0 h.1) (k.0, (b, h.0.0.1, (promo, h.0.0.2, k.1, refl)))
    there_fit (Go a b promo (Some kind)) h = let e = h.0.1 in cc
    there_fit (Castle a b rook gate) h = let e = h.0.1 in cc
    there_fit (Drop kind b) h = let e = h.0.1 in cc

    pub fit-at : {S : Type 0} (takes : S → List Move → S → Type 0) (s t : S) → TakesAll takes (IsMoveFrom rules r from) s t → TakesAll takes (At (FitPawnMoves rules r) start_of from.0) s t
    fit-at takes s t a = all-same takes (IsMoveFrom rules r from) (At (FitPawnMoves rules r) start_of from.0) s t a (λ m h. fit_there m (own, h)) (λ m h. (there_fit m h).1)

    pub fit-some : {S : Type 0} (stops : S → List Move → S → Type 0) (s t : S) → TakesSome stops (IsMoveFrom rules r from) s t → TakesSome stops (At (FitPawnMoves rules r) start_of from.0) s t
    fit-some stops s t a = some-within stops (IsMoveFrom rules r from) (At (FitPawnMoves rules r) start_of from.0) s t a (λ m h. fit_there m (own, h))

  -- ---- without the chess pawn

  unnamed : (named : Option Kind) → is_some named ≡ false → (kind : Kind) → names named kind ≡ false
  unnamed None e kind = refl
  unnamed (Some k) e kind = cc

  not_own : is_some rules.pawn ≡ false → (o : Option Cell) → is_own_pawn rules r.side o ≡ false
  not_own e None = refl
  not_own e (Some c) = and_right (same_side c.side r.side) (is_pawn rules c.kind) (unnamed rules.pawn e c.kind)

  pub pawnless : is_some rules.pawn ≡ false → (m : Move) → FitPawnMoves rules r m → ⊥
  pawnless e m h = not_both (is_own_pawn rules r.side (cell_at r.cells (start_of m))) (own_there m h) (not_own e (cell_at r.cells (start_of m)))
