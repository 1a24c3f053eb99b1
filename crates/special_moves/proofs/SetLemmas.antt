-- The moves by shifts between sets of squares.
use Rattle.std.proofs.Common.{◌≡◌, ◌≢◌, ℕ, ◌-◌, ◌^◌, ◌<◌, ◌==◌, nat_lt, Bool, true, ◌&&◌, ◌||◌, not, ⊎_elim, Option, Some, None, List, is_none, is_some, refl, ap, sym, ◌∙◌, subst, arith}
use Rattle.std.proofs.lemmas.Bool.{and_from, and_parts, le-ltb, lt-ltb, ltb-true, or_cases, or_left, or_right}
use Rattle.std.proofs.lemmas.Nat.Bits.{bit_at_above, bit_at_ones}
use Rattle.rules_model.specs.declared.board.Cell.{Cell}
use Rattle.rules_model.specs.declared.board.Square.{Square}
use Rattle.rules_model.specs.declared.moves.Move.{Move}
use Rattle.rules_model.specs.declared.moves.Promo.TheVariants.{Stays}
use Rattle.rules_model.specs.Pawns.{is_ep}
use Rattle.rules_model.specs.Squares.{cell_at}
use Rattle.square_set.specs.declared.Set.{Set}
use Rattle.square_set.specs.declared.Shift.{Shift}
use Rattle.square_set.specs.Members.{bit, has, is_led, leads, length_of, origin, twice, HasOrigin, IsWith, OnSquares}
use Rattle.square_set.proofs.Cases.{by_order}
use Rattle.attack_tables.specs.declared.pawns.PawnMasks.{PawnMasks}
use Rattle.piece_moves.specs.InTurn.{GoesBy, start_of, target_of}
use Rattle.special_moves.specs.PawnParts.{go}
use Rattle.special_moves.specs.Shifted.{AreFree, HasPassers, IsBy, IsOnce, IsTwiceOver, IsLeft, IsRight}
use Rattle.special_moves.proofs.ShiftLemmas.{halves, has_origin, led_from, led_to, lengths_differ, once_or_twice, origin_is, AreOrigins}

-- ---- the squares with no piece

not_some : (c : Option Cell) → not (is_some c) ≡ is_none c
not_some None = refl
not_some (Some x) = refl

-- the bits of the largest board
pub on_board : (t : ℕ) → bit (2 ^ 120 - 1) t ≡ nat_lt t 120
on_board t =
    by_order t 120 (bit (2 ^ 120 - 1) t ≡ nat_lt t 120)
    (λ l. ap (λ x. x == 1) (bit_at_ones 120 t l) ∙ sym (lt-ltb t 120 l))
    (λ l. ap (λ x. x == 1) (bit_at_above (2 ^ 120 - 1) 120 t (omega arith) l) ∙ sym (le-ltb t 120 l))

pub free_is : (t : ℕ) (free board occupied : Bool) (cell : Option Cell) → free ≡ (board && not occupied) → board ≡ nat_lt t 120 → occupied ≡ is_some cell → free ≡ (nat_lt t 120 && is_none cell)
free_is t free board occupied cell e f g = e ∙ rw (f, g, not_some cell) refl

pub free_small : (cells : List (Option Cell)) (free : Set) → AreFree cells free → OnSquares free
free_small cells free are t e = ltb-true t 120 (and_parts (nat_lt t 120) (is_none (cell_at cells t)) (sym (are t) ∙ e)).0

-- ---- the squares to which a shift leads

module _ (shift : Shift) (starts ends led targets : Set) (led_is : (t : ℕ) → t < 128 → has led t ≡ is_led shift starts t) (both : (t : ℕ) → has targets t ≡ (has led t && has ends t))
    (on_starts : OnSquares starts) (on_ends : OnSquares ends) where
  pub target_on_board : OnSquares targets
  target_on_board t e = on_ends t (and_parts (has led t) (has ends t) (sym (both t) ∙ e)).1

  -- it leads to each of them from a square of the one set, and it is in the other
  led_there : (t : ℕ) → has targets t ≡ true → ((leads shift (origin shift t) t ≡ true) × (has starts (origin shift t) ≡ true)) × (has ends t ≡ true)
  led_there t e =
      let h = and_parts (has led t) (has ends t) (sym (both t) ∙ e) in
      let l : t < 120 = on_ends t h.1 in
      (led_from shift starts t (sym (led_is t (omega (arith, l))) ∙ h.0), h.1)

  pub target_has_origin : (t : ℕ) → has targets t ≡ true → HasOrigin shift 120 t
  target_has_origin t e = let h = led_there t e in has_origin shift t h.0.0 (on_starts (origin shift t) h.0.1)

  pub goes_is_by : (m : Move) → GoesBy shift targets m → IsBy shift (has starts) (has ends) m
  goes_is_by m h =
      let t = target_of m in
      let l = led_there t h.1 in
      let start : origin shift t ≡ start_of m = ap start_of h.0 in
      (subst (λ s. go (record { 0 = s }) (record { 0 = t }) Stays ≡ m) start h.0, ap (λ s. leads shift s t) (sym start) ∙ l.0.0, ap (has starts) (sym start) ∙ l.0.1, l.1)

  pub by_goes : (m : Move) → IsBy shift (has starts) (has ends) m → GoesBy shift targets m
  by_goes m h =
      let t = target_of m in
      let l : t < 120 = on_ends t h.3 in
      let led_to_it = led_is t (omega (arith, l)) ∙ led_to shift starts (start_of m) t h.1 h.2 in
      (subst (λ s. go (record { 0 = s }) (record { 0 = t }) Stays ≡ m) (sym (origin_is shift (start_of m) t h.1)) h.0, both t ∙ and_from (has led t) (has ends t) led_to_it h.3)

-- ---- the squares from which a pawn may pass another

-- the one square of the set is that of en passant
ep_there : (ep : Square) (none at : Set) → IsWith none ep.0 at → (t : ℕ) → is_ep (Some ep) t ≡ true → has at t ≡ true
ep_there ep none at is t e = is t ∙ or_right (has none t) (t == ep.0) (grind arith)

pub passers_are : (masks : PawnMasks) (ep : Square) (none at left right passers : Set) → IsWith none ep.0 at → AreOrigins masks.leftward at left → AreOrigins masks.rightward at right
    → ((s : ℕ) → has passers s ≡ (has left s || has right s)) → HasPassers masks (Some ep) passers
passers_are masks ep none at left right passers is lefts rights are s t l m e f =
    are s ∙ ⊎_elim
    (λ h. or_left (has left s) (has right s) (lefts s t (omega (arith, l)) h ∙ ep_there ep none at is t e))
    (λ h. or_right (has left s) (has right s) (rights s t (omega (arith, l)) h ∙ ep_there ep none at is t e))
    (or_cases (leads masks.leftward s t) (leads masks.rightward s t) f)

-- ---- moves by a shift from the squares that pass another test

pub by_same : (shift : Shift) (a b ends : ℕ → Bool) → ((s : ℕ) → a s ≡ b s) → (m : Move) → IsBy shift a ends m → IsBy shift b ends m
by_same shift a b ends same m h = (h.0, h.1, sym (same (start_of m)) ∙ h.2, h.3)

module _ (masks : PawnMasks) (pawns free once : Set) (once_is : (s : ℕ) → has once s ≡ (has pawns s && has masks.once s)) where
  pub once_from : (m : Move) → IsBy masks.ahead (has once) (has free) m → IsOnce masks pawns free m
  once_from = by_same masks.ahead (has once) (λ s. has pawns s && has masks.once s) (has free) once_is

  pub once_to : (m : Move) → IsOnce masks pawns free m → IsBy masks.ahead (has once) (has free) m
  once_to = by_same masks.ahead (λ s. has pawns s && has masks.once s) (has once) (has free) (λ s. sym (once_is s))

  pub forward_apart : 0 < length_of masks.ahead → (m : Move) → IsOnce masks pawns free m → IsTwiceOver masks pawns free m → ⊥
  forward_apart some m h k = once_or_twice masks.ahead (start_of m) (target_of m) some h.1 k.0.1

  module _ (first both over : Set) (shift : Shift) (shift_is : shift ≡ twice masks.ahead) (on_pawns : OnSquares pawns)
      (first_is : (s : ℕ) → has first s ≡ (has once s && has masks.twice s)) (over_is : AreOrigins masks.ahead free over) (both_is : (s : ℕ) → has both s ≡ (has first s && has over s)) where
    -- the square between is free exactly where the first one leads to a free square
    between : (s t : ℕ) → has pawns s ≡ true → leads (twice masks.ahead) s t ≡ true → has over s ≡ has free (origin masks.ahead t)
    between s t e f = let l : s < 120 = on_pawns s e in over_is s (origin masks.ahead t) (omega (arith, l)) (halves masks.ahead s t f).0

    first_there : (s : ℕ) → has first s ≡ ((has pawns s && has masks.once s) && has masks.twice s)
    first_there s = first_is s ∙ ap (λ b. b && has masks.twice s) (once_is s)

    pub twice_from : (m : Move) → IsBy shift (has both) (has free) m → IsTwiceOver masks pawns free m
    twice_from m h =
        let s = start_of m in
        let k = and_parts (has first s) (has over s) (sym (both_is s) ∙ h.2) in
        let starts = sym (first_there s) ∙ k.0 in
        let pawn = (and_parts (has pawns s) (has masks.once s) (and_parts (has pawns s && has masks.once s) (has masks.twice s) starts).0).0 in
        let led = ap (λ x. leads x s (target_of m)) (sym shift_is) ∙ h.1 in
        ((h.0, led, starts, h.3), sym (between s (target_of m) pawn led) ∙ k.1)

    pub twice_to : (m : Move) → IsTwiceOver masks pawns free m → IsBy shift (has both) (has free) m
    twice_to m h =
        let s = start_of m in
        let pawn = (and_parts (has pawns s) (has masks.once s) (and_parts (has pawns s && has masks.once s) (has masks.twice s) h.0.2).0).0 in
        let starts = both_is s ∙ and_from (has first s) (has over s) (first_there s ∙ h.0.2) (between s (target_of m) pawn h.0.1 ∙ h.1) in
        (h.0.0, ap (λ x. leads x s (target_of m)) shift_is ∙ h.0.1, starts, h.0.3)

module _ (masks : PawnMasks) (pawns enemies : Set) where
  module _ (left : Set) (left_is : (s : ℕ) → has left s ≡ (has pawns s && has masks.left s)) where
    pub left_from : (m : Move) → IsBy masks.leftward (has left) (has enemies) m → IsLeft masks pawns enemies m
    left_from = by_same masks.leftward (has left) (λ s. has pawns s && has masks.left s) (has enemies) left_is

    pub left_to : (m : Move) → IsLeft masks pawns enemies m → IsBy masks.leftward (has left) (has enemies) m
    left_to = by_same masks.leftward (λ s. has pawns s && has masks.left s) (has left) (has enemies) (λ s. sym (left_is s))

  module _ (right : Set) (right_is : (s : ℕ) → has right s ≡ (has pawns s && has masks.right s)) where
    pub right_from : (m : Move) → IsBy masks.rightward (has right) (has enemies) m → IsRight masks pawns enemies m
    right_from = by_same masks.rightward (has right) (λ s. has pawns s && has masks.right s) (has enemies) right_is

    pub right_to : (m : Move) → IsRight masks pawns enemies m → IsBy masks.rightward (has right) (has enemies) m
    right_to = by_same masks.rightward (λ s. has pawns s && has masks.right s) (has right) (has enemies) (λ s. sym (right_is s))

  pub across_apart : length_of masks.leftward ≢ length_of masks.rightward → (m : Move) → IsLeft masks pawns enemies m → IsRight masks pawns enemies m → ⊥
  across_apart differ m h k = lengths_differ masks.leftward masks.rightward (start_of m) (target_of m) differ h.1 k.1
