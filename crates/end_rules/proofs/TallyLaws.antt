-- Tallies that grow by one square of a board at a time.
use Rattle.std.proofs.Common.{◌≡◌, ℕ, ◌+◌, ◌<◌, ◌⊎◌, inl, inr, Bool, true, false, not, ◌&&◌, ◌==◌, Option, Some, None, List, [], zero, suc, length, replicate, refl, sym, ap, ◌∙◌, subst, arith, take}
use Rattle.std.specs.Prelude.{◌≤◌, is_some, count_by, nat_le, nat_lt, slice_index, slice_index_or, slice_set}
use Rattle.std.proofs.lemmas.Bool.{and_parts, cases_eq, cases_lt, eq-eqb, lt-leb, ltb-true, ne_eqb}
use Rattle.std.proofs.lemmas.List.{get_or-replicate, get_or-set_same, get_or-set_other, length-set, take_all}
use Rattle.std.proofs.lemmas.List.Sums.{count_by_more_no, count_by_more_yes}
use Rattle.std.proofs.lemmas.Option.{slice_get-get_or, slice_get_past}
use Rattle.rules_model.specs.declared.board.Cell.{Cell}
use Rattle.rules_model.specs.declared.board.Kind.{Kind}
use Rattle.rules_model.specs.declared.board.Repeat.{Repeat}
use Rattle.rules_model.specs.declared.board.Side.{Side}
use Rattle.rules_model.specs.declared.board.Side.TheVariants.{White, Black}
use Rattle.rules_model.specs.Attacks.{is_own}
use Rattle.rules_model.specs.Ends.{is_of, pieces_of}
use Rattle.rules_model.specs.Hands.{hand_of, in_hand, taken_in}
use Rattle.rules_model.specs.Sides.{other, same_side, side_index}
use Rattle.rules_model.specs.Squares.{flat}
use Rattle.square_set.specs.declared.Set.{Set}
use Rattle.square_set.specs.Members.{has, IsFirst, IsWithout}
use Rattle.move_tables.specs.Occupied.{IsOccupied}
use Rattle.end_rules.specs.Tallies.{AreTallies}

-- ---- one count that grows

index_below : (side : Side) → side_index side < 2
index_below White = omega arith
index_below Black = omega arith

hand_own : (tallies : List (List ℕ)) (side : Side) (hand : List ℕ) → length tallies ≡ 2 → hand_of (slice_set tallies (side_index side) hand) side ≡ hand
hand_own tallies side hand two = let l = index_below side in get_or-set_same tallies (side_index side) hand [] (omega (arith, l, two))

hand_other : (tallies : List (List ℕ)) (side : Side) (hand : List ℕ) → hand_of (slice_set tallies (side_index side) hand) (other side) ≡ hand_of tallies (other side)
hand_other tallies White hand = get_or-set_other tallies 0 1 hand [] (λ e. cc)
hand_other tallies Black hand = get_or-set_other tallies 1 0 hand [] (λ e. cc)

-- whether a piece of this side and kind is one of that side and kind
abbrev is_such : Side → Kind → Side → Kind → Bool
is_such s k side kind = same_side s side && (k.0 == kind.0)

abbrev Grows : List (List ℕ) → Side → Kind → Side → Kind → Type 0
Grows tallies s k side kind =
    ((is_such s k side kind ≡ true) × (in_hand (taken_in tallies s k) side kind ≡ in_hand tallies side kind + 1))
    ⊎ ((is_such s k side kind ≡ false) × (in_hand (taken_in tallies s k) side kind ≡ in_hand tallies side kind))

grows : (tallies : List (List ℕ)) (s : Side) (k : Kind) (side : Side) (kind : Kind) → length tallies ≡ 2
    → length (hand_of tallies side) ≡ 26 → kind.0 < 26 → Grows tallies s k side kind
grows tallies s k side kind two size l = by_side s side size
  where
    own : (s : Side) → length (hand_of tallies s) ≡ 26 → (k.0 ≡ kind.0) ⊎ (k.0 ≡ kind.0 → ⊥)
        → (((k.0 == kind.0) ≡ true) × (in_hand (taken_in tallies s k) s kind ≡ in_hand tallies s kind + 1))
        ⊎ (((k.0 == kind.0) ≡ false) × (in_hand (taken_in tallies s k) s kind ≡ in_hand tallies s kind))
    own s long (inl e) =
        let there = ap (λ hand. slice_index hand kind.0) (hand_own tallies s (slice_set (hand_of tallies s) k.0 (in_hand tallies s k + 1)) two) in
        let set = get_or-set_same (hand_of tallies s) k.0 (in_hand tallies s k + 1) 0 (omega (arith, e, l, long)) in
        inl (eq-eqb k.0 kind.0 e, there ∙ ap (λ n. slice_index (slice_set (hand_of tallies s) k.0 (in_hand tallies s k + 1)) n) (sym e) ∙ set ∙ ap (λ n. slice_index (hand_of tallies s) n + 1) e)
    own s long (inr apart) =
        let there = ap (λ hand. slice_index hand kind.0) (hand_own tallies s (slice_set (hand_of tallies s) k.0 (in_hand tallies s k + 1)) two) in
        inr (ne_eqb k.0 kind.0 apart, there ∙ get_or-set_other (hand_of tallies s) k.0 kind.0 (in_hand tallies s k + 1) 0 (λ e. apart (sym e)))

    theirs : (s : Side) → in_hand (taken_in tallies s k) (other s) kind ≡ in_hand tallies (other s) kind
    theirs s = ap (λ hand. slice_index hand kind.0) (hand_other tallies s (slice_set (hand_of tallies s) k.0 (in_hand tallies s k + 1)))

    by_side : (s side : Side) → length (hand_of tallies side) ≡ 26 → Grows tallies s k side kind
    by_side White White long = own White long (cases_eq k.0 kind.0)
    by_side White Black long = inr (refl, theirs White)
    by_side Black White long = inr (refl, theirs Black)
    by_side Black Black long = own Black long (cases_eq k.0 kind.0)

-- ---- the squares of a board, one after another

pub no_square : AreTallies [] (replicate 2 (replicate 26 0))
no_square = record { sides = refl; kinds = sizes; each = none }
  where
    sizes : (side : Side) → length (hand_of (replicate 2 (replicate 26 0)) side) ≡ 26
    sizes White = refl
    sizes Black = refl

    none : (side : Side) (kind : Kind) → kind.0 < 26 → in_hand (replicate 2 (replicate 26 0)) side kind ≡ 0
    none White kind l = get_or-replicate 26 kind.0 0 0 l
    none Black kind l = get_or-replicate 26 kind.0 0 0 l

pub empty_square : (cells : List (Option Cell)) (tallies : List (List ℕ)) (at : ℕ) → at < length cells → slice_index_or cells at None ≡ None
    → AreTallies (take at cells) tallies → AreTallies (take (at + 1) cells) tallies
empty_square cells tallies at l none are = record {
  sides = are.sides;
  kinds = are.kinds;
  each = λ side kind m. are.each side kind m ∙ sym (count_by_more_no (λ c. is_own side (λ k. k.0 == kind.0) c) cells at None l (ap (λ c. is_own side (λ k. k.0 == kind.0) c) none));
}

pub piece_counted : (cells : List (Option Cell)) (tallies : List (List ℕ)) (at : ℕ) (piece : Cell) → at < length cells
    → slice_index_or cells at None ≡ Some piece → AreTallies (take at cells) tallies
    → AreTallies (take (at + 1) cells) (taken_in tallies piece.side piece.kind)
piece_counted cells tallies at piece l there are =
    record { sides = length-set tallies (side_index piece.side) _ ∙ are.sides; kinds = λ side. sizes piece.side side; each = each }
  where
    sizes : (s side : Side) → length (hand_of (taken_in tallies s piece.kind) side) ≡ 26
    sizes White White = ap length (hand_own tallies White _ are.sides) ∙ length-set _ piece.kind.0 _ ∙ are.kinds White
    sizes White Black = ap length (hand_other tallies White _) ∙ are.kinds Black
    sizes Black White = ap length (hand_other tallies Black _) ∙ are.kinds White
    sizes Black Black = ap length (hand_own tallies Black _ are.sides) ∙ length-set _ piece.kind.0 _ ∙ are.kinds Black

    each : (side : Side) (kind : Kind) → kind.0 < 26
        → in_hand (taken_in tallies piece.side piece.kind) side kind ≡ count_by (λ c. is_own side (λ k. k.0 == kind.0) c) (take (at + 1) cells)
    each side kind m =
        let f : Option Cell → Bool = λ c. is_own side (λ k. k.0 == kind.0) c in
        let before = are.each side kind m in
        elim (grows tallies piece.side piece.kind side kind are.sides (are.kinds side) m) as (λ _. in_hand (taken_in tallies piece.side piece.kind) side kind ≡ count_by f (take (at + 1) cells)) [
          | inl g ↦ g.1 ∙ ap (λ n. n + 1) before ∙ sym (count_by_more_yes f cells at None l (ap f there ∙ g.0))
          | inr g ↦ g.1 ∙ before ∙ sym (count_by_more_no f cells at None l (ap f there ∙ g.0))
        ]

-- ---- the occupied squares, one after another

empty : (c : Option Cell) → is_some c ≡ false → c ≡ None
empty None e = refl
empty (Some c) e = cc

-- a square that is not occupied has nothing on it
pub free : (occupied : Set) (cells : List (Option Cell)) (s : ℕ) → IsOccupied occupied cells → s < length cells
    → has occupied s ≡ false → slice_index_or cells s None ≡ None
free occupied cells s is l e = empty (slice_index_or cells s None) (sym (ap (λ o. is_some (flat o)) (slice_get-get_or cells s None l)) ∙ sym (is s) ∙ e)

free_squares : (cells : List (Option Cell)) (tallies : List (List ℕ)) (from to : ℕ) → from ≤ to → to ≤ length cells
    → ((s : ℕ) → from ≤ s → s < to → slice_index_or cells s None ≡ None)
    → AreTallies (take from cells) tallies → AreTallies (take to cells) tallies
free_squares cells tallies from zero l m none are =
    let none : from ≡ zero = omega (arith, l) in
    subst (λ n. AreTallies (take n cells) tallies) none are
free_squares cells tallies from (suc to) l m none are =
    elim (cases_eq from (suc to)) as (λ _. AreTallies (take (suc to) cells) tallies) [
      | inl e ↦ subst (λ n. AreTallies (take n cells) tallies) e are
      | inr apart ↦
          let low : from ≤ to = omega (arith, l, apart) in
          let before = free_squares cells tallies from to low (omega (arith, m)) (λ s a b. none s a (omega (arith, b))) are in
          let next : to + 1 ≡ suc to = omega arith in
          subst (λ n. AreTallies (take n cells) tallies) next (empty_square cells tallies to (omega (arith, m)) (none to low (omega arith)) before)
    ]

-- the squares below one are counted, and of the others those are left that are occupied
pub record IsCounted (cells : List (Option Cell)) (occupied left : Set) (tallies : List (List ℕ)) : Type 0 where
  pub from : ℕ
  pub low : from ≤ length cells
  pub within : (s : ℕ) → has left s ≡ true → has occupied s ≡ true
  pub later : (s : ℕ) → has left s ≡ true → from ≤ s
  pub passed : (s : ℕ) → from ≤ s → has occupied s ≡ true → has left s ≡ true
  pub are : AreTallies (take from cells) tallies

pub none_counted : (cells : List (Option Cell)) (occupied : Set) → IsCounted cells occupied occupied (replicate 2 (replicate 26 0))
none_counted cells occupied = record {
  from = 0;
  low = omega arith;
  within = λ s e. e;
  later = λ s e. omega arith;
  passed = λ s l e. e;
  are = no_square;
}

apart : true ≡ false → ⊥
apart e = cc

-- an occupied square is on the board, and something stands there
pub on_board : (occupied : Set) (cells : List (Option Cell)) (s : ℕ) → IsOccupied occupied cells → has occupied s ≡ true → s < length cells
on_board occupied cells s is e =
    elim (cases_lt s (length cells)) as (λ _. s < length cells) [
      | inl l ↦ l
      | inr m ↦ absurd (apart (sym e ∙ is s ∙ ap (λ o. is_some (flat o)) (slice_get_past cells s m)))
    ]

pub not_empty : (occupied : Set) (cells : List (Option Cell)) (s : ℕ) → IsOccupied occupied cells → has occupied s ≡ true
    → slice_index_or cells s None ≡ None → ⊥
not_empty occupied cells s is e none =
    apart (sym e ∙ is s ∙ ap (λ o. is_some (flat o)) (slice_get-get_or cells s None (on_board occupied cells s is e)) ∙ ap is_some none)

not_occupied : (occupied left : Bool) → (occupied ≡ true → left ≡ true) → left ≡ false → occupied ≡ false
not_occupied true left passed gone = sym (passed refl) ∙ gone
not_occupied false left passed gone = refl

module _ (cells : List (Option Cell)) (occupied left : Set) (tallies : List (List ℕ)) (is : IsOccupied occupied cells) (c : IsCounted cells occupied left tallies) where
  -- the squares below one are counted where none of them is left
  up_to : (to : ℕ) → c.from ≤ to → to ≤ length cells → ((s : ℕ) → s < to → has left s ≡ false) → AreTallies (take to cells) tallies
  up_to to l m gone = free_squares cells tallies c.from to l m (λ s a b. free occupied cells s is (omega (arith, b, m)) (not_occupied (has occupied s) (has left s) (c.passed s a) (gone s b))) c.are

  pub all_counted : ((s : ℕ) → has left s ≡ false) → AreTallies cells tallies
  all_counted gone = subst (λ cs. AreTallies cs tallies) (take_all (length cells) cells (omega arith)) (up_to (length cells) c.low (omega arith) (λ s l. gone s))

  pub one_counted : (at : ℕ) (new : Set) (piece : Cell) → IsFirst left at → IsWithout left at new → slice_index_or cells at None ≡ Some piece
      → IsCounted cells occupied new (taken_in tallies piece.side piece.kind)
  one_counted at new piece first rest there = record {
    from = at + 1;
    low = omega (arith, inside);
    within = λ s e. c.within s (kept s e).0;
    later = later;
    passed = λ s l e. rest s ∙ both (has left s) (s == at) (c.passed s (omega (arith, l, reached)) e) (ne_eqb s at (λ same. omega (arith, l, same)));
    are = piece_counted cells tallies at piece inside there (up_to at reached (omega (arith, inside)) first.lowest);
  }
    where
      inside : at < length cells
      inside = on_board occupied cells at is (c.within at first.member)

      reached : c.from ≤ at
      reached = c.later at first.member

      kept : (s : ℕ) → has new s ≡ true → (has left s ≡ true) × (not (s == at) ≡ true)
      kept s e = and_parts (has left s) (not (s == at)) (sym (rest s) ∙ e)

      both : (a b : Bool) → a ≡ true → b ≡ false → (a && not b) ≡ true
      both a b e f = rw (e, f) refl

      later : (s : ℕ) → has new s ≡ true → at + 1 ≤ s
      later s e = elim (cases_lt s (at + 1)) as (λ _. at + 1 ≤ s) [
        | inr m ↦ m
        | inl l ↦ elim (cases_eq s at) as (λ _. at + 1 ≤ s) [
          | inl same ↦ absurd (apart (sym (kept s e).1 ∙ ap not (eq-eqb s at same)))
          | inr other ↦ absurd (apart (sym (kept s e).0 ∙ first.lowest s (omega (arith, l, other))))
        ]
      ]

-- ---- all pieces of a side

-- where too many stand on the board, there are too many
pub too_many : (r : Repeat) (side : Side) (most : ℕ) (b : Bool) → b ≡ nat_lt most (count_by (is_of side) r.cells) → b ≡ true
    → not b ≡ nat_le (pieces_of r side) most
unfolding pieces_of
too_many r side most b is many =
    let more : most < count_by (is_of side) r.cells = ltb-true _ _ (sym is ∙ many) in
    ap not many ∙ sym (lt-leb (pieces_of r side) most (omega (arith, more)))
