-- What the occupied squares of a line or a jump let pass once a piece moved.
use Rattle.std.proofs.Common.{◌≡◌, ◌≢◌, ℕ, ◌+◌, ◌-◌, ◌^◌, ◌<◌, ◌≤◌, nat_lt, Bool, true, false, List, length, take, get_or, ◌&&◌, ◌||◌, not, ◌==◌, refl, ap, sym, ◌∙◌, arith}
use Rattle.std.proofs.lemmas.Bool.{and_from, and_parts, eq-eqb, eqb-true, false_from_ne_true, le-ltb, lt-ltb, ne_eqb, or_parts}
use Rattle.std.specs.List.{list_any}
use Rattle.std.proofs.lemmas.List.Folds.{list_any_more}
use Rattle.std.proofs.lemmas.Nat.Bits.{bit_at_ones}
use Rattle.foundation.specs.Count.{any_below}
use Rattle.foundation.proofs.CountLemmas.{any_below-some, any_below-true}
use Rattle.square_set.specs.declared.Set.{Set}
use Rattle.square_set.specs.Members.{before, bit, count_below, has, place, size}
use Rattle.square_set.proofs.BitLaws.{bit-above}
use Rattle.square_set.proofs.Cases.{by_equal, by_order}
use Rattle.square_set.proofs.CountLaws.{before-rest, count_below-found, count_below-same}
use Rattle.move_tables.specs.declared.line.Line.{Line}
use Rattle.move_tables.specs.declared.line.Passage.{Passage}
use Rattle.move_tables.specs.declared.line.Passage.TheVariants.{Slide, Hop, Grass}
use Rattle.move_tables.specs.Lines.{in_both, is_after, is_past, lets_pass, on_line}
use Rattle.pins.specs.Guards.{AreBefore, Guards, IsMoved, IsScreened}
use Rattle.pins.proofs.CountLaws.{before-le, before-one_less, before-size, count_below-one_less}

pub blocked : (a b : Bool) → b ≡ true → (not a && b) ≡ false → a ≡ true
blocked true b e h = refl
blocked false b e h = cc

pub not_true : (b : Bool) → not b ≡ true → b ≡ false
not_true true e = cc
not_true false e = refl

pub second_of : (a b : Bool) → b ≡ true → (a && b) ≡ false → a ≡ false
second_of true b e h = cc
second_of false b e h = refl

pub neither : (a b : Bool) → (a || (b || false)) ≡ false → (a || b) ≡ false
neither true b e = e
neither false true e = e
neither false false e = refl

pub fewer_both : (a b c : Bool) → (a && b) ≡ false → (a && (b && c)) ≡ false
fewer_both true b c e = rw e refl
fewer_both false b c e = refl

-- what all have, and no other lacks, is had
pub none-left : (a b : Bool) → a ≡ true → b ≡ false → (a && not b) ≡ false → ⊥
none-left true true e f h = cc
none-left true false e f h = cc
none-left false b e f h = cc

-- every square
pub every_square : (s : ℕ) → bit (2 ^ 128 - 1) s ≡ nat_lt s 128
every_square s =
    by_order s 128 (bit (2 ^ 128 - 1) s ≡ nat_lt s 128)
    (λ l. ap (λ x. x == 1) (bit_at_ones 128 s l) ∙ sym (lt-ltb s 128 l))
    (λ l. bit-above (2 ^ 128 - 1) s (omega arith) l ∙ sym (le-ltb s 128 l))

second_false : (a b : Bool) → a ≡ true → (a && b) ≡ false → b ≡ false
second_false true b e h = h
second_false false b e h = cc

module _ (squares old new : Set) (from to : ℕ) (moved : IsMoved old from to new) where
  -- another blocker stays
  kept : (u : ℕ) → u ≢ from → in_both squares old u ≡ true → in_both squares new u ≡ true
  kept u n e = let h = and_parts (has squares u) (has old u) e in and_from (has squares u) (has new u) h.0 (moved u ∙ rw (h.1, ne_eqb u from n) refl)

  -- where one of the squares to be passed is occupied, one still is
  pub jump_stays : (blockers : Set) → ((s : ℕ) → has blockers s ≡ in_both squares old s) → any_below (in_both squares old) 128 ≡ true → (size blockers ≤ 1 → has blockers from ≡ false) → any_below (in_both squares new) 128 ≡ true
  jump_stays blockers are met few =
      let one = any_below-some (in_both squares old) 128 met in
      let sized : size blockers ≡ count_below (in_both squares old) 128 = count_below-same (has blockers) (in_both squares old) 128 (λ k l. are k) in
      by_order 1 (size blockers) (any_below (in_both squares new) 128 ≡ true)
      (λ many.
      let rest = count_below-one_less (in_both squares old) (in_both squares new) 128 from (λ k l n e. kept k n e) in
      let left = count_below-found (in_both squares new) 128 (omega (arith, rest, sized, many)) in
      any_below-true (in_both squares new) 128 left.0 left.1 left.2)
      (λ le.
      let out = few le in
      any_below-true (in_both squares new) 128 one.0 one.1 (kept one.0 (λ same. let here = are one.0 ∙ one.2 in cc) one.2))

  module _ (rising : Bool) (t : ℕ) (small : t < 128) (low : from < 128) (blockers : Set) (are : AreBefore rising (in_both squares old) t blockers) where
    sized : size blockers ≡ before rising (in_both squares old) t
    sized = before-size rising (in_both squares old) (has blockers) t small are

    -- at most one blocker leaves
    one_less : before rising (in_both squares old) t ≤ before rising (in_both squares new) t + 1
    one_less = before-one_less rising (in_both squares old) (in_both squares new) t small from low kept

    -- where no blocker leaves, each stays
    stays : has blockers from ≡ false → (u : ℕ) → u < 128 → place rising u < place rising t → in_both squares old u ≡ true → in_both squares new u ≡ true
    stays out u l m e =
        by_equal u from (in_both squares new u ≡ true)
        (λ q same. let here : has blockers u ≡ true = are u l ∙ rw (e, lt-ltb (place rising u) (place rising t) m) refl in cc)
        (λ q other. kept u other e)

    all_stay : has blockers from ≡ false → (u : ℕ) → u < 128 → place rising u ≤ place rising t → before rising (in_both squares old) u ≤ before rising (in_both squares new) u
    all_stay out u l m = before-le rising (in_both squares old) (in_both squares new) u l (λ v k n e. stays out v k (omega (arith, m, n)) e)

    pub slide_stays : lets_pass Slide rising (has squares) (in_both squares old) t ≡ false → (size blockers ≤ 1 → has blockers from ≡ false) → lets_pass Slide rising (has squares) (in_both squares new) t ≡ false
    slide_stays stop few =
        ne_eqb (before rising (in_both squares new) t) 0 (λ z.
        by_order 1 (size blockers) ⊥
        (λ many. let less = one_less in let n = sized in omega (arith, less, n, z, many))
        (λ le.
        let all = all_stay (few le) t small (omega arith) in
        let none = eq-eqb (before rising (in_both squares old) t) 0 (omega (arith, all, z)) in cc))

    pub hop_stays : lets_pass Hop rising (has squares) (in_both squares old) t ≡ false → IsScreened blockers from → lets_pass Hop rising (has squares) (in_both squares new) t ≡ false
    hop_stays stop screened =
        let n = sized in
        ne_eqb (before rising (in_both squares new) t) 1 (λ z.
        by_order 2 (size blockers) ⊥
        (λ many. let less = one_less in omega (arith, less, n, z, many))
        (λ le.
        let all = all_stay (screened.other le) t small (omega arith) in
        let one = eq-eqb (before rising (in_both squares old) t) 1 (let some = screened.some in omega (arith, all, n, z, some)) in cc))

    -- a grasshopper passes one piece
    passes_one : lets_pass Grass rising (has squares) (in_both squares new) t ≡ true → before rising (in_both squares new) t ≤ 1
    passes_one pass =
        let none = eqb-true (before rising (is_past rising (has squares) (in_both squares new)) t) 0 (and_parts (is_after rising (in_both squares new) t) (before rising (is_past rising (has squares) (in_both squares new)) t == 0) pass).1 in
        let rest = before-rest rising (in_both squares new) t small in
        let past = before-le rising (λ u. in_both squares new u && not (before rising (in_both squares new) u == 0)) (is_past rising (has squares) (in_both squares new)) t small (λ u l m e.
        let h = and_parts (in_both squares new u) (is_after rising (in_both squares new) u) e in
        and_from (has squares u) (is_after rising (in_both squares new) u) (and_parts (has squares u) (has new u) h.0).0 h.1) in
        omega (arith, none, rest, past)

    still_after : has blockers from ≡ false → (u : ℕ) → u < 128 → place rising u ≤ place rising t → is_after rising (in_both squares old) u ≡ true → is_after rising (in_both squares new) u ≡ true
    still_after out u l m e =
        let all = all_stay out u l m in
        let some = ne_eqb (before rising (in_both squares new) u) 0 (λ z. let none = eq-eqb (before rising (in_both squares old) u) 0 (omega (arith, all, z)) in cc) in
        rw some refl

    still_past : has blockers from ≡ false → before rising (is_past rising (has squares) (in_both squares old)) t ≤ before rising (is_past rising (has squares) (in_both squares new)) t
    still_past out =
        before-le rising (is_past rising (has squares) (in_both squares old)) (is_past rising (has squares) (in_both squares new)) t small (λ u l m e.
        let h = and_parts (has squares u) (is_after rising (in_both squares old) u) e in
        and_from (has squares u) (is_after rising (in_both squares new) u) h.0 (still_after out u l (omega (arith, m)) h.1))

    pub grass_stays : lets_pass Grass rising (has squares) (in_both squares old) t ≡ false → IsScreened blockers from → lets_pass Grass rising (has squares) (in_both squares new) t ≡ false
    grass_stays stop screened =
        let n = sized in
        false_from_ne_true (lets_pass Grass rising (has squares) (in_both squares new) t) (λ pass.
        let one = passes_one pass in
        by_order 2 (size blockers) ⊥
        (λ many. let less = one_less in omega (arith, less, n, one, many))
        (λ le.
        let out = screened.other le in
        let some = ne_eqb (before rising (in_both squares old) t) 0 (λ z. let more = screened.some in omega (arith, n, z, more)) in
        let after : is_after rising (in_both squares old) t ≡ true = rw some refl in
        let far = second_false (is_after rising (in_both squares old) t) (before rising (is_past rising (has squares) (in_both squares old)) t == 0) after stop in
        let none = eqb-true (before rising (is_past rising (has squares) (in_both squares new)) t) 0 (and_parts (is_after rising (in_both squares new) t) (before rising (is_past rising (has squares) (in_both squares new)) t == 0) pass).1 in
        let past = still_past out in
        let zero = eq-eqb (before rising (is_past rising (has squares) (in_both squares old)) t) 0 (omega (arith, past, none)) in cc))

-- a line that has the target and does not reach it
module _ (line : Line) (old new : Set) (from to t : ℕ) (moved : IsMoved old from to new) (small : t < 128) (low : from < 128) (blockers : Set) (are : AreBefore line.rising (in_both line.squares old) t blockers) (on : has line.squares t ≡ true) (stop : on_line line old t ≡ false) where
  abbrev passes : Set → Passage → Bool
  passes set passage = lets_pass passage line.rising (has line.squares) (in_both line.squares set) t

  was : (passage : Passage) → line.passage ≡ passage → passes old passage ≡ false
  was passage e = sym (ap (passes old) e) ∙ second_false (has line.squares t) (passes old line.passage) on stop

  now : (passage : Passage) → line.passage ≡ passage → passes new passage ≡ false → on_line line new t ≡ false
  now passage e h = rw on (ap (passes new) e ∙ h)

  pub slide_guarded : line.passage ≡ Slide → (size blockers ≤ 1 → has blockers from ≡ false) → on_line line new t ≡ false
  slide_guarded e few = now Slide e (slide_stays line.squares old new from to moved line.rising t small low blockers are (was Slide e) few)

  pub hop_guarded : line.passage ≡ Hop → IsScreened blockers from → on_line line new t ≡ false
  hop_guarded e screened = now Hop e (hop_stays line.squares old new from to moved line.rising t small low blockers are (was Hop e) screened)

  pub grass_guarded : line.passage ≡ Grass → IsScreened blockers from → on_line line new t ≡ false
  grass_guarded e screened = now Grass e (grass_stays line.squares old new from to moved line.rising t small low blockers are (was Grass e) screened)

-- ---- a list of lines or jumps

-- one more of them
pub guards_more : {X : Type 0} (test : X → Set → Bool) (xs : List X) (k : ℕ) (d : X) (occupied old one new : Set) → k < length xs → Guards (λ set. list_any (λ x. test x set) (take k xs)) occupied old → Guards (test (get_or xs k d)) occupied one → ((s : ℕ) → has new s ≡ (has old s || has one s)) → Guards (λ set. list_any (λ x. test x set) (take (k + 1) xs)) occupied new
guards_more test xs k d occupied old one new l g h joined = λ from to set low out moved.
    let o = or_parts (has old from) (has one from) (sym (joined from) ∙ out) in
    list_any_more (λ x. test x set) xs k d l ∙ rw (g from to set low o.0 moved, h from to set low o.1 moved) refl
