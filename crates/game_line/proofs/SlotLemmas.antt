-- Keys counted in slots and taken back.
use Rattle.std.proofs.Common.{◌≡◌, ℕ, zero, suc, refl, ◌+◌, ◌-◌, ◌%◌, ◌<◌, ◌≤◌, ◌==◌, ◌||◌, Bool, cond, inl, inr, true, false, true≢false, List, [], ◌∷◌, ◌++◌, length, take, replicate, slice_index, get_or, set, ap, sym, ◌∙◌, arith}
use Rattle.std.proofs.lemmas.List.{get_or_read, length-set, take_more, get_or-set_same, get_or-set_other, get_or-replicate, length-replicate}
use Rattle.std.specs.List.{list_any}
use Rattle.std.proofs.lemmas.List.Sums.{sum_by_push, sum_by-append, sum_by-cons, sum_by-take-le, count_by-le-length}
use Rattle.std.proofs.lemmas.Bool.{cases_eq}
use Rattle.std.proofs.lemmas.Bool.Decides.{nat_tests}
use Rattle.game_line.specs.Slots.{in_slot, key_times, AreApart, AreCounts}

-- one key more
in_slot-here : (keys : List ℕ) (key slot : ℕ) → slot ≡ key % 4096 → in_slot slot (keys ++ key ∷ []) ≡ in_slot slot keys + 1
unfolding in_slot
in_slot-here keys key slot e =
    let p = sum_by_push (λ k. cond (k % 4096 == slot) 1 0) keys key in
    let t : (key % 4096 == slot) ≡ true = grind (arith, nat_tests) in
    p ∙ ap (λ b. in_slot slot keys + cond b 1 0) t

in_slot-elsewhere : (keys : List ℕ) (key slot : ℕ) → (slot ≡ key % 4096 → ⊥) → in_slot slot (keys ++ key ∷ []) ≡ in_slot slot keys
unfolding in_slot
in_slot-elsewhere keys key slot n =
    let p = sum_by_push (λ k. cond (k % 4096 == slot) 1 0) keys key in
    let t : (key % 4096 == slot) ≡ false = grind (arith, nat_tests) in
    p ∙ ap (λ b. in_slot slot keys + cond b 1 0) t ∙ omega arith

pub no-counts : (counts : List ℕ) → counts ≡ replicate 4096 0 → AreCounts [] counts
unfolding in_slot
no-counts counts e =
    let none : ℕ = 0 in
    rw e (record { long = length-replicate 4096 none; each = λ slot h. get_or-replicate 4096 slot none none h })

-- with the name that a call has for the count that it read
module _ (keys counts : List ℕ) (key slot had : ℕ) (is : slot ≡ key % 4096) (below : slot < 4096) (read : had ≡ get_or counts slot had) where
  pub counted : AreCounts keys counts → AreCounts (keys ++ key ∷ []) (set counts slot (had + 1))
  counted h =
      let long = h.long in
      let old = get_or_read counts slot had (omega arith) read 0 ∙ h.each slot below in
      record {
        long = length-set counts slot _ ∙ h.long;
        each = λ other lt. elim (cases_eq other slot) [
          | inl e ↦ ap (λ s. get_or (set counts slot (had + 1)) s 0) e ∙ get_or-set_same counts slot _ 0 (omega arith) ∙ ap (λ n. n + 1) old ∙ sym (in_slot-here keys key slot is) ∙ ap (λ s. in_slot s (keys ++ key ∷ [])) (sym e)
          | inr n ↦ get_or-set_other counts slot other _ 0 n ∙ h.each other lt ∙ sym (in_slot-elsewhere keys key other (λ e. n (e ∙ sym is)))
        ];
      }

  pub uncounted : AreCounts (keys ++ key ∷ []) counts → AreCounts keys (set counts slot (had - 1))
  uncounted h =
      let long = h.long in
      let old = get_or_read counts slot had (omega arith) read 0 ∙ h.each slot below ∙ in_slot-here keys key slot is in
      let less : had - 1 ≡ in_slot slot keys = omega arith in
      record {
        long = length-set counts slot _ ∙ h.long;
        each = λ other lt. elim (cases_eq other slot) [
          | inl e ↦ ap (λ s. get_or (set counts slot (had - 1)) s 0) e ∙ get_or-set_same counts slot _ 0 (omega arith) ∙ less ∙ ap (λ s. in_slot s keys) (sym e)
          | inr n ↦ get_or-set_other counts slot other _ 0 n ∙ h.each other lt ∙ in_slot-elsewhere keys key other (λ e. n (e ∙ sym is))
        ];
      }

-- no slot has more keys than there are
pub few : (keys counts : List ℕ) (slot : ℕ) → AreCounts keys counts → slot < 4096 → slice_index counts slot ≤ length keys
unfolding in_slot
few keys counts slot h lt = let e = h.each slot lt in let l = count_by-le-length (λ k. k % 4096 == slot) keys in omega arith

-- the last key is in its slot
pub some : (keys counts : List ℕ) (key slot : ℕ) → AreCounts (keys ++ key ∷ []) counts → slot ≡ key % 4096 → slot < 4096 → 0 < slice_index counts slot
some keys counts key slot h is lt = let e = h.each slot lt ∙ in_slot-here keys key slot is in omega arith

-- ---- keys that are apart

pub apart-none : AreApart []
unfolding key_times
apart-none key = omega arith

pub none-times : (key : ℕ) (keys : List ℕ) → list_any (λ k. k == key) keys ≡ false → key_times key keys ≡ 0
unfolding key_times
none-times key [] e = refl
none-times key (k ∷ ks) e =
    sum_by-cons (λ j. cond (j == key) 1 0) k ks ∙ here (k == key) e (none-times key ks)
  where
    here : (b : Bool) → (b || list_any (λ j. j == key) ks) ≡ false → (list_any (λ j. j == key) ks ≡ false → key_times key ks ≡ 0)
        → cond b 1 0 + key_times key ks ≡ 0
    here true f rest = absurd (true≢false f)
    here false f rest = let none = rest f in omega (arith, none)

-- a key is in its slot
pub times-in_slot : (key : ℕ) (keys : List ℕ) → key_times key keys ≤ in_slot (key % 4096) keys
unfolding key_times in_slot
times-in_slot key [] = omega arith
times-in_slot key (k ∷ ks) =
    let t = sum_by-cons (λ j. cond (j == key) 1 0) k ks in
    let s = sum_by-cons (λ j. cond (j % 4096 == key % 4096) 1 0) k ks in
    let one = here (k == key) refl in
    let rest = times-in_slot key ks in
    omega arith
  where
    here : (b : Bool) → (k == key) ≡ b → cond b 1 0 ≤ cond (k % 4096 == key % 4096) 1 0
    here true e =
        let at : k ≡ key = grind (arith, nat_tests, e) in
        let slot : k % 4096 ≡ key % 4096 = ap (λ j. j % 4096) at in
        let same : (k % 4096 == key % 4096) ≡ true = grind (arith, nat_tests, slot) in
        rw same (omega arith)
    here false e = omega arith

pub apart-push : (keys : List ℕ) (key : ℕ) → AreApart keys → key_times key keys ≡ 0 → AreApart (keys ++ key ∷ [])
unfolding key_times
apart-push keys key apart none k =
    let p = sum_by_push (λ j. cond (j == k) 1 0) keys key in
    let one = here (key == k) refl in
    omega arith
  where
    here : (b : Bool) → (key == k) ≡ b → key_times k keys + cond b 1 0 ≤ 1
    here true e =
        let at : key ≡ k = grind (arith, nat_tests, e) in
        let same : key_times k keys ≡ key_times key keys = ap (λ j. key_times j keys) (sym at) in
        omega (arith, same, none)
    here false e = let few = apart k in omega (arith, few)

pub times-both : (key : ℕ) (xs ys : List ℕ) → key_times key (xs ++ ys) ≡ key_times key xs + key_times key ys
unfolding key_times
times-both key xs ys = sum_by-append (λ k. cond (k == key) 1 0) xs ys

pub apart-front : (keys more : List ℕ) → AreApart (keys ++ more) → AreApart keys
apart-front keys more apart key =
    let all = times-both key keys more in
    let few = apart key in
    omega (arith, all, few)

slot-part : (keys : List ℕ) (slot n : ℕ) → in_slot slot (take n keys) ≤ in_slot slot keys
unfolding in_slot
slot-part keys slot n = sum_by-take-le (λ key. cond (key % 4096 == slot) 1 0) keys n

-- what was read at a place is none of those before it, where its slot has one key at most
pub alone-first : (keys counts : List ℕ) (i key : ℕ) → AreCounts keys counts → i < length keys → key ≡ slice_index keys i
    → slice_index counts (key % 4096) < 2 → key_times key (take i keys) ≡ 0
alone-first keys counts i key h lt is alone =
    let front : take (i + 1) keys ≡ take i keys ++ key ∷ [] = take_more keys i 0 lt ∙ ap (λ k. take i keys ++ k ∷ []) (sym is) in
    let part = slot-part keys (key % 4096) (i + 1) in
    let here = ap (in_slot (key % 4096)) front ∙ in_slot-here (take i keys) key (key % 4096) refl in
    let all = h.each (key % 4096) (omega arith) in
    let few = times-in_slot key (take i keys) in
    omega (arith, part, here, all, few, alone)
