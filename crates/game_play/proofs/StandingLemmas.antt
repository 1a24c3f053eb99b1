-- Counts and chains when a position is put at the end and when one is taken off, and what a walk along a chain finds.
use Rattle.std.proofs.Common.{◌≡◌, ◌≢◌, ℕ, zero, suc, ◌+◌, ◌-◌, ◌==◌, ◌<◌, ◌≤◌, Bool, true, false, not, ◌||◌, cond, if◌then◌else◌, List, [], ◌∷◌, ◌++◌, map, length, take, drop, get_or, set, replicate, refl, ap, sym, ◌∙◌, add-one, arith}
use Rattle.std.proofs.Math.Seq.{take-append_seam}
use Rattle.std.proofs.lemmas.List.{length_push, length-set, length-replicate, length-take-le, get_or_append_left, get_or_push, get_or-set_same, get_or-set_other, get_or-replicate, get_or-take, take-append-drop, take-append-le, take-take, take_all, map-append}
use Rattle.std.proofs.lemmas.Grind.{get_or_default_zero}
use Rattle.std.proofs.lemmas.List.Sums.{count_by-le-length, sum_by-cons}
use native.Mathlib.Decide.{ℕ_discrete}
use mathlib.Core.Logic.{dite}
use Rattle.rules_model.specs.declared.board.Position.{Position}
use Rattle.rules_model.specs.declared.board.Repeat.{Repeat}
use Rattle.rules_model.specs.Games.{same_repeat, times}
use Rattle.rules_model.specs.Repeats.{repeat_of}
use Rattle.rules_model.proofs.EqualLaws.{repeat-decides}
use Rattle.forced_wins.specs.Wins.{is_in}
use Rattle.forced_wins.proofs.Counts.{by_cases, not_true, true_false, eq_from, eq_to}
use Rattle.position_key.specs.Key.{key_of}
use Rattle.game_play.specs.Played.{keys_of}
use Rattle.game_play.specs.Standings.{slot_of, last_in, AreChained, AreCounts, AreStandings}
use Rattle.game_play.proofs.KeyLemmas.{keys-length, keys-at, keys-take}
use Rattle.game_play.proofs.RepetitionLemmas.{blank, times-yes, times-no, same_repeat-sym}

-- ---- the last key of a slot

abbrev has_slot : List ℕ → ℕ → ℕ → Bool
has_slot keys slot n = slot_of (get_or keys n 0) == slot

last-none : (keys : List ℕ) (slot : ℕ) → last_in keys slot 0 ≡ 0
unfolding last_in
last-none keys slot = refl

last-yes : (keys : List ℕ) (slot n : ℕ) → has_slot keys slot n ≡ true → last_in keys slot (suc n) ≡ suc n
unfolding last_in
last-yes keys slot n e = ap (λ b. if b then suc n else last_in keys slot n) e

last-no : (keys : List ℕ) (slot n : ℕ) → has_slot keys slot n ≡ false → last_in keys slot (suc n) ≡ last_in keys slot n
unfolding last_in
last-no keys slot n e = ap (λ b. if b then suc n else last_in keys slot n) e

pub last-low : (keys : List ℕ) (slot n : ℕ) → last_in keys slot n ≤ n
last-low keys slot zero = let e = last-none keys slot in omega arith
last-low keys slot (suc n) =
    by_cases (has_slot keys slot n)
    (λ y. let e = last-yes keys slot n y in omega arith)
    (λ no. let e = last-no keys slot n no in let low = last-low keys slot n in omega arith)

pub last-here : (keys : List ℕ) (slot n : ℕ) → 0 < last_in keys slot n → slot_of (get_or keys (last_in keys slot n - 1) 0) ≡ slot
last-here keys slot zero some = let e = last-none keys slot in absurd (omega arith)
last-here keys slot (suc n) some =
    by_cases (has_slot keys slot n)
    (λ y.
    let e = last-yes keys slot n y in
    let at : last_in keys slot (suc n) - 1 ≡ n = omega arith in
    ap (λ k. slot_of (get_or keys k 0)) at ∙ eq_from _ _ y)
    (λ no.
    let e = last-no keys slot n no in
    ap (λ k. slot_of (get_or keys (k - 1) 0)) e ∙ last-here keys slot n (omega arith))

-- keys that come after the first n do not matter
last-append : (keys more : List ℕ) (slot n : ℕ) → n ≤ length keys → last_in (keys ++ more) slot n ≡ last_in keys slot n
unfolding last_in
last-append keys more slot zero h = refl
last-append keys more slot (suc n) h =
    ap (λ k. if slot_of k == slot then suc n else last_in (keys ++ more) slot n) (get_or_append_left keys more 0 n (omega arith))
    ∙ ap (λ m. if has_slot keys slot n then suc n else m) (last-append keys more slot n (omega arith))

last-take : (keys : List ℕ) (slot n k : ℕ) → n ≤ k → k ≤ length keys → last_in (take k keys) slot n ≡ last_in keys slot n
last-take keys slot n k h l =
    let e = length-take-le k keys l in
    sym (ap (λ ks. last_in ks slot n) (sym (take-append-drop k keys)) ∙ last-append (take k keys) (drop k keys) slot n (omega arith))

last-newest : (keys : List ℕ) (key n : ℕ) → n ≡ length keys + 1 → last_in (keys ++ key ∷ []) (slot_of key) n ≡ n
last-newest keys key n e =
    let here : slot_of (get_or (keys ++ key ∷ []) (length keys) 0) ≡ slot_of key = ap slot_of (get_or_push keys key 0 (length keys) refl) in
    let s : n ≡ suc (length keys) = omega arith in
    ap (last_in (keys ++ key ∷ []) (slot_of key)) s ∙ last-yes (keys ++ key ∷ []) (slot_of key) (length keys) (eq_to _ _ here) ∙ sym s

last-other : (keys : List ℕ) (key slot n : ℕ) → n ≡ length keys + 1 → slot ≢ slot_of key → last_in (keys ++ key ∷ []) slot n ≡ last_in keys slot (length keys)
last-other keys key slot n e apart =
    let s : n ≡ suc (length keys) = omega arith in
    let no = not_true (has_slot (keys ++ key ∷ []) slot (length keys)) (λ t. apart (sym (eq_from _ _ t) ∙ ap slot_of (get_or_push keys key 0 (length keys) refl))) in
    ap (last_in (keys ++ key ∷ []) slot) s ∙ last-no (keys ++ key ∷ []) slot (length keys) no ∙ last-append keys (key ∷ []) slot (length keys) (omega arith)

-- ---- chains

pub chained-none : (heads : List ℕ) → heads ≡ replicate 1024 0 → AreChained [] heads []
chained-none heads zeros = record {
  slots = ap length zeros ∙ length-replicate {A = ℕ} 1024 0;
  long = refl;
  heads_are = λ slot l. ap (λ hs. get_or hs slot 0) zeros ∙ get_or-replicate 1024 slot 0 0 l ∙ sym (last-none [] slot);
  before_are = λ i l. absurd (omega arith);
}

module _ (keys heads before : List ℕ) (key : ℕ) (h : AreChained keys heads before) where
  slot-below : slot_of key < length heads
  slot-below = let e = h.slots in omega arith

  pushed-head : (slot : ℕ) → slot < 1024 → get_or (set heads (slot_of key) (length keys + 1)) slot 0 ≡ last_in (keys ++ key ∷ []) slot (length (keys ++ key ∷ []))
  pushed-head slot l =
      let size = length_push keys key in
      dite (ℕ_discrete slot (slot_of key))
      (λ e. ap (λ s. get_or (set heads (slot_of key) (length keys + 1)) s 0) e ∙ get_or-set_same heads (slot_of key) (length keys + 1) 0 slot-below ∙ sym size
      ∙ sym (last-newest keys key (length (keys ++ key ∷ [])) size) ∙ ap (λ s. last_in (keys ++ key ∷ []) s (length (keys ++ key ∷ []))) (sym e))
      (λ apart. get_or-set_other heads (slot_of key) slot (length keys + 1) 0 apart ∙ h.heads_are slot l ∙ sym (last-other keys key slot (length (keys ++ key ∷ [])) size apart))

  pushed-before : (i : ℕ) → i < length (keys ++ key ∷ []) → get_or (before ++ get_or heads (slot_of key) 0 ∷ []) i 0 ≡ last_in (keys ++ key ∷ []) (slot_of (get_or (keys ++ key ∷ []) i 0)) i
  pushed-before i l =
      let long = h.long in
      let size = length_push keys key in
      let slots = h.slots in
      dite (ℕ_discrete i (length keys))
      (λ e. get_or_push before (get_or heads (slot_of key) 0) 0 i (long ∙ sym e) ∙ h.heads_are (slot_of key) (omega arith) ∙ ap (last_in keys (slot_of key)) (sym e)
      ∙ sym (last-append keys (key ∷ []) (slot_of key) i (omega arith)) ∙ ap (λ k. last_in (keys ++ key ∷ []) (slot_of k) i) (sym (get_or_push keys key 0 i (sym e))))
      (λ apart.
      let within : i < length keys = omega arith in
      get_or_append_left before (get_or heads (slot_of key) 0 ∷ []) 0 i (omega arith) ∙ h.before_are i within
      ∙ sym (last-append keys (key ∷ []) (slot_of (get_or keys i 0)) i (omega arith)) ∙ ap (λ k. last_in (keys ++ key ∷ []) (slot_of k) i) (sym (get_or_append_left keys (key ∷ []) 0 i within)))

  pub chained-push : AreChained (keys ++ key ∷ []) (set heads (slot_of key) (length keys + 1)) (before ++ get_or heads (slot_of key) 0 ∷ [])
  chained-push = record {
    slots = length-set heads (slot_of key) (length keys + 1) ∙ h.slots;
    long = length_push before (get_or heads (slot_of key) 0) ∙ ap (λ n. n + 1) h.long ∙ sym (length_push keys key);
    heads_are = pushed-head;
    before_are = pushed-before;
  }

module _ (keys heads before : List ℕ) (n : ℕ) (whole : length keys ≡ n + 1) (h : AreChained keys heads before) where
  abbrev own : ℕ
  own = slot_of (get_or keys n 0)

  front : length (take n keys) ≡ n
  front = length-take-le n keys (omega arith)

  popped-head : (slot : ℕ) → slot < 1024 → get_or (set heads own (get_or before n 0)) slot 0 ≡ last_in (take n keys) slot (length (take n keys))
  popped-head slot l =
      let slots = h.slots in
      let same : last_in (take n keys) slot (length (take n keys)) ≡ last_in keys slot n = ap (last_in (take n keys) slot) front ∙ last-take keys slot n n (omega arith) (omega arith) in
      dite (ℕ_discrete slot own)
      (λ e. ap (λ s. get_or (set heads own (get_or before n 0)) s 0) e ∙ get_or-set_same heads own (get_or before n 0) 0 (omega arith) ∙ h.before_are n (omega arith) ∙ ap (λ s. last_in keys s n) (sym e) ∙ sym same)
      (λ apart.
      let all : length keys ≡ suc n = omega arith in
      let no = not_true (has_slot keys slot n) (λ t. apart (sym (eq_from _ _ t))) in
      get_or-set_other heads own slot (get_or before n 0) 0 apart ∙ h.heads_are slot l ∙ ap (last_in keys slot) all ∙ last-no keys slot n no ∙ sym same)

  popped-before : (i : ℕ) → i < length (take n keys) → get_or (take n before) i 0 ≡ last_in (take n keys) (slot_of (get_or (take n keys) i 0)) i
  popped-before i l =
      let f = front in
      let within : i < n = omega arith in
      get_or-take n before i 0 within ∙ h.before_are i (omega arith) ∙ ap (λ k. last_in keys (slot_of k) i) (sym (get_or-take n keys i 0 within))
      ∙ sym (last-take keys (slot_of (get_or (take n keys) i 0)) i n (omega arith) (omega arith))

  pub chained-pop : AreChained (take n keys) (set heads own (get_or before n 0)) (take n before)
  chained-pop = record {
    slots = length-set heads own (get_or before n 0) ∙ h.slots;
    long = length-take-le n before (let e = h.long in omega arith) ∙ sym front;
    heads_are = popped-head;
    before_are = popped-before;
  }

-- ---- counts

pub times-few : (r : Repeat) (ps : List Position) → times r ps ≤ length ps
unfolding times
times-few r ps = count_by-le-length (λ p. same_repeat (repeat_of p) r) ps

same-itself : (r : Repeat) → same_repeat r r ≡ true
same-itself r = (repeat-decides r r).1 refl

counts-none : AreCounts [] []
counts-none = record { long = refl; each = λ i p l. absurd (omega arith) }

-- the position at a place is one of those up to it
times-own : (ps : List Position) (i : ℕ) (p : Position) → i < length ps → times (repeat_of (get_or ps i p)) (take (i + 1) ps) ≡ times (repeat_of (get_or ps i p)) (take i ps) + 1
times-own ps i p l = times-yes (repeat_of (get_or ps i p)) ps i p l (same-itself (repeat_of (get_or ps i p)))

pub counts-push : (ps : List Position) (counts : List ℕ) (p : Position) (count : ℕ) → AreCounts ps counts → count ≡ times (repeat_of p) ps + 1 → AreCounts (ps ++ p ∷ []) (counts ++ count ∷ [])
counts-push ps counts p count h e = record {
  long = length_push counts count ∙ ap (λ n. n + 1) h.long ∙ sym (length_push ps p);
  each = each;
}
  where
    each : (i : ℕ) (d : Position) → i < length (ps ++ p ∷ []) → get_or (counts ++ count ∷ []) i 0 ≡ times (repeat_of (get_or (ps ++ p ∷ []) i d)) (take (i + 1) (ps ++ p ∷ []))
    each i d l =
        let long = h.long in
        let size = length_push ps p in
        dite (ℕ_discrete i (length ps))
        (λ at.
        let own : get_or (ps ++ p ∷ []) i d ≡ p = get_or_push ps p d i (sym at) in
        get_or_push counts count 0 i (long ∙ sym at) ∙ e
        ∙ sym (times-own (ps ++ p ∷ []) i d l
        ∙ ap (λ q. times (repeat_of q) (take i (ps ++ p ∷ [])) + 1) own
        ∙ ap (λ k. times (repeat_of p) (take k (ps ++ p ∷ [])) + 1) at
        ∙ ap (λ qs. times (repeat_of p) qs + 1) (take-append_seam ps (p ∷ []))))
        (λ apart.
        let within : i < length ps = omega arith in
        get_or_append_left counts (count ∷ []) 0 i (omega arith) ∙ h.each i d within
        ∙ ap (λ q. times (repeat_of q) (take (i + 1) ps)) (sym (get_or_append_left ps (p ∷ []) d i within))
        ∙ ap (times (repeat_of (get_or (ps ++ p ∷ []) i d))) (sym (take-append-le (i + 1) ps (p ∷ []) (omega arith))))

pub counts-take : (ps : List Position) (counts : List ℕ) (n : ℕ) → n ≤ length ps → AreCounts ps counts → AreCounts (take n ps) (take n counts)
counts-take ps counts n l h =
    let long = h.long in
    let front = length-take-le n ps l in
    record {
      long = length-take-le n counts (omega arith) ∙ sym front;
      each = λ i d at.
          let within : i < n = omega arith in
          get_or-take n counts i 0 within ∙ h.each i d (omega arith)
          ∙ ap (λ q. times (repeat_of q) (take (i + 1) ps)) (sym (get_or-take n ps i d within))
          ∙ ap (times (repeat_of (get_or (take n ps) i d))) (sym (take-take (i + 1) n ps (omega arith)));
    }

-- ---- all together

pub standings-none : (ps : List Position) (keys counts heads before : List ℕ) → ps ≡ [] → keys ≡ [] → counts ≡ [] → heads ≡ replicate 1024 0 → before ≡ [] → AreStandings ps keys counts heads before
standings-none ps keys counts heads before no_positions no_keys no_counts zeros none =
    rw (no_positions, no_keys, no_counts, none) (record { few = omega arith; keyed = refl; counted = counts-none; chained = chained-none heads zeros })

-- with the names that a call has for what it found and made
pub standings-push : (ps : List Position) (keys counts heads before : List ℕ) → AreStandings ps keys counts heads before → length ps < 8193 → (p : Position) (key count slot older newest : ℕ) → key ≡ key_of (repeat_of p) → count ≡ times (repeat_of p) ps + 1 → slot ≡ slot_of key → older ≡ get_or heads slot older → newest ≡ length ps + 1 →
    (qs : List Position) (js ds hs bs : List ℕ) → qs ≡ ps ++ p ∷ [] → js ≡ keys ++ key ∷ [] → ds ≡ counts ++ count ∷ [] → hs ≡ set heads slot newest → bs ≡ before ++ older ∷ [] → AreStandings qs js ds hs bs
standings-push ps keys counts heads before h room p key count slot older newest of_p counted of_key read named qs js ds hs bs eq ej ed eh eb =
    let size : length keys ≡ length ps = ap length h.keyed ∙ keys-length ps in
    let slots = h.chained.slots in
    let below : slot_of key < length heads = omega arith in
    let old : older ≡ get_or heads (slot_of key) 0 = read ∙ ap (λ s. get_or heads s older) of_key ∙ get_or_default_zero heads (slot_of key) older below in
    let new : newest ≡ length keys + 1 = omega arith in
    rw (eq, ej, ed, eh, eb) (record {
      few = let e = length_push ps p in omega arith;
      keyed = (λ i. h.keyed i ++ of_p i ∷ []) ∙ sym (map-append (λ (q : Position). key_of (repeat_of q)) ps (p ∷ []));
      counted = counts-push ps counts p count h.counted counted;
      chained = rw (of_key, new, old) (chained-push keys heads before key h.chained);
    })

pub standings-pop : (ps : List Position) (keys counts heads before : List ℕ) → AreStandings ps keys counts heads before → (n key slot older : ℕ) → length ps ≡ n + 1 → key ≡ get_or keys n key → slot ≡ slot_of key → older ≡ get_or before n older →
    (qs : List Position) (js ds hs bs : List ℕ) → qs ≡ take n ps → js ≡ take n keys → ds ≡ take n counts → hs ≡ set heads slot older → bs ≡ take n before → AreStandings qs js ds hs bs
standings-pop ps keys counts heads before h n key slot older whole read of_key old qs js ds hs bs eq ej ed eh eb =
    let size : length keys ≡ length ps = ap length h.keyed ∙ keys-length ps in
    let few = h.few in
    let long = h.chained.long in
    let last = read ∙ get_or_default_zero keys n key (omega arith) in
    let back = old ∙ get_or_default_zero before n older (omega arith) in
    rw (eq, ej, ed, eh, eb) (record {
      few = let e = length-take-le n ps (omega arith) in omega arith;
      keyed = ap (take n) h.keyed ∙ keys-take n ps;
      counted = counts-take ps counts n (omega arith) h.counted;
      chained = rw (of_key, last, back) (chained-pop keys heads before n (omega arith) h.chained);
    })

-- ---- a walk along a chain

-- what is still ahead: none of those that were passed has the repeat
pub record IsAhead (ps : List Position) (r : Repeat) (at : ℕ) : Type 0 where
  pub low : at ≤ length ps
  pub here : 0 < at → slot_of (get_or (keys_of ps) (at - 1) 0) ≡ slot_of (key_of r)
  pub rest : times r ps ≡ times r (take at ps)

module _ (ps : List Position) (r : Repeat) where
  abbrev last_of : ℕ → ℕ
  last_of n = last_in (keys_of ps) (slot_of (key_of r)) n

  -- a position of another slot has another repeat
  times-skip : (n : ℕ) → n ≤ length ps → times r (take n ps) ≡ times r (take (last_of n) ps)
  times-skip zero l = ap (λ k. times r (take k ps)) (sym (last-none (keys_of ps) (slot_of (key_of r))))
  times-skip (suc n) l =
      by_cases (has_slot (keys_of ps) (slot_of (key_of r)) n)
      (λ y. ap (λ k. times r (take k ps)) (sym (last-yes (keys_of ps) (slot_of (key_of r)) n y)))
      (λ no.
      let apart = not_true (same_repeat (repeat_of (get_or ps n blank)) r)
      (λ t. true_false (has_slot (keys_of ps) (slot_of (key_of r)) n) (eq_to _ _ (ap slot_of (keys-at ps n 0 blank (omega arith) ∙ ap key_of ((repeat-decides (repeat_of (get_or ps n blank)) r).0 t)))) no) in
      ap (λ k. times r (take k ps)) (sym (add-one n)) ∙ times-no r ps n blank (omega arith) apart ∙ times-skip n (omega arith)
      ∙ ap (λ k. times r (take k ps)) (sym (last-no (keys_of ps) (slot_of (key_of r)) n no)))

  ahead : (n at : ℕ) → n ≤ length ps → times r ps ≡ times r (take n ps) → at ≡ last_of n → IsAhead ps r at
  ahead n at l rest e =
      let low = last-low (keys_of ps) (slot_of (key_of r)) n in
      record {
        low = omega arith;
        here = λ some. ap (λ k. slot_of (get_or (keys_of ps) (k - 1) 0)) e ∙ last-here (keys_of ps) (slot_of (key_of r)) n (omega arith);
        rest = rest ∙ times-skip n l ∙ ap (λ k. times r (take k ps)) (sym e);
      }

  module _ (keys counts heads before : List ℕ) (h : AreStandings ps keys counts heads before) where
    size : length keys ≡ length ps
    size = ap length h.keyed ∙ keys-length ps

    pub walk-starts : (key slot at : ℕ) → key ≡ key_of r → slot ≡ slot_of key → at ≡ get_or heads slot at → IsAhead ps r at
    walk-starts key slot at of_r of_key read =
        let s = size in
        let slots = h.chained.slots in
        let own : slot ≡ slot_of (key_of r) = of_key ∙ ap slot_of of_r in
        let below : slot < length heads = omega arith in
        ahead (length ps) at (omega arith) (ap (times r) (sym (take_all (length ps) ps (omega arith))))
        (read ∙ get_or_default_zero heads slot at below ∙ ap (λ k. get_or heads k 0) own ∙ h.chained.heads_are (slot_of (key_of r)) (omega arith) ∙ ap (last_in keys (slot_of (key_of r))) s ∙ ap (λ ks. last_in ks (slot_of (key_of r)) (length ps)) h.keyed)

    module _ (at : ℕ) (a : IsAhead ps r at) (some : 0 < at) where
      next-is : (next : ℕ) → next ≡ get_or before (at - 1) next → next ≡ last_of (at - 1)
      next-is next read =
          let s = size in
          let low = a.low in
          let long = h.chained.long in
          read ∙ get_or_default_zero before (at - 1) next (omega arith) ∙ h.chained.before_are (at - 1) (omega arith)
          ∙ ap (λ ks. last_in ks (slot_of (get_or ks (at - 1) 0)) (at - 1)) h.keyed ∙ ap (λ s. last_in (keys_of ps) s (at - 1)) (a.here some)

      -- the next one came earlier
      pub walk-falls : (next : ℕ) → next ≡ get_or before (at - 1) next → next < at
      walk-falls next read =
          let e = next-is next read in
          let low = last-low (keys_of ps) (slot_of (key_of r)) (at - 1) in
          omega arith

      module _ (p : Position) (is : p ≡ get_or ps (at - 1) p) where
        pub walk-goes-on : same_repeat (repeat_of p) r ≡ false → (next : ℕ) → next ≡ get_or before (at - 1) next → IsAhead ps r next
        walk-goes-on other next read =
            let low = a.low in
            let e : at ≡ at - 1 + 1 = omega arith in
            ahead (at - 1) next (omega arith)
            (a.rest ∙ ap (λ k. times r (take k ps)) e ∙ times-no r ps (at - 1) p (omega arith) (ap (λ q. same_repeat (repeat_of q) r) (sym is) ∙ other))
            (next-is next read)

        pub walk-finds : same_repeat (repeat_of p) r ≡ true → (count : ℕ) → count ≡ get_or counts (at - 1) count → count ≡ times r ps
        walk-finds same count read =
            let low = a.low in
            let long = h.counted.long in
            let e : at - 1 + 1 ≡ at = omega arith in
            read ∙ get_or_default_zero counts (at - 1) count (omega arith) ∙ h.counted.each (at - 1) p (omega arith)
            ∙ ap (λ q. times (repeat_of q) (take (at - 1 + 1) ps)) (sym is)
            ∙ ap (λ q. times q (take (at - 1 + 1) ps)) ((repeat-decides (repeat_of p) r).0 same)
            ∙ ap (λ k. times r (take k ps)) e ∙ sym a.rest

  pub walk-ends : (at : ℕ) → IsAhead ps r at → at ≡ 0 → 0 ≡ times r ps
  unfolding times
  walk-ends at a e = sym (a.rest ∙ ap (λ k. times r (take k ps)) e)

-- ---- the first of its repeat

one_more-in : (b c : Bool) (m : ℕ) → c ≡ not (m == 0) → (b || c) ≡ not ((cond b 1 0 + m) == 0)
one_more-in true c m e = sym (ap not (not_true ((1 + m) == 0) (λ t. let z = eq_from (1 + m) 0 t in absurd (omega arith))))
one_more-in false c m e = e ∙ ap (λ k. not (k == 0)) (let z : m ≡ 0 + m = omega arith in z)

-- a repeat is among those of the positions where some of them have it
in-times : (r : Repeat) (ps : List Position) → is_in (map repeat_of ps) r ≡ not (times r ps == 0)
unfolding times
in-times r [] = refl
in-times r (p ∷ ps) =
    ap (λ b. b || is_in (map repeat_of ps) r) (same_repeat-sym r (repeat_of p))
    ∙ one_more-in (same_repeat (repeat_of p) r) (is_in (map repeat_of ps) r) (times r ps) (in-times r ps)
    ∙ ap (λ n. not (n == 0)) (sym (sum_by-cons (λ q. cond (same_repeat (repeat_of q) r) 1 0) p ps))

one_more-first : (m : ℕ) → (m + 1 == 1) ≡ not (not (m == 0))
one_more-first m =
    by_cases (m == 0)
    (λ y. let z = eq_from m 0 y in eq_to (m + 1) 1 (omega arith) ∙ sym (ap (λ b. not (not b)) y))
    (λ n. not_true (m + 1 == 1) (λ t. let z = eq_from (m + 1) 1 t in true_false (m == 0) (eq_to m 0 (omega arith)) n) ∙ sym (ap (λ b. not (not b)) n))

pub first-is : (ps : List Position) (counts : List ℕ) (i count : ℕ) (p : Position) → i < length ps → AreCounts ps counts → count ≡ get_or counts i count → (count == 1) ≡ not (is_in (map repeat_of (take i ps)) (repeat_of (get_or ps i p)))
first-is ps counts i count p l h read =
    let r = repeat_of (get_or ps i p) in
    let long = h.long in
    ap (λ k. k == 1) (read ∙ get_or_default_zero counts i count (omega arith) ∙ h.each i p l ∙ times-own ps i p l) ∙ one_more-first (times r (take i ps)) ∙ ap not (sym (in-times r (take i ps)))
