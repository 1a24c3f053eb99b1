-- What the counts of slots say of a line.
use Rattle.std.proofs.Common.{◌≡◌, ℕ, ◌+◌, ◌%◌, ◌<◌, ◌≤◌, ◌==◌, Bool, true, false, cond, List, [], ◌∷◌, ◌++◌, length, take, drop, get_or, slice_index, refl, ap, sym, subst, ◌∙◌, append_assoc, arith}
use Rattle.std.proofs.lemmas.Bool.Decides.{nat_tests}
use Rattle.std.proofs.lemmas.List.{length-append, length-map, length-take-le, map-append, map_push, take-append-drop, take-append-le, take-take, take_all, take_more}
use Rattle.std.proofs.lemmas.List.Sums.{sum_by-cons}
use Rattle.std.specs.List.{list_any}
use Rattle.rules_model.specs.declared.board.Position.{Position}
use Rattle.rules_model.specs.declared.board.Repeat.{Repeat}
use Rattle.rules_model.specs.declared.moves.Move.{Move}
use Rattle.rules_model.specs.Games.{Story, history, same_repeat, times}
use Rattle.rules_model.specs.Repeats.{repeat_of}
use Rattle.rules_model.proofs.EqualLaws.{repeat-decides}
use Rattle.position_key.specs.Key.{key_of}
use Rattle.game_play.specs.Played.{Played, story, keys_of}
use Rattle.legality.specs.Stance.{Stance}
use Rattle.game_line.specs.Lined.{Lined, all_keys, keys_in, line_of, positions_since, story_of_line, IsApart, IsHeld}
use Rattle.game_line.specs.Slots.{in_slot, key_times, AreApart, AreCounts}
use Rattle.game_line.proofs.LineLaws.{history-since}
use Rattle.game_line.proofs.SlotLemmas.{apart-front, apart-push, few, none-times, some, times-both, times-in_slot}

module _ (r : Repeat) where
  abbrev stands : Position → Bool
  stands p = same_repeat (repeat_of p) r

  abbrev is_own : ℕ → Bool
  is_own key = key == key_of r

  -- what repeats it has its key
  one-own : (p : Position) (b c : Bool) → stands p ≡ b → is_own (key_of (repeat_of p)) ≡ c → cond b 1 0 ≤ cond c 1 0
  one-own p false c e f = elim c as (λ c. 0 ≤ cond c 1 0) [ true ↦ omega arith | false ↦ omega arith ]
  one-own p true true e f = omega arith
  one-own p true false e f =
      let same : key_of (repeat_of p) ≡ key_of r = ap key_of ((repeat-decides (repeat_of p) r).0 e) in
      let differ : (key_of r == key_of r) ≡ false = sym (ap is_own same) ∙ f in
      absurd (grind (arith, nat_tests))

  pub times-keys : (ps : List Position) → times r ps ≤ key_times (key_of r) (keys_of ps)
  unfolding times key_times
  times-keys [] = omega arith
  times-keys (p ∷ ps) =
      let t = sum_by-cons (λ q. cond (stands q) 1 0) p ps in
      let s = sum_by-cons (λ key. cond (is_own key) 1 0) (key_of (repeat_of p)) (keys_of ps) in
      let one = one-own p (stands p) (is_own (key_of (repeat_of p))) refl refl in
      let rest = times-keys ps in
      omega arith

  pub times-slot : (ps : List Position) → times r ps ≤ in_slot (key_of r % 4096) (keys_of ps)
  times-slot ps =
      let t = times-keys ps in
      let s = times-in_slot (key_of r) (keys_of ps) in
      omega arith

  -- where no two keys are equal, nothing has stood twice
  pub times-once : (ps : List Position) → AreApart (keys_of ps) → times r ps ≤ 1
  times-once ps apart =
      let t = times-keys ps in
      let few = apart (key_of r) in
      omega arith

-- ---- the keys of a game and of a line after it

-- the counts of a game's keys are those of a line of no moves
pub counts-new : (s : Story) (keys counts : List ℕ) → keys ≡ keys_of (history s) → AreCounts keys counts → AreCounts (all_keys s (key_of (repeat_of s.last) ∷ [])) counts
counts-new s keys counts e h = subst (λ (ks : List ℕ). AreCounts ks counts) (e ∙ map_push (λ (p : Position). key_of (repeat_of p)) s.earlier s.last) h

pub short-new : (s : Story) (keys : List ℕ) → keys ≡ keys_of (history s) → length keys ≤ 8193 → length s.earlier ≤ 8192
short-new s keys e few =
    let m = ap length e ∙ length-map (history s) (λ (p : Position). key_of (repeat_of p)) in
    let a = length-append s.earlier (s.last ∷ []) in
    omega arith

module _ (s : Story) (keys counts : List ℕ) (h : AreCounts (all_keys s keys) counts) where
  -- no slot has more keys than there are
  pub slots-few : (key : ℕ) → slice_index counts (key % 4096) ≤ length s.earlier + length keys
  slots-few key =
      let f = few (all_keys s keys) counts (key % 4096) h (omega arith) in
      let a = length-append (keys_of s.earlier) keys in
      let m = length-map s.earlier (λ (p : Position). key_of (repeat_of p)) in
      omega arith

  pub slots-push : (key : ℕ) (counts' keys' : List ℕ) → keys' ≡ keys ++ key ∷ [] → ((ks : List ℕ) → AreCounts ks counts → AreCounts (ks ++ key ∷ []) counts') → AreCounts (all_keys s keys') counts'
  slots-push key counts' keys' e more = subst (λ (ks : List ℕ). AreCounts ks counts') (append_assoc (keys_of s.earlier) keys (key ∷ []) ∙ ap (all_keys s) (sym e)) (more (all_keys s keys) h)

  -- the keys before the last one, and the last one
  module _ (n key : ℕ) (count : length keys ≡ n + 1) (is : key ≡ get_or keys n key) where
    last-apart : all_keys s keys ≡ all_keys s (take n keys) ++ key ∷ []
    last-apart =
        let lt : n < length keys = omega arith in
        let split : keys ≡ take n keys ++ key ∷ [] = sym (take_all (n + 1) keys (omega arith)) ∙ take_more keys n key lt ∙ ap (λ k. take n keys ++ k ∷ []) (sym is) in
        ap (all_keys s) split ∙ sym (append_assoc (keys_of s.earlier) (take n keys) (key ∷ []))

    pub slots-some : 0 < slice_index counts (key % 4096)
    slots-some = some (all_keys s (take n keys)) counts key (key % 4096) (subst (λ (ks : List ℕ). AreCounts ks counts) last-apart h) refl (omega arith)

    pub slots-back : (counts' keys' : List ℕ) → keys' ≡ take n keys → ((ks : List ℕ) → AreCounts (ks ++ key ∷ []) counts → AreCounts ks counts') → AreCounts (all_keys s keys') counts'
    slots-back counts' keys' e less = subst (λ (ks : List ℕ). AreCounts (all_keys s ks) counts') (sym e) (less (all_keys s (take n keys)) (subst (λ (ks : List ℕ). AreCounts ks counts) last-apart h))

-- ---- keys that are apart

pub apart-new : (s : Story) (keys : List ℕ) → keys ≡ keys_of (history s) → AreApart keys → IsApart s (key_of (repeat_of s.last) ∷ []) 1
apart-new s keys e apart = record {
  low = omega arith;
  each = λ some. subst AreApart (e ∙ map_push (λ (p : Position). key_of (repeat_of p)) s.earlier s.last) apart;
}

pub apart-unknown : (s : Story) (keys : List ℕ) → IsApart s keys 0
apart-unknown s keys = record { low = omega arith; each = λ some. absurd (omega (arith, some)) }

module _ (s : Story) (keys : List ℕ) (n : ℕ) (h : IsApart s keys n) where
  pub apart-whole : n ≡ length keys → 0 < length keys → AreApart (all_keys s keys)
  apart-whole e some = subst (λ (ks : List ℕ). AreApart (all_keys s ks)) (take_all n keys (omega arith)) (h.each (omega arith))

  pub apart-less : (m : ℕ) → m ≤ n → 0 < m → AreApart (all_keys s (take m keys))
  apart-less m less some =
      let split : take n keys ≡ take m keys ++ drop m (take n keys) =
      sym (take-append-drop m (take n keys)) ∙ ap (λ ks. ks ++ drop m (take n keys)) (take-take m n keys less) in
      let all : all_keys s (take n keys) ≡ all_keys s (take m keys) ++ drop m (take n keys) =
      ap (all_keys s) split ∙ sym (append_assoc (keys_of s.earlier) (take m keys) (drop m (take n keys))) in
      apart-front (all_keys s (take m keys)) (drop m (take n keys)) (subst AreApart all (h.each (omega (arith, less, some))))

  pub apart-same : (key : ℕ) (keys' : List ℕ) → keys' ≡ keys ++ key ∷ [] → IsApart s keys' n
  apart-same key keys' e =
      let low = h.low in
      let long = length-append keys (key ∷ []) in
      rw e (record {
        low = omega arith;
        each = λ some. subst (λ (ks : List ℕ). AreApart (all_keys s ks)) (sym (take-append-le n keys (key ∷ []) low)) (h.each some);
      })

  pub apart-back : (plies m : ℕ) (keys' : List ℕ) → keys' ≡ take plies keys → plies ≤ length keys → m ≤ plies → m ≤ n → IsApart s keys' m
  apart-back plies m keys' e fewer at_most less =
      let long = length-take-le plies keys fewer in
      rw e (record {
        low = omega arith;
        each = λ some. subst (λ (ks : List ℕ). AreApart (all_keys s ks)) (sym (take-take m plies keys at_most)) (apart-less m less some);
      })

pub apart-more : (s : Story) (keys : List ℕ) (key n : ℕ) (keys' : List ℕ) → keys' ≡ keys ++ key ∷ [] → n ≡ length keys + 1
    → AreApart (all_keys s keys ++ key ∷ []) → IsApart s keys' n
apart-more s keys key n keys' e count apart =
    let long = length-append keys (key ∷ []) in
    let all : take n (keys ++ key ∷ []) ≡ keys ++ key ∷ [] = take_all n (keys ++ key ∷ []) (omega arith) in
    rw e (record {
      low = omega arith;
      each = λ some. subst AreApart (append_assoc (keys_of s.earlier) keys (key ∷ []) ∙ ap (all_keys s) (sym all)) apart;
    })

-- a key that is in none of the two is in none of the game and the line
pub apart-fresh : (s : Story) (keys games : List ℕ) (key : ℕ) → games ≡ keys_of (history s) → AreApart (all_keys s keys)
    → list_any (λ k. k == key) games ≡ false → list_any (λ k. k == key) keys ≡ false → AreApart (all_keys s keys ++ key ∷ [])
apart-fresh s keys games key e apart game line =
    let split = e ∙ map_push (λ (p : Position). key_of (repeat_of p)) s.earlier s.last in
    let before = sym (ap (key_times key) split) ∙ none-times key games game in
    let whole = times-both key (keys_of s.earlier) (key_of (repeat_of s.last) ∷ []) in
    let both = times-both key (keys_of s.earlier) keys in
    let since = none-times key keys line in
    apart-push (all_keys s keys) key apart (omega (arith, before, whole, both, since))

-- the last position has not stood more often than its slot has keys
module _ (game : Played) (ms : List Move) (room : ℕ) (bs : List Stance) (keys counts : List ℕ) (held : IsHeld game.rules (story game).last ms bs keys)
    (h : AreCounts (all_keys (story game) keys) counts) (l : Lined) (is : line_of game ms room ≡ l) where
  pub line-keys : keys_in l ≡ all_keys (story game) keys
  line-keys =
      ap keys_in (sym is)
      ∙ ap keys_of (history-since game.rules (story game) ms)
      ∙ map-append (λ (p : Position). key_of (repeat_of p)) (story game).earlier (positions_since game.rules (story game).last ms)
      ∙ ap (λ ks. keys_of (story game).earlier ++ ks) (sym held.are_keys)

  -- an empty slot has no key
  pub slot-empty : AreApart (keys_in l) → (key : ℕ) → slice_index counts (key % 4096) ≡ 0 → AreApart (keys_in l ++ key ∷ [])
  slot-empty apart key none =
      let each = h.each (key % 4096) (omega arith) in
      let most = times-in_slot key (all_keys (story game) keys) in
      let same = ap (key_times key) line-keys in
      apart-push (keys_in l) key apart (omega (arith, none, each, most, same))

  pub times-most : (r : Repeat) (key : ℕ) → key ≡ key_of r → times r (history (story_of_line l)) ≤ slice_index counts (key % 4096)
  times-most r key e =
      let t = times-slot r (history (story_of_line l)) in
      let slot : in_slot (key_of r % 4096) (keys_of (history (story_of_line l))) ≡ in_slot (key % 4096) (all_keys (story game) keys) = ap (λ ks. in_slot (key_of r % 4096) ks) line-keys ∙ ap (λ k. in_slot (k % 4096) (all_keys (story game) keys)) (sym e) in
      let each = h.each (key % 4096) (omega arith) in
      omega arith
