-- What an ongoing game comes to by its moves, one after another.
use Rattle.std.proofs.Common.{◌≡◌, inl, inr, ℕ, suc, ◌+◌, ◌-◌, ◌<◌, Bool, true, false, not, ◌||◌, ◌&&◌, Option, Some, None, List, [], ◌∷◌, ◌++◌, length, take, get_or, if◌then◌else◌, refl, ap, sym, ◌∙◌, subst, arith}
use Rattle.std.specs.List.{All, list_any, list_all}
use Rattle.std.proofs.Math.Seq.{take-append_seam}
use Rattle.std.proofs.lemmas.List.{length-append}
use mathlib.Core.Bool.{beq}
use Rattle.foundation.specs.Member.{Member}
use Rattle.foundation.proofs.Members.{member-contains}
use Rattle.rules_model.specs.declared.board.Side.{Side}
use Rattle.rules_model.specs.declared.moves.Move.{Move}
use Rattle.rules_model.specs.declared.rules.Rules.{Rules}
use Rattle.rules_model.specs.Games.{Story, played, result}
use Rattle.rules_model.specs.Legal.{legal}
use Rattle.rules_model.specs.Repeats.{repeat_of}
use Rattle.rules_model.specs.Sides.{same_side}
use Rattle.forced_wins.specs.Views.{won_by}
use Rattle.forced_wins.specs.Wins.{games, wins}
use Rattle.forced_wins.proofs.ClaimLaws as C
use Rattle.forced_wins.proofs.Rules.{laws}
use Rattle.game_play.specs.Played.{Played, longer, shorter, story}
use Rattle.game_play.proofs.StoryLemmas.{story-push}

pub is_none : {X : Type 0} (o : Option X) → ((x : X) → o ≡ Some x → ⊥) → o ≡ None
is_none None f = refl
is_none (Some x) f = absurd (f x refl)

pub at-member : {X : Type 0} (xs : List X) (i : ℕ) (x : X) → i < length xs → x ≡ get_or xs i x → Member x xs
at-member xs i x low is = member-contains x xs (i, low, sym is)

pub is_same : (a b : Bool) → beq a b ≡ true → a ≡ b
is_same true true f = refl
is_same true false f = cc
is_same false true f = cc
is_same false false f = refl

pub not_same : (a b : Bool) → beq a b ≡ false → a ≡ not b
not_same true true f = cc
not_same true false f = refl
not_same false true f = refl
not_same false false f = cc

-- ---- a move played and taken back

pub story-longer : (g : Played) (m : Move) → story (longer g m) ≡ played g.rules (story g) m
story-longer g m = story-push g.rules (record { earlier = []; last = g.start }) g.moves m

pub some-longer : (g : Played) (m : Move) → 0 < length (longer g m).moves
some-longer g m = let l = length-append g.moves (m ∷ []) in omega arith

pub shorter-longer : (g : Played) (m : Move) → shorter (longer g m) ≡ g
shorter-longer g m =
    let l = length-append g.moves (m ∷ []) in
    let k : length (g.moves ++ m ∷ []) - 1 ≡ length g.moves = omega arith in
    λ i. record { rules = g.rules; start = g.start; moves = (ap (λ n. take n (g.moves ++ m ∷ [])) k ∙ take-append_seam g.moves (m ∷ [])) i }

-- ---- how many plies are left

abbrev pub plies_left : Bool → ℕ → ℕ
plies_left true n = n + n
plies_left false n = n + n + 1

pub plies-fall : (a : Bool) (n left : ℕ) → (a ≡ true → 0 < n) → left ≡ (if a then n - 1 else n) → plies_left (not a) left < plies_left a n
plies-fall true n left some is = let s = some refl in omega arith
plies-fall false n left some is = omega arith

-- ---- what the moves decide

abbrev pub leads : Rules → Story → Side → ℕ → Move → Bool
leads rules g a left m = wins rules left (played rules g m) a

-- some move passes, or all do
abbrev pub by_moves : Bool → (Move → Bool) → List Move → Bool
by_moves true test ms = list_any test ms
by_moves false test ms = list_all test ms

pub one-decides : (b : Bool) (test : Move → Bool) (m : Move) (ms : List Move) → Member m ms → test m ≡ b → by_moves b test ms ≡ b
one-decides b test m [] k e = absurd k
one-decides true test m (x ∷ ms) (inl s) e = let g : test x ≡ true = ap test s ∙ e in rw g
one-decides true test m (x ∷ ms) (inr k) e = let g = one-decides true test m ms k e in or_true (test x) (list_any test ms) g
  where
    or_true : (p q : Bool) → q ≡ true → (p || q) ≡ true
    or_true p q h = grind arith
one-decides false test m (x ∷ ms) (inl s) e = let g : test x ≡ false = ap test s ∙ e in rw g
one-decides false test m (x ∷ ms) (inr k) e = let g = one-decides false test m ms k e in and_false (test x) (list_all test ms) g
  where
    and_false : (p q : Bool) → q ≡ false → (p && q) ≡ false
    and_false p q h = grind arith

pub none-decides : (b : Bool) (test : Move → Bool) (ms : List Move) → All (λ m. test m ≡ not b) ms → by_moves b test ms ≡ not b
none-decides true test [] h = refl
none-decides true test (x ∷ ms) h =
    let first : test x ≡ false = h 0 x (omega arith) in
    let rest = none-decides true test ms (λ k d lt. h (suc k) d (omega arith)) in rw (first, rest)
none-decides false test [] h = refl
none-decides false test (x ∷ ms) h =
    let first : test x ≡ true = h 0 x (omega arith) in
    let rest = none-decides false test ms (λ k d lt. h (suc k) d (omega arith)) in rw (first, rest)

module _ (rules : Rules) (a : Side) where
  turns : (g : Story) (m : Move) → (games rules a).attacking ((games rules a).after g m) ≡ not ((games rules a).attacking g)
  turns g m = (laws rules a).turns g.last m

  pub turn-after : (g : Story) (m : Move) → same_side (played rules g m).last.side a ≡ not (same_side g.last.side a)
  turn-after g m = turns g m

  pub wins-ended : (n : ℕ) (g : Story) (won : Bool) → won_by a (result rules g) ≡ Some won → wins rules n g a ≡ won
  wins-ended n g won e = C.forced-ended (games rules a) n g won e

  pub wins-none : (n : ℕ) (g : Story) → won_by a (result rules g) ≡ None → same_side g.last.side a ≡ true → n ≡ 0 → wins rules n g a ≡ false
  wins-none n g e t z = ap (λ k. wins rules k g a) z ∙ C.forced-zero (games rules a) g e t

  pub wins-by_moves : (b : Bool) (n left : ℕ) (g : Story) → won_by a (result rules g) ≡ None → same_side g.last.side a ≡ b → (b ≡ true → 0 < n) → left ≡ (if b then n - 1 else n) →
      wins rules n g a ≡ by_moves b (leads rules g a left) (legal rules (repeat_of g.last))
  wins-by_moves true n left g e t some is =
      let s = some refl in
      let more : n ≡ suc left = omega arith in
      ap (λ k. wins rules k g a) more ∙ C.forced-attack (games rules a) turns left g e t
  wins-by_moves false n left g e t some is =
      let same : n ≡ left = omega arith in
      ap (λ k. wins rules k g a) same ∙ C.forced-defence (games rules a) turns left g e t

-- ---- one turn of the loop

pub back-is : (g p q r : Played) (m : Move) → p ≡ longer g m → q ≡ p → r ≡ shorter q → r ≡ g
back-is g p q r m forth same back = back ∙ ap shorter (same ∙ forth) ∙ shorter-longer g m

pub some-back : (g p q : Played) (m : Move) → p ≡ longer g m → q ≡ p → 0 < length q.moves
some-back g p q m forth same = subst (λ (x : Played). 0 < length x.moves) (sym (same ∙ forth)) (some-longer g m)

pub led-is : (g p : Played) (m : Move) (a : Side) (left : ℕ) (won : Bool) → p ≡ longer g m → won ≡ wins p.rules left (story p) a → leads g.rules (story g) a left m ≡ won
led-is g p m a left won forth is =
    ap (λ (s : Story). wins g.rules left s a) (sym (story-longer g m)) ∙ sym (ap (λ (x : Played). wins x.rules left (story x) a) forth) ∙ sym is

pub falls : (g p : Played) (m : Move) (a : Side) (n left : ℕ) (attacking : Bool) → p ≡ longer g m → attacking ≡ same_side (story g).last.side a → (attacking ≡ true → 0 < n) → left ≡ (if attacking then n - 1 else n) →
    plies_left (same_side (story p).last.side a) left < plies_left (same_side (story g).last.side a) n
falls g p m a n left attacking forth turn some is =
    let after : same_side (story p).last.side a ≡ not attacking =
    ap (λ (x : Played). same_side (story x).last.side a) forth ∙ ap (λ (s : Story). same_side s.last.side a) (story-longer g m) ∙ turn-after g.rules a (story g) m ∙ ap not (sym turn) in
    subst (λ b. plies_left b left < plies_left (same_side (story g).last.side a) n) (sym after)
    (subst (λ b. plies_left (not attacking) left < plies_left b n) turn (plies-fall attacking n left some is))

-- the answer where a move decides, and where none does
pub won-by_one : (g : Played) (a : Side) (n left : ℕ) (attacking : Bool) (m : Move) → won_by a (result g.rules (story g)) ≡ None → attacking ≡ same_side (story g).last.side a → (attacking ≡ true → 0 < n) → left ≡ (if attacking then n - 1 else n) →
    Member m (legal g.rules (repeat_of (story g).last)) → leads g.rules (story g) a left m ≡ attacking → attacking ≡ wins g.rules n (story g) a
won-by_one g a n left attacking m ongoing turn some is legal_one decides =
    sym (wins-by_moves g.rules a attacking n left (story g) ongoing (sym turn) some is ∙ one-decides attacking (leads g.rules (story g) a left) m _ legal_one decides)

pub won-by_none : (g : Played) (a : Side) (n left : ℕ) (attacking : Bool) (ms : List Move) → won_by a (result g.rules (story g)) ≡ None → attacking ≡ same_side (story g).last.side a → (attacking ≡ true → 0 < n) → left ≡ (if attacking then n - 1 else n) →
    ms ≡ legal g.rules (repeat_of (story g).last) → All (λ m. leads g.rules (story g) a left m ≡ not attacking) ms → not attacking ≡ wins g.rules n (story g) a
won-by_none g a n left attacking ms ongoing turn some is all none =
    sym (wins-by_moves g.rules a attacking n left (story g) ongoing (sym turn) some is ∙ ap (by_moves attacking (leads g.rules (story g) a left)) (sym all) ∙ none-decides attacking (leads g.rules (story g) a left) ms none)
