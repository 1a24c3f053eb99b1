-- Standings and the repeats that may not stand again.
use Rattle.std.proofs.Common.{◌≡◌, ℕ, ◌+◌, ◌<◌, Bool, true, false, not, ◌&&◌, ◌||◌, cond, nat_le, None, List, [], ◌∷◌, ◌++◌, map, length, take, get_or, refl, ap, sym, ◌∙◌, append-nil}
use Rattle.std.specs.List.{filter}
use Rattle.std.proofs.lemmas.Bool.Decides.{same_from_decides}
use Rattle.std.proofs.lemmas.List.{take_more, map-append}
use Rattle.std.proofs.lemmas.List.Elements.{filter-append}
use Rattle.std.proofs.lemmas.List.Sums.{count_by_more_yes, count_by_more_no}
use Rattle.rules_model.specs.declared.board.Position.{Position}
use Rattle.rules_model.specs.declared.board.Repeat.{Repeat}
use Rattle.rules_model.specs.declared.board.Side.TheVariants.{White}
use Rattle.rules_model.specs.Games.{same_repeat, times}
use Rattle.rules_model.specs.Repeats.{repeat_of}
use Rattle.rules_model.proofs.EqualLaws.{repeat-decides}
use Rattle.forced_wins.specs.Wins.{each_once, is_in}
use Rattle.game_play.specs.Repetition.{opens}

-- what an index gives past the end of a list of positions
abbrev pub blank : Position
blank = record { cells = []; hands = []; gates = []; counter = 0; number = 0; rights = []; checks = []; ep = None; side = White }

-- ---- standings

pub same_repeat-sym : (a b : Repeat) → same_repeat a b ≡ same_repeat b a
same_repeat-sym a b = same_from_decides _ _ (repeat-decides a b) (λ e. sym ((repeat-decides b a).0 e), λ e. (repeat-decides b a).1 (sym e))

module _ (r : Repeat) (ps : List Position) (i : ℕ) (d : Position) where
  pub times-yes : i < length ps → same_repeat (repeat_of (get_or ps i d)) r ≡ true → times r (take (i + 1) ps) ≡ times r (take i ps) + 1
  unfolding times
  times-yes h e = count_by_more_yes (λ p. same_repeat (repeat_of p) r) ps i d h e

  pub times-no : i < length ps → same_repeat (repeat_of (get_or ps i d)) r ≡ false → times r (take (i + 1) ps) ≡ times r (take i ps)
  unfolding times
  times-no h e = count_by_more_no (λ p. same_repeat (repeat_of p) r) ps i d h e

pub times-zero : (r : Repeat) (ps : List Position) → times r (take 0 ps) ≡ 0
unfolding times
times-zero r ps = refl

-- ---- the repeats of a game, each once

-- one more at the end, unless it was there
abbrev new_in : Bool → Repeat → List Repeat
new_in true y = []
new_in false y = y ∷ []

new-filtered : (x y : Repeat) (found : Bool) → filter (λ z. not (same_repeat z x)) (new_in found y) ≡ new_in (same_repeat y x || found) y
new-filtered x y true = elim (same_repeat y x) as (λ b. [] ≡ new_in (b || true) y) [ true ↦ refl | false ↦ refl ]
new-filtered x y false = elim (same_repeat y x) as (λ b. cond (not b) (y ∷ []) [] ≡ new_in (b || false) y) [ true ↦ refl | false ↦ refl ]

each_once-push : (xs : List Repeat) (y : Repeat) → each_once (xs ++ y ∷ []) ≡ each_once xs ++ new_in (is_in xs y) y
unfolding each_once
each_once-push [] y = refl
each_once-push (x ∷ xs) y =
    ap (λ zs. x ∷ filter (λ z. not (same_repeat z x)) zs) (each_once-push xs y)
    ∙ ap (λ zs. x ∷ zs) (filter-append (λ z. not (same_repeat z x)) (each_once xs) (new_in (is_in xs y) y) ∙ ap (λ zs. filter (λ z. not (same_repeat z x)) (each_once xs) ++ zs) (new-filtered x y (is_in xs y)))

-- the element that a test lets through
abbrev pub one_where : Bool → Repeat → List Repeat
one_where true y = y ∷ []
one_where false y = []

passed : (test : Repeat → Bool) (y : Repeat) (found : Bool) → filter test (new_in found y) ≡ one_where (not found && test y) y
passed test y true = refl
passed test y false = elim (test y) as (λ b. cond b (y ∷ []) [] ≡ one_where b y) [ true ↦ refl | false ↦ refl ]

-- of the repeats that pass a test, the ones of one position more
pub chosen-more : (test : Repeat → Bool) (ps : List Position) (i : ℕ) (d : Position) → i < length ps →
    filter test (each_once (map repeat_of (take (i + 1) ps)))
    ≡ filter test (each_once (map repeat_of (take i ps))) ++ one_where (not (is_in (map repeat_of (take i ps)) (repeat_of (get_or ps i d))) && test (repeat_of (get_or ps i d))) (repeat_of (get_or ps i d))
chosen-more test ps i d h =
    let xs = map repeat_of (take i ps) in
    let y = repeat_of (get_or ps i d) in
    ap (λ qs. filter test (each_once (map repeat_of qs))) (take_more ps i d h)
    ∙ ap (λ zs. filter test (each_once zs)) (map-append repeat_of (take i ps) (get_or ps i d ∷ []))
    ∙ ap (filter test) (each_once-push xs y)
    ∙ filter-append test (each_once xs) (new_in (is_in xs y) y)
    ∙ ap (λ zs. filter test (each_once xs) ++ zs) (passed test y (is_in xs y))

pub chosen-none : (test : Repeat → Bool) (ps : List Position) → filter test (each_once (map repeat_of (take 0 ps))) ≡ []
unfolding each_once
chosen-none test ps = refl

-- ---- the repeats that may not stand again, place by place

module _ (fold : ℕ) (ps : List Position) (i : ℕ) (d : Position) where
  abbrev chosen : ℕ → List Repeat
  chosen n = filter (λ x. nat_le fold (times x ps + 1)) (each_once (map repeat_of (take n ps)))

  pub chosen-yes : i < length ps → opens fold ps i (get_or ps i d) ≡ true → (xs ys : List Repeat) → xs ≡ chosen i → ys ≡ xs ++ repeat_of (get_or ps i d) ∷ [] → ys ≡ chosen (i + 1)
  chosen-yes h e xs ys f g =
      let y = repeat_of (get_or ps i d) in
      g ∙ ap (λ zs. zs ++ y ∷ []) f ∙ sym (chosen-more (λ x. nat_le fold (times x ps + 1)) ps i d h ∙ ap (λ b. chosen i ++ one_where b y) e)

  pub chosen-no : i < length ps → opens fold ps i (get_or ps i d) ≡ false → (xs ys : List Repeat) → xs ≡ chosen i → ys ≡ xs → ys ≡ chosen (i + 1)
  chosen-no h e xs ys f g =
      let y = repeat_of (get_or ps i d) in
      g ∙ f ∙ sym (chosen-more (λ x. nat_le fold (times x ps + 1)) ps i d h ∙ ap (λ b. chosen i ++ one_where b y) e ∙ append-nil (chosen i))
