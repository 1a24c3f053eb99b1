-- What lines and jumps reach asks of no square but those that they pass.
use Rattle.std.proofs.Common.{◌≡◌, ℕ, ◌+◌, ◌<◌, ◌≤◌, Bool, List, length, take, get_or, ◌&&◌, ◌||◌, not, ◌==◌, refl, ap, sym, ◌∙◌, arith}
use Rattle.std.specs.List.{list_any}
use Rattle.std.proofs.lemmas.Bool.{lt-ltb}
use Rattle.std.proofs.lemmas.List.Folds.{list_any_more}
use Rattle.std.proofs.Math.Bool.{or-true}
use Rattle.square_set.specs.declared.Set.{Set}
use Rattle.square_set.specs.Members.{before, has, place}
use Rattle.square_set.proofs.Cases.{by_bool}
use Rattle.move_tables.specs.declared.jump.Jump.{Jump}
use Rattle.move_tables.specs.declared.line.Line.{Line}
use Rattle.move_tables.specs.declared.line.Passage.{Passage}
use Rattle.move_tables.specs.declared.line.Passage.TheVariants.{Slide, Hop, Grass}
use Rattle.move_tables.specs.Lines.{by_jump, in_both, is_after, is_past, lets_pass, on_line}
use Rattle.pins.specs.Evasion.{AgreeOn, DependsOn}
use Rattle.pins.specs.Guards.{AreBefore}
use Rattle.pins.proofs.CountLaws.{before-alike}
use Rattle.pins.proofs.TargetLaws.{any_below-same}

-- ---- a line

module _ (squares a b : Set) (rising : Bool) (t : ℕ) (small : t < 128) (alike : (u : ℕ) → u < 128 → place rising u < place rising t → in_both squares a u ≡ in_both squares b u) where
  same_before : (u : ℕ) → u < 128 → place rising u ≤ place rising t → before rising (in_both squares a) u ≡ before rising (in_both squares b) u
  same_before u l m = before-alike rising (in_both squares a) (in_both squares b) u l (λ v k n. alike v k (omega (arith, m, n)))

  same_after : (u : ℕ) → u < 128 → place rising u ≤ place rising t → is_after rising (in_both squares a) u ≡ is_after rising (in_both squares b) u
  same_after u l m = ap (λ n. not (n == 0)) (same_before u l m)

  same_passage : (passage : Passage) → lets_pass passage rising (has squares) (in_both squares a) t ≡ lets_pass passage rising (has squares) (in_both squares b) t
  same_passage Slide = ap (λ n. n == 0) (same_before t small (omega arith))
  same_passage Hop = ap (λ n. n == 1) (same_before t small (omega arith))
  same_passage Grass =
      let after = same_after t small (omega arith) in
      let past = before-alike rising (is_past rising (has squares) (in_both squares a)) (is_past rising (has squares) (in_both squares b)) t small (λ u l m. ap (λ x. has squares u && x) (same_after u l (omega (arith, m)))) in
      rw (after, past) refl

-- two sets that agree on the squares of a line before the target
alike_before : (squares way a b : Set) (rising : Bool) (t : ℕ) → AreBefore rising (has squares) t way → AgreeOn way a b → (u : ℕ) → u < 128 → place rising u < place rising t → in_both squares a u ≡ in_both squares b u
alike_before squares way a b rising t are agree u l m =
    by_bool (has squares u) (in_both squares a u ≡ in_both squares b u)
    (λ e. ap (λ x. has squares u && x) (agree u (are u l ∙ rw (e, lt-ltb (place rising u) (place rising t) m) refl)))
    (λ e. rw e refl)

pub on_line-depends : (line : Line) (t : ℕ) (way : Set) → t < 128 → AreBefore line.rising (has line.squares) t way → DependsOn (λ set. on_line line set t) way
on_line-depends line t way small are = λ a b agree.
    ap (λ x. has line.squares t && x) (same_passage line.squares a b line.rising t small (alike_before line.squares way a b line.rising t are agree) line.passage)

-- ---- a jump

-- two sets that agree on the squares to be passed
over_alike : (over a b : Set) → AgreeOn over a b → (s : ℕ) → in_both over a s ≡ in_both over b s
over_alike over a b agree s =
    by_bool (has over s) (in_both over a s ≡ in_both over b s)
    (λ e. ap (λ x. has over s && x) (agree s e))
    (λ e. rw e refl)

pub by_jump-depends : (jump : Jump) (t : ℕ) → DependsOn (λ set. by_jump jump set t) jump.over
by_jump-depends jump t = λ a b agree.
    ap (λ x. not x && has jump.target t) (any_below-same (in_both jump.over a) (in_both jump.over b) 128 (over_alike jump.over a b agree))

-- ---- several of them

module _ (old one new a b : Set) (joined : (s : ℕ) → has new s ≡ (has old s || has one s)) (agree : AgreeOn new a b) where
  pub agree_old : AgreeOn old a b
  agree_old s e = agree s (joined s ∙ ap (λ x. x || has one s) e)

  pub agree_one : AgreeOn one a b
  agree_one s e = agree s (joined s ∙ ap (λ x. has old s || x) e ∙ or-true (has old s))

-- one more of them
pub depends_more : {X : Type 0} (test : X → Set → Bool) (xs : List X) (k : ℕ) (d : X) (old one new : Set) → k < length xs → DependsOn (λ set. list_any (λ x. test x set) (take k xs)) old → DependsOn (test (get_or xs k d)) one → ((s : ℕ) → has new s ≡ (has old s || has one s)) → DependsOn (λ set. list_any (λ x. test x set) (take (k + 1) xs)) new
depends_more test xs k d old one new l g h joined = λ a b agree.
    let earlier = g a b (agree_old old one new a b joined agree) in
    let last = h a b (agree_one old one new a b joined agree) in
    list_any_more (λ x. test x a) xs k d l
    ∙ ap (λ y. y || test (get_or xs k d) a) earlier
    ∙ ap (λ y. list_any (λ x. test x b) (take k xs) || y) last
    ∙ sym (list_any_more (λ x. test x b) xs k d l)
