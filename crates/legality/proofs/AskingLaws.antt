-- Which moves are asked for.
use Rattle.std.proofs.Common.{◌≡◌, ℕ, ◌<◌, ◌≤◌, Bool, true, false, ◌&&◌, ◌||◌, not, ◌==◌, Option, Some, None, slice_index_or, refl, sym, ap, ◌∙◌}
use Rattle.std.proofs.lemmas.Bool.{and_parts, le-ltb, lt-ltb}
use Rattle.std.proofs.Math.Bool.{or-false}
use Rattle.rules_model.specs.declared.board.Cell.{Cell}
use Rattle.rules_model.specs.declared.board.Kind.{Kind}
use Rattle.rules_model.specs.declared.board.Repeat.{Repeat}
use Rattle.rules_model.specs.declared.rules.Rules.{Rules}
use Rattle.rules_model.specs.Attacks.{is_own_pawn}
use Rattle.rules_model.specs.Kinds.{is_pawn, names}
use Rattle.rules_model.specs.Sides.{same_side}
use Rattle.rules_model.specs.Squares.{cell_at}
use Rattle.square_set.specs.declared.Set.{Set}
use Rattle.square_set.specs.declared.Shift.{Shift}
use Rattle.square_set.specs.declared.Shift.TheVariants.{Up, Down}
use Rattle.square_set.specs.Members.{HasOrigin, has, origin}
use Rattle.square_set.proofs.Cases.{by_equal}
use Rattle.legality.specs.declared.asked.Asked.{Asked}
use Rattle.legality.specs.Asking.{is_asked_by, is_to, is_to_of}

pub is_to-letter : (asked : Asked) (kind : Kind) (s : ℕ) → kind.0 < 26 → (those : Set) → those ≡ slice_index_or asked.to kind.0 (record { 0 = 0 }) → is_to asked kind s ≡ has those s
is_to-letter asked kind s l those e = rw (lt-ltb kind.0 26 l) (ap (λ x. has x s) (sym e))

pub is_to-above : (asked : Asked) (kind : Kind) (s : ℕ) → 26 ≤ kind.0 → is_to asked kind s ≡ true
is_to-above asked kind s l = rw (le-ltb kind.0 26 l) refl

-- those of two tests, either of which holds
pub either_of : (a shut b : Bool) → ((a && not shut) || (a && b)) ≡ (a && (not shut || b))
either_of true shut b = refl
either_of false shut b = refl

-- ---- one target after another

pub origin_small : (shift : Shift) (to : ℕ) → HasOrigin shift 120 to → origin shift to < 120
origin_small (Up n) to h = h.1
origin_small (Down n) to h = h

pub nothing_yet : (t q : Bool) → false ≡ ((t && not t) && q)
nothing_yet true q = refl
nothing_yet false q = refl

one_more : (t l e q : Bool) → (l ≡ true → t ≡ true) → (e ≡ true → l ≡ true) → (((t && not l) && q) || (e && q)) ≡ ((t && not (l && not e)) && q)
one_more true true true q lt el = refl
one_more true true false q lt el = refl
one_more true false true q lt el = let h = el refl in cc
one_more true false false q lt el = or-false q
one_more false true e q lt el = let h = lt refl in cc
one_more false false true q lt el = let h = el refl in cc
one_more false false false q lt el = refl

pub next_asked : (t l e q x y z : Bool) → (l ≡ true → t ≡ true) → (e ≡ true → l ≡ true) → x ≡ ((t && not l) && q) → y ≡ (e && q) → z ≡ (l && not e) → (x || y) ≡ ((t && not z) && q)
next_asked t l e q x y z lt el fx fy fz = rw (fx, fy, fz) (one_more t l e q lt el)

pub whole : (t : Bool) → (t && not false) ≡ t
whole true = refl
whole false = refl

-- ---- the moves of pawns by a shift

pub by_kind_or_each : (t p shut to asked : Bool) → (t ≡ true → p ≡ true → (not shut || to) ≡ asked) → (((t && p) && (not shut || to)) || ((t && not p) && asked)) ≡ (t && asked)
by_kind_or_each false p shut to asked h = refl
by_kind_or_each true true shut to asked h = or-false (not shut || to) ∙ h refl refl
by_kind_or_each true false shut to asked h = refl

same_kind : (a b : Kind) → a.0 ≡ b.0 → a ≡ b
same_kind a b e = λ i. record { 0 = e i }

module _ (asked : Asked) (rules : Rules) (r : Repeat) (kind : Kind) (is : rules.pawn ≡ Some kind) (s : ℕ) where
  to_of_pawn : (o : Option Cell) → is_own_pawn rules r.side o ≡ true → is_to asked kind s ≡ is_to_of asked r.side o s
  to_of_pawn None e = cc
  to_of_pawn (Some c) e =
      let p = and_parts (same_side c.side r.side) (is_pawn rules c.kind) e in
      let named : (kind.0 == c.kind.0) ≡ true = ap (λ o. names o c.kind) (sym is) ∙ p.1 in
      by_equal kind.0 c.kind.0 (is_to asked kind s ≡ (not (same_side c.side r.side) || is_to asked c.kind s))
      (λ q f. ap (λ k. is_to asked k s) (same_kind kind c.kind f) ∙ ap (λ b. not b || is_to asked c.kind s) (sym p.0))
      (λ q n. absurd (let g : ⊥ = cc in g))

pub pawn_asked : (asked : Asked) (rules : Rules) (r : Repeat) (kind : Kind) (shift : Shift) (s : ℕ) → rules.pawn ≡ Some kind → is_own_pawn rules r.side (cell_at r.cells (origin shift s)) ≡ true
    → (not (has asked.shut (origin shift s)) || is_to asked kind s) ≡ is_asked_by asked r shift s
pawn_asked asked rules r kind shift s is own = ap (λ b. not (has asked.shut (origin shift s)) || b) (to_of_pawn asked rules r kind is s (cell_at r.cells (origin shift s)) own)
