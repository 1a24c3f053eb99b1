-- How many pieces of a sort stand on the board after a legal move of a sound position, in every variant that fits.
use Rattle.std.proofs.Common.{◌≡◌, ◌≢◌, ℕ, ◌+◌, ◌-◌, ◌*◌, ◌/◌, ◌%◌, ◌<◌, ◌≤◌, Bool, true, false, not, ◌&&◌, if◌then◌else◌, ◌⊎◌, inl, inr, Option, Some, None, List, length, refl, ap, sym, ◌∙◌, subst, arith, ◌==◌, nat_le, nat_lt, is_none, is_some, length-set, max}
use Rattle.std.specs.Prelude.{count_by, slice_set}
use Rattle.std.proofs.lemmas.Bool.{and_parts, cases_eq, cases_lt, false_from_ne_true, le-leb, ltb-true, ne_eqb, not-true}
use Rattle.std.proofs.lemmas.Bool.Decides.{Decides-eqb, nat_tests}
use Rattle.std.proofs.lemmas.Option.{slice_get_past}
use Rattle.foundation.specs.Count.{any_below}
use Rattle.foundation.proofs.CountLemmas.{any_below-true}
use Rattle.foundation.specs.Tests.{one_if}
use Rattle.rules_model.specs.declared.board.Cell.{Cell}
use Rattle.rules_model.specs.declared.board.Kind.{Kind}
use Rattle.rules_model.specs.declared.board.Repeat.{Repeat}
use Rattle.rules_model.specs.declared.board.Side.{Side}
use Rattle.rules_model.specs.declared.board.Side.TheVariants.{White, Black}
use Rattle.rules_model.specs.declared.board.Square.{Square}
use Rattle.rules_model.specs.declared.board.Wing.{Wing}
use Rattle.rules_model.specs.declared.board.Wing.TheVariants.{Kingside, Queenside}
use Rattle.rules_model.specs.declared.moves.Move.TheVariants.{Go, Castle, Drop}
use Rattle.rules_model.specs.declared.moves.Placed.{Placed}
use Rattle.rules_model.specs.declared.moves.Promo.{Promo}
use Rattle.rules_model.specs.declared.rules.Rules.{Rules}
use Rattle.rules_model.specs.Squares.{cell_at, flat}
use Rattle.rules_model.specs.Sides.{other, same_side}
use Rattle.rules_model.specs.Kinds.{board_of, is_pawn}
use Rattle.rules_model.specs.Regions.{castling_rank, castling_square}
use Rattle.rules_model.specs.Attacks.{ahead, is_diagonal, is_own_pawn, pawn_at}
use Rattle.rules_model.specs.declared.castling.CastleSquares.{CastleSquares}
use Rattle.rules_model.specs.Castling.{castle_with, highest, in_the_way, king_passes_attack, lowest, rook_target, rook_to_file, way_is_open}
use Rattle.rules_model.specs.Gating.{castle_gates}
use Rattle.rules_model.specs.Pawns.{behind, is_ep, passes_by}
use Rattle.rules_model.specs.Drops.{drops_to}
use Rattle.rules_model.specs.Sound.{is_sound_ep, is_sound_repeat, on_board, was_passed}
use Rattle.rules_model.specs.Fit.{IsFit}
use Rattle.rules_model.specs.Next.{castled, cell_on, cells_after, emptied, fresh, gated, placed_kind, promote, taken}
use Rattle.rules_model.proofs.CandidateLaws.{castle_gate, Castles, not_both, PawnGoes, PieceGoes, rook_file-some}
use Rattle.rules_model.proofs.VariantLaws.{castling_on-is, sound_ep}
use Rattle.rules_model.specs.Moves.{IsFitMove}
use Rattle.rules_model.specs.Hands.{holds}
use Rattle.sound_play.proofs.CellLemmas.{cell_at-set_other, cell_at-set_same, count_cells-set}
use Rattle.sound_play.proofs.TargetLaws.{go_takes}
use Rattle.sound_play.proofs.TestLemmas.{none_from, same_some}

-- a square where something stands is one of the list
pub cell_within : (cells : List (Option Cell)) (s : ℕ) (x : Cell) → cell_at cells s ≡ Some x → s < length cells
cell_within cells s x e =
    elim (cases_lt s (length cells)) as (λ _. s < length cells) [
      | inl l ↦ l
      | inr l ↦ absurd (let f : cell_at cells s ≡ None = ap flat (slice_get_past cells s l) in cc)
    ]

-- ---- two writes: the start and the target of a piece

pub go_writes-count : (p : Option Cell → Bool) (cells : List (Option Cell)) (from to : ℕ) (x : Cell) (left entered : Option Cell) → from < length cells → to < length cells → from ≢ to → cell_at cells from ≡ Some x → count_by p (slice_set (slice_set cells from left) to entered) + one_if (p (cell_at cells to)) + one_if (p (Some x)) ≡ count_by p cells + one_if (p left) + one_if (p entered)
go_writes-count p cells from to x left entered l k apart here =
    let a = count_cells-set p cells from left l in
    let size = length-set cells from left in
    let b = count_cells-set p (slice_set cells from left) to entered (omega (arith, size, k)) in
    let target : one_if (p (cell_at (slice_set cells from left) to)) ≡ one_if (p (cell_at cells to)) = ap (λ c. one_if (p c)) (cell_at-set_other cells from to left apart) in
    let start : one_if (p (cell_at cells from)) ≡ one_if (p (Some x)) = ap (λ c. one_if (p c)) here in
    omega (arith, a, b, target, start)

-- ---- a piece or a pawn goes

-- the pawn that is taken in passing stands on its own square
pub record Passes (rules : Rules) (r : Repeat) (to : Square) : Type 0 where
  pub at : ℕ
  pub pawn : Cell
  pub is : behind rules r.side to ≡ Some at
  pub there : cell_at r.cells at ≡ Some pawn
  pub enemy : same_side pawn.side (other r.side) ≡ true
  pub kind : is_pawn rules pawn.kind ≡ true
  pub free : cell_at r.cells to.0 ≡ None

own_pawn_there : (rules : Rules) (side : Side) (c : Option Cell) → is_own_pawn rules side c ≡ true → (z : Cell) × (c ≡ Some z) × (same_side z.side side ≡ true) × (is_pawn rules z.kind ≡ true)
own_pawn_there rules side None e = cc
own_pawn_there rules side (Some z) e = let a = and_parts (same_side z.side side) (is_pawn rules z.kind) e in (z, refl, a.0, a.1)

pawn_there : (rules : Rules) (cells : List (Option Cell)) (side : Side) (at : Option ℕ) → pawn_at rules cells side at ≡ true → (s : ℕ) × (at ≡ Some s) × (is_own_pawn rules side (cell_at cells s) ≡ true)
pawn_there rules cells side None e = cc
pawn_there rules cells side (Some s) e = (s, refl, e)

passes_from : (rules : Rules) (r : Repeat) (to : Square) (ep : Option Square) → is_sound_ep rules r ep ≡ true → is_ep ep to.0 ≡ true → Passes rules r to
passes_from rules r to None sound e = cc
passes_from rules r to (Some ep) sound e =
    let a = and_parts (on_board rules ep.0) (was_passed rules r ep) sound in
    let b = and_parts _ _ a.1 in
    let c = and_parts _ (pawn_at rules r.cells (other r.side) (ahead (board_of rules) (other r.side) ep 1)) b.0 in
    let d = and_parts _ _ (and_parts _ _ c.0).0 in
    let free = (and_parts rules.double_step (is_none (cell_at r.cells ep.0)) d.0).1 in
    let same : ep.0 ≡ to.0 = (Decides-eqb _ _).0 e in
    let square : ep ≡ to = λ i. record { 0 = same i } in
    let z = pawn_there rules r.cells (other r.side) (ahead (board_of rules) (other r.side) ep 1) c.1 in
    let y = own_pawn_there rules (other r.side) (cell_at r.cells z.0) z.2 in
    record {
      at = z.0;
      pawn = y.0;
      is = subst (λ s. ahead (board_of rules) (other r.side) s 1 ≡ Some z.0) square z.1;
      there = y.1;
      enemy = y.2;
      kind = y.3;
      free = none_from _ (subst (λ s. is_none (cell_at r.cells s) ≡ true) same free);
    }

pub passes_by-is : (rules : Rules) (r : Repeat) (from to : Square) → is_sound_repeat rules r ≡ true → passes_by rules r from to.0 ≡ true → Passes rules r to
unfolding passes_by
passes_by-is rules r from to sound e =
    passes_from rules r to r.ep (sound_ep rules r sound) (and_parts _ (is_ep r.ep to.0) (and_parts _ (is_diagonal (board_of rules) r.side from to.0) e).0).1

not_own : (a b : Side) → same_side a (other b) ≡ true → same_side a b ≡ false
not_own White White e = cc
not_own White Black e = refl
not_own Black White e = refl
not_own Black Black e = cc

-- a piece or a pawn that stands on its start, and does not go there
pub record Leaves (rules : Rules) (r : Repeat) (x : Cell) (from to : Square) : Type 0 where
  pub start : from.0 < length r.cells
  pub target : to.0 < length r.cells
  pub here : cell_at r.cells from.0 ≡ Some x
  pub own : same_side x.side r.side ≡ true
  pub apart : from.0 ≢ to.0

own_of : (rules : Rules) (r : Repeat) (x : Cell) (from to : Square) (promo : Promo) → PieceGoes rules r x from to promo ⊎ PawnGoes rules r x from to promo → same_side x.side r.side ≡ true
own_of rules r x from to promo (inl h) = h.0
own_of rules r x from to promo (inr h) = h.0

pub go_leaves : (rules : Rules) (r : Repeat) (x : Cell) (from to : Square) (promo : Promo) → length r.cells ≡ 120 → is_sound_repeat rules r ≡ true → from.0 < 120 → to.0 < 120 → cell_at r.cells from.0 ≡ Some x → PieceGoes rules r x from to promo ⊎ PawnGoes rules r x from to promo → Leaves rules r x from to
go_leaves rules r x from to promo size sound l k here h = record {
  start = omega (arith, l, size);
  target = omega (arith, k, size);
  here = here;
  own = own_of rules r x from to promo h;
  apart = λ e. not_both _ (own_of rules r x from to promo h) (go_takes rules r x x from to promo sound l here h (subst (λ s. cell_at r.cells s ≡ Some x) e here)).enemy;
}

passing_count : (p : Option Cell → Bool) (rules : Rules) (r : Repeat) (x : Cell) (from to : Square) (left entered : Option Cell) → p None ≡ false → Passes rules r to → Leaves rules r x from to → count_by p (slice_set (slice_set (emptied r.cells (behind rules r.side to)) from.0 left) to.0 entered) + one_if (p (cell_on r.cells (behind rules r.side to))) + one_if (p (Some x)) ≡ count_by p r.cells + one_if (p left) + one_if (p entered)
passing_count p rules r x from to left entered none s g =
    let without = slice_set r.cells s.at None in
    let on_start : s.at ≢ from.0 = λ e. not_both _ g.own (subst (λ (y : Cell). same_side y.side r.side ≡ false) (same_some _ _ (sym s.there ∙ ap (cell_at r.cells) e ∙ g.here)) (not_own s.pawn.side r.side s.enemy)) in
    let on_target : s.at ≢ to.0 = λ e. let f : Some s.pawn ≡ None = sym s.there ∙ ap (cell_at r.cells) e ∙ s.free in cc in
    let size = length-set r.cells s.at None in
    let start = g.start in
    let target = g.target in
    let here : cell_at without from.0 ≡ Some x = cell_at-set_other r.cells s.at from.0 None on_start ∙ g.here in
    let there : one_if (p (cell_at without to.0)) ≡ 0 = ap (λ c. one_if (p c)) (cell_at-set_other r.cells s.at to.0 None on_target ∙ s.free) ∙ ap one_if none in
    let a = go_writes-count p without from.0 to.0 x left entered (omega (arith, size, start)) (omega (arith, size, target)) g.apart here in
    let b = count_cells-set p r.cells s.at None (cell_within r.cells s.at s.pawn s.there) in
    let nothing : one_if (p None) ≡ 0 = ap one_if none in
    let c : count_by p (slice_set (slice_set without from.0 left) to.0 entered) + one_if (p (cell_at r.cells s.at)) + one_if (p (Some x)) ≡ count_by p r.cells + one_if (p left) + one_if (p entered) = omega (arith, a, b, there, nothing) in
    subst (λ at. count_by p (slice_set (slice_set (emptied r.cells at) from.0 left) to.0 entered) + one_if (p (cell_on r.cells at)) + one_if (p (Some x)) ≡ count_by p r.cells + one_if (p left) + one_if (p entered)) (sym s.is) c

by_passing : (p : Option Cell → Bool) (rules : Rules) (r : Repeat) (x : Cell) (from to : Square) (left entered : Option Cell) (b : Bool) → p None ≡ false → (b ≡ true → Passes rules r to) → Leaves rules r x from to → count_by p (slice_set (slice_set (if b then emptied r.cells (behind rules r.side to) else r.cells) from.0 left) to.0 entered) + one_if (p (if b then cell_on r.cells (behind rules r.side to) else cell_at r.cells to.0)) + one_if (p (Some x)) ≡ count_by p r.cells + one_if (p left) + one_if (p entered)
by_passing p rules r x from to left entered true none passes g = passing_count p rules r x from to left entered none (passes refl) g
by_passing p rules r x from to left entered false none passes g = go_writes-count p r.cells from.0 to.0 x left entered g.start g.target g.apart g.here

-- the count loses what is taken and what leaves, and gains what the gate leaves and what arrives
pub go-count : (p : Option Cell → Bool) (rules : Rules) (r : Repeat) (x : Cell) (from to : Square) (promo : Promo) (gate : Option Kind) → p None ≡ false → is_sound_repeat rules r ≡ true → Leaves rules r x from to → count_by p (cells_after rules r (Go from to promo gate)) + one_if (p (taken rules r from to)) + one_if (p (Some x)) ≡ count_by p r.cells + one_if (p (gated r.side gate)) + one_if (p (promote rules (Some x) promo))
unfolding cells_after taken
go-count p rules r x from to promo gate none sound g =
    subst (λ c. count_by p (cells_after rules r (Go from to promo gate)) + one_if (p (taken rules r from to)) + one_if (p (Some x)) ≡ count_by p r.cells + one_if (p (gated r.side gate)) + one_if (p (promote rules c promo))) g.here
    (by_passing p rules r x from to (gated r.side gate) (promote rules (cell_at r.cells from.0) promo) (passes_by rules r from to.0) none (passes_by-is rules r from to sound) g)

-- ---- a castle

lifted : List (Option Cell) → ℕ → ℕ → List (Option Cell)
lifted cells from rook = slice_set (slice_set cells from None) rook None

lifted-none : (cells : List (Option Cell)) (from rook s : ℕ) → from < length cells → rook < length cells → (s ≢ from → s ≢ rook → cell_at cells s ≡ None) → cell_at (lifted cells from rook) s ≡ None
unfolding lifted
lifted-none cells from rook s l k free =
    elim (cases_eq s rook) as (λ _. cell_at (slice_set (slice_set cells from None) rook None) s ≡ None) [
      | inl e ↦ let size = length-set cells from None in subst (λ t. cell_at (slice_set (slice_set cells from None) rook None) t ≡ None) (sym e) (cell_at-set_same (slice_set cells from None) rook None (omega (arith, size, k)))
      | inr e ↦ cell_at-set_other (slice_set cells from None) rook s None (λ f. e (sym f)) ∙ elim (cases_eq s from) as (λ _. cell_at (slice_set cells from None) s ≡ None) [
        | inl f ↦ subst (λ t. cell_at (slice_set cells from None) t ≡ None) (sym f) (cell_at-set_same cells from None l)
        | inr f ↦ cell_at-set_other cells from s None (λ g. f (sym g)) ∙ free f e
      ]
    ]

-- where king and rook stand, and where they go
pub record CastlePlaces (cells : List (Option Cell)) (from to rook target : ℕ) : Type 0 where
  pub king_start : from < length cells
  pub rook_start : rook < length cells
  pub king_target : to < length cells
  pub rook_target : target < length cells
  pub pieces_apart : from ≢ rook
  pub targets_apart : to ≢ target
  pub to_free : to ≢ from → to ≢ rook → cell_at cells to ≡ None
  pub target_free : target ≢ from → target ≢ rook → cell_at cells target ≡ None

castle_writes-count : (p : Option Cell → Bool) (cells : List (Option Cell)) (from to rook target : ℕ) → p None ≡ false → CastlePlaces cells from to rook target → count_by p (slice_set (slice_set (lifted cells from rook) to (cell_at cells from)) target (cell_at cells rook)) ≡ count_by p cells
unfolding lifted
castle_writes-count p cells from to rook target none c =
    let start = c.king_start in
    let rook_start = c.rook_start in
    let to_within = c.king_target in
    let target_within = c.rook_target in
    let nothing : one_if (p None) ≡ 0 = ap one_if none in
    let one = length-set cells from None in
    let two = length-set (slice_set cells from None) rook None in
    let three = length-set (lifted cells from rook) to (cell_at cells from) in
    let a = count_cells-set p cells from None start in
    let b = count_cells-set p (slice_set cells from None) rook None (omega (arith, one, rook_start)) in
    let b' : one_if (p (cell_at (slice_set cells from None) rook)) ≡ one_if (p (cell_at cells rook)) = ap (λ x. one_if (p x)) (cell_at-set_other cells from rook None c.pieces_apart) in
    let d = count_cells-set p (lifted cells from rook) to (cell_at cells from) (omega (arith, one, two, to_within)) in
    let d' : one_if (p (cell_at (lifted cells from rook) to)) ≡ 0 = ap (λ x. one_if (p x)) (lifted-none cells from rook to start rook_start c.to_free) ∙ nothing in
    let f = count_cells-set p (slice_set (lifted cells from rook) to (cell_at cells from)) target (cell_at cells rook) (omega (arith, one, two, three, target_within)) in
    let f' : one_if (p (cell_at (slice_set (lifted cells from rook) to (cell_at cells from)) target)) ≡ 0 = ap (λ x. one_if (p x)) (cell_at-set_other (lifted cells from rook) to target (cell_at cells from) c.targets_apart ∙ lifted-none cells from rook target start rook_start c.target_free) ∙ nothing in
    omega (arith, a, b, b', d, d', f, f', nothing)

-- king and rook go: as many as before
castled-count : (p : Option Cell → Bool) (cells : List (Option Cell)) (from to rook : Square) → p None ≡ false → CastlePlaces cells from.0 to.0 rook.0 (rook_target from to rook) → count_by p (castled cells from to rook) ≡ count_by p cells
unfolding lifted
castled-count p cells from to rook none c = castle_writes-count p cells from.0 to.0 rook.0 (rook_target from to rook) none c

castled-none : (cells : List (Option Cell)) (from to rook : Square) (s : ℕ) → CastlePlaces cells from.0 to.0 rook.0 (rook_target from to rook) → (s ≡ from.0) ⊎ (s ≡ rook.0) → s ≢ to.0 → s ≢ rook_target from to rook → cell_at (castled cells from to rook) s ≡ None
unfolding lifted
castled-none cells from to rook s c at a b =
    cell_at-set_other _ (rook_target from to rook) s _ (λ e. b (sym e)) ∙ cell_at-set_other _ to.0 s _ (λ e. a (sym e)) ∙ lifted-none cells from.0 rook.0 s c.king_start c.rook_start (λ f g. absurd (elim at as (λ _. ⊥) [ inl e ↦ f e | inr e ↦ g e ]))

castled-size : (cells : List (Option Cell)) (from to rook : Square) → length (castled cells from to rook) ≡ length cells
castled-size cells from to rook = length-set _ _ _ ∙ length-set _ _ _ ∙ length-set _ _ _ ∙ length-set _ _ _

-- the way of a castle is free

open_at : (f : ℕ → Bool) (k : ℕ) → any_below f 120 ≡ false → k < 120 → f k ≡ false
open_at f k e l = false_from_ne_true (f k) (λ h. not_both _ (any_below-true f 120 k l h) e)

stands_not : (a b c d : Bool) (x : Option Cell) → (a && b && not c && not d && is_some x) ≡ false → a ≡ true → b ≡ true → c ≡ false → d ≡ false → x ≡ None
stands_not a b c d None e ha hb hc hd = refl
stands_not true true false false (Some x) e ha hb hc hd = cc
stands_not true true false true (Some x) e ha hb hc hd = cc
stands_not true true true d (Some x) e ha hb hc hd = cc
stands_not true false c d (Some x) e ha hb hc hd = cc
stands_not false b c d (Some x) e ha hb hc hd = cc

square_free : (rules : Rules) (cells : List (Option Cell)) (side : Side) (castle : CastleSquares) (s : ℕ) → way_is_open rules cells side castle ≡ true → s < 120 → lowest castle ≤ s → s ≤ highest castle → s ≢ castle.king.0 → s ≢ castle.rook.0 → cell_at cells s ≡ None
unfolding way_is_open in_the_way
square_free rules cells side castle s e l low high king other =
    let a = and_parts (not (any_below (in_the_way cells castle) 120)) (not (any_below (king_passes_attack rules cells side castle) 120)) e in
    let b = open_at (in_the_way cells castle) s (not-true _ a.0) l in
    stands_not (nat_le (lowest castle) s) (nat_le s (highest castle)) (s == castle.king.0) (s == castle.rook.0) _ b (le-leb _ _ low) (le-leb _ _ high) (ne_eqb _ _ king) (ne_eqb _ _ other)

-- the squares of a castle, and the one to which the rook goes
pub record CastleFiles (from to rook : Square) (target rook_to : ℕ) : Type 0 where
  pub is : target ≡ rook_to
  pub pieces_apart : from.0 ≢ rook.0
  pub below : target < 120
  pub targets_apart : to.0 ≢ target
  pub file_most : target % 12 ≤ max (from.0 % 12) (to.0 % 12)
  pub same_rank : target / 12 ≡ to.0 / 12

target_right : (from to rook : Square) → from.0 < rook.0 → rook_target from to rook ≡ to.0 - 1
target_right from to rook l = let e : nat_lt from.0 rook.0 ≡ true = grind (arith, nat_tests) in rw e

target_left : (from to rook : Square) → rook.0 ≤ from.0 → rook_target from to rook ≡ to.0 + 1
target_left from to rook l = let e : nat_lt from.0 rook.0 ≡ false = grind (arith, nat_tests) in rw e

files_right : (from to rook : Square) (rank king near file : ℕ) → from.0 ≡ 12 * rank + king → to.0 ≡ 12 * rank + near → rook.0 ≡ 12 * rank + file → king < near → near < 12 → king < file → to.0 < 120 → CastleFiles from to rook (rook_target from to rook) (12 * rank + (near - 1))
files_right from to rook rank king near file f t r a b c l =
    let e = target_right from to rook (omega (arith, f, r, c)) in
    record {
      is = omega (arith, e, t, a);
      pieces_apart = λ h. omega (arith, h, f, r, c);
      below = omega (arith, e, l);
      targets_apart = λ h. omega (arith, h, e, t, a);
      file_most = omega (arith, e, f, t, a, b);
      same_rank = omega (arith, e, t, a, b);
    }

files_left : (from to rook : Square) (rank king far file : ℕ) → from.0 ≡ 12 * rank + king → to.0 ≡ 12 * rank + far → rook.0 ≡ 12 * rank + file → far < king → king < 12 → file < king → from.0 < 120 → CastleFiles from to rook (rook_target from to rook) (12 * rank + (far + 1))
files_left from to rook rank king far file f t r a b c l =
    let e = target_left from to rook (omega (arith, f, r, c)) in
    record {
      is = omega (arith, e, t);
      pieces_apart = λ h. omega (arith, h, f, r, c);
      below = omega (arith, e, f, t, a, l);
      targets_apart = λ h. omega (arith, h, e);
      file_most = omega (arith, e, f, t, a, b);
      same_rank = omega (arith, e, t, a, b);
    }

pub castle_files : (rules : Rules) (fit : IsFit rules) (r : Repeat) (from to rook : Square) (wing : Wing) → Castles rules r from to rook wing → from.0 < 120 → to.0 < 120 → CastleFiles from to rook (rook_target from to rook) (castling_square rules r.side (rook_to_file rules wing))
castle_files rules fit r from to rook Kingside c l k =
    let on = castling_on-is rules c.on in
    let b = rook_file-some rules r r.side Kingside c.beyond c.file in
    let a = ltb-true _ _ (and_parts (nat_lt rules.castle_king c.beyond) _ b.1).0 in
    let most = fit.files_most in
    files_right from to rook (castling_rank rules r.side) rules.castle_king rules.castle_near c.beyond c.start c.target c.rank on.5 (omega (arith, most, on.2)) a k
castle_files rules fit r from to rook Queenside c l k =
    let on = castling_on-is rules c.on in
    let b = rook_file-some rules r r.side Queenside c.beyond c.file in
    let a = ltb-true _ _ (and_parts (nat_lt c.beyond rules.castle_king) _ b.1).0 in
    let most = fit.files_most in
    files_left from to rook (castling_rank rules r.side) rules.castle_king rules.castle_far c.beyond c.start c.target c.rank on.4 (omega (arith, most, on.1)) a l

pub castle_places : (rules : Rules) (fit : IsFit rules) (r : Repeat) (from to rook : Square) (wing : Wing) → length r.cells ≡ 120 → Castles rules r from to rook wing → from.0 < 120 → to.0 < 120 → rook.0 < 120 → CastlePlaces r.cells from.0 to.0 rook.0 (rook_target from to rook)
castle_places rules fit r from to rook wing size c l k j =
    let f = castle_files rules fit r from to rook wing c l k in
    let castle = castle_with rules r.side wing c.beyond in
    let below = f.below in
    let target = c.target in
    let is = f.is in
    record {
      king_start = omega (arith, l, size);
      rook_start = omega (arith, j, size);
      king_target = omega (arith, k, size);
      rook_target = omega (arith, below, size);
      pieces_apart = f.pieces_apart;
      targets_apart = f.targets_apart;
      to_free = λ a b. subst (λ s. cell_at r.cells s ≡ None) (sym target)
          (square_free rules r.cells r.side castle castle.king_to.0 c.way (omega (arith, k, target)) (omega arith) (omega arith) (λ e. a (target ∙ e ∙ sym c.start)) (λ e. b (target ∙ e ∙ sym c.rank)));
      target_free = λ a b. subst (λ s. cell_at r.cells s ≡ None) (sym is)
          (square_free rules r.cells r.side castle castle.rook_to.0 c.way (omega (arith, below, is)) (omega arith) (omega arith) (λ e. a (is ∙ e ∙ sym c.start)) (λ e. b (is ∙ e ∙ sym c.rank)));
    }

gate_square : (rules : Rules) (r : Repeat) (from to rook : Square) (placed : Placed) → castle_gates rules r from to rook (Some placed) ≡ true → (placed.at.0 ≢ to.0) × (placed.at.0 ≢ rook_target from to rook)
gate_square rules r from to rook placed e =
    let a = and_parts _ (not (placed.at.0 == rook_target from to rook)) e in
    let b = and_parts _ (not (placed.at.0 == to.0)) a.0 in (
      λ h. not_both _ ((Decides-eqb _ _).1 h) (not-true (placed.at.0 == to.0) b.1),
      λ h. not_both _ ((Decides-eqb _ _).1 h) (not-true (placed.at.0 == rook_target from to rook) a.1),
    )

-- a castle keeps the count, but for the piece that it places
pub castle-count : (p : Option Cell → Bool) (rules : Rules) (fit : IsFit rules) (r : Repeat) (from to rook : Square) (gate : Option Placed) (wing : Wing) → p None ≡ false → length r.cells ≡ 120 → Castles rules r from to rook wing → castle_gates rules r from to rook gate ≡ true → IsFitMove (Castle from to rook gate) → count_by p (cells_after rules r (Castle from to rook gate)) ≡ count_by p r.cells + one_if (p (gated r.side (placed_kind gate)))
unfolding cells_after
castle-count p rules fit r from to rook None wing none size c e l =
    let a = castled-count p r.cells from to rook none (castle_places rules fit r from to rook wing size c l.0 l.1 l.2) in
    let nothing : one_if (p None) ≡ 0 = ap one_if none in
    omega (arith, a, nothing)
castle-count p rules fit r from to rook (Some placed) wing none size c e l =
    let places = castle_places rules fit r from to rook wing size c l.0 l.1 l.2 in
    let a = castled-count p r.cells from to rook none places in
    let s = gate_square rules r from to rook placed e in
    let long = castled-size r.cells from to rook in
    let within = l.3.1 in
    let b = count_cells-set p (castled r.cells from to rook) placed.at.0 (Some (fresh r.side placed.kind)) (omega (arith, long, size, within)) in
    let d : one_if (p (cell_at (castled r.cells from to rook) placed.at.0)) ≡ 0 = ap (λ x. one_if (p x)) (castled-none r.cells from to rook placed.at.0 places (castle_gate rules r from to rook placed e).2 s.0 s.1) ∙ ap one_if none in
    omega (arith, a, b, d)

-- ---- a drop

pub dropped_free : (rules : Rules) (r : Repeat) (kind : Kind) (to : ℕ) → drops_to rules r kind to ≡ true → (holds r.hands r.side kind ≡ true) × (cell_at r.cells to ≡ None)
unfolding drops_to
dropped_free rules r kind to e =
    let a = and_parts _ _ (and_parts _ _ (and_parts _ _ e).0).0 in
    let b = and_parts _ (is_none (cell_at r.cells to)) a.0 in
    ((and_parts rules.drops (holds r.hands r.side kind) b.0).1, none_from _ b.1)

pub drop-count : (p : Option Cell → Bool) (rules : Rules) (r : Repeat) (kind : Kind) (to : Square) → p None ≡ false → to.0 < length r.cells → drops_to rules r kind to.0 ≡ true → count_by p (cells_after rules r (Drop kind to)) ≡ count_by p r.cells + one_if (p (Some (fresh r.side kind)))
unfolding cells_after
drop-count p rules r kind to none l e =
    let a = count_cells-set p r.cells to.0 (Some (fresh r.side kind)) l in
    let b : one_if (p (cell_at r.cells to.0)) ≡ 0 = ap (λ x. one_if (p x)) (dropped_free rules r kind to.0 e).1 ∙ ap one_if none in
    omega (arith, a, b)
