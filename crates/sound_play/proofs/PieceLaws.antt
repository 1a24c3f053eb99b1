-- The pieces that stand on the board after a legal move of a sound position, in every variant that fits.
use Rattle.std.proofs.Common.{◌≡◌, ℕ, ◌<◌, true, ◌&&◌, inl, inr, Option, Some, None, List, length, refl, sym, subst}
use Rattle.std.specs.Prelude.{slice_set}
use Rattle.std.proofs.lemmas.Bool.{and_parts, cases_eq, cases_lt}
use Rattle.std.proofs.lemmas.List.{set_past}
use Rattle.foundation.specs.Count.{all_below}
use Rattle.foundation.proofs.CountLemmas.{all_below-each, all_below-true}
use Rattle.rules_model.specs.declared.board.Cell.{Cell}
use Rattle.rules_model.specs.declared.board.Kind.{Kind}
use Rattle.rules_model.specs.declared.board.Side.{Side}
use Rattle.rules_model.specs.declared.rules.Rules.{Rules}
use Rattle.rules_model.specs.Squares.{cell_at}
use Rattle.rules_model.specs.Kinds.{has_kind}
use Rattle.rules_model.specs.Next.{emptied, fresh}
use Rattle.rules_model.specs.Sound.{is_origin, is_sound_cell, on_board, sound_at}
use Rattle.sound_play.proofs.CellLemmas.{cell_at-set_other, cell_at-set_same}

-- ---- sound cells, square by square

pub record AreSound (rules : Rules) (cells : List (Option Cell)) : Type 0 where
  pub each : (s : ℕ) → s < 120 → is_sound_cell rules s (cell_at cells s) ≡ true

pub are_sound : (rules : Rules) (cells : List (Option Cell)) → all_below (sound_at rules cells) 120 ≡ true → AreSound rules cells
unfolding sound_at
are_sound rules cells e = record { each = λ s l. all_below-each (sound_at rules cells) 120 e s l }

pub all_sound : (rules : Rules) (cells : List (Option Cell)) → AreSound rules cells → all_below (sound_at rules cells) 120 ≡ true
unfolding sound_at
all_sound rules cells h = all_below-true (sound_at rules cells) 120 h.each

-- a sound piece is written
pub sound_set : (rules : Rules) (cells : List (Option Cell)) (t : ℕ) (c : Option Cell) → AreSound rules cells → is_sound_cell rules t c ≡ true → AreSound rules (slice_set cells t c)
sound_set rules cells t c h e = record {
  each = λ s l. elim (cases_eq s t) as (λ _. is_sound_cell rules s (cell_at (slice_set cells t c) s) ≡ true) [
    | inl f ↦ elim (cases_lt t (length cells)) as (λ _. is_sound_cell rules s (cell_at (slice_set cells t c) s) ≡ true) [
      | inl k ↦ subst (λ u. is_sound_cell rules u (cell_at (slice_set cells t c) u) ≡ true) (sym f) (subst (λ o. is_sound_cell rules t o ≡ true) (sym (cell_at-set_same cells t c k)) e)
      | inr k ↦ subst (λ cs. is_sound_cell rules s (cell_at cs s) ≡ true) (sym (set_past cells t c k)) (h.each s l)
    ]
    | inr f ↦ subst (λ o. is_sound_cell rules s o ≡ true) (sym (cell_at-set_other cells t s c (λ g. f (sym g)))) (h.each s l)
  ];
}

pub sound_emptied : (rules : Rules) (cells : List (Option Cell)) (at : Option ℕ) → AreSound rules cells → AreSound rules (emptied cells at)
sound_emptied rules cells None h = h
sound_emptied rules cells (Some s) h = sound_set rules cells s None h refl

-- a piece that is sound on one square is sound on each other square of the board
pub sound_there : (rules : Rules) (s t : ℕ) (c : Option Cell) → is_sound_cell rules s c ≡ true → on_board rules t ≡ true → is_sound_cell rules t c ≡ true
sound_there rules s t None e l = refl
sound_there rules s t (Some x) e l =
    let a = and_parts (on_board rules s && has_kind rules x.kind) (is_origin rules x.kind x.origin) e in
    let b = and_parts (on_board rules s) (has_kind rules x.kind) a.0 in
    rw (l, b.1, a.1)

-- a piece from the hand
pub sound_fresh : (rules : Rules) (s : ℕ) (side : Side) (kind : Kind) → on_board rules s ≡ true → has_kind rules kind ≡ true → is_sound_cell rules s (Some (fresh side kind)) ≡ true
sound_fresh rules s side kind l e = rw (l, e)
