-- Kings that face each other, and squares beyond the board.
use Rattle.std.proofs.Common.{◌≡◌, ◌≢◌, ℕ, ◌%◌, ◌<◌, ◌≤◌, Bool, true, false, ◌&&◌, ◌||◌, not, ◌==◌, Option, Some, None, List, length, refl, sym, ◌∙◌, subst, arith}
use Rattle.std.proofs.lemmas.Bool.{and_left, and_parts, and_right}
use Rattle.std.proofs.Math.Bool.{and-false, and-true, or-false}
use Rattle.std.proofs.lemmas.Option.{slice_get_past}
use Rattle.foundation.specs.Count.{any_below}
use Rattle.foundation.proofs.CountLemmas.{any_below-none}
use Rattle.rules_model.specs.declared.board.Cell.{Cell}
use Rattle.rules_model.specs.declared.board.Kind.{Kind}
use Rattle.rules_model.specs.declared.board.Side.{Side}
use Rattle.rules_model.specs.declared.board.Side.TheVariants.{White, Black}
use Rattle.rules_model.specs.declared.rules.Rules.{Rules}
use Rattle.rules_model.specs.Attacks.{attacks, attacks_from, flies_to, is_own, is_own_king, king_attacked_at, king_faces, stands_between}
use Rattle.rules_model.specs.Fit.{IsFit}
use Rattle.rules_model.specs.Kinds.{is_king}
use Rattle.rules_model.specs.Sides.{other, same_side}
use Rattle.rules_model.specs.Squares.{cell_at}
use Rattle.square_set.specs.declared.Set.{Set}
use Rattle.square_set.specs.Members.{has, OnSquares}
use Rattle.square_set.proofs.Cases.{by_bool, by_order}
use Rattle.move_tables.specs.declared.mode.Mode.TheVariants.{Take}
use Rattle.move_tables.specs.Occupied.{AreKings, AreMen, IsOccupied}
use Rattle.move_tables.specs.Reached.{reaches_as}
use Rattle.move_tables.proofs.ReachLaws.{reach_beyond}
use Rattle.attack_tables.specs.declared.sight.Sight.{Sight}
use Rattle.attack_tables.specs.Boards.{HoldsMen, IsBoardBy}
use Rattle.attack_tables.specs.Sights.{IsSightOf, sees}
use Rattle.attack_tables.proofs.MaskLaws.{from_man, from_none}
use Rattle.attack_tables.proofs.SightLaws.{seen}

pub other_other : (side : Side) → other (other side) ≡ side
other_other White = refl
other_other Black = refl

-- ---- boards and their sets

pub empty_past : (cells : List (Option Cell)) (s : ℕ) → length cells ≤ s → cell_at cells s ≡ None
empty_past cells s l = rw (slice_get_past cells s l) refl

own_small : (side : Side) (test : Kind → Bool) (cells : List (Option Cell)) (s : ℕ) → length cells ≡ 120 → is_own side test (cell_at cells s) ≡ true → s < 120
own_small side test cells s n e =
    by_order s 120 (s < 120) (λ l. l) (λ l. let none = empty_past cells s (omega (arith, n, l)) in let no : is_own side test (cell_at cells s) ≡ false = rw none refl in absurd (let g : ⊥ = cc in g))

-- a set of men lies on the largest board
pub men_small : (side : Side) (cells : List (Option Cell)) (men : Set) (s : ℕ) → length cells ≡ 120 → HoldsMen side cells men → has men s ≡ true → s < 120
men_small side cells men s n holds e = own_small side (λ kind. true) cells s n (holds s e)

pub kings_small : (rules : Rules) (side : Side) (cells : List (Option Cell)) (kings : Set) → length cells ≡ 120 → AreKings rules side cells kings → OnSquares kings
kings_small rules side cells kings n are s e = own_small side (is_king rules) cells s n (sym (are s) ∙ e)

-- the board of the cells themselves
pub own_board : (side : Side) (cells : List (Option Cell)) (men occupied : Set) → AreMen side cells men → IsOccupied occupied cells → IsBoardBy side cells men occupied cells
own_board side cells men occupied own is = record { squares = is; own = own; same = λ s e. refl }

-- ---- kings

sides_differ : (x side : Side) → same_side x side ≡ true → same_side x (other side) ≡ false
sides_differ White White e = refl
sides_differ White Black e = cc
sides_differ Black White e = cc
sides_differ Black Black e = refl

one_side : (side : Side) (test : Kind → Bool) (c : Option Cell) → is_own side test c ≡ true → is_own (other side) test c ≡ false
one_side side test None e = refl
one_side side test (Some c) e = let h = and_parts (same_side c.side side) (test c.kind) e in and_left (same_side c.side (other side)) (test c.kind) (sides_differ c.side side h.0)

pub king_is_man : (rules : Rules) (side : Side) (c : Option Cell) → is_own side (λ kind. true) c ≡ false → is_own_king rules side c ≡ false
king_is_man rules side None e = refl
king_is_man rules side (Some c) e = and_left (same_side c.side side) (is_king rules c.kind) (sym (and-true (same_side c.side side)) ∙ e)

module _ (rules : Rules) (board : List (Option Cell)) (by : Side) (at : ℕ) where
  pub facing : (s : ℕ) → king_faces rules board by at s ≡ (is_own_king rules by (cell_at board s) && (s % 12 == at % 12) && not (any_below (stands_between board s at) 120))
  unfolding king_faces
  facing s = refl

  pub not_facing : (s : ℕ) → is_own_king rules by (cell_at board s) ≡ false → king_faces rules board by at s ≡ false
  unfolding king_faces
  not_facing s e = rw e refl

  module _ (occupied : Set) (is : IsOccupied occupied board) (low : at < 120) (sight : Sight) (of : IsSightOf at sight) (king : is_own_king rules (other by) (cell_at board at) ≡ true) where
    apart : (s : ℕ) → is_own_king rules by (cell_at board s) ≡ true → s ≢ at
    apart s e same =
        let own : is_own_king rules by (cell_at board at) ≡ true = subst (λ u. is_own_king rules by (cell_at board u) ≡ true) same e in
        let no = one_side by (is_king rules) (cell_at board at) own in cc

    -- a king faces the other exactly where it is seen from there
    pub faces_seen : (s : ℕ) → s < 120 → king_faces rules board by at s ≡ (is_own_king rules by (cell_at board s) && sees sight occupied s)
    unfolding king_faces
    faces_seen s l =
        by_bool (is_own_king rules by (cell_at board s)) (king_faces rules board by at s ≡ (is_own_king rules by (cell_at board s) && sees sight occupied s))
        (λ e. rw e (sym (seen board occupied is at low sight of s l (apart s e))))
        (λ e. rw e refl)

-- ---- the flying king, and squares beyond the board

pub no_flight : (rules : Rules) (cells : List (Option Cell)) (by : Side) (to : ℕ) → is_own_king rules (other by) (cell_at cells to) ≡ false → flies_to rules cells by to ≡ false
unfolding flies_to
no_flight rules cells by to e = rw (e, and-false rules.flying) refl

flight : (rules : Rules) (cells : List (Option Cell)) (by : Side) (to : ℕ) → is_own_king rules (other by) (cell_at cells to) ≡ true → flies_to rules cells by to ≡ (rules.flying && any_below (king_faces rules cells by to) 120)
unfolding flies_to
flight rules cells by to e = by_bool rules.flying (flies_to rules cells by to ≡ (rules.flying && any_below (king_faces rules cells by to) 120)) (λ f. rw (f, e) refl) (λ f. rw f refl)

-- a king's square is attacked by a piece, or by the king where kings fly
pub attacks_by_parts : (rules : Rules) (cells : List (Option Cell)) (by : Side) (to : ℕ) → is_own_king rules (other by) (cell_at cells to) ≡ true → attacks rules cells by to ≡ (any_below (attacks_from rules cells by to) 120 || (rules.flying && any_below (king_faces rules cells by to) 120))
unfolding attacks
attacks_by_parts rules cells by to e = rw (flight rules cells by to e) refl

pub attacks_by_piece : (rules : Rules) (cells : List (Option Cell)) (by : Side) (to : ℕ) → is_own_king rules (other by) (cell_at cells to) ≡ false → attacks rules cells by to ≡ any_below (attacks_from rules cells by to) 120
unfolding attacks
attacks_by_piece rules cells by to e = rw (no_flight rules cells by to e) (or-false (any_below (attacks_from rules cells by to) 120))

from_beyond : (rules : Rules) (fit : IsFit rules) (cells : List (Option Cell)) (by : Side) (to s : ℕ) → 120 ≤ to → (o : Option Cell) → cell_at cells s ≡ o → attacks_from rules cells by to s ≡ false
from_beyond rules fit cells by to s l None e = from_none rules cells by to s e
from_beyond rules fit cells by to s l (Some c) e = from_man rules cells by to s c e ∙ and_right (same_side c.side by) (reaches_as rules cells by c.kind (record { 0 = s }) Take to) (reach_beyond rules cells by c.kind (record { 0 = s }) Take to fit l)

pub attacks_beyond : (rules : Rules) → IsFit rules → (cells : List (Option Cell)) (by : Side) (to : ℕ) → length cells ≡ 120 → 120 ≤ to → attacks rules cells by to ≡ false
attacks_beyond rules fit cells by to n l =
    let none : is_own_king rules (other by) (cell_at cells to) ≡ false = rw (empty_past cells to (omega (arith, n, l))) refl in
    attacks_by_piece rules cells by to none ∙ any_below-none (attacks_from rules cells by to) 120 (λ s m. from_beyond rules fit cells by to s l (cell_at cells s) refl)

-- ---- the king of a side

pub king_at : (rules : Rules) (board : List (Option Cell)) (side : Side) (s : ℕ) → is_own_king rules side (cell_at board s) ≡ true → king_attacked_at rules board side s ≡ attacks rules board (other side) s
unfolding king_attacked_at
king_at rules board side s e = rw e refl

pub no_king_at : (rules : Rules) (board : List (Option Cell)) (side : Side) (s : ℕ) → is_own_king rules side (cell_at board s) ≡ false → king_attacked_at rules board side s ≡ false
unfolding king_attacked_at
no_king_at rules board side s e = rw e refl
