-- What attacks the square to which a king has gone.
use Rattle.std.proofs.Common.{◌≡◌, ◌≢◌, ℕ, ◌<◌, true, false, ◌&&◌, ◌||◌, not, ◌==◌, Option, Some, None, List, length, is_some, refl, ap, sym, ◌∙◌, arith}
use Rattle.std.specs.Prelude.{slice_set}
use Rattle.std.proofs.lemmas.Bool.{eq-eqb}
use Rattle.std.proofs.lemmas.List.{length-set}
use Rattle.std.proofs.lemmas.Option.{slice_get_past}
use Rattle.std.proofs.Math.Bool.{and-true, or-false}
use Rattle.foundation.specs.Count.{any_below}
use Rattle.foundation.proofs.CountLemmas.{any_below-some, any_below-true}
use Rattle.foundation.proofs.SetLemmas.{slice_get-set_other, slice_get-set_same}
use Rattle.rules_model.specs.declared.board.Cell.{Cell}
use Rattle.rules_model.specs.declared.board.Kind.{Kind}
use Rattle.rules_model.specs.declared.board.Side.{Side}
use Rattle.rules_model.specs.declared.board.Side.TheVariants.{White, Black}
use Rattle.rules_model.specs.declared.board.Square.{Square}
use Rattle.rules_model.specs.declared.rules.Rules.{Rules}
use Rattle.rules_model.specs.Attacks.{attacks, attacks_from, is_own, is_own_king, king_attacked, king_attacked_at, king_faces}
use Rattle.rules_model.specs.Fit.{IsFit}
use Rattle.rules_model.specs.Sides.{other, same_side}
use Rattle.rules_model.specs.Squares.{cell_at, flat}
use Rattle.square_set.specs.declared.Set.{Set}
use Rattle.square_set.specs.Members.{has, IsWith, IsWithout}
use Rattle.square_set.proofs.Cases.{by_bool, by_equal, by_order, same_both}
use Rattle.move_tables.specs.declared.mode.Mode.TheVariants.{Take}
use Rattle.move_tables.specs.Occupied.{IsOccupied}
use Rattle.move_tables.specs.Reached.{AreReached, piece_reaches, reaches_as}
use Rattle.attack_tables.specs.Boards.{IsBoardBy}
use Rattle.attack_tables.proofs.AttackLaws.{attacks_by_parts, king_at, no_king_at, other_other}
use Rattle.attack_tables.proofs.MaskLaws.{from_man, from_none}
use Rattle.pins.proofs.TargetLaws.{not_itself, reach_of_both}

-- what holds of each board, as it is known by its sets, once a piece of the other side has come to a square and has
-- taken what stood there
abbrev pub AfterEntering : Side → List (Option Cell) → Set → Set → (List (Option Cell) → ℕ → Type 0) → Type 0
AfterEntering by cells enemies left Holds =
    (to : ℕ) (men entered : Set) (board : List (Option Cell)) → IsWithout enemies to men → IsWith left to entered
    → IsBoardBy by cells men entered board → Holds board to

-- ---- a board whose one square is emptied

emptied_there : (board : List (Option Cell)) (to : ℕ) → cell_at (slice_set board to None) to ≡ None
emptied_there board to =
    by_order to (length board) (cell_at (slice_set board to None) to ≡ None)
    (λ l. ap flat (slice_get-set_same board to None l))
    (λ l. let size = length-set board to (let none : Option Cell = None in none) in ap flat (slice_get_past (slice_set board to None) to (omega (arith, size, l))))

emptied_other : (board : List (Option Cell)) (to s : ℕ) → s ≢ to → cell_at (slice_set board to None) s ≡ cell_at board s
emptied_other board to s apart = ap flat (slice_get-set_other board to s None (λ e. apart (sym e)))

module _ (left entered : Set) (to : ℕ) (board : List (Option Cell)) (is : IsWith left to entered) (on : IsOccupied entered board) where
  was_there : has left to ≡ true → IsOccupied left board
  was_there e s =
      let same : (has left s || (s == to)) ≡ has left s = by_equal s to ((has left s || (s == to)) ≡ has left s) (λ q v. let h = ap (has left) v ∙ e in rw h refl) (λ q v. rw q (or-false (has left s))) in
      sym same ∙ sym (is s) ∙ on s

  was_free : has left to ≡ false → IsOccupied left (slice_set board to None)
  was_free e s =
      by_equal s to (has left s ≡ is_some (cell_at (slice_set board to None) s))
      (λ q v. ap (has left) v ∙ e ∙ sym (ap (λ n. is_some (cell_at (slice_set board to None) n)) v ∙ ap is_some (emptied_there board to)))
      (λ q v. sym (or-false (has left s)) ∙ ap (λ b. has left s || b) (sym q) ∙ sym (is s) ∙ on s ∙ sym (ap is_some (emptied_other board to s v)))

  -- what is reached over the squares is reached on the board that has one more
  pub reached_once : (rules : Rules) → IsFit rules → (side : Side) (kind : Kind) (from : Square) (set : Set) → AreReached rules side kind from Take left set → has set to ≡ reaches_as rules board side kind from Take to
  reached_once rules fit side kind from set are =
      by_bool (has left to) (has set to ≡ reaches_as rules board side kind from Take to)
      (λ e. are board (was_there e) to)
      (λ e.
      are (slice_set board to None) (was_free e) to
      ∙ reach_of_both (slice_set board to None) board to (λ s apart. ap is_some (emptied_other board to s apart)) rules fit side kind from Take)

-- ---- pieces

side_is : (a b : Side) → same_side a b ≡ true → a ≡ b
side_is White White e = refl
side_is White Black e = cc
side_is Black White e = cc
side_is Black Black e = refl

module _ (rules : Rules) (board : List (Option Cell)) (by : Side) (to s : ℕ) where
  no_man_there : (o : Option Cell) → cell_at board s ≡ o → is_own by (λ kind. true) o ≡ false → attacks_from rules board by to s ≡ false
  no_man_there None is e = from_none rules board by to s is
  no_man_there (Some c) is e =
      let other_side : same_side c.side by ≡ false = sym (and-true (same_side c.side by)) ∙ e in
      from_man rules board by to s c is ∙ rw other_side refl

  -- where no piece of the side stands, none attacks
  pub no_man : is_own by (λ kind. true) (cell_at board s) ≡ false → attacks_from rules board by to s ≡ false
  no_man e = no_man_there (cell_at board s) refl e

  man_there : (o : Option Cell) → cell_at board s ≡ o → is_own by (λ kind. true) o ≡ true → attacks_from rules board by to s ≡ piece_reaches rules board (record { 0 = s }) Take to o
  man_there None is e = cc
  man_there (Some c) is e =
      let own : same_side c.side by ≡ true = sym (and-true (same_side c.side by)) ∙ e in
      from_man rules board by to s c is ∙ rw own (ap (λ side. reaches_as rules board side c.kind (record { 0 = s }) Take to) (sym (side_is c.side by own)))

  -- a piece of the side attacks what it reaches
  pub man : is_own by (λ kind. true) (cell_at board s) ≡ true → attacks_from rules board by to s ≡ piece_reaches rules board (record { 0 = s }) Take to (cell_at board s)
  man e = man_there (cell_at board s) refl e

pub no_piece_itself : (rules : Rules) → IsFit rules → (board : List (Option Cell)) (s : ℕ) (o : Option Cell) → piece_reaches rules board (record { 0 = s }) Take s o ≡ false
no_piece_itself rules fit board s None = refl
no_piece_itself rules fit board s (Some c) = not_itself rules fit board c.side (record { 0 = s }) c.kind Take

module _ (rules : Rules) (fit : IsFit rules) (by : Side) (cells : List (Option Cell)) (enemies men entered : Set) (board : List (Option Cell)) (to from : ℕ) (gone : IsWithout enemies to men) (is : IsBoardBy by cells men entered board) where
  -- no attack from a square without an enemy
  pub no_enemy : has enemies from ≡ false → attacks_from rules board by to from ≡ false
  no_enemy e = no_man rules board by to from (sym (is.own from) ∙ gone from ∙ ap (λ b. b && not (from == to)) e)

  module _ (enemy : has enemies from ≡ true) where
    taken_itself : (from == to) ≡ true → attacks_from rules board by to from ≡ false
    taken_itself q = no_man rules board by to from (sym (is.own from) ∙ gone from ∙ rw (enemy, q) refl)

    stays_there : (from == to) ≡ false → has men from ≡ true
    stays_there q = gone from ∙ rw (enemy, q) refl

    -- an enemy attacks the square where its piece reached it before; one that was taken there did not
    pub attack_is : attacks_from rules board by to from ≡ piece_reaches rules board (record { 0 = from }) Take to (cell_at cells from)
    attack_is =
        by_equal from to (attacks_from rules board by to from ≡ piece_reaches rules board (record { 0 = from }) Take to (cell_at cells from))
        (λ q v. taken_itself q ∙ sym (ap (λ t. piece_reaches rules board (record { 0 = from }) Take t (cell_at cells from)) (sym v) ∙ no_piece_itself rules fit board from (cell_at cells from)))
        (λ q v. man rules board by to from (sym (is.own from) ∙ stays_there q) ∙ ap (piece_reaches rules board (record { 0 = from }) Take to) (is.same from (stays_there q)))

-- ---- the only king

-- the side has its only king on the square
abbrev pub HasOnlyKingOn : Rules → Side → List (Option Cell) → ℕ → Type 0
HasOnlyKingOn rules side board at = (s : ℕ) → is_own_king rules side (cell_at board s) ≡ (s == at)

module _ (rules : Rules) (board : List (Option Cell)) (side : Side) (to : ℕ) (small : to < 120) (king : HasOnlyKingOn rules side board to) where
  on_it : is_own_king rules side (cell_at board to) ≡ true
  on_it = king to ∙ eq-eqb to to refl

  only_there : king_attacked rules board side ≡ attacks rules board (other side) to
  unfolding king_attacked
  only_there =
      same_both (any_below (king_attacked_at rules board side) 120) (attacks rules board (other side) to)
      (λ h.
      let s = any_below-some (king_attacked_at rules board side) 120 h in
      by_equal s.0 to (attacks rules board (other side) to ≡ true)
      (λ q v. ap (attacks rules board (other side)) (sym v) ∙ sym (king_at rules board side s.0 (king s.0 ∙ q)) ∙ s.2)
      (λ q v. let no = no_king_at rules board side s.0 (king s.0 ∙ q) in cc))
      (λ h. any_below-true (king_attacked_at rules board side) 120 to small (king_at rules board side to on_it ∙ h))

  -- it is attacked by pieces alone, where kings do not fly
  pub king_by_pieces : rules.flying ≡ false → king_attacked rules board side ≡ any_below (attacks_from rules board (other side) to) 120
  king_by_pieces still =
      let on : is_own_king rules (other (other side)) (cell_at board to) ≡ true = rw (other_other side) on_it in
      only_there ∙ attacks_by_parts rules board (other side) to on
      ∙ ap (λ b. any_below (attacks_from rules board (other side) to) 120 || (b && any_below (king_faces rules board (other side) to) 120)) still
      ∙ or-false (any_below (attacks_from rules board (other side) to) 120)
