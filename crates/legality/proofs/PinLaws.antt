-- Moves that leave the own king safe, by the sets of the board.
use Rattle.std.proofs.Common.{◌≡◌, ℕ, Bool, true, false, not, ◌&&◌, ◌||◌, Option, Some, None, List, length, refl, sym, ap, ◌∙◌, subst, arith, length-set}
use Rattle.std.specs.Prelude.{slice_set}
use Rattle.std.proofs.lemmas.Bool.{and_parts, not-true}
use Rattle.std.proofs.lemmas.Option.{slice_get_past}
use Rattle.square_set.proofs.Cases.{by_equal, by_order}
use Rattle.square_set.specs.declared.Set.{Set}
use Rattle.square_set.specs.Members.{has}
use Rattle.rules_model.specs.declared.board.Cell.{Cell}
use Rattle.rules_model.specs.declared.board.Kind.{Kind}
use Rattle.rules_model.specs.declared.board.Repeat.{Repeat}
use Rattle.rules_model.specs.declared.board.Side.{Side}
use Rattle.rules_model.specs.declared.board.Side.TheVariants.{White, Black}
use Rattle.rules_model.specs.declared.board.Square.{Square}
use Rattle.rules_model.specs.declared.moves.Move.{Move}
use Rattle.rules_model.specs.declared.moves.Move.TheVariants.{Go, Castle, Drop}
use Rattle.rules_model.specs.declared.moves.Promo.TheVariants.{Stays, Pawn, Plus}
use Rattle.rules_model.specs.declared.rules.Rules.{Rules}
use Rattle.rules_model.specs.Attacks.{is_diagonal, is_own, is_own_pawn}
use Rattle.rules_model.specs.Kinds.{board_of, is_king}
use Rattle.rules_model.specs.Legal.{gives_check, is_drop, is_safe, is_sane, may_check, stays_mobile}
use Rattle.rules_model.specs.Moves.{IsFitMove}
use Rattle.rules_model.specs.Pawns.{is_ep, passes_by}
use Rattle.rules_model.specs.Sides.{other, same_side}
use Rattle.rules_model.specs.Squares.{cell_at, flat}
use Rattle.move_tables.specs.Occupied.{IsOccupied}
use Rattle.attack_tables.specs.Boards.{HoldsMen, IsBoardBy}
use Rattle.next_position.specs.declared.written.OnePut.{OnePut}
use Rattle.next_position.specs.Puts.{left_by, put_on}
use Rattle.sound_play.proofs.CellLemmas.{cell_at-set_other, cell_at-set_same}
use Rattle.board_sets.specs.declared.sets.BoardSets.{BoardSets}
use Rattle.board_sets.specs.Sets.{AreSets}
use Rattle.legality.specs.Moved.{DropFreely, DropWithoutEvading, GateWithoutEvading, GoFreely, GoWithoutEvading, asks_more, is_free_go, is_free_drop, is_no_evasion, leaves_another, makes_no_king}

-- ---- where the variant asks no more than a safe king

only_safe : (bad checking drops drop gives safe mobile : Bool) → (bad || not (checking && (drops || not drop))) ≡ false
    → ((safe && ((checking || not gives) && (drops || not drop || not gives))) && (not bad || mobile)) ≡ safe
only_safe true checking drops drop gives safe mobile e = cc
only_safe false false drops drop gives safe mobile e = cc
only_safe false true true drop gives true mobile e = refl
only_safe false true true drop gives false mobile e = refl
only_safe false true false true gives safe mobile e = cc
only_safe false true false false gives true mobile e = refl
only_safe false true false false gives false mobile e = refl

pub plain_sane : (rules : Rules) (r : Repeat) (m : Move) → asks_more rules m ≡ false → is_sane rules r m ≡ is_safe rules r m
unfolding is_sane may_check
plain_sane rules r m e =
    only_safe rules.immobile_bad rules.checking rules.drop_checks (is_drop m) (gives_check rules r m) (is_safe rules r m) (stays_mobile rules r m) e

-- ---- sides

abbrev pub any_kind : Kind → Bool
any_kind kind = true

apart : (a b : Side) → (same_side a b && true) ≡ true → (same_side a (other b) && true) ≡ false
apart White White e = refl
apart White Black e = cc
apart Black White e = cc
apart Black Black e = refl

pub own_apart : (side : Side) (c : Option Cell) → is_own side any_kind c ≡ true → is_own (other side) any_kind c ≡ false
own_apart side None e = refl
own_apart side (Some x) e = apart x.side side e

-- ---- the men of the other side stay where they are

-- the cells hold each piece of the side that is on the board
abbrev pub HoldsMenOf : Side → List (Option Cell) → List (Option Cell) → Type 0
HoldsMenOf side board cells = (s : ℕ) → is_own side any_kind (cell_at board s) ≡ true → cell_at board s ≡ cell_at cells s

module _ (by : Side) (cells : List (Option Cell)) where
  no_man : (board : List (Option Cell)) (at : ℕ) (c : Option Cell) → is_own by any_kind c ≡ false → is_own by any_kind (cell_at (slice_set board at c) at) ≡ false
  no_man board at c none =
      by_order at (length board) (is_own by any_kind (cell_at (slice_set board at c) at) ≡ false)
      (λ l. ap (is_own by any_kind) (cell_at-set_same board at c l) ∙ none)
      (λ l. let e = length-set board at c in ap (λ o. is_own by any_kind (flat o)) (slice_get_past (slice_set board at c) at (omega (arith, e, l))))

  written : (board : List (Option Cell)) (at : ℕ) (c : Option Cell) → HoldsMenOf by board cells → is_own by any_kind c ≡ false → HoldsMenOf by (slice_set board at c) cells
  written board at c h none s own =
      by_equal at s (cell_at (slice_set board at c) s ≡ cell_at cells s)
      (λ q e. absurd (let no = no_man board at c none in let yes = subst (λ t. is_own by any_kind (cell_at (slice_set board at c) t) ≡ true) (sym e) own in let f : ⊥ = cc in f))
      (λ q e. let same = cell_at-set_other board at s c e in same ∙ h s (subst (λ (x : Option Cell). is_own by any_kind x ≡ true) same own))

  pub itself_held : HoldsMenOf by cells cells
  itself_held s own = refl

  left_held : (left : Option Square) → HoldsMenOf by (left_by left cells) cells
  left_held None = itself_held
  left_held (Some from) = written cells from.0 None itself_held refl

  -- where what is put is no piece of the side
  pub put_held : (put : OnePut) → is_own by any_kind put.cell ≡ false → HoldsMenOf by (put_on put cells) cells
  put_held put none = written (left_by put.left cells) put.at.0 put.cell (left_held put.left) none

-- ---- the board by its sets

module _ (rules : Rules) (side : Side) (board cells : List (Option Cell)) (sets : BoardSets) (are : AreSets rules side board sets) (held : HoldsMenOf (other side) board cells) where
  pub holds_men : HoldsMen (other side) cells sets.enemies
  holds_men s e = let own = sym (are.enemies s) ∙ e in subst (λ (x : Option Cell). is_own (other side) any_kind x ≡ true) (held s own) own

  pub board_by : (occupied : Set) → IsOccupied occupied board → IsBoardBy (other side) cells sets.enemies occupied board
  board_by occupied are_occupied = record {
    squares = are_occupied;
    own = are.enemies;
    same = λ s e. held s (sym (are.enemies s) ∙ e);
  }

-- ---- a free piece

middle_false : (a b c : Bool) → b ≡ false → (a && b && c) ≡ false
middle_false true b c e = rw e refl
middle_false false b c e = refl

pub not_passing : (rules : Rules) (r : Repeat) (from : Square) (s : ℕ) → is_ep r.ep s ≡ false → passes_by rules r from s ≡ false
unfolding passes_by
not_passing rules r from s e = middle_false (is_own_pawn rules r.side (cell_at r.cells from.0)) (is_ep r.ep s) (is_diagonal (board_of rules) r.side from s) e

no_false : (a b c d : Bool) → (a && false && b && c && d) ≡ true → ⊥
no_false true b c d e = cc
no_false false b c d e = cc

pub free_is_safe : (rules : Rules) (r : Repeat) (own free : Set) (m : Move) → GoFreely rules r own free → IsFitMove m → is_free_go rules r own free m ≡ true → is_safe rules r m ≡ true
free_is_safe rules r own free (Go from to promo None) freely fit e =
    let a = and_parts (makes_no_king rules promo && true && has free from.0 && not (has own to.0)) (not (is_ep r.ep to.0)) e in
    let b = and_parts (makes_no_king rules promo && true && has free from.0) (not (has own to.0)) a.0 in
    let c = and_parts (makes_no_king rules promo && true) (has free from.0) b.0 in
    let d = and_parts (makes_no_king rules promo) true c.0 in
    freely from to promo fit.0 fit.1 c.1 (not-true (has own to.0) b.1) d.0 (not_passing rules r from to.0 (not-true (is_ep r.ep to.0) a.1))
free_is_safe rules r own free (Go from to promo (Some kind)) freely fit e =
    absurd (no_false (makes_no_king rules promo) (has free from.0) (not (has own to.0)) (not (is_ep r.ep to.0)) e)
free_is_safe rules r own free (Castle from to rook gate) freely fit e = cc
free_is_safe rules r own free (Drop kind to) freely fit e = cc

pub free_drop_is_safe : (rules : Rules) (r : Repeat) (enter : Set) (m : Move) → DropFreely rules r enter → IsFitMove m → is_free_drop rules enter m ≡ true → is_safe rules r m ≡ true
free_drop_is_safe rules r enter (Go from to promo gate) freely fit e = cc
free_drop_is_safe rules r enter (Castle from to rook gate) freely fit e = cc
free_drop_is_safe rules r enter (Drop kind to) freely fit e =
    let a = and_parts (has enter to.0) (not (is_king rules kind)) e in
    freely kind to fit.1 a.0 (not-true (is_king rules kind) a.1)

-- ---- a move that is no evasion

-- what is in the one set, and not in it without the other, is in the other
pub missed : (a b : Bool) → a ≡ true → (a && not b) ≡ false → b ≡ true
missed true true e h = refl
missed true false e h = cc
missed false b e h = cc

module _ (rules : Rules) (r : Repeat) (own kings leave enter : Set) (goes : GoWithoutEvading rules r leave enter) (drops : DropWithoutEvading rules r enter) (gates : GateWithoutEvading rules r own kings enter) where
  pub no_evasion_is_not_safe : (m : Move) → IsFitMove m → is_no_evasion rules own kings leave enter m ≡ true → is_safe rules r m ≡ false
  no_evasion_is_not_safe (Go from to promo None) fit e =
      let a = and_parts (has enter to.0) (makes_no_king rules promo && has leave from.0) e in
      let b = and_parts (makes_no_king rules promo) (has leave from.0) a.1 in
      goes from to promo fit.0 fit.1 b.1 a.0 b.0
  no_evasion_is_not_safe (Go from to Stays (Some kind)) fit e =
      let a = and_parts (has enter to.0) (leaves_another rules own kings from kind) e in
      let b = and_parts (has own from.0 && not (has kings from.0)) (not (is_king rules kind)) a.1 in
      let c = and_parts (has own from.0) (not (has kings from.0)) b.0 in
      gates kind from to fit.0 fit.1 c.0 (not-true (has kings from.0) c.1) a.0 (not-true (is_king rules kind) b.1)
  no_evasion_is_not_safe (Go from to (Pawn kind) (Some left)) fit e =
      let a = and_parts (has enter to.0) false e in let f : ⊥ = (let n = a.1 in cc) in absurd f
  no_evasion_is_not_safe (Go from to Plus (Some left)) fit e =
      let a = and_parts (has enter to.0) false e in let f : ⊥ = (let n = a.1 in cc) in absurd f
  no_evasion_is_not_safe (Castle from to rook gate) fit e = cc
  no_evasion_is_not_safe (Drop kind to) fit e =
      let a = and_parts (has enter to.0) (not (is_king rules kind)) e in
      drops kind to fit.1 a.0 (not-true (is_king rules kind) a.1)

first_of_three : (a b c : Bool) → a ≡ false → (a && b && c) ≡ false
first_of_three true b c e = cc
first_of_three false b c e = refl

pub not_safe_not_sane : (rules : Rules) (r : Repeat) (m : Move) → is_safe rules r m ≡ false → is_sane rules r m ≡ false
unfolding is_sane
not_safe_not_sane rules r m e = first_of_three (is_safe rules r m) (may_check rules r m) (not rules.immobile_bad || stays_mobile rules r m) e
