-- The sets of a board that agrees with another outside some squares.
use Rattle.std.proofs.Common.{◌≡◌, ◌≢◌, ℕ, ◌-◌, ◌^◌, ◌<◌, Bool, true, false, ◌&&◌, ◌||◌, not, ◌==◌, Option, Some, None, List, [], length, refl, ap, sym, ◌∙◌, arith}
use Rattle.std.specs.Prelude.{slice_set, IfSome}
use Rattle.std.proofs.lemmas.List.{length-set}
use Rattle.foundation.proofs.SetLemmas.{slice_get-set_same, slice_get-set_other}
use Rattle.std.proofs.Math.Bool.{and-true}
use Rattle.std.proofs.lemmas.Nat.Bits.{bit_at_ones}
use Rattle.rules_model.specs.declared.board.Cell.{Cell}
use Rattle.rules_model.specs.declared.board.Side.{Side}
use Rattle.rules_model.specs.declared.board.Square.{Square}
use Rattle.rules_model.specs.declared.rules.Rules.{Rules}
use Rattle.rules_model.specs.Attacks.{is_own, is_own_king}
use Rattle.rules_model.specs.Sides.{other}
use Rattle.rules_model.specs.Squares.{cell_at, flat}
use Rattle.square_set.specs.declared.Set.{Set}
use Rattle.square_set.specs.Members.{has, IsWith, IsWithout}
use Rattle.square_set.proofs.Cases.{by_equal, by_order}
use Rattle.square_set.proofs.CoverLaws.{has-zero}
use Rattle.next_position.specs.declared.written.OnePut.{OnePut}
use Rattle.next_position.specs.Changed.{AgreeOutside}
use Rattle.next_position.specs.Puts.{IsOnBoard, left_by, put_on}
use Rattle.next_position.proofs.BetweenLaws.{beyond}
use Rattle.board_sets.specs.declared.sets.BoardSets.{BoardSets}
use Rattle.board_sets.specs.Sets.{AreSets, is_any_pawn}
use Rattle.board_sets.specs.Written.{AreMinus, AreWith, IsMinus, IsWithIf, IsWritten, is_left}

-- the set has the squares that pass and are not left
abbrev pub IsBut : (Option Cell → Bool) → Set → List (Option Cell) → Set → Type 0
IsBut f left cells set = (s : ℕ) → has set s ≡ (f (cell_at cells s) && not (has left s))

-- the sets are those of the board without the squares that are left
pub record AreBut (rules : Rules) (side : Side) (left : Set) (cells : List (Option Cell)) (sets : BoardSets) : Type 0 where
  pub own : IsBut (is_own side (λ kind. true)) left cells sets.own
  pub enemies : IsBut (is_own (other side) (λ kind. true)) left cells sets.enemies
  pub kings : IsBut (is_own_king rules side) left cells sets.kings
  pub enemy_kings : IsBut (is_own_king rules (other side)) left cells sets.enemy_kings
  pub pawns : IsBut (is_any_pawn rules) left cells sets.pawns

-- ---- of one set

and_left : (a b c : Bool) → (c ≡ false → a ≡ b) → (a && not c) ≡ (b && not c)
and_left a b false same = rw (same refl) refl
and_left true true true same = refl
and_left true false true same = refl
and_left false true true same = refl
and_left false false true same = refl

one_start : (f : Option Cell → Bool) (touched : Set) (before next : List (Option Cell)) (old new : Set) → ((s : ℕ) → has old s ≡ f (cell_at before s)) → AgreeOutside touched before next → IsMinus old touched new → IsBut f touched next new
one_start f touched before next old new are agree minus s =
    minus s ∙ ap (λ b. b && not (has touched s)) (are s) ∙ and_left (f (cell_at before s)) (f (cell_at next s)) (has touched s) (λ e. ap f (agree s e))

-- of bits: the square itself, and another
taken : (a left : Bool) → left ≡ true → ((a && not left) || (a && true)) ≡ (a && not (left && not true))
taken true true e = refl
taken false true e = refl
taken a false e = cc

kept : (a b left : Bool) → ((a && not left) || (b && false)) ≡ (a && not (left && not false))
kept true true true = refl
kept true true false = refl
kept true false true = refl
kept true false false = refl
kept false true left = refl
kept false false left = refl

one_step : (f : Option Cell → Bool) (left now : Set) (cells : List (Option Cell)) (at : ℕ) (old new : Set) → has left at ≡ true → IsWithout left at now → IsBut f left cells old → IsWithIf old at (f (cell_at cells at)) new → IsBut f now cells new
one_step f left now cells at old new member without but is s =
    is s ∙ rw (but s, without s)
    (by_equal s at (((f (cell_at cells s) && not (has left s)) || (f (cell_at cells at) && (s == at))) ≡ (f (cell_at cells s) && not (has left s && not (s == at))))
    (λ q e. rw (q, e) (taken (f (cell_at cells at)) (has left at) member))
    (λ q e. rw q (kept (f (cell_at cells s)) (f (cell_at cells at)) (has left s))))

one_end : (f : Option Cell → Bool) (left : Set) (cells : List (Option Cell)) (set : Set) → ((s : ℕ) → has left s ≡ false) → IsBut f left cells set → (s : ℕ) → has set s ≡ f (cell_at cells s)
one_end f left cells set none but s = but s ∙ rw (none s) (and-true (f (cell_at cells s)))

-- ---- of all

pub all_start : (rules : Rules) (side : Side) (touched : Set) (before next : List (Option Cell)) (old new : BoardSets) → AreSets rules side before old → AgreeOutside touched before next → AreMinus old touched new → AreBut rules side touched next new
all_start rules side touched before next old new are agree minus =
    record {
      own = one_start (is_own side (λ kind. true)) touched before next old.own new.own are.own agree minus.own;
      enemies = one_start (is_own (other side) (λ kind. true)) touched before next old.enemies new.enemies are.enemies agree minus.enemies;
      kings = one_start (is_own_king rules side) touched before next old.kings new.kings are.kings agree minus.kings;
      enemy_kings = one_start (is_own_king rules (other side)) touched before next old.enemy_kings new.enemy_kings are.enemy_kings agree minus.enemy_kings;
      pawns = one_start (is_any_pawn rules) touched before next old.pawns new.pawns are.pawns agree minus.pawns;
    }

pub all_step : (rules : Rules) (side : Side) (left now : Set) (cells : List (Option Cell)) (at : ℕ) (old new : BoardSets) → has left at ≡ true → IsWithout left at now → AreBut rules side left cells old → AreWith rules side old at (cell_at cells at) new → AreBut rules side now cells new
all_step rules side left now cells at old new member without but is =
    record {
      own = one_step (is_own side (λ kind. true)) left now cells at old.own new.own member without but.own is.own;
      enemies = one_step (is_own (other side) (λ kind. true)) left now cells at old.enemies new.enemies member without but.enemies is.enemies;
      kings = one_step (is_own_king rules side) left now cells at old.kings new.kings member without but.kings is.kings;
      enemy_kings = one_step (is_own_king rules (other side)) left now cells at old.enemy_kings new.enemy_kings member without but.enemy_kings is.enemy_kings;
      pawns = one_step (is_any_pawn rules) left now cells at old.pawns new.pawns member without but.pawns is.pawns;
    }

pub all_end : (rules : Rules) (side : Side) (left : Set) (cells : List (Option Cell)) (sets : BoardSets) → ((s : ℕ) → has left s ≡ false) → AreBut rules side left cells sets → AreSets rules side cells sets
all_end rules side left cells sets none but =
    record {
      own = one_end (is_own side (λ kind. true)) left cells sets.own none but.own;
      enemies = one_end (is_own (other side) (λ kind. true)) left cells sets.enemies none but.enemies;
      kings = one_end (is_own_king rules side) left cells sets.kings none but.kings;
      enemy_kings = one_end (is_own_king rules (other side)) left cells sets.enemy_kings none but.enemy_kings;
      pawns = one_end (is_any_pawn rules) left cells sets.pawns none but.pawns;
    }

-- ---- the board without a piece

none_stands : (f : Option Cell → Bool) → f None ≡ false → (s : ℕ) → has (record { 0 = 0 }) s ≡ f (cell_at [] s)
none_stands f none s = has-zero (record { 0 = 0 }) refl s ∙ sym (ap f (beyond [] s (omega arith)) ∙ none)

pub none_of_empty : (rules : Rules) (side : Side) → AreSets rules side [] (record { own = record { 0 = 0 }; enemies = record { 0 = 0 }; kings = record { 0 = 0 }; enemy_kings = record { 0 = 0 }; pawns = record { 0 = 0 } })
none_of_empty rules side =
    record {
      own = none_stands (is_own side (λ kind. true)) refl;
      enemies = none_stands (is_own (other side) (λ kind. true)) refl;
      kings = none_stands (is_own_king rules side) refl;
      enemy_kings = none_stands (is_own_king rules (other side)) refl;
      pawns = none_stands (is_any_pawn rules) refl;
    }

true_is_not_false : {P : Type 0} → true ≡ false → P
true_is_not_false e = absurd cc

pub agrees_with_empty : (next : List (Option Cell)) → length next ≡ 120 → AgreeOutside (record { 0 = 2 ^ 120 - 1 }) [] next
agrees_with_empty next size s e =
    by_order s 120 (cell_at [] s ≡ cell_at next s)
    (λ l.
    let one : has (record { 0 = 2 ^ 120 - 1 }) s ≡ true = ap (λ x. x == 1) (bit_at_ones 120 s l) in
    true_is_not_false (sym one ∙ e))
    (λ l. beyond [] s (omega arith) ∙ sym (beyond next s (omega (arith, l, size))))

-- ---- one square is left, and something is put on another

none_before : (b : Bool) → (false || b) ≡ (b || false)
none_before true = refl
none_before false = refl

pub entered : (set : Set) (at : ℕ) → IsWith (record { 0 = 0 }) at set → (s : ℕ) → has set s ≡ ((s == at) || false)
entered set at is s = is s ∙ rw (has-zero (record { 0 = 0 }) refl s) (none_before (s == at))

none_between : (a b : Bool) → ((a || false) || b) ≡ (a || b)
none_between true b = refl
none_between false b = refl

pub left_too : (set both : Set) (at from : ℕ) → IsWith (record { 0 = 0 }) at set → IsWith set from both → (s : ℕ) → has both s ≡ ((s == at) || (s == from))
left_too set both at from first second s = second s ∙ rw (entered set at first s) (none_between (s == at) (s == from))

put_here : (a b : Bool) → ((a && not true) || (b && true)) ≡ b
put_here true true = refl
put_here true false = refl
put_here false true = refl
put_here false false = refl

kept_there : (a b : Bool) → ((a && not false) || (b && false)) ≡ a
kept_there true true = refl
kept_there true false = refl
kept_there false true = refl
kept_there false false = refl

left_there : (a b : Bool) → ((a && not true) || (b && false)) ≡ false
left_there true true = refl
left_there true false = refl
left_there false true = refl
left_there false false = refl

cell_here : (cells : List (Option Cell)) (at : ℕ) (c : Option Cell) → at < length cells → cell_at (slice_set cells at c) at ≡ c
cell_here cells at c l = ap flat (slice_get-set_same cells at c l)

cell_there : (cells : List (Option Cell)) (at s : ℕ) (c : Option Cell) → s ≢ at → cell_at (slice_set cells at c) s ≡ cell_at cells s
cell_there cells at s c apart = ap flat (slice_get-set_other cells at s c (λ e. apart (sym e)))

left_size : (left : Option Square) (cells : List (Option Cell)) → length (left_by left cells) ≡ length cells
left_size None cells = refl
left_size (Some from) cells = length-set cells from.0 None

-- of one set, on a square that nothing is put on
one_left : (f : Option Cell → Bool) (left : Option Square) (cells : List (Option Cell)) (b : Bool) (s : ℕ) → f None ≡ false → IfSome left (λ from. from.0 < length cells)
    → ((f (cell_at cells s) && not (false || is_left left s)) || (b && false)) ≡ f (cell_at (left_by left cells) s)
one_left f None cells b s none l = kept_there (f (cell_at cells s)) b
one_left f (Some from) cells b s none l =
    by_equal s from.0 (((f (cell_at cells s) && not (s == from.0)) || (b && false)) ≡ f (cell_at (slice_set cells from.0 None) s))
    (λ q e. rw q (left_there (f (cell_at cells s)) b) ∙ sym (ap (λ t. f (cell_at (slice_set cells from.0 None) t)) e ∙ ap f (cell_here cells from.0 None l) ∙ none))
    (λ q e. rw q (kept_there (f (cell_at cells s)) b) ∙ sym (ap f (cell_there cells from.0 s None e)))

module _ (put : OnePut) (cells : List (Option Cell)) (size : length cells ≡ 120) (on_board : IsOnBoard put) (squares : Set) (written : IsWritten put squares) where
  left_within : (left : Option Square) → IfSome left (λ from. from.0 < 120) → IfSome left (λ from. from.0 < length cells)
  left_within None l = l
  left_within (Some from) l = omega (arith, l, size)

  one_put : (f : Option Cell → Bool) (old mid new : Set) → f None ≡ false → ((s : ℕ) → has old s ≡ f (cell_at cells s)) → IsMinus old squares mid → IsWithIf mid put.at.0 (f put.cell) new
      → (s : ℕ) → has new s ≡ f (cell_at (put_on put cells) s)
  one_put f old mid new none are minus is s =
      let long : put.at.0 < length (left_by put.left cells) = omega (arith, on_board.at, size, left_size put.left cells) in
      let here : has new s ≡ ((f (cell_at cells s) && not ((s == put.at.0) || is_left put.left s)) || (f put.cell && (s == put.at.0))) = is s ∙ rw (minus s, are s, written s) refl in
      here ∙ by_equal s put.at.0 (((f (cell_at cells s) && not ((s == put.at.0) || is_left put.left s)) || (f put.cell && (s == put.at.0))) ≡ f (cell_at (put_on put cells) s))
      (λ q e. rw q (put_here (f (cell_at cells s)) (f put.cell)) ∙ sym (ap (λ t. f (cell_at (put_on put cells) t)) e ∙ ap f (cell_here (left_by put.left cells) put.at.0 put.cell long)))
      (λ q e. rw q (one_left f put.left cells (f put.cell) s none (left_within put.left on_board.left)) ∙ sym (ap f (cell_there (left_by put.left cells) put.at.0 s put.cell e)))

  pub all_put : (rules : Rules) (side : Side) (old mid new : BoardSets) → AreSets rules side cells old → AreMinus old squares mid → AreWith rules side mid put.at.0 put.cell new → AreSets rules side (put_on put cells) new
  all_put rules side old mid new are minus is =
      record {
        own = one_put (is_own side (λ kind. true)) old.own mid.own new.own refl are.own minus.own is.own;
        enemies = one_put (is_own (other side) (λ kind. true)) old.enemies mid.enemies new.enemies refl are.enemies minus.enemies is.enemies;
        kings = one_put (is_own_king rules side) old.kings mid.kings new.kings refl are.kings minus.kings is.kings;
        enemy_kings = one_put (is_own_king rules (other side)) old.enemy_kings mid.enemy_kings new.enemy_kings refl are.enemy_kings minus.enemy_kings is.enemy_kings;
        pawns = one_put (is_any_pawn rules) old.pawns mid.pawns new.pawns refl are.pawns minus.pawns is.pawns;
      }
