-- By what the pawn goes to each of its targets.
use Rattle.std.proofs.Common.{◌≡◌, ℕ, Bool, true, false, ◌&&◌, ◌||◌, Option, Some, is_none, ℤ, pos, negsuc, refl, ap, ◌∙◌}
use Rattle.std.proofs.lemmas.Bool.{or_left, or_right, false_from_ne_true}
use Rattle.std.proofs.lemmas.Bool.Decides.{Decides-eqb}
use Rattle.rules_model.specs.declared.board.Repeat.{Repeat}
use Rattle.rules_model.specs.declared.board.Square.{Square}
use Rattle.rules_model.specs.declared.rules.Rules.{Rules}
use Rattle.rules_model.specs.Attacks.{ahead, pawn_ray, right_ahead, left_ahead, is_diagonal, is_own_pawn}
use Rattle.rules_model.specs.Fit.{IsFit}
use Rattle.rules_model.specs.Kinds.{board_of}
use Rattle.rules_model.specs.Pawns.{is_enemy, is_ep, pawn_goes, passes_by, steps_twice}
use Rattle.rules_model.specs.Reach.{IsOnBoard, is_at}
use Rattle.rules_model.specs.Squares.{step_to, cell_at}
use Rattle.rules_model.proofs.CandidateLaws.{at_some}
use Rattle.special_moves.specs.declared.pawn.Flank.{Flank}
use Rattle.special_moves.specs.declared.pawn.Flank.TheVariants.{Right, Left}
use Rattle.special_moves.specs.PawnParts.{may_step_twice, diagonal}
use Rattle.special_moves.proofs.StepLemmas.{Differ, one_two, one_right, one_left}

pub fit_board : (rules : Rules) → IsFit rules → IsOnBoard (board_of rules)
fit_board rules fit = record { files = fit.files_most; ranks = fit.ranks_most }

pub some_at : (s : ℕ) (o : Option ℕ) → o ≡ Some s → is_at s o ≡ true
some_at s o e = ap (is_at s) e ∙ (Decides-eqb s s).1 refl

other_at : (s : ℕ) (a b : Option ℕ) → Differ a b → a ≡ Some s → is_at s b ≡ false
other_at s a b apart e = false_from_ne_true (is_at s b) (λ h. apart s e (at_some s b h))

-- ---- tests that are known

straight : (n e d t : Bool) → ((n && (true || t)) || (e && false)) ≡ n
straight true e d t = refl
straight false true d t = refl
straight false false d t = refl

straight_twice : (n e m : Bool) → ((n && (false || (m && true))) || (e && false)) ≡ (n && m)
straight_twice true true true = refl
straight_twice true true false = refl
straight_twice true false true = refl
straight_twice true false false = refl
straight_twice false true m = refl
straight_twice false false m = refl

aside : (n e m : Bool) → ((n && (false || (m && false))) || (e && true)) ≡ e
aside true true true = refl
aside true true false = refl
aside true false true = refl
aside true false false = refl
aside false true m = refl
aside false false m = refl

by_ep : (o e : Bool) → o ≡ true → (o && e && true) ≡ e
by_ep true true h = refl
by_ep true false h = refl
by_ep false e h = cc

no_ep : (o e : Bool) → (o && e && false) ≡ false
no_ep true true = refl
no_ep true false = refl
no_ep false e = refl

and_true : (b : Bool) → (b && true) ≡ b
and_true true = refl
and_true false = refl

module _ (rules : Rules) (r : Repeat) (from : Square) (fit : IsFit rules) where
  abbrev board : IsOnBoard (board_of rules)
  board = fit_board rules fit

  abbrev one : Option ℕ
  one = ahead (board_of rules) r.side from 1

  abbrev two : Option ℕ
  two = ahead (board_of rules) r.side from 2

  abbrev right : Option ℕ
  right = right_ahead (board_of rules) r.side from

  abbrev left : Option ℕ
  left = left_ahead (board_of rules) r.side from

  not_aside : (to : ℕ) → is_at to right ≡ false → is_at to left ≡ false → is_diagonal (board_of rules) r.side from to ≡ false
  unfolding is_diagonal
  not_aside to e f = rw (e, f) refl

  one_not_aside : (to : ℕ) → one ≡ Some to → is_diagonal (board_of rules) r.side from to ≡ false
  one_not_aside to e = not_aside to (other_at to one right (one_right (board_of rules) from board r.side) e) (other_at to one left (one_left (board_of rules) from board r.side) e)

  -- the square of two steps is none of one step
  two_not : (dx : ℤ) (to : ℕ) → two ≡ Some to → is_at to (step_to (pawn_ray (board_of rules) r.side dx from) 1) ≡ false
  two_not dx to e = other_at to two (step_to (pawn_ray (board_of rules) r.side dx from) 1) (λ s f g. one_two (board_of rules) from board r.side dx (pos 0) s g f) e

  two_not_aside : (to : ℕ) → two ≡ Some to → is_diagonal (board_of rules) r.side from to ≡ false
  two_not_aside to e = not_aside to (two_not (pos 1) to e) (two_not (negsuc 0) to e)

  -- ---- straight forward

  pub one_goes : (to : ℕ) → one ≡ Some to → pawn_goes rules r from to ≡ is_none (cell_at r.cells to)
  unfolding pawn_goes
  one_goes to e = rw (some_at to one e, one_not_aside to e) (straight (is_none (cell_at r.cells to)) (is_enemy r.side (cell_at r.cells to)) true (steps_twice rules r from to))

  pub one_passes : (to : ℕ) → one ≡ Some to → passes_by rules r from to ≡ false
  unfolding passes_by
  one_passes to e = rw (one_not_aside to e) (no_ep (is_own_pawn rules r.side (cell_at r.cells from.0)) (is_ep r.ep to))

  pub two_goes : (to : ℕ) → two ≡ Some to → pawn_goes rules r from to ≡ (is_none (cell_at r.cells to) && may_step_twice rules r from)
  unfolding pawn_goes
  two_goes to e =
      rw (two_not (pos 0) to e, some_at to two e, two_not_aside to e)
      (straight_twice (is_none (cell_at r.cells to)) (is_enemy r.side (cell_at r.cells to)) (may_step_twice rules r from))

  -- from where it may step twice
  pub two_goes_then : (to : ℕ) → two ≡ Some to → may_step_twice rules r from ≡ true → pawn_goes rules r from to ≡ is_none (cell_at r.cells to)
  two_goes_then to e m = two_goes to e ∙ ap (λ b. is_none (cell_at r.cells to) && b) m ∙ and_true (is_none (cell_at r.cells to))

  pub two_passes : (to : ℕ) → two ≡ Some to → passes_by rules r from to ≡ false
  unfolding passes_by
  two_passes to e = rw (two_not_aside to e) (no_ep (is_own_pawn rules r.side (cell_at r.cells from.0)) (is_ep r.ep to))

  -- ---- diagonally forward

  is_aside : (flank : Flank) (to : ℕ) → diagonal rules r flank from ≡ Some to → is_diagonal (board_of rules) r.side from to ≡ true
  unfolding is_diagonal
  is_aside Right to e = or_left (is_at to right) (is_at to left) (some_at to right e)
  is_aside Left to e = or_right (is_at to right) (is_at to left) (some_at to left e)

  aside_not_one : (flank : Flank) (to : ℕ) → diagonal rules r flank from ≡ Some to → is_at to one ≡ false
  aside_not_one Right to e = other_at to right one (λ s f g. one_right (board_of rules) from board r.side s g f) e
  aside_not_one Left to e = other_at to left one (λ s f g. one_left (board_of rules) from board r.side s g f) e

  aside_not_two : (flank : Flank) (to : ℕ) → diagonal rules r flank from ≡ Some to → is_at to two ≡ false
  aside_not_two Right to e = other_at to right two (one_two (board_of rules) from board r.side (pos 1) (pos 0)) e
  aside_not_two Left to e = other_at to left two (one_two (board_of rules) from board r.side (negsuc 0) (pos 0)) e

  pub aside_goes : (flank : Flank) (to : ℕ) → diagonal rules r flank from ≡ Some to → pawn_goes rules r from to ≡ is_enemy r.side (cell_at r.cells to)
  unfolding pawn_goes
  aside_goes flank to e =
      rw (aside_not_one flank to e, aside_not_two flank to e, is_aside flank to e)
      (aside (is_none (cell_at r.cells to)) (is_enemy r.side (cell_at r.cells to)) (may_step_twice rules r from))

  pub aside_passes : (flank : Flank) (to : ℕ) → is_own_pawn rules r.side (cell_at r.cells from.0) ≡ true → diagonal rules r flank from ≡ Some to → passes_by rules r from to ≡ is_ep r.ep to
  unfolding passes_by
  aside_passes flank to own e = rw (is_aside flank to e) (by_ep (is_own_pawn rules r.side (cell_at r.cells from.0)) (is_ep r.ep to) own)
