-- The targets of a piece, by sets.
use Rattle.std.proofs.Common.{◌≡◌, ℕ, ◌<◌, ◌≤◌, Bool, true, false, ◌&&◌, ◌||◌, not, is_some, Option, Some, None, List, refl, ◌∙◌}
use Rattle.rules_model.specs.declared.board.Cell.{Cell}
use Rattle.rules_model.specs.declared.board.Side.{Side}
use Rattle.rules_model.specs.declared.board.Side.TheVariants.{White, Black}
use Rattle.rules_model.specs.declared.board.Square.{Square}
use Rattle.rules_model.specs.declared.rules.Rules.{Rules}
use Rattle.rules_model.specs.Attacks.{is_own}
use Rattle.rules_model.specs.Fit.{IsFit}
use Rattle.rules_model.specs.Pieces.{piece_goes}
use Rattle.rules_model.specs.Sides.{other, same_side}
use Rattle.rules_model.specs.Squares.{cell_at}
use Rattle.square_set.specs.declared.Set.{Set}
use Rattle.square_set.proofs.Cases.{by_order}
use Rattle.move_tables.specs.declared.mode.Mode.{Mode}
use Rattle.move_tables.specs.declared.mode.Mode.TheVariants.{Quiet, Take}
use Rattle.move_tables.specs.Occupied.{AreMen, IsOccupied}
use Rattle.move_tables.specs.Reached.{reaches_as, reaches_in}
use Rattle.move_tables.proofs.ReachLaws.{no_kind, reach_beyond}
use Rattle.attack_tables.specs.Goals.{is_goal}
use Rattle.piece_moves.specs.Goals.{own_piece, lands}
use Rattle.piece_moves.proofs.GoalLemmas.{own, goes_is}

-- ---- where a piece lands

enemy : (a b : Side) (quiet takes : Bool) → ((quiet && not true) || (takes && (same_side a (other b) && true))) ≡ (not (same_side a b) && takes)
enemy White White true true = refl
enemy White White true false = refl
enemy White White false true = refl
enemy White White false false = refl
enemy White Black true true = refl
enemy White Black true false = refl
enemy White Black false true = refl
enemy White Black false false = refl
enemy Black White true true = refl
enemy Black White true false = refl
enemy Black White false true = refl
enemy Black White false false = refl
enemy Black Black true true = refl
enemy Black Black true false = refl
enemy Black Black false true = refl
enemy Black Black false false = refl

empty : (quiet takes : Bool) → ((quiet && not false) || (takes && false)) ≡ quiet
empty true true = refl
empty true false = refl
empty false true = refl
empty false false = refl

landing : (side : Side) (o : Option Cell) (quiet takes : Bool) → ((quiet && not (is_some o)) || (takes && is_own (other side) (λ kind. true) o)) ≡ lands side o quiet takes
landing side None quiet takes = empty quiet takes
landing side (Some c) quiet takes = enemy c.side side quiet takes

nowhere_on : (b : Bool) → (not b && false) ≡ false
nowhere_on true = refl
nowhere_on false = refl

module _ (rules : Rules) (cells : List (Option Cell)) (side : Side) (from : Square) (c : Cell) (is : own_piece rules side (cell_at cells from.0) ≡ Some c) where
  reached : (mode : Mode) (s : ℕ) → reaches_in rules cells from mode s ≡ reaches_as rules cells side c.kind from mode s
  unfolding reaches_in
  reached mode s = let h = own rules side (cell_at cells from.0) c is in rw (h.stands, h.side_is) refl

  -- a piece goes where it lands by what its kind reaches
  goes_as : (s : ℕ) → piece_goes rules cells side c.kind from s ≡ lands side (cell_at cells s) (reaches_as rules cells side c.kind from Quiet s) (reaches_as rules cells side c.kind from Take s)
  goes_as s = goes_is rules cells side from s c is ∙ rw (reached Quiet s, reached Take s) refl

  pub targets_go : (occupied enemies : Set) (s : ℕ) → IsOccupied occupied cells → AreMen (other side) cells enemies → is_goal rules cells side c.kind from occupied enemies s ≡ piece_goes rules cells side c.kind from s
  targets_go occupied enemies s all men =
      rw (all s, men s, goes_as s)
      (landing side (cell_at cells s) (reaches_as rules cells side c.kind from Quiet s) (reaches_as rules cells side c.kind from Take s))

  nowhere : (o : Option Cell) → lands side o false false ≡ false
  nowhere None = refl
  nowhere (Some x) = nowhere_on (same_side x.side side)

  -- a letter that names no kind goes nowhere
  pub no_targets : (s : ℕ) → IsFit rules → 26 ≤ c.kind.0 → piece_goes rules cells side c.kind from s ≡ false
  no_targets s fit l = goes_as s ∙ rw (no_kind rules cells side c.kind from Quiet s fit l, no_kind rules cells side c.kind from Take s fit l) (nowhere (cell_at cells s))

  -- and no piece leaves the largest board
  goes_beyond : (s : ℕ) → IsFit rules → 120 ≤ s → piece_goes rules cells side c.kind from s ≡ false
  goes_beyond s fit l = goes_as s ∙ rw (reach_beyond rules cells side c.kind from Quiet s fit l, reach_beyond rules cells side c.kind from Take s fit l) (nowhere (cell_at cells s))

  pub goes_small : (s : ℕ) → IsFit rules → piece_goes rules cells side c.kind from s ≡ true → s < 120
  goes_small s fit e = by_order s 120 (s < 120) (λ l. l) (λ l. let n = goes_beyond s fit l in absurd (let g : ⊥ = cc in g))
