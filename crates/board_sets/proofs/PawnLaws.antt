-- The own pieces and the own pawns, of all own men and all pawns.
use Rattle.std.proofs.Common.{◌≡◌, ℕ, Bool, true, false, ◌&&◌, not, Option, Some, None, List, refl, ◌∙◌}
use Rattle.rules_model.specs.declared.board.Cell.{Cell}
use Rattle.rules_model.specs.declared.board.Side.{Side}
use Rattle.rules_model.specs.declared.rules.Rules.{Rules}
use Rattle.rules_model.specs.Attacks.{is_own, is_own_pawn}
use Rattle.rules_model.specs.Kinds.{is_pawn}
use Rattle.rules_model.specs.Sides.{same_side}
use Rattle.rules_model.specs.Squares.{cell_at}
use Rattle.square_set.specs.declared.Set.{Set}
use Rattle.square_set.specs.Members.{has}
use Rattle.board_sets.specs.declared.sets.BoardSets.{BoardSets}
use Rattle.board_sets.specs.Sets.{AreOwnPawns, AreOwnPieces, AreSets, is_any_pawn}

both : (a b : Bool) → ((a && true) && b) ≡ (a && b)
both true b = refl
both false b = refl

no_pawn : (rules : Rules) (side : Side) (o : Option Cell) → (is_own side (λ kind. true) o && not (is_any_pawn rules o)) ≡ is_own side (λ kind. not (is_pawn rules kind)) o
no_pawn rules side None = refl
no_pawn rules side (Some c) = both (same_side c.side side) (not (is_pawn rules c.kind))

a_pawn : (rules : Rules) (side : Side) (o : Option Cell) → (is_own side (λ kind. true) o && is_any_pawn rules o) ≡ is_own_pawn rules side o
a_pawn rules side None = refl
a_pawn rules side (Some c) = both (same_side c.side side) (is_pawn rules c.kind)

module _ (rules : Rules) (side : Side) (cells : List (Option Cell)) (sets : BoardSets) (set : Set) (are : AreSets rules side cells sets) where
  pub pieces : ((s : ℕ) → has set s ≡ (has sets.own s && not (has sets.pawns s))) → AreOwnPieces rules side cells set
  pieces is s = is s ∙ rw (are.own s, are.pawns s) (no_pawn rules side (cell_at cells s))

  pub pawns : ((s : ℕ) → has set s ≡ (has sets.own s && has sets.pawns s)) → AreOwnPawns rules side cells set
  pawns is s = is s ∙ rw (are.own s, are.pawns s) (a_pawn rules side (cell_at cells s))
