-- Looking at the squares of a castle's way alone.
use Rattle.std.proofs.Common.{◌≡◌, ℕ, ◌<◌, ◌≤◌, min, max, nat_le, Bool, true, false, not, ◌==◌, is_some, Option, List, refl, arith}
use Rattle.std.proofs.lemmas.Bool.{and_parts}
use Rattle.std.proofs.lemmas.Bool.Decides.{nat_tests}
use Rattle.foundation.specs.Count.{any_below}
use Rattle.foundation.proofs.CountLemmas.{any_below-none, any_below-true}
use Rattle.rules_model.specs.declared.board.Cell.{Cell}
use Rattle.rules_model.specs.declared.board.Side.{Side}
use Rattle.rules_model.specs.declared.castling.CastleSquares.{CastleSquares}
use Rattle.rules_model.specs.declared.rules.Rules.{Rules}
use Rattle.rules_model.specs.Attacks.{attacks}
use Rattle.rules_model.specs.Castling.{lowest, highest, in_the_way, king_passes_attack}
use Rattle.rules_model.specs.Sides.{other}
use Rattle.rules_model.specs.Squares.{cell_at}
use Rattle.rules_model.proofs.CandidateLaws.{not_both}

false_of : (b : Bool) → (b ≡ true → ⊥) → b ≡ false
false_of true h = absurd (h refl)
false_of false h = refl

-- only numbers from the one to the other pass the test
pub record IsWithin (test : ℕ → Bool) (low high : ℕ) : Type 0 where
  pub least : (s : ℕ) → test s ≡ true → low ≤ s
  pub most : (s : ℕ) → test s ≡ true → s ≤ high

pub none-before : (test : ℕ → Bool) (low high : ℕ) → IsWithin test low high → any_below test low ≡ false
none-before test low high w = any_below-none test low (λ k l. false_of (test k) (λ e. let h = w.least k e in omega (arith, h, l)))

pub none-after : (test : ℕ → Bool) (low high n end : ℕ) → IsWithin test low high → high < n → any_below test n ≡ false → any_below test end ≡ false
none-after test low high n end w l none =
    any_below-none test end (λ k b. false_of (test k) (λ e. let h = w.most k e in not_both _ (any_below-true test n k (omega (arith, h, l)) e) none))

le-is : (a b : ℕ) → nat_le a b ≡ true → a ≤ b
le-is a b e = grind (arith, nat_tests)

le-true : (a b : ℕ) → a ≤ b → nat_le a b ≡ true
le-true a b l = grind (arith, nat_tests)

pub way-within : (cells : List (Option Cell)) (castle : CastleSquares) → IsWithin (in_the_way cells castle) (lowest castle) (highest castle)
unfolding in_the_way
way-within cells castle = record {
  least = λ s e. le-is (lowest castle) s (and_parts _ (nat_le s (highest castle)) (and_parts _ (not (s == castle.king.0)) (and_parts _ (not (s == castle.rook.0)) (and_parts _ (is_some (cell_at cells s)) e).0).0).0).0;
  most = λ s e. le-is s (highest castle) (and_parts (nat_le (lowest castle) s) _ (and_parts _ (not (s == castle.king.0)) (and_parts _ (not (s == castle.rook.0)) (and_parts _ (is_some (cell_at cells s)) e).0).0).0).1;
}

pub king-within : (rules : Rules) (cells : List (Option Cell)) (side : Side) (castle : CastleSquares) → IsWithin (king_passes_attack rules cells side castle) (min castle.king.0 castle.king_to.0) (max castle.king.0 castle.king_to.0)
unfolding king_passes_attack
king-within rules cells side castle = record {
  least = λ s e. le-is _ s (and_parts _ (nat_le s (max castle.king.0 castle.king_to.0)) (and_parts _ (attacks rules cells (other side) s) e).0).0;
  most = λ s e. le-is s _ (and_parts (nat_le (min castle.king.0 castle.king_to.0) s) _ (and_parts _ (attacks rules cells (other side) s) e).0).1;
}

-- between them the king is attacked where the square is
pub passes : (rules : Rules) (cells : List (Option Cell)) (side : Side) (castle : CastleSquares) (s : ℕ) → min castle.king.0 castle.king_to.0 ≤ s → s ≤ max castle.king.0 castle.king_to.0 → king_passes_attack rules cells side castle s ≡ attacks rules cells (other side) s
unfolding king_passes_attack
passes rules cells side castle s l h = rw (le-true _ _ l, le-true _ _ h) refl
