-- The values of kinds and squares in tables.
use Rattle.std.specs.Prelude.{◌≡◌, ℕ, ◌<◌, ◌≤◌, List, Option, length, slice_index}
use Rattle.rules_model.specs.declared.board.Kind.{Kind}
use Rattle.rules_model.specs.declared.rules.Rules.{Rules}
use Rattle.rules_model.specs.Fit.{IsFit}
use Rattle.evaluation.specs.Evaluation.{kind_worth, square_worth, worth_on}

-- the first so many kinds
pub record AreKindWorths (rules : Rules) (kinds : List ℕ) (number : ℕ) : Type 0 where
  pub size : length kinds ≡ 26
  pub each : (k : ℕ) → k < number → slice_index kinds k ≡ kind_worth rules (record { 0 = k })
  pub few : (k : ℕ) → k < number → kind_worth rules (record { 0 = k }) ≤ 7700

-- the first so many squares
pub record AreSquareWorths (rules : Rules) (squares : List ℕ) (number : ℕ) : Type 0 where
  pub size : length squares ≡ 120
  pub each : (s : ℕ) → s < number → slice_index squares s ≡ square_worth rules (record { 0 = s })
  pub few : (s : ℕ) → s < number → square_worth rules (record { 0 = s }) ≤ 80

-- all kinds and squares, and which kind is the king
pub record AreWorths (rules : Rules) (kinds squares : List ℕ) (king : Option Kind) : Type 0 where
  pub fit : IsFit rules
  pub kinds_are : AreKindWorths rules kinds 26
  pub squares_are : AreSquareWorths rules squares 120
  pub king_is : king ≡ rules.king

-- no kind and no piece is worth much
pub record AreFew (rules : Rules) : Type 0 where
  pub kinds : (kind : Kind) → kind_worth rules kind ≤ 7700
  pub pieces : (kind : Kind) (s : ℕ) → s < 120 → worth_on rules kind s ≤ 7780
