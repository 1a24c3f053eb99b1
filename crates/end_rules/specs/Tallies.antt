-- The pieces that a rule of extinction counts: those of each kind, or all.
use Rattle.std.specs.Prelude.{◌≡◌, ℕ, ◌<◌, Bool, ◌==◌, Option, List, length, count_by}
use Rattle.rules_model.specs.declared.board.Cell.{Cell}
use Rattle.rules_model.specs.declared.board.Kind.{Kind}
use Rattle.rules_model.specs.declared.board.Repeat.{Repeat}
use Rattle.rules_model.specs.declared.board.Side.{Side}
use Rattle.rules_model.specs.declared.rules.Rules.{Rules}
use Rattle.rules_model.specs.Attacks.{is_own}
use Rattle.rules_model.specs.Ends.{dies_out, pieces_of}
use Rattle.rules_model.specs.Hands.{hand_of, in_hand}
use Rattle.rules_model.specs.Sides.{other}

-- how many pieces of each kind each side has on this part of a board, written as hands are
pub record AreTallies (cells : List (Option Cell)) (tallies : List (List ℕ)) : Type 0 where
  pub sides : length tallies ≡ 2
  pub kinds : (side : Side) → length (hand_of tallies side) ≡ 26
  pub each : (side : Side) (kind : Kind) → kind.0 < 26
      → in_hand tallies side kind ≡ count_by (λ c. is_own side (λ k. k.0 == kind.0) c) cells

-- few enough of all kinds together, and the opponent has many enough
abbrev pub all_die_out : Rules → Repeat → Side → Bool
all_die_out rules r side = dies_out rules (pieces_of r side) (pieces_of r (other side))
