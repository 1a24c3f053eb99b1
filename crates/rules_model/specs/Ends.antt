-- Ends of a game by the position itself (Fairy-Stockfish's `flagPiece`, `checkCounting`, `extinctionValue` and their
-- kin).
use Rattle.std.specs.Prelude.{ℕ, ◌+◌, nat_le, Bool, true, false, ◌&&◌, ◌==◌, if◌then◌else◌, Option, Some, None, List, sum, count_by, slice_index}
use Rattle.foundation.specs.Count.{any_below}
use Rattle.rules_model.specs.declared.board.Cell.{Cell}
use Rattle.rules_model.specs.declared.board.Kind.{Kind}
use Rattle.rules_model.specs.declared.board.Repeat.{Repeat}
use Rattle.rules_model.specs.declared.board.Side.{Side}
use Rattle.rules_model.specs.declared.moves.Cause.{Cause}
use Rattle.rules_model.specs.declared.moves.Cause.TheVariants.{Flag, Checks, Extinction, Checkmate, Stalemate}
use Rattle.rules_model.specs.declared.moves.Outcome.{Outcome}
use Rattle.rules_model.specs.declared.moves.Outcome.TheVariants.{Ongoing, Won, Drawn}
use Rattle.rules_model.specs.declared.moves.Value.{Value}
use Rattle.rules_model.specs.declared.moves.Value.TheVariants.{Win, Loss, Draw}
use Rattle.rules_model.specs.declared.rules.Rules.{Rules}
use Rattle.rules_model.specs.Squares.{cell_at}
use Rattle.rules_model.specs.Sides.{other, same_side, side_index}
use Rattle.rules_model.specs.Kinds.{names, masks}
use Rattle.rules_model.specs.Regions.{in_region}
use Rattle.rules_model.specs.Attacks.{is_own}
use Rattle.rules_model.specs.Hands.{hand_of, in_hand}

abbrev pub is_ongoing : Outcome → Bool
is_ongoing Ongoing = true
is_ongoing (Won side cause) = false
is_ongoing (Drawn cause) = false

-- the first that is an end
abbrev pub or_end : Outcome → Outcome → Outcome
or_end Ongoing later = later
or_end (Won side cause) later = Won side cause
or_end (Drawn cause) later = Drawn cause

-- what a value is worth that a rule names for the side
abbrev pub valued : Value → Side → Cause → Outcome
valued Win side cause = Won side cause
valued Loss side cause = Won (other side) cause
valued Draw side cause = Drawn cause

-- ---- flag

unfoldable pub flag_at : Rules → List (Option Cell) → Side → ℕ → Bool
flag_at rules cells side s = is_own side (names rules.flag_kind) (cell_at cells s) && in_region rules.flag_region side s

-- a piece of the side's flag kind stands in its flag region
unfoldable pub has_flag : Rules → List (Option Cell) → Side → Bool
has_flag rules cells side = any_below (flag_at rules cells side) 120

abbrev pub flag_end : Rules → Repeat → Outcome
flag_end rules r = if has_flag rules r.cells (other r.side) then Won (other r.side) Flag else Ongoing

-- ---- checks

abbrev pub has_none_left : Rules → Repeat → Side → Bool
has_none_left rules r side = rules.check_counting && (slice_index r.checks (side_index side) == 0)

-- a side has given all its checks
abbrev pub checks_end : Rules → Repeat → Outcome
checks_end rules r =
    if has_none_left rules r (other r.side) then Won (other r.side) Checks
    else if has_none_left rules r r.side then Won r.side Checks else Ongoing

-- ---- extinction

abbrev pub is_of : Side → Option Cell → Bool
is_of side None = false
is_of side (Some c) = same_side c.side side

-- the pieces of a side on the board and in its hand
unfoldable pub pieces_of : Repeat → Side → ℕ
pieces_of r side = count_by (is_of side) r.cells + sum (hand_of r.hands side)

-- those of one kind
unfoldable pub pieces_of_kind : Repeat → Side → Kind → ℕ
pieces_of_kind r side kind = count_by (λ c. is_own side (λ k. k.0 == kind.0) c) r.cells + in_hand r.hands side kind

-- few enough for the tested side, and many enough for its opponent
abbrev pub dies_out : Rules → ℕ → ℕ → Bool
dies_out rules tested opponent = nat_le tested rules.extinct_most && nat_le rules.extinct_least opponent

unfoldable pub kind_dies_out : Rules → Repeat → Side → ℕ → Bool
kind_dies_out rules r side kind =
    masks rules.extinct_kinds (record { 0 = kind })
    && dies_out rules (pieces_of_kind r side (record { 0 = kind }))
    (pieces_of_kind r (other side) (record { 0 = kind }))

-- for one listed kind, or for all kinds together
unfoldable pub is_extinct : Rules → Repeat → Side → Bool
is_extinct rules r side =
    if rules.extinct_all then dies_out rules (pieces_of r side) (pieces_of r (other side))
    else any_below (kind_dies_out rules r side) 26

abbrev pub extinction_by : Rules → Repeat → Option Value → Outcome
extinction_by rules r None = Ongoing
extinction_by rules r (Some value) =
    if is_extinct rules r (other r.side) then valued value (other r.side) Extinction
    else if is_extinct rules r r.side then valued value r.side Extinction else Ongoing

-- an end by the position itself
unfoldable pub early_end : Rules → Repeat → Outcome
early_end rules r = or_end (or_end (flag_end rules r) (checks_end rules r)) (extinction_by rules r rules.extinction)

-- what stands where the side has no legal move: its king is attacked or not (FIDE Laws of Chess, articles 5.1.1 and
-- 5.2.1; Fairy-Stockfish's `checkmateValue` and `stalemateValue`)
abbrev pub no_move : Rules → Side → Bool → Outcome
no_move rules side attacked =
    if attacked then valued rules.checkmate side Checkmate else valued rules.stalemate side Stalemate
