-- The moves of pawns that go together, by shifts, as far as sets of squares tell.
use Rattle.std.specs.Prelude.{◌≡◌, ℕ, ◌<◌, nat_lt, Bool, true, ◌&&◌, ◌||◌, ◌⊎◌, is_none, Option, List}
use Rattle.rules_model.specs.declared.board.Cell.{Cell}
use Rattle.rules_model.specs.declared.board.Repeat.{Repeat}
use Rattle.rules_model.specs.declared.board.Side.{Side}
use Rattle.rules_model.specs.declared.board.Square.{Square}
use Rattle.rules_model.specs.declared.moves.Move.{Move}
use Rattle.rules_model.specs.declared.moves.Promo.TheVariants.{Stays}
use Rattle.rules_model.specs.declared.rules.Rules.{Rules}
use Rattle.rules_model.specs.Attacks.{is_own_pawn}
use Rattle.rules_model.specs.Pawns.{is_ep}
use Rattle.rules_model.specs.Squares.{cell_at}
use Rattle.square_set.specs.declared.Set.{Set}
use Rattle.square_set.specs.declared.Shift.{Shift}
use Rattle.square_set.specs.Members.{has, leads, origin, twice}
use Rattle.attack_tables.specs.declared.pawns.PawnMasks.{PawnMasks}
use Rattle.board_sets.specs.declared.sets.BoardSets.{BoardSets}
use Rattle.board_sets.specs.Sets.{AreSets}
use Rattle.piece_moves.specs.InTurn.{Outside, start_of, target_of}
use Rattle.special_moves.specs.PawnParts.{go}
use Rattle.special_moves.specs.PawnMoves.{FitPawnMoves}

-- the set has the squares of the largest board with no piece
abbrev pub AreFree : List (Option Cell) → Set → Type 0
AreFree cells free = (t : ℕ) → has free t ≡ (nat_lt t 120 && is_none (cell_at cells t))

-- of each board whose sets these are
abbrev pub AreFreeBy : BoardSets → Set → Type 0
AreFreeBy sets free =
    (rules : Rules) (side : Side) (cells : List (Option Cell)) → AreSets rules side cells sets → AreFree cells free

-- a shift to a side leads from the one square to the other
abbrev pub leads_aside : PawnMasks → ℕ → ℕ → Bool
leads_aside masks s t = leads masks.leftward s t || leads masks.rightward s t

-- the set has each square from which a shift to a side leads to the en passant square
abbrev pub HasPassers : PawnMasks → Option Square → Set → Type 0
HasPassers masks ep passers =
    (s t : ℕ) → s < 120 → t < 120 → is_ep ep t ≡ true → leads_aside masks s t ≡ true → has passers s ≡ true

-- a move by the shift from a square that passes the one test to a square that passes the other, which becomes nothing
-- else
abbrev pub IsBy : Shift → (ℕ → Bool) → (ℕ → Bool) → Move → Type 0
IsBy shift starts ends m =
    (go (record { 0 = start_of m }) (record { 0 = target_of m }) Stays ≡ m)
    × (leads shift (start_of m) (target_of m) ≡ true) × (starts (start_of m) ≡ true) × (ends (target_of m) ≡ true)

-- one step to a free square
abbrev pub IsOnce : PawnMasks → Set → Set → Move → Type 0
IsOnce masks pawns free = IsBy masks.ahead (λ s. has pawns s && has masks.once s) (has free)

-- two steps to a free square
abbrev pub IsTwice : PawnMasks → Set → Set → Move → Type 0
IsTwice masks pawns free =
    IsBy (twice masks.ahead) (λ s. (has pawns s && has masks.once s) && has masks.twice s) (has free)

-- two steps over a free square
abbrev pub IsTwiceOver : PawnMasks → Set → Set → Move → Type 0
IsTwiceOver masks pawns free m =
    IsTwice masks pawns free m × (has free (origin masks.ahead (target_of m)) ≡ true)

-- straight forward, one step or two
abbrev pub IsForward : PawnMasks → Set → Set → Move → Type 0
IsForward masks pawns free m = IsOnce masks pawns free m ⊎ IsTwiceOver masks pawns free m

-- onto an enemy, by the shift to the left
abbrev pub IsLeft : PawnMasks → Set → Set → Move → Type 0
IsLeft masks pawns enemies = IsBy masks.leftward (λ s. has pawns s && has masks.left s) (has enemies)

-- onto an enemy, by the shift to the right
abbrev pub IsRight : PawnMasks → Set → Set → Move → Type 0
IsRight masks pawns enemies = IsBy masks.rightward (λ s. has pawns s && has masks.right s) (has enemies)

-- onto an enemy, by the one shift to a side or by the other
abbrev pub IsAcross : PawnMasks → Set → Set → Move → Type 0
IsAcross masks pawns enemies m = IsLeft masks pawns enemies m ⊎ IsRight masks pawns enemies m

-- on each of the squares there is an own pawn
abbrev pub OnOwnPawns : Rules → Repeat → Set → Type 0
OnOwnPawns rules r left = (s : ℕ) → has left s ≡ true → is_own_pawn rules r.side (cell_at r.cells s) ≡ true

-- the moves of the own pawns that are on none of the squares
abbrev pub OfOtherPawns : Rules → Repeat → Set → Move → Type 0
OfOtherPawns rules r left = Outside (FitPawnMoves rules r) start_of left
