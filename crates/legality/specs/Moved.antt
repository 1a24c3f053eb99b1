-- What is known of a move before its position is made.
use Rattle.std.specs.Prelude.{◌≡◌, ℕ, ◌<◌, Bool, true, false, ◌&&◌, ◌||◌, not, ◌==◌, is_none, Option, Some, None}
use Rattle.rules_model.specs.declared.board.Kind.{Kind}
use Rattle.rules_model.specs.declared.board.Position.{Position}
use Rattle.rules_model.specs.declared.board.Repeat.{Repeat}
use Rattle.rules_model.specs.declared.board.Square.{Square}
use Rattle.rules_model.specs.declared.moves.Move.{Move}
use Rattle.rules_model.specs.declared.moves.Move.TheVariants.{Go, Castle, Drop}
use Rattle.rules_model.specs.declared.moves.Promo.{Promo}
use Rattle.rules_model.specs.declared.moves.Promo.TheVariants.{Stays, Pawn, Plus}
use Rattle.rules_model.specs.declared.rules.Rules.{Rules}
use Rattle.rules_model.specs.Attacks.{is_own, is_own_king}
use Rattle.rules_model.specs.Kinds.{is_king}
use Rattle.rules_model.specs.Legal.{is_drop, is_safe, is_sane}
use Rattle.rules_model.specs.Next.{cells_after}
use Rattle.rules_model.specs.Pawns.{is_ep, is_stays, passes_by}
use Rattle.rules_model.specs.Repeats.{repeat_of}
use Rattle.rules_model.specs.Squares.{cell_at}
use Rattle.next_position.specs.declared.written.OnePut.{OnePut}
use Rattle.next_position.specs.Puts.{put_on}
use Rattle.square_set.specs.declared.Set.{Set}
use Rattle.square_set.specs.declared.Shift.{Shift}
use Rattle.square_set.specs.Members.{has, origin}

-- the variant asks more of the move than that it leaves the own king safe
abbrev pub asks_more : Rules → Move → Bool
asks_more rules m = rules.immobile_bad || not (rules.checking && (rules.drop_checks || not (is_drop m)))

-- the board after the move is the one before it with this put
abbrev pub IsPutBy : Rules → Position → Move → OnePut → Type 0
IsPutBy rules p m put = cells_after rules (repeat_of p) m ≡ put_on put p.cells

-- the piece stays what it is, or is a pawn that becomes a piece other than a king
abbrev pub makes_no_king : Rules → Promo → Bool
makes_no_king rules Stays = true
makes_no_king rules (Pawn kind) = not (is_king rules kind)
makes_no_king rules Plus = false

-- a piece of the free squares goes without a gate and makes no king, to a square without an own piece and not to that
-- of en passant
abbrev pub is_free_go : Rules → Repeat → Set → Set → Move → Bool
is_free_go rules r own free (Go from to promo gate) =
    makes_no_king rules promo && is_none gate && has free from.0 && not (has own to.0) && not (is_ep r.ep to.0)
is_free_go rules r own free (Castle from to rook gate) = false
is_free_go rules r own free (Drop kind to) = false

-- a piece other than a king is dropped on one of the squares that are free to enter
abbrev pub is_free_drop : Rules → Set → Move → Bool
is_free_drop rules enter (Go from to promo gate) = false
is_free_drop rules enter (Castle from to rook gate) = false
is_free_drop rules enter (Drop kind to) = has enter to.0 && not (is_king rules kind)

-- a piece that goes from a square of the set without a gate and makes no king leaves its king safe, unless it takes
-- in passing or takes its own
abbrev pub GoFreely : Rules → Repeat → Set → Set → Type 0
GoFreely rules r own free =
    (from to : Square) (promo : Promo) → from.0 < 120 → to.0 < 120 → has free from.0 ≡ true → has own to.0 ≡ false
    → makes_no_king rules promo ≡ true → passes_by rules r from to.0 ≡ false
    → is_safe rules r (Go from to promo None) ≡ true

-- the same of one that stays what it is, by the board alone
abbrev pub LeaveSafely : Rules → Repeat → Set → Type 0
LeaveSafely rules r free =
    (from to : Square) → from.0 < 120 → to.0 < 120 → has free from.0 ≡ true
    → is_own r.side (λ kind. true) (cell_at r.cells to.0) ≡ false → passes_by rules r from to.0 ≡ false
    → is_safe rules r (Go from to Stays None) ≡ true

-- a piece other than a king that is dropped on a square of the set leaves its king safe
abbrev pub DropFreely : Rules → Repeat → Set → Type 0
DropFreely rules r enter =
    (kind : Kind) (to : Square) → to.0 < 120 → has enter to.0 ≡ true → is_king rules kind ≡ false
    → is_safe rules r (Drop kind to) ≡ true

-- so does an own piece other than a king that goes there, stays what it is and leaves a piece other than a king
-- behind, unless it takes in passing
abbrev pub GateFreely : Rules → Repeat → Set → Set → Set → Type 0
GateFreely rules r own kings enter =
    (kind : Kind) (from to : Square) → from.0 < 120 → to.0 < 120 → has own from.0 ≡ true → has kings from.0 ≡ false
    → has enter to.0 ≡ true → is_king rules kind ≡ false → passes_by rules r from to.0 ≡ false
    → is_safe rules r (Go from to Stays (Some kind)) ≡ true

-- the squares of the set hold own pieces
abbrev pub AreOwn : Repeat → Set → Type 0
AreOwn r set = (s : ℕ) → has set s ≡ true → is_own r.side (λ kind. true) (cell_at r.cells s) ≡ true

-- no square of the set holds an own king
abbrev pub HoldNoKing : Rules → Repeat → Set → Type 0
HoldNoKing rules r set = (s : ℕ) → has set s ≡ true → is_own_king rules r.side (cell_at r.cells s) ≡ false

-- ---- no evasion

-- a piece that goes from a square of the first set to one of the second without a gate, and makes no king, leaves its
-- king attacked
abbrev pub GoWithoutEvading : Rules → Repeat → Set → Set → Type 0
GoWithoutEvading rules r leave enter =
    (from to : Square) (promo : Promo) → from.0 < 120 → to.0 < 120 → has leave from.0 ≡ true → has enter to.0 ≡ true
    → makes_no_king rules promo ≡ true → is_safe rules r (Go from to promo None) ≡ false

-- so does a piece other than a king that is dropped on a square of the set
abbrev pub DropWithoutEvading : Rules → Repeat → Set → Type 0
DropWithoutEvading rules r enter =
    (kind : Kind) (to : Square) → to.0 < 120 → has enter to.0 ≡ true → is_king rules kind ≡ false
    → is_safe rules r (Drop kind to) ≡ false

-- and an own piece other than a king that goes there, stays what it is and leaves a piece other than a king behind
abbrev pub GateWithoutEvading : Rules → Repeat → Set → Set → Set → Type 0
GateWithoutEvading rules r own kings enter =
    (kind : Kind) (from to : Square) → from.0 < 120 → to.0 < 120 → has own from.0 ≡ true → has kings from.0 ≡ false
    → has enter to.0 ≡ true → is_king rules kind ≡ false → is_safe rules r (Go from to Stays (Some kind)) ≡ false

-- an own piece other than a king goes from the square and leaves a piece other than a king behind
abbrev pub leaves_another : Rules → Set → Set → Square → Kind → Bool
leaves_another rules own kings from kind = has own from.0 && not (has kings from.0) && not (is_king rules kind)

-- without a gate a piece goes from a square of 'leave' and makes no king; with one, an own piece other than a king stays
-- what it is and leaves one other than a king behind
abbrev pub leaves_without_evading : Rules → Set → Set → Set → Square → Promo → Option Kind → Bool
leaves_without_evading rules own kings leave from promo None = makes_no_king rules promo && has leave from.0
leaves_without_evading rules own kings leave from promo (Some kind) =
    is_stays promo && leaves_another rules own kings from kind

-- one that does so goes to a square of `enter`, or a piece other than a king is dropped on one
abbrev pub is_no_evasion : Rules → Set → Set → Set → Set → Move → Bool
is_no_evasion rules own kings leave enter (Go from to promo gate) =
    has enter to.0 && leaves_without_evading rules own kings leave from promo gate
is_no_evasion rules own kings leave enter (Castle from to rook gate) = false
is_no_evasion rules own kings leave enter (Drop kind to) = has enter to.0 && not (is_king rules kind)

-- ---- told at once

-- the variant asks no more of a piece that goes and stays what it is than that it leaves the own king safe
abbrev pub asks_only_safety : Rules → Bool
asks_only_safety rules = not rules.immobile_bad && rules.checking

-- outside the set no own piece is taken, and none in passing
abbrev pub IsBarred : Repeat → Set → Set → Type 0
IsBarred r own barred = (s : ℕ) → s < 120 → has barred s ≡ false → (has own s ≡ false) × (is_ep r.ep s ≡ false)

-- a piece that goes from a square of the first set without a gate, and stays what it is, makes a sane move, unless it
-- goes to one of the second
abbrev pub GoAtOnce : Rules → Repeat → Set → Set → Type 0
GoAtOnce rules r leave barred =
    (from to : Square) → from.0 < 120 → to.0 < 120 → has leave from.0 ≡ true → has barred to.0 ≡ false
    → is_sane rules r (Go from to Stays None) ≡ true

-- so does an own piece other than a king that goes to a square of the set, stays what it is and leaves a piece other
-- than a king behind
abbrev pub GateAtOnce : Rules → Repeat → Set → Set → Set → Type 0
GateAtOnce rules r own kings enter =
    (kind : Kind) (from to : Square) → from.0 < 120 → to.0 < 120 → has own from.0 ≡ true → has kings from.0 ≡ false
    → has enter to.0 ≡ true → is_king rules kind ≡ false → is_sane rules r (Go from to Stays (Some kind)) ≡ true

-- a piece that goes from the square to any of the targets, and stays what it is, makes a sane move
abbrev pub MayGo : Rules → Repeat → Square → Set → Type 0
MayGo rules r from targets =
    (to : Square) → to.0 < 120 → has targets to.0 ≡ true → is_sane rules r (Go from to Stays None) ≡ true

-- to each of the targets a piece that goes by the shift, and stays what it is, makes a sane move
abbrev pub MayGoBy : Rules → Repeat → Shift → Set → Type 0
MayGoBy rules r shift targets =
    (to : Square) → to.0 < 120 → has targets to.0 ≡ true
    → is_sane rules r (Go (record { 0 = origin shift to.0 }) to Stays None) ≡ true

-- and one that goes from the square and leaves a piece of the kind behind
abbrev pub MayGate : Rules → Repeat → Square → Kind → Set → Type 0
MayGate rules r from kind targets =
    (to : Square) → to.0 < 120 → has targets to.0 ≡ true → is_sane rules r (Go from to Stays (Some kind)) ≡ true

-- to none of the targets a piece that goes from the square, and stays what it is, makes a sane move
abbrev pub MayNotGo : Rules → Repeat → Square → Set → Type 0
MayNotGo rules r from targets =
    (to : Square) → to.0 < 120 → has targets to.0 ≡ true → is_sane rules r (Go from to Stays None) ≡ false

-- nor does one that goes by the shift
abbrev pub MayNotGoBy : Rules → Repeat → Shift → Set → Type 0
MayNotGoBy rules r shift targets =
    (to : Square) → to.0 < 120 → has targets to.0 ≡ true
    → is_sane rules r (Go (record { 0 = origin shift to.0 }) to Stays None) ≡ false

-- nor one that goes from the square and leaves a piece of the kind behind
abbrev pub MayNotGate : Rules → Repeat → Square → Kind → Set → Type 0
MayNotGate rules r from kind targets =
    (to : Square) → to.0 < 120 → has targets to.0 ≡ true → is_sane rules r (Go from to Stays (Some kind)) ≡ false

-- the variant asks no more of a drop than that it leaves the own king safe
abbrev pub asks_only_safety_of_drops : Rules → Bool
asks_only_safety_of_drops rules = asks_only_safety rules && rules.drop_checks

-- a piece of the kind that is dropped on any of the targets makes a sane move
abbrev pub MayDrop : Rules → Repeat → Kind → Set → Type 0
MayDrop rules r kind targets =
    (to : Square) → to.0 < 120 → has targets to.0 ≡ true → is_sane rules r (Drop kind to) ≡ true

-- one that is dropped on any of the targets makes no sane move
abbrev pub MayNotDrop : Rules → Repeat → Kind → Set → Type 0
MayNotDrop rules r kind targets =
    (to : Square) → to.0 < 120 → has targets to.0 ≡ true → is_sane rules r (Drop kind to) ≡ false

-- the set has those of the targets to which a piece that goes from the square, and stays what it is, makes a sane move
abbrev pub AreSane : Rules → Repeat → Square → Set → Set → Type 0
AreSane rules r from targets sane =
    (to : Square) → has sane to.0 ≡ (has targets to.0 && is_sane rules r (Go from to Stays None))

-- the set has the square and no other
abbrev pub IsOnly : Set → ℕ → Type 0
IsOnly set square = (s : ℕ) → has set s ≡ (s == square)
