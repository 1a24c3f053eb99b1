-- Legal moves (FIDE Laws of Chess, articles 3.9 and 3.10; Fairy-Stockfish's `checking`, `dropChecks`,
-- `immobilityIllegal`, `mustCapture`).
use Rattle.std.specs.Prelude.{ℕ, List, [], ◌∷◌, ◌++◌, map, replicate, Bool, true, false, not, ◌&&◌, ◌||◌, is_some, if◌then◌else◌, Option, Some, None}
use Rattle.std.specs.List.{list_any, filter, flat_map}
use Rattle.foundation.specs.Count.{any_below, below}
use Rattle.foundation.specs.Tests.{is_nil}
use Rattle.foundation.specs.Order.{in_order}
use Rattle.rules_model.specs.declared.board.Cell.{Cell}
use Rattle.rules_model.specs.declared.board.Kind.{Kind}
use Rattle.rules_model.specs.declared.board.Repeat.{Repeat}
use Rattle.rules_model.specs.declared.board.Side.{Side}
use Rattle.rules_model.specs.declared.board.Square.{Square}
use Rattle.rules_model.specs.declared.moves.Move.{Move}
use Rattle.rules_model.specs.declared.moves.Move.TheVariants.{Go, Castle, Drop}
use Rattle.rules_model.specs.declared.moves.Outcome.{Outcome}
use Rattle.rules_model.specs.declared.moves.Outcome.TheVariants.{Ongoing}
use Rattle.rules_model.specs.declared.moves.Placed.{Placed}
use Rattle.rules_model.specs.declared.moves.Promo.{Promo}
use Rattle.rules_model.specs.declared.moves.Promo.TheVariants.{Stays, Pawn, Plus}
use Rattle.rules_model.specs.declared.rules.Rules.{Rules}
use Rattle.rules_model.specs.Squares.{cell_at}
use Rattle.rules_model.specs.Movement.{kind_reaches}
use Rattle.rules_model.specs.Sides.{other}
use Rattle.rules_model.specs.Kinds.{board_of, is_pawn}
use Rattle.rules_model.specs.Attacks.{ahead, king_attacked}
use Rattle.rules_model.specs.Candidates.{is_candidate}
use Rattle.rules_model.specs.Next.{captures, next_repeat}
use Rattle.rules_model.specs.Ends.{is_ongoing, or_end, early_end, no_move}
use Rattle.rules_model.specs.MoveText.{move_cmp}

-- ---- every conceivable move

abbrev pub every_kind : List (Option Kind)
every_kind = None ∷ map (λ k. Some (record { 0 = k })) (below 26)

abbrev pub every_promo : List Promo
every_promo = Stays ∷ Plus ∷ map (λ k. Pawn (record { 0 = k })) (below 26)

abbrev pub placed_at : ℕ → List (Option Placed)
placed_at kind = map (λ s. Some (record { kind = record { 0 = kind }; at = record { 0 = s } })) (below 120)

abbrev pub every_placed : List (Option Placed)
every_placed = None ∷ flat_map placed_at (below 26)

abbrev pub goes_with : ℕ → ℕ → Promo → List Move
goes_with from to promo = map (λ gate. Go (record { 0 = from }) (record { 0 = to }) promo gate) every_kind

abbrev pub goes_to : ℕ → ℕ → List Move
goes_to from to = flat_map (goes_with from to) every_promo

abbrev pub goes_from : ℕ → List Move
goes_from from = flat_map (goes_to from) (below 120)

abbrev pub castles_with : ℕ → ℕ → ℕ → List Move
castles_with from to rook =
    map (λ gate. Castle (record { 0 = from }) (record { 0 = to }) (record { 0 = rook }) gate) every_placed

abbrev pub castles_to : ℕ → ℕ → List Move
castles_to from to = flat_map (castles_with from to) (below 120)

abbrev pub castles_from : ℕ → List Move
castles_from from = flat_map (castles_to from) (below 120)

abbrev pub drops_of : ℕ → List Move
drops_of kind = map (λ to. Drop (record { 0 = kind }) (record { 0 = to })) (below 120)

-- every conceivable move, in the byte order of the texts: never computed
unfoldable pub every_move : List Move
every_move =
    in_order move_cmp (flat_map goes_from (below 120) ++ flat_map castles_from (below 120)
    ++ flat_map drops_of (below 26))

-- ---- the conditions

-- the move attacks the other king
unfoldable pub gives_check : Rules → Repeat → Move → Bool
gives_check rules r m = king_attacked rules (next_repeat rules r m).cells (other r.side)

-- after it the mover's king is not attacked
unfoldable pub is_safe : Rules → Repeat → Move → Bool
is_safe rules r m = not (king_attacked rules (next_repeat rules r m).cells r.side)

abbrev pub is_drop : Move → Bool
is_drop (Go from to promo gate) = false
is_drop (Castle from to rook gate) = false
is_drop (Drop kind to) = true

-- where the variant forbids checks, or checks by drops, it gives none
unfoldable pub may_check : Rules → Repeat → Move → Bool
may_check rules r m =
    (rules.checking || not (gives_check rules r m))
    && (rules.drop_checks || not (is_drop m) || not (gives_check rules r m))

abbrev pub empty_board : List (Option Cell)
empty_board = replicate 120 None

-- a piece of the kind reaches the square of the otherwise empty board, by any term, quiet or taking
unfoldable pub roams_to : Rules → Side → Kind → Square → ℕ → Bool
roams_to rules side kind from to = kind_reaches rules empty_board side kind (λ t. true) from to

-- a piece of the kind reaches some square of the otherwise empty board; for the pawn, there is a square in front of it
unfoldable pub is_mobile : Rules → Side → Kind → Square → Bool
is_mobile rules side kind from =
    if is_pawn rules kind then is_some (ahead (board_of rules) side from 1)
    else any_below (roams_to rules side kind from) 120

abbrev pub mobile_at : Rules → Side → Square → Option Cell → Bool
mobile_at rules side s None = true
mobile_at rules side s (Some c) = is_mobile rules side c.kind s

-- the piece on the target of a `Go` or a drop can ever move
abbrev pub stays_mobile : Rules → Repeat → Move → Bool
stays_mobile rules r (Go from to promo gate) =
    mobile_at rules r.side to (cell_at (next_repeat rules r (Go from to promo gate)).cells to.0)
stays_mobile rules r (Castle from to rook gate) = true
stays_mobile rules r (Drop kind to) =
    mobile_at rules r.side to (cell_at (next_repeat rules r (Drop kind to)).cells to.0)

-- the four conditions
unfoldable pub is_sane : Rules → Repeat → Move → Bool
is_sane rules r m = is_safe rules r m && may_check rules r m && (not rules.immobile_bad || stays_mobile rules r m)

-- a candidate that meets them
unfoldable pub is_allowed : Rules → Repeat → Move → Bool
is_allowed rules r m = is_candidate rules r m && is_sane rules r m

-- ---- the list

-- only the captures, where one must capture and can
abbrev pub reduced : Rules → Repeat → List Move → List Move
reduced rules r ms = if rules.must_capture && list_any (captures rules r) ms then filter (captures rules r) ms else ms

-- the legal moves in the byte order of their texts: none where the position has an early end
unfoldable pub legal : Rules → Repeat → List Move
legal rules r = if is_ongoing (early_end rules r) then reduced rules r (filter (is_allowed rules r) every_move) else []

-- no move is legal
unfoldable pub is_stuck : Rules → Repeat → Bool
is_stuck rules r = is_nil (legal rules r)

-- an end by itself: an early end, or no legal move
unfoldable pub own_end : Rules → Repeat → Outcome
own_end rules r =
    or_end (early_end rules r) (if is_stuck rules r then no_move rules r.side (king_attacked rules r.cells r.side)
    else Ongoing)
