-- What a piece of a kind reaches in a variant: by the terms of its kind and within its mobility region. A soldier below
-- its rank goes straight forward alone (Fairy-Stockfish's `mobilityRegion..` and `soldierPromotionRank`).
use Rattle.std.specs.Prelude.{ℕ, nat_lt, nat_abs, Bool, ◌&&◌, ◌==◌, if◌then◌else◌, Option, List}
use Rattle.std.specs.List.{list_any, filter}
use Rattle.rules_model.specs.declared.board.Cell.{Cell}
use Rattle.rules_model.specs.declared.board.Kind.{Kind}
use Rattle.rules_model.specs.declared.board.Side.{Side}
use Rattle.rules_model.specs.declared.board.Square.{Square}
use Rattle.rules_model.specs.declared.rules.Rules.{Rules}
use Rattle.rules_model.specs.declared.rules.Term.{Term}
use Rattle.rules_model.specs.Reach.{reaches}
use Rattle.rules_model.specs.Kinds.{board_of, names, terms_of, mobility_of}
use Rattle.rules_model.specs.Regions.{in_region, rank_for}

-- the square lies in the kind's mobility region for the side
abbrev pub in_mobility : Rules → Side → Kind → ℕ → Bool
in_mobility rules side kind s = in_region (mobility_of rules kind) side s

-- a soldier on a rank below that of its promotion
abbrev pub is_held_back : Rules → Side → Kind → Square → Bool
is_held_back rules side kind from = names rules.soldier kind && nat_lt (rank_for rules side from.0) rules.soldier_rank

-- a term along the file
abbrev pub is_straight : Term → Bool
is_straight t = nat_abs t.dx == 0

-- the terms by which a piece of the kind goes from the square: a soldier below its rank has those along its file alone
abbrev pub terms_from : Rules → Side → Kind → Square → List Term
terms_from rules side kind from =
    if is_held_back rules side kind from then filter is_straight (terms_of rules kind) else terms_of rules kind

-- a piece of the side on `from` reaches the square by a term that passes the test
abbrev pub reaches_by : Rules → List (Option Cell) → Side → (Term → Bool) → Square → ℕ → Term → Bool
reaches_by rules cells side test from to t = test t && reaches (board_of rules) cells side t from to

-- by a term that takes
abbrev pub takes_by : Rules → List (Option Cell) → Side → Square → ℕ → Term → Bool
takes_by rules cells side from to t = reaches_by rules cells side (λ t. t.takes) from to t

-- a piece of the kind reaches a square of its mobility region by one of its terms that pass the test. The pawn, a kind
-- of its own, has no terms
unfoldable pub kind_reaches : Rules → List (Option Cell) → Side → Kind → (Term → Bool) → Square → ℕ → Bool
kind_reaches rules cells side kind test from to =
    in_mobility rules side kind to
    && list_any (reaches_by rules cells side test from to) (terms_from rules side kind from)
