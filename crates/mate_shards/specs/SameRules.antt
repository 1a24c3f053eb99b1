-- The parts of two variants' rules, by what they are for.
use Rattle.std.specs.Prelude.{◌≡◌}
use Rattle.rules_model.specs.declared.rules.Rules.{Rules}

-- the same regions
abbrev pub SamePlaces : Rules → Rules → Type 0
SamePlaces a b =
    (a.promotion ≡ b.promotion) × (a.double_region ≡ b.double_region) × (a.drop_region ≡ b.drop_region)
    × (a.flag_region ≡ b.flag_region)

-- the same lists of kinds
abbrev pub SameLists : Rules → Rules → Type 0
SameLists a b =
    (a.promotion_kinds ≡ b.promotion_kinds) × (a.castle_rooks ≡ b.castle_rooks)
    × (a.n_move_kinds ≡ b.n_move_kinds) × (a.extinct_kinds ≡ b.extinct_kinds)

-- the same board, files and ranks of castling, and counts of moves
abbrev pub SameSizes : Rules → Rules → Type 0
SameSizes a b =
    (a.n_move ≡ b.n_move) × (a.n_fold ≡ b.n_fold) × (a.files ≡ b.files)
    × (a.ranks ≡ b.ranks) × (a.castle_king ≡ b.castle_king) × (a.castle_near ≡ b.castle_near)
    × (a.castle_far ≡ b.castle_far) × (a.castle_rank ≡ b.castle_rank)

-- the same kinds that a rule names
abbrev pub SameNamed : Rules → Rules → Type 0
SameNamed a b =
    (a.king ≡ b.king) × (a.pawn ≡ b.pawn) × (a.soldier ≡ b.soldier)
    × (a.soldier_rank ≡ b.soldier_rank) × (a.no_doubled ≡ b.no_doubled) × (a.flag_kind ≡ b.flag_kind)

-- the same ends of a game
abbrev pub SameEnds : Rules → Rules → Type 0
SameEnds a b =
    (a.extinct_most ≡ b.extinct_most) × (a.extinct_least ≡ b.extinct_least) × (a.extinction ≡ b.extinction)
    × (a.n_fold_value ≡ b.n_fold_value) × (a.stalemate ≡ b.stalemate) × (a.checkmate ≡ b.checkmate)
    × (a.extinct_all ≡ b.extinct_all) × (a.check_counting ≡ b.check_counting)

-- the same rules of moves, castling and gating
abbrev pub SameMoves : Rules → Rules → Type 0
SameMoves a b =
    (a.must_promote_pawn ≡ b.must_promote_pawn) × (a.must_promote_piece ≡ b.must_promote_piece)
    × (a.double_step ≡ b.double_step) × (a.castling ≡ b.castling)
    × (a.checking ≡ b.checking) × (a.must_capture ≡ b.must_capture)
    × (a.gating ≡ b.gating) × (a.gate_hand ≡ b.gate_hand)

-- the same rules of drops, of pieces that cannot move, and of facing kings
abbrev pub SameDrops : Rules → Rules → Type 0
SameDrops a b =
    (a.drop_checks ≡ b.drop_checks) × (a.drops ≡ b.drops) × (a.to_hand ≡ b.to_hand)
    × (a.pawn_first ≡ b.pawn_first) × (a.pawn_zone ≡ b.pawn_zone) × (a.immobile_bad ≡ b.immobile_bad)
    × (a.flying ≡ b.flying)
