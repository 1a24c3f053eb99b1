-- Rules that fit: what the options of a variant may say together (the variants.ini documentation of Fairy-Stockfish). A
-- position may be sound for such rules, and every call of the crates above asks for them.
use Rattle.std.specs.Prelude.{◌≡◌, ◌≢◌, ℕ, ◌+◌, ◌<◌, ◌≤◌, min, max, nat_lt, nat_le, Bool, true, false, ◌&&◌, ◌||◌, not, ◌==◌, is_some, is_none, Option, Some, None, List, length, slice_index_or, ℤ, pos, negsuc, nat_abs, int_le}
use Rattle.std.specs.List.{list_all}
use Rattle.foundation.specs.Tests.{same_bool, is_nil}
use Rattle.foundation.specs.Count.{any_below, all_below}
use Rattle.rules_model.specs.declared.board.Kind.{Kind}
use Rattle.rules_model.specs.declared.board.Region.{Region}
use Rattle.rules_model.specs.declared.rules.KindRule.{KindRule}
use Rattle.rules_model.specs.declared.rules.Rules.{Rules}
use Rattle.rules_model.specs.declared.rules.Term.{Term}
use Rattle.rules_model.specs.declared.rules.Way.{Way}
use Rattle.rules_model.specs.declared.rules.Way.TheVariants.{Leap, Lame, Slide, Hop, Grass}
use Rattle.rules_model.specs.Kinds.{kind_rule, has_kind, is_king, is_pawn, masks, promoted_of}
use Rattle.rules_model.specs.Castling.{castling_on}
use Rattle.rules_model.specs.Sound.{on_board}

-- ---- terms

abbrev pub is_within : ℤ → Bool
is_within d = int_le (negsuc 2) d && int_le d (pos 3)

-- a step of Betza's N, A, D, H or G, by its long and its short leg
abbrev pub is_lame_step : ℕ → ℕ → Bool
is_lame_step long short = (long == 2) || ((long == 3) && ((short == 0) || (short == 3)))

abbrev pub fits_way : Way → ℕ → ℕ → ℕ → Bool
fits_way Leap limit long short = limit == 1
fits_way Lame limit long short = (limit == 1) && is_lame_step long short
fits_way Slide limit long short = true
fits_way Hop limit long short = true
fits_way Grass limit long short = true

-- a step of at most three squares each way, at least one multiple of it, for a purpose
unfoldable pub fits_term : Term → Bool
fits_term t =
    is_within t.dx && is_within t.dy && nat_lt 0 (nat_abs t.dx + nat_abs t.dy) && nat_le 1 t.limit && nat_le t.limit 11
    && fits_way t.way t.limit (max (nat_abs t.dx) (nat_abs t.dy)) (min (nat_abs t.dx) (nat_abs t.dy))
    && (t.quiet || t.takes)

-- ---- regions

unfoldable pub region_fits_at : Rules → Region → ℕ → Bool
region_fits_at rules region s = not (slice_index_or region.squares s false) || on_board rules s

-- the region lies on the board
abbrev pub region_fits : Rules → Region → Bool
region_fits rules region = all_below (region_fits_at rules region) 120

-- ---- kinds

abbrev pub is_there : Rules → Option Kind → Bool
is_there rules None = true
is_there rules (Some kind) = has_kind rules kind

-- the pawn is no king, and has neither terms nor a promoted kind
abbrev pub fits_pawn : Rules → Kind → KindRule → Bool
fits_pawn rules kind rule = not (is_king rules kind) && is_nil rule.terms && is_none rule.promoted

abbrev pub fits_rule : Rules → Kind → Option KindRule → Bool
fits_rule rules kind None = true
fits_rule rules kind (Some rule) =
    same_bool rule.pawn (is_pawn rules kind) && (not rule.pawn || fits_pawn rules kind rule)
    && list_all fits_term rule.terms
    && list_all (region_fits rules) rule.mobility && is_there rules rule.promoted

-- the kind's rule fits: it has the mark of the pawn exactly where it is the one that is named
unfoldable pub kind_fits : Rules → ℕ → Bool
kind_fits rules k = fits_rule rules (record { 0 = k }) (kind_rule rules (record { 0 = k }))

-- the kind is there where a mask names it
unfoldable pub mask_fits : Rules → List Bool → ℕ → Bool
mask_fits rules mask k = not (masks mask (record { 0 = k })) || has_kind rules (record { 0 = k })

-- ---- rules that contradict each other

unfoldable pub has_no_piece : Rules → Bool
has_no_piece rules = not (any_below (λ k. has_kind rules (record { 0 = k })) 26)

abbrev pub is_pawn_or_king : Rules → Kind → Bool
is_pawn_or_king rules kind = is_pawn rules kind || is_king rules kind

-- a pawn becomes a pawn or a king
unfoldable pub promotes_to_pawn_or_king : Rules → Bool
promotes_to_pawn_or_king rules =
    any_below (λ k. masks rules.promotion_kinds (record { 0 = k }) && is_pawn_or_king rules (record { 0 = k })) 26

abbrev pub bad_promotion : Rules → Kind → Option Kind → Bool
bad_promotion rules kind None = false
bad_promotion rules kind (Some promoted) =
    is_pawn_or_king rules kind || is_pawn_or_king rules promoted || is_some (promoted_of rules promoted)

-- a pawn or a king is promoted or is what a piece becomes, or a promoted kind is promoted again
unfoldable pub chains_promotions : Rules → Bool
chains_promotions rules =
    any_below (λ k. bad_promotion rules (record { 0 = k }) (promoted_of rules (record { 0 = k }))) 26

abbrev pub is_pawn_named : Rules → Option Kind → Bool
is_pawn_named rules None = false
is_pawn_named rules (Some kind) = is_pawn rules kind

-- hand pieces come in by gates that the variant has not
abbrev pub gates_nowhere : Rules → Bool
gates_nowhere rules = rules.gate_hand && not rules.gating

abbrev pub rook_is_pawn : Rules → Option Kind → Bool
rook_is_pawn rules None = false
rook_is_pawn rules (Some pawn) = masks rules.castle_rooks pawn

-- gates with more files than letters of gates, or with castling on another rank or with pawns
unfoldable pub gates_amiss : Rules → Bool
gates_amiss rules =
    rules.gating && (nat_lt 10 rules.files
    || (castling_on rules && (not (rules.castle_rank == 1) || rook_is_pawn rules rules.pawn)))

-- ---- the whole: a place for each letter, every number in its range, every region on the board, every kind that is
-- named there, and no contradiction. The start is not looked at
pub record IsFit (rules : Rules) : Type 0 where
  pub letters : length rules.kinds ≡ 26
  pub files_least : 1 ≤ rules.files
  pub files_most : rules.files ≤ 12
  pub ranks_least : 1 ≤ rules.ranks
  pub ranks_most : rules.ranks ≤ 10
  pub castle_king : rules.castle_king < 12
  pub castle_near : rules.castle_near < 12
  pub castle_far : rules.castle_far < 12
  pub castle_rank_least : 1 ≤ rules.castle_rank
  pub castle_rank_most : rules.castle_rank ≤ 10
  pub soldier_rank_least : 1 ≤ rules.soldier_rank
  pub soldier_rank_most : rules.soldier_rank ≤ 10
  pub n_move : rules.n_move ≤ 500
  pub n_fold_most : rules.n_fold ≤ 100
  pub n_fold_not_one : rules.n_fold ≢ 1
  pub extinct_most : rules.extinct_most ≤ 240
  pub extinct_least : rules.extinct_least ≤ 240
  pub promotion : list_all (region_fits rules) rules.promotion ≡ true
  pub double_region : list_all (region_fits rules) rules.double_region ≡ true
  pub drop_region : list_all (region_fits rules) rules.drop_region ≡ true
  pub flag_region : list_all (region_fits rules) rules.flag_region ≡ true
  pub kinds : all_below (kind_fits rules) 26 ≡ true
  pub king : is_there rules rules.king ≡ true
  pub pawn : is_there rules rules.pawn ≡ true
  pub soldier : is_there rules rules.soldier ≡ true
  pub soldier_no_pawn : is_pawn_named rules rules.soldier ≡ false
  pub no_doubled : is_there rules rules.no_doubled ≡ true
  pub flag_kind : is_there rules rules.flag_kind ≡ true
  pub promotion_kinds : all_below (mask_fits rules rules.promotion_kinds) 26 ≡ true
  pub castle_rooks : all_below (mask_fits rules rules.castle_rooks) 26 ≡ true
  pub n_move_kinds : all_below (mask_fits rules rules.n_move_kinds) 26 ≡ true
  pub extinct_kinds : all_below (mask_fits rules rules.extinct_kinds) 26 ≡ true
  pub pieces : has_no_piece rules ≡ false
  pub pawn_promotions : promotes_to_pawn_or_king rules ≡ false
  pub piece_promotions : chains_promotions rules ≡ false
  pub hand_gates : gates_nowhere rules ≡ false
  pub gates : gates_amiss rules ≡ false
