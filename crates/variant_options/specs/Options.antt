-- The options of a variants file: for each its key, the kind of its value, and its default (the variants.ini
-- documentation of Fairy-Stockfish; that no piece is promoted to by default is this project's own).
use Rattle.std.specs.Prelude.{ℕ, ◌-◌, Bool, true, false, ◌||◌, List, [], ◌∷◌, ◌++◌, Option, Some, None, codes, if◌then◌else◌}
use Rattle.std.specs.List.{find, list_any}
use Rattle.std.specs.Str.{bytes_eq}
use Rattle.rules_model.specs.declared.board.Kind.{Kind}
use Rattle.rules_model.specs.declared.board.Region.{Region}
use Rattle.rules_model.specs.declared.board.Side.{Side}
use Rattle.rules_model.specs.declared.board.Side.TheVariants.{White, Black}
use Rattle.rules_model.specs.declared.moves.Value.{Value}
use Rattle.rules_model.specs.declared.moves.Value.TheVariants.{Loss, Draw}
use Rattle.variant_options.specs.declared.value.Area.TheVariants.{Rank}
use Rattle.variant_options.specs.declared.value.Listed.{Listed}
use Rattle.variant_options.specs.declared.value.Listed.TheVariants.{Only}
use Rattle.variant_options.specs.declared.value.ValueKind.{ValueKind}
use Rattle.variant_options.specs.declared.value.ValueKind.TheVariants as kind
use Rattle.variant_options.specs.Letters.{mask_of}
use Rattle.foundation.specs.Numbers.{number_within}
use Rattle.variant_options.specs.PieceTable.{PieceRow, pieces}
use Rattle.variant_options.specs.Readings.{region_of, all_squares, read_flag, read_fold, read_file, read_result, read_result_or_none, read_letter, read_letters, read_letters_or_all, read_pairs, read_region}

-- ---- kinds of values

-- what a value of the kind says
abbrev pub Said : ValueKind → Type 0
Said kind.Flag = Bool
Said (kind.Number low high) = ℕ
Said kind.Fold = ℕ
Said kind.File = ℕ
Said kind.Result = Value
Said kind.ResultOrNone = Option Value
Said kind.Letter = Option Kind
Said kind.Letters = List Bool
Said kind.LettersOrAll = Listed
Said kind.Pairs = List (Kind × Kind)
Said kind.Region = Region
Said kind.Position = List ℕ

abbrev pub read : (values : ValueKind) → List ℕ → Option (Said values)
read kind.Flag text = read_flag text
read (kind.Number low high) text = number_within low high text
read kind.Fold text = read_fold text
read kind.File text = read_file text
read kind.Result text = read_result text
read kind.ResultOrNone text = read_result_or_none text
read kind.Letter text = read_letter text
read kind.Letters text = read_letters text
read kind.LettersOrAll text = read_letters_or_all text
read kind.Pairs text = read_pairs text
read kind.Region text = read_region text
read kind.Position text = Some text

-- ---- options

-- the letters of a section's pieces, by their keys
abbrev pub PieceLetters : Type 0
PieceLetters = List ℕ → Option Kind

pub record OptionRow : Type 0 where
  pub key : List ℕ
  pub values : ValueKind
  pub default : PieceLetters → Said values

-- an option whose default depends on no piece
abbrev pub option : List ℕ → (values : ValueKind) → Said values → OptionRow
option key values default = record { key = key; values = values; default = λ _. default }

-- letters, by default that of a piece
abbrev pub letters_by : List ℕ → List ℕ → OptionRow
letters_by key piece = record { key = key; values = kind.Letters; default = λ letter. mask_of (letter piece) }

abbrev pub rank_alone : ℕ → Region
rank_alone rank = region_of (Rank (rank - 1) ∷ [])

abbrev pub no_square : Region
no_square = region_of []

abbrev pub side_name : Side → List ℕ
side_name White = codes "White"
side_name Black = codes "Black"

abbrev pub by_side : Side → Region × Region → Region
by_side White regions = regions.0
by_side Black regions = regions.1

-- a region of a side, by the name that the keys of both sides begin with and the defaults of White and Black
abbrev pub region_option : List ℕ → Side → Region × Region → OptionRow
region_option name side defaults = option (name ++ side_name side) kind.Region (by_side side defaults)

abbrev pub max_rank : OptionRow
max_rank = option (codes "maxRank") (kind.Number 1 10) 8

abbrev pub max_file : OptionRow
max_file = option (codes "maxFile") kind.File 7

abbrev pub start_fen : OptionRow
start_fen = option (codes "startFen") kind.Position (codes "rnbqkbnr/pppppppp/8/8/8/8/PPPPPPPP/RNBQKBNR w KQkq - 0 1")

abbrev pub promotion_region : Side → OptionRow
promotion_region side = region_option (codes "promotionRegion") side (rank_alone 8, rank_alone 1)

abbrev pub promotion_piece_types : OptionRow
promotion_piece_types = option (codes "promotionPieceTypes") kind.Letters (mask_of None)

abbrev pub promoted_piece_type : OptionRow
promoted_piece_type = option (codes "promotedPieceType") kind.Pairs []

abbrev pub mandatory_pawn_promotion : OptionRow
mandatory_pawn_promotion = option (codes "mandatoryPawnPromotion") kind.Flag true

abbrev pub mandatory_piece_promotion : OptionRow
mandatory_piece_promotion = option (codes "mandatoryPiecePromotion") kind.Flag false

abbrev pub double_step : OptionRow
double_step = option (codes "doubleStep") kind.Flag true

abbrev pub double_step_region : Side → OptionRow
double_step_region side = region_option (codes "doubleStepRegion") side (rank_alone 2, rank_alone 7)

abbrev pub castling : OptionRow
castling = option (codes "castling") kind.Flag true

abbrev pub castling_king_file : OptionRow
castling_king_file = option (codes "castlingKingFile") kind.File 4

abbrev pub castling_kingside_file : OptionRow
castling_kingside_file = option (codes "castlingKingsideFile") kind.File 6

abbrev pub castling_queenside_file : OptionRow
castling_queenside_file = option (codes "castlingQueensideFile") kind.File 2

abbrev pub castling_rank : OptionRow
castling_rank = option (codes "castlingRank") (kind.Number 1 10) 1

abbrev pub castling_rook_pieces : OptionRow
castling_rook_pieces = letters_by (codes "castlingRookPieces") (codes "rook")

abbrev pub checking : OptionRow
checking = option (codes "checking") kind.Flag true

abbrev pub drop_checks : OptionRow
drop_checks = option (codes "dropChecks") kind.Flag true

abbrev pub must_capture : OptionRow
must_capture = option (codes "mustCapture") kind.Flag false

abbrev pub piece_drops : OptionRow
piece_drops = option (codes "pieceDrops") kind.Flag false

abbrev pub captures_to_hand : OptionRow
captures_to_hand = option (codes "capturesToHand") kind.Flag false

abbrev pub first_rank_pawn_drops : OptionRow
first_rank_pawn_drops = option (codes "firstRankPawnDrops") kind.Flag false

abbrev pub promotion_zone_pawn_drops : OptionRow
promotion_zone_pawn_drops = option (codes "promotionZonePawnDrops") kind.Flag false

abbrev pub drop_region : Side → OptionRow
drop_region side = region_option (codes "dropRegion") side (all_squares, all_squares)

abbrev pub drop_no_doubled : OptionRow
drop_no_doubled = option (codes "dropNoDoubled") kind.Letter None

abbrev pub immobility_illegal : OptionRow
immobility_illegal = option (codes "immobilityIllegal") kind.Flag false

abbrev pub gating : OptionRow
gating = option (codes "gating") kind.Flag false

abbrev pub seirawan_gating : OptionRow
seirawan_gating = option (codes "seirawanGating") kind.Flag false

abbrev pub n_move_rule : OptionRow
n_move_rule = option (codes "nMoveRule") (kind.Number 0 500) 50

abbrev pub n_move_rule_types : OptionRow
n_move_rule_types = letters_by (codes "nMoveRuleTypes") (codes "pawn")

abbrev pub n_fold_rule : OptionRow
n_fold_rule = option (codes "nFoldRule") kind.Fold 3

abbrev pub n_fold_value : OptionRow
n_fold_value = option (codes "nFoldValue") kind.Result Draw

abbrev pub stalemate_value : OptionRow
stalemate_value = option (codes "stalemateValue") kind.Result Draw

abbrev pub checkmate_value : OptionRow
checkmate_value = option (codes "checkmateValue") kind.Result Loss

abbrev pub extinction_value : OptionRow
extinction_value = option (codes "extinctionValue") kind.ResultOrNone None

abbrev pub extinction_piece_types : OptionRow
extinction_piece_types = option (codes "extinctionPieceTypes") kind.LettersOrAll (Only (mask_of None))

abbrev pub extinction_piece_count : OptionRow
extinction_piece_count = option (codes "extinctionPieceCount") (kind.Number 0 240) 0

abbrev pub extinction_opponent_piece_count : OptionRow
extinction_opponent_piece_count = option (codes "extinctionOpponentPieceCount") (kind.Number 0 240) 0

abbrev pub check_counting : OptionRow
check_counting = option (codes "checkCounting") kind.Flag false

abbrev pub flag_piece : OptionRow
flag_piece = option (codes "flagPiece") kind.Letter None

abbrev pub flag_region : Side → OptionRow
flag_region side = region_option (codes "flagRegion") side (no_square, no_square)

abbrev pub flying_general : OptionRow
flying_general = option (codes "flyingGeneral") kind.Flag false

abbrev pub soldier_promotion_rank : OptionRow
soldier_promotion_rank = option (codes "soldierPromotionRank") (kind.Number 1 10) 1

-- the options, but for the regions of pieces
unfoldable pub options : List OptionRow
options =
    max_rank ∷ max_file ∷ start_fen
    ∷ promotion_region White ∷ promotion_region Black ∷ promotion_piece_types ∷ promoted_piece_type
    ∷ mandatory_pawn_promotion ∷ mandatory_piece_promotion
    ∷ double_step ∷ double_step_region White ∷ double_step_region Black
    ∷ castling ∷ castling_king_file ∷ castling_kingside_file ∷ castling_queenside_file ∷ castling_rank
    ∷ castling_rook_pieces
    ∷ checking ∷ drop_checks ∷ must_capture
    ∷ piece_drops ∷ captures_to_hand ∷ first_rank_pawn_drops ∷ promotion_zone_pawn_drops
    ∷ drop_region White ∷ drop_region Black ∷ drop_no_doubled ∷ immobility_illegal
    ∷ gating ∷ seirawan_gating
    ∷ n_move_rule ∷ n_move_rule_types ∷ n_fold_rule ∷ n_fold_value ∷ stalemate_value ∷ checkmate_value
    ∷ extinction_value ∷ extinction_piece_types ∷ extinction_piece_count ∷ extinction_opponent_piece_count
    ∷ check_counting ∷ flag_piece ∷ flag_region White ∷ flag_region Black
    ∷ flying_general ∷ soldier_promotion_rank
    ∷ []

-- ---- the regions of pieces

abbrev pub to_upper : ℕ → ℕ
to_upper b = b - 32

-- with its first letter, a lower-case one, in upper case
abbrev pub capitalized : List ℕ → List ℕ
capitalized [] = []
capitalized (b ∷ bs) = to_upper b ∷ bs

abbrev pub mobility_key : Side → List ℕ → List ℕ
mobility_key side piece = codes "mobilityRegion" ++ side_name side ++ capitalized piece

-- where a side's pieces of the key may go
abbrev pub mobility_region : Side → List ℕ → OptionRow
mobility_region side piece = option (mobility_key side piece) kind.Region all_squares

abbrev pub is_pawn_key : List ℕ → Bool
is_pawn_key key = bytes_eq key (codes "pawn")

-- the keys of the regions of a piece for White and Black; the chess pawn has none
abbrev pub region_keys : PieceRow → Option (List ℕ × List ℕ)
region_keys piece =
    if is_pawn_key piece.key then None else Some (mobility_key White piece.key, mobility_key Black piece.key)

abbrev pub is_region_key : Option (List ℕ × List ℕ) → List ℕ → Bool
is_region_key None key = false
is_region_key (Some keys) key = bytes_eq keys.0 key || bytes_eq keys.1 key

-- the key is that of a region of some piece
abbrev pub is_mobility_key : List ℕ → Bool
is_mobility_key key = list_any (λ piece. is_region_key (region_keys piece) key) pieces

-- ---- by the key

abbrev pub kind_from : Option OptionRow → Bool → Option ValueKind
kind_from (Some option) mobility = Some option.values
kind_from None true = Some kind.Region
kind_from None false = None

-- the kind of an option's values
unfoldable pub option_kind : List ℕ → Option ValueKind
option_kind key = kind_from (find (λ option. bytes_eq option.key key) options) (is_mobility_key key)

-- ---- keys that are read over

unfoldable pub skipped_keys : List (List ℕ)
skipped_keys =
    codes "variantTemplate" ∷ codes "pieceToCharTable" ∷ codes "pocketSize" ∷ codes "pieceValueMg"
    ∷ codes "pieceValueEg" ∷ []

abbrev pub is_skipped : List ℕ → Bool
is_skipped key = list_any (λ skipped. bytes_eq skipped key) skipped_keys
