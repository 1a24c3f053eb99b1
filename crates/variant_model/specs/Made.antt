-- The rules that a section's options make: which option is which field.
use Rattle.std.specs.Prelude.{ℕ, Bool, true, false, List, [], ◌∷◌, Option, Some, None, Result, Ok, Err, codes, map, replicate}
use Rattle.std.specs.List.{range_with_len}
use Rattle.rules_model.specs.declared.board.Position.{Position}
use Rattle.rules_model.specs.declared.board.Side.TheVariants.{White}
use Rattle.rules_model.specs.declared.rules.Rules.{Rules}
use Rattle.variant_ini.specs.Section.{Section}
use Rattle.variant_ini.specs.OptionValue.{option_value}
use Rattle.variant_options.specs.Letters.{mask_of}
use Rattle.variant_model.specs.PieceLetters.{piece_letter}
use Rattle.variant_options.specs.declared.value.Listed.{Listed}
use Rattle.variant_options.specs.declared.value.Listed.TheVariants.{All, Only}
use Rattle.variant_options.specs.Options as option
use Rattle.variant_model.specs.Contradictions.{contradiction}
use Rattle.variant_model.specs.PieceRules.{Resolved, said, files_of, both_sides, held_letters, held_letter, held_pairs, kind_at}

abbrev pub is_all : Listed → Bool
is_all All = true
is_all (Only mask) = false

-- the kinds that a list names by themselves
abbrev pub listed_kinds : Listed → List Bool
listed_kinds All = mask_of None
listed_kinds (Only mask) = mask

-- what a section says, with what it inherits
abbrev pub resolved : List Section → ℕ → Resolved
resolved sections place = record { value = option_value sections place; letter = piece_letter sections place }

-- a position with no piece
abbrev pub no_position : Position
no_position = record {
  cells = replicate 120 None;
  hands = replicate 26 0 ∷ replicate 26 0 ∷ [];
  gates = 0 ∷ 0 ∷ [];
  counter = 0;
  number = 1;
  rights = (false ∷ false ∷ []) ∷ (false ∷ false ∷ []) ∷ [];
  checks = 0 ∷ 0 ∷ [];
  ep = None;
  side = White;
}

-- the rules, with this start
unfoldable pub rules_from : Resolved → Position → Rules
rules_from section start = record {
  kinds = map (kind_at section) (range_with_len 0 26);
  king = section.letter (codes "king");
  pawn = section.letter (codes "pawn");
  soldier = section.letter (codes "soldier");
  ranks = said section option.max_rank;
  files = files_of section;
  start = start;
  promotion = both_sides section (λ side. said section (option.promotion_region side));
  promotion_kinds = held_letters section (said section option.promotion_piece_types);
  must_promote_pawn = said section option.mandatory_pawn_promotion;
  must_promote_piece = said section option.mandatory_piece_promotion;
  double_step = said section option.double_step;
  double_region = both_sides section (λ side. said section (option.double_step_region side));
  castling = said section option.castling;
  castle_king = said section option.castling_king_file;
  castle_near = said section option.castling_kingside_file;
  castle_far = said section option.castling_queenside_file;
  castle_rank = said section option.castling_rank;
  castle_rooks = held_letters section (said section option.castling_rook_pieces);
  checking = said section option.checking;
  drop_checks = said section option.drop_checks;
  must_capture = said section option.must_capture;
  drops = said section option.piece_drops;
  to_hand = said section option.captures_to_hand;
  pawn_first = said section option.first_rank_pawn_drops;
  pawn_zone = said section option.promotion_zone_pawn_drops;
  drop_region = both_sides section (λ side. said section (option.drop_region side));
  no_doubled = held_letter section (said section option.drop_no_doubled);
  immobile_bad = said section option.immobility_illegal;
  gating = said section option.gating;
  gate_hand = said section option.seirawan_gating;
  n_move = said section option.n_move_rule;
  n_move_kinds = held_letters section (said section option.n_move_rule_types);
  n_fold = said section option.n_fold_rule;
  n_fold_value = said section option.n_fold_value;
  stalemate = said section option.stalemate_value;
  checkmate = said section option.checkmate_value;
  extinction = said section option.extinction_value;
  extinct_kinds = held_letters section (listed_kinds (said section option.extinction_piece_types));
  extinct_all = is_all (said section option.extinction_piece_types);
  extinct_most = said section option.extinction_piece_count;
  extinct_least = said section option.extinction_opponent_piece_count;
  check_counting = said section option.check_counting;
  flag_kind = held_letter section (said section option.flag_piece);
  flag_region = both_sides section (λ side. said section (option.flag_region side));
  flying = said section option.flying_general;
  soldier_rank = said section option.soldier_promotion_rank;
}

-- ---- what is made of them

abbrev pub made_unless : Resolved → Option ℕ → Result Rules ℕ
made_unless section None = Ok (rules_from section no_position)
made_unless section (Some number) = Err number

-- the rules with a start that has no piece, or the smallest number of a contradiction among them
unfoldable pub made : Resolved → Result Rules ℕ
made section = made_unless section (contradiction (rules_from section no_position) (held_pairs section))

-- the text of the start
abbrev pub start_text : Resolved → List ℕ
start_text section = said section option.start_fen
