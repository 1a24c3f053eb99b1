-- Sections that say the same have the same rules.
use Rattle.std.proofs.Common.{◌≡◌, ℕ, ◌+◌, ◌%◌, ◌/◌, Bool, true, false, ◌&&◌, is_some, nat_lt, List, [], ◌∷◌, Option, Some, None, get_or, map, filter, refl, ap, ◌∙◌, option_and_then}
use Rattle.std.specs.Prelude.{codes, if◌then◌else◌, slice_index_or, unwrap_or}
use Rattle.std.specs.List.{range_with_len}
use Rattle.std.specs.Option.{option_map, option_or}
use Rattle.rules_model.specs.declared.board.Kind.{Kind}
use Rattle.rules_model.specs.declared.board.Region.{Region}
use Rattle.rules_model.specs.declared.board.Side.{Side}
use Rattle.rules_model.specs.declared.board.Side.TheVariants.{White, Black}
use Rattle.rules_model.specs.Kinds.{names}
use Rattle.fen_model.specs.Reading.{fen_of}
use Rattle.variant_options.specs.Letters.{kind, mask_of, mask_where}
use Rattle.variant_options.specs.Options as option
use Rattle.variant_options.specs.Options.{OptionRow, is_pawn_key, is_skipped, mobility_region, read, skipped_keys}
use Rattle.variant_options.specs.PieceTable.{PieceRow, pieces, read_piece, value_word, wordless}
use Rattle.variant_model.specs.declared.fault.SectionFault.TheVariants.{Inconsistent}
use Rattle.variant_model.specs.Contradictions.{contradiction}
use Rattle.variant_model.specs.Entry.{accepted, bare_rules, rules_fault, started_by}
use Rattle.variant_model.specs.Made.{is_all, listed_kinds, no_position, rules_from, start_text}
use Rattle.variant_model.specs.PieceRules.{Resolved, both_sides, files_of, has_piece, held_letter, held_letters, held_pairs, holder, kind_at, kind_rule_of, mobility, on_the_board, piece_word, promoted_by, said, word_terms}
use Rattle.variant_model.proofs.ChainLaws.{named}
use Rattle.variant_model.proofs.ListLemmas.{find-same, found_passes, option_map-same}
use Rattle.variant_model.proofs.ToldLaws.{found_is_piece, is_piece, row_is_piece}

-- two sections say the same of all that their rules depend on
pub record SaysSame (a b : Resolved) : Type 0 where
  -- the options and the regions of pieces
  pub options : (key : List ℕ) → is_piece key ≡ false → is_skipped key ≡ false → a.value key ≡ b.value key
  -- which pieces they have, by which letters
  pub letters : (piece : List ℕ) → is_piece piece ≡ true → a.letter piece ≡ b.letter piece
  -- the values of these pieces
  pub words : (piece : List ℕ) (k : Kind) → is_piece piece ≡ true → b.letter piece ≡ Some k
      → a.value piece ≡ b.value piece

-- ---- the regions that a section says

abbrev promotion_of : Resolved → Side → Region
promotion_of section side = said section (option.promotion_region side)

abbrev double_of : Resolved → Side → Region
double_of section side = said section (option.double_step_region side)

abbrev drop_of : Resolved → Side → Region
drop_of section side = said section (option.drop_region side)

abbrev flag_of : Resolved → Side → Region
flag_of section side = said section (option.flag_region side)

abbrev is_within : ℕ → ℕ → ℕ → Bool
is_within files ranks s = nat_lt (s % 12) files && nat_lt (s / 12) ranks

module _ (a b : Resolved) (same : SaysSame a b) where
  -- ---- options

  said_same : (option : OptionRow) → is_piece option.key ≡ false → is_skipped option.key ≡ false
      → option.default a.letter ≡ option.default b.letter → said a option ≡ said b option
  said_same option no_piece unread default = λ i.
      unwrap_or (option_and_then (read option.values) (same.options option.key no_piece unread i)) (default i)

  letters_by_same : (piece : List ℕ) → is_piece piece ≡ true → mask_of (a.letter piece) ≡ mask_of (b.letter piece)
  letters_by_same piece is = ap mask_of (same.letters piece is)

  -- ---- the board

  ranks_same : said a option.max_rank ≡ said b option.max_rank
  unfolding skipped_keys
  ranks_same = said_same option.max_rank refl refl refl

  files_same : files_of a ≡ files_of b
  unfolding skipped_keys
  files_same = ap (λ n. n + 1) (said_same option.max_file refl refl refl)

  on_board_same : (region other : Region) → region ≡ other → on_the_board a region ≡ on_the_board b other
  unfolding on_the_board
  on_board_same region other is = λ i. record {
    squares =
        map (λ s. slice_index_or (is i).squares s false && is_within (files_same i) (ranks_same i) s)
        (range_with_len 0 120);
  }

  sides_same : (f g : Side → Region) → ((side : Side) → f side ≡ g side) → both_sides a f ≡ both_sides b g
  sides_same f g is = λ i.
      on_board_same (f White) (g White) (is White) i ∷ on_board_same (f Black) (g Black) (is Black) i ∷ []

  -- ---- letters

  holder_same : (k : Kind) → holder a k ≡ holder b k
  holder_same k =
      find-same (λ piece. names (a.letter piece.key) k) (λ piece. names (b.letter piece.key) k) pieces (wordless [])
      (λ i l. ap (λ letter. names letter k) (same.letters (get_or pieces i (wordless [])).key (row_is_piece i l)))

  has_piece_same : (k : Kind) → has_piece a k ≡ has_piece b k
  has_piece_same k = ap is_some (holder_same k)

  held_letters_same : (m n : List Bool) → m ≡ n → held_letters a m ≡ held_letters b n
  held_letters_same m n is = λ i. mask_where (λ k. slice_index_or (is i) k.0 false && has_piece_same k i)

  same_held : (letter : Option Kind) → held_letter a letter ≡ held_letter b letter
  same_held None = refl
  same_held (Some k) = ap (λ has. if has then Some k else None) (has_piece_same k)

  held_letter_same : (k j : Option Kind) → k ≡ j → held_letter a k ≡ held_letter b j
  held_letter_same k j is = same_held k ∙ ap (held_letter b) is

  pairs_same : held_pairs a ≡ held_pairs b
  unfolding skipped_keys
  pairs_same = λ i.
      filter (λ pair. has_piece_same pair.0 i && has_piece_same pair.1 i)
      (said_same option.promoted_piece_type refl refl refl i)

  -- ---- pieces

  mobility_same : (piece : PieceRow) (side : Side) → mobility a piece side ≡ mobility b piece side
  unfolding skipped_keys
  mobility_same piece side = said_same (mobility_region side piece.key) refl refl refl

  word_same : (piece : PieceRow) → a.value piece.key ≡ b.value piece.key → piece_word a piece ≡ piece_word b piece
  word_same piece is = ap (λ value. option_or (value_word (option_and_then read_piece value)) piece.word) is

  rule_same : (k : Kind) (piece : PieceRow) → a.value piece.key ≡ b.value piece.key
      → kind_rule_of a k piece ≡ kind_rule_of b k piece
  unfolding kind_rule_of
  rule_same k piece is = λ i. record {
    terms = word_terms (word_same piece is i);
    mobility = sides_same (mobility a piece) (mobility b piece) (mobility_same piece) i;
    pawn = is_pawn_key piece.key;
    promoted = promoted_by (pairs_same i) k;
  }

  kind_same : (k : ℕ) → kind_at a k ≡ kind_at b k
  kind_same k =
      ap (option_map (kind_rule_of a (kind k))) (holder_same (kind k))
      ∙ option_map-same (kind_rule_of a (kind k)) (kind_rule_of b (kind k)) (holder b (kind k))
      (λ piece found.
      let has : PieceRow → Bool = λ row. names (b.letter row.key) (kind k) in
      let letter = named (b.letter piece.key) (kind k) (found_passes has pieces piece found) in
      rule_same (kind k) piece (same.words piece.key (kind k) (found_is_piece has piece found) letter))

  -- ---- the rules

  promotion_same : both_sides a (promotion_of a) ≡ both_sides b (promotion_of b)
  unfolding skipped_keys
  promotion_same =
      sides_same (promotion_of a) (promotion_of b) (λ side. said_same (option.promotion_region side) refl refl refl)

  double_same : both_sides a (double_of a) ≡ both_sides b (double_of b)
  unfolding skipped_keys
  double_same =
      sides_same (double_of a) (double_of b) (λ side. said_same (option.double_step_region side) refl refl refl)

  drop_same : both_sides a (drop_of a) ≡ both_sides b (drop_of b)
  unfolding skipped_keys
  drop_same = sides_same (drop_of a) (drop_of b) (λ side. said_same (option.drop_region side) refl refl refl)

  flag_same : both_sides a (flag_of a) ≡ both_sides b (flag_of b)
  unfolding skipped_keys
  flag_same = sides_same (flag_of a) (flag_of b) (λ side. said_same (option.flag_region side) refl refl refl)

  extinct_same : said a option.extinction_piece_types ≡ said b option.extinction_piece_types
  unfolding skipped_keys
  extinct_same = said_same option.extinction_piece_types refl refl refl

  bare_same : bare_rules a ≡ bare_rules b
  unfolding rules_from skipped_keys
  bare_same = λ i. record {
    kinds = map (λ k. kind_same k i) (range_with_len 0 26);
    king = same.letters (codes "king") refl i;
    pawn = same.letters (codes "pawn") refl i;
    soldier = same.letters (codes "soldier") refl i;
    ranks = ranks_same i;
    files = files_same i;
    start = no_position;
    promotion = promotion_same i;
    promotion_kinds = held_letters_same _ _ (said_same option.promotion_piece_types refl refl refl) i;
    must_promote_pawn = said_same option.mandatory_pawn_promotion refl refl refl i;
    must_promote_piece = said_same option.mandatory_piece_promotion refl refl refl i;
    double_step = said_same option.double_step refl refl refl i;
    double_region = double_same i;
    castling = said_same option.castling refl refl refl i;
    castle_king = said_same option.castling_king_file refl refl refl i;
    castle_near = said_same option.castling_kingside_file refl refl refl i;
    castle_far = said_same option.castling_queenside_file refl refl refl i;
    castle_rank = said_same option.castling_rank refl refl refl i;
    castle_rooks =
        held_letters_same _ _ (said_same option.castling_rook_pieces refl refl (letters_by_same (codes "rook") refl)) i;
    checking = said_same option.checking refl refl refl i;
    drop_checks = said_same option.drop_checks refl refl refl i;
    must_capture = said_same option.must_capture refl refl refl i;
    drops = said_same option.piece_drops refl refl refl i;
    to_hand = said_same option.captures_to_hand refl refl refl i;
    pawn_first = said_same option.first_rank_pawn_drops refl refl refl i;
    pawn_zone = said_same option.promotion_zone_pawn_drops refl refl refl i;
    drop_region = drop_same i;
    no_doubled = held_letter_same _ _ (said_same option.drop_no_doubled refl refl refl) i;
    immobile_bad = said_same option.immobility_illegal refl refl refl i;
    gating = said_same option.gating refl refl refl i;
    gate_hand = said_same option.seirawan_gating refl refl refl i;
    n_move = said_same option.n_move_rule refl refl refl i;
    n_move_kinds =
        held_letters_same _ _ (said_same option.n_move_rule_types refl refl (letters_by_same (codes "pawn") refl)) i;
    n_fold = said_same option.n_fold_rule refl refl refl i;
    n_fold_value = said_same option.n_fold_value refl refl refl i;
    stalemate = said_same option.stalemate_value refl refl refl i;
    checkmate = said_same option.checkmate_value refl refl refl i;
    extinction = said_same option.extinction_value refl refl refl i;
    extinct_kinds = held_letters_same _ _ (ap listed_kinds extinct_same) i;
    extinct_all = is_all (extinct_same i);
    extinct_most = said_same option.extinction_piece_count refl refl refl i;
    extinct_least = said_same option.extinction_opponent_piece_count refl refl refl i;
    check_counting = said_same option.check_counting refl refl refl i;
    flag_kind = held_letter_same _ _ (said_same option.flag_piece refl refl refl) i;
    flag_region = flag_same i;
    flying = said_same option.flying_general refl refl refl i;
    soldier_rank = said_same option.soldier_promotion_rank refl refl refl i;
  }

  -- ---- what is made of them

  pub rules_fault_same : rules_fault a ≡ rules_fault b
  rules_fault_same = λ i. option_map Inconsistent (contradiction (bare_same i) (pairs_same i))

  start_same : start_text a ≡ start_text b
  unfolding skipped_keys
  start_same = said_same option.start_fen refl refl refl

  pub accepted_same : accepted a ≡ accepted b
  accepted_same = λ i. started_by (bare_same i) (fen_of (bare_same i) (start_same i))
