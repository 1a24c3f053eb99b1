use Rattle.std.proofs.Common.{ap, ◌∙◌}
use Rattle.variant_options.specs.Options as option
use Rattle.variant_options.specs.Readings.{read_letters, read_region}
use Rattle.variant_options.specs.Letters.{mask_of}
use Rattle.variant_model.specs.Made.{is_all, listed_kinds, rules_from}
use Rattle.variant_model.specs.PieceRules.{held_letter, held_letters, said}
use Rattle.variant_rules.specs.Said.{resolved_at, value_or}
use Rattle.std.specs.Prelude.{codes}
use Rattle.std.proofs.Common.{refl}
use Rattle.variant_rules.proofs.LetterLemmas.{regions_are}
use Rattle.variant_rules.proofs.rules.bare_rules.Goals as goal

pub returns : goal.returns
unfolding rules_from
returns c =
    let promotion =
    c.in_ok-regions.ensures
    ∙ regions_are (resolved_at c.args.section.now) c.board_of-board.result _ _ _ _ (λ side. said (resolved_at c.args.section.now) (option.promotion_region side)) c.board_of-board.ensures
    (ap (value_or (resolved_at c.args.section.now) (codes "promotionRegionWhite") read_region) c.rank_alone.ensures) (ap (value_or (resolved_at c.args.section.now) (codes "promotionRegionBlack") read_region) c.rank_alone-2.ensures) in
    let double_region =
    c.in_ok-regions-2.ensures
    ∙ regions_are (resolved_at c.args.section.now) c.board_of-board.result _ _ _ _ (λ side. said (resolved_at c.args.section.now) (option.double_step_region side)) c.board_of-board.ensures
    (ap (value_or (resolved_at c.args.section.now) (codes "doubleStepRegionWhite") read_region) c.rank_alone-3.ensures) (ap (value_or (resolved_at c.args.section.now) (codes "doubleStepRegionBlack") read_region) c.rank_alone-4.ensures) in
    let drop_region =
    c.in_ok-regions-3.ensures
    ∙ regions_are (resolved_at c.args.section.now) c.board_of-board.result _ _ _ _ (λ side. said (resolved_at c.args.section.now) (option.drop_region side)) c.board_of-board.ensures refl refl in
    let flag_region =
    c.in_ok-regions-4.ensures
    ∙ regions_are (resolved_at c.args.section.now) c.board_of-board.result _ _ _ _ (λ side. said (resolved_at c.args.section.now) (option.flag_region side)) c.board_of-board.ensures refl refl in
    let castle_rooks =
    c.held_by_key-2.ensures
    ∙ ap (λ letter. held_letters (resolved_at c.args.section.now) (value_or (resolved_at c.args.section.now) (codes "castlingRookPieces") read_letters (mask_of letter))) c.letter_at-rook.ensures in
    let n_move_kinds =
    c.held_by_key-3.ensures
    ∙ ap (λ letter. held_letters (resolved_at c.args.section.now) (value_or (resolved_at c.args.section.now) (codes "nMoveRuleTypes") read_letters (mask_of letter))) c.letter_at-pawn.ensures in
    let extinct_kinds =
    c.held_letters.ensures
    ∙ ap (held_letters (resolved_at c.args.section.now)) (c.listed_kinds.ensures ∙ ap listed_kinds c.letters_or_all-extinct.ensures) in
    let no_doubled = c.held_letter.ensures ∙ ap (held_letter (resolved_at c.args.section.now)) c.letter.ensures in
    let flag_kind = c.held_letter-2.ensures ∙ ap (held_letter (resolved_at c.args.section.now)) c.letter-2.ensures in
    let extinct_all = c.is_all.ensures ∙ ap is_all c.letters_or_all-extinct.ensures in
    λ i. record {
      kinds = c.in_ok-kinds.ensures i;
      king = c.letter_at.ensures i;
      pawn = c.letter_at-pawn.ensures i;
      soldier = c.letter_at-2.ensures i;
      ranks = (c.board_of-board.ensures i).ranks;
      files = (c.board_of-board.ensures i).files;
      start = c.no_position.ensures i;
      promotion = promotion i;
      double_region = double_region i;
      drop_region = drop_region i;
      flag_region = flag_region i;
      promotion_kinds = c.held_by_key.ensures i;
      castle_rooks = castle_rooks i;
      n_move_kinds = n_move_kinds i;
      extinct_kinds = extinct_kinds i;
      n_move = c.number.ensures i;
      n_fold = c.fold.ensures i;
      soldier_rank = c.small_number.ensures i;
      castle_rank = c.small_number-2.ensures i;
      extinct_most = c.small_number-3.ensures i;
      extinct_least = c.small_number-4.ensures i;
      no_doubled = no_doubled i;
      flag_kind = flag_kind i;
      castle_king = c.file.ensures.is i;
      castle_near = c.file-2.ensures.is i;
      castle_far = c.file-3.ensures.is i;
      extinction = c.result_or_none.ensures i;
      n_fold_value = c.result.ensures i;
      stalemate = c.result-2.ensures i;
      checkmate = c.result-3.ensures i;
      must_promote_pawn = c.flag.ensures i;
      must_promote_piece = c.flag-2.ensures i;
      double_step = c.flag-3.ensures i;
      castling = c.flag-4.ensures i;
      checking = c.flag-5.ensures i;
      drop_checks = c.flag-6.ensures i;
      must_capture = c.flag-7.ensures i;
      drops = c.flag-8.ensures i;
      to_hand = c.flag-9.ensures i;
      pawn_first = c.flag-10.ensures i;
      pawn_zone = c.flag-11.ensures i;
      immobile_bad = c.flag-12.ensures i;
      gating = c.flag-13.ensures i;
      gate_hand = c.flag-14.ensures i;
      check_counting = c.flag-15.ensures i;
      flying = c.flag-16.ensures i;
      extinct_all = extinct_all i;
    }
