-- Rules are fit that pass a test, which computes.
use Rattle.std.proofs.Common.{◌≡◌, ℕ, ◌<◌, Bool, true, false, not, ◌&&◌, ◌==◌, nat_lt, nat_le, length, refl, arith}
use Rattle.std.specs.List.{list_all}
use Rattle.std.proofs.lemmas.Bool.{and_parts, leb-true}
use Rattle.std.proofs.lemmas.Bool.Decides.{nat_tests}
use Rattle.foundation.specs.Count.{any_below, all_below, first_below, last_below}
use Rattle.rules_model.specs.declared.rules.Rules.{Rules}
use Rattle.rules_model.specs.Attacks.{is_diagonal, attacks_from, stands_between, king_faces, flies_to, attacks, king_attacked_at, king_attacked, pawn_could_take}
use Rattle.rules_model.specs.Castling.{castling_on, rook_on, rook_file}
use Rattle.rules_model.specs.Ends.{pieces_of}
use Rattle.rules_model.specs.Movement.{kind_reaches}
use Rattle.rules_model.specs.Reach.{blockers, passes, reaches_over}
use Rattle.rules_model.specs.Sizes.{has_sizes}
use Rattle.rules_model.specs.Sound.{sound_at, sound_in_hand, sound_right, sound_gate, is_sound_side, is_sound_repeat, is_sound}
use Rattle.rules_model.specs.Squares.{step_to}
use Rattle.rules_model.specs.Fit.{IsFit, chains_promotions, fits_term, gates_amiss, gates_nowhere, has_no_piece, is_pawn_named, is_there, kind_fits, mask_fits, promotes_to_pawn_or_king, region_fits, region_fits_at}
use Rattle.sample_rules.specs.Base.{base}
use Rattle.sample_rules.specs.Pieces.{with, with_bound_piece, with_piece, with_promoted_piece, with_pawn}
use Rattle.sample_rules.specs.Positions.{cells_of, hand_of}
use Rattle.sample_rules.specs.Regions.{area_of, mask_of}

-- all that a test of a variant opens
unfoldable pub opened : Unit {0}
unfolding with with_bound_piece with_piece with_promoted_piece with_pawn cells_of hand_of rook_file rook_on kind_reaches stands_between king_faces flies_to has_sizes is_sound is_sound_repeat is_sound_side sound_at sound_gate sound_in_hand sound_right pieces_of king_attacked king_attacked_at attacks attacks_from is_diagonal reaches_over passes blockers step_to pawn_could_take first_below last_below any_below all_below castling_on chains_promotions fits_term gates_amiss has_no_piece kind_fits mask_fits promotes_to_pawn_or_king region_fits_at base area_of mask_of
opened = tt

less : (m n : ℕ) → nat_lt m n ≡ true → m < n
less m n h = grind (arith, nat_tests)

same : (m n : ℕ) → (m == n) ≡ true → m ≡ n
same m n h = grind (arith, nat_tests)

differs : (m n : ℕ) → not (m == n) ≡ true → m ≡ n → ⊥
differs m n h e = grind (arith, nat_tests)

is_false : (b : Bool) → not b ≡ true → b ≡ false
is_false true h = cc
is_false false h = refl

abbrev pub fits : Rules → Bool
fits rules =
    (length rules.kinds == 26)
    && (nat_le 1 rules.files)
    && (nat_le rules.files 12)
    && (nat_le 1 rules.ranks)
    && (nat_le rules.ranks 10)
    && (nat_lt rules.castle_king 12)
    && (nat_lt rules.castle_near 12)
    && (nat_lt rules.castle_far 12)
    && (nat_le 1 rules.castle_rank)
    && (nat_le rules.castle_rank 10)
    && (nat_le 1 rules.soldier_rank)
    && (nat_le rules.soldier_rank 10)
    && (nat_le rules.n_move 500)
    && (nat_le rules.n_fold 100)
    && (not (rules.n_fold == 1))
    && (nat_le rules.extinct_most 240)
    && (nat_le rules.extinct_least 240)
    && (list_all (region_fits rules) rules.promotion)
    && (list_all (region_fits rules) rules.double_region)
    && (list_all (region_fits rules) rules.drop_region)
    && (list_all (region_fits rules) rules.flag_region)
    && (all_below (kind_fits rules) 26)
    && (is_there rules rules.king)
    && (is_there rules rules.pawn)
    && (is_there rules rules.soldier)
    && (not (is_pawn_named rules rules.soldier))
    && (is_there rules rules.no_doubled)
    && (is_there rules rules.flag_kind)
    && (all_below (mask_fits rules rules.promotion_kinds) 26)
    && (all_below (mask_fits rules rules.castle_rooks) 26)
    && (all_below (mask_fits rules rules.n_move_kinds) 26)
    && (all_below (mask_fits rules rules.extinct_kinds) 26)
    && (not (has_no_piece rules))
    && (not (promotes_to_pawn_or_king rules))
    && (not (chains_promotions rules))
    && (not (gates_nowhere rules))
    && (not (gates_amiss rules))

pub fit-from : (rules : Rules) → fits rules ≡ true → IsFit rules
fit-from rules h0 =
    let h1 = and_parts _ (not (gates_amiss rules)) h0 in
    let h2 = and_parts _ (not (gates_nowhere rules)) h1.0 in
    let h3 = and_parts _ (not (chains_promotions rules)) h2.0 in
    let h4 = and_parts _ (not (promotes_to_pawn_or_king rules)) h3.0 in
    let h5 = and_parts _ (not (has_no_piece rules)) h4.0 in
    let h6 = and_parts _ (all_below (mask_fits rules rules.extinct_kinds) 26) h5.0 in
    let h7 = and_parts _ (all_below (mask_fits rules rules.n_move_kinds) 26) h6.0 in
    let h8 = and_parts _ (all_below (mask_fits rules rules.castle_rooks) 26) h7.0 in
    let h9 = and_parts _ (all_below (mask_fits rules rules.promotion_kinds) 26) h8.0 in
    let h10 = and_parts _ (is_there rules rules.flag_kind) h9.0 in
    let h11 = and_parts _ (is_there rules rules.no_doubled) h10.0 in
    let h12 = and_parts _ (not (is_pawn_named rules rules.soldier)) h11.0 in
    let h13 = and_parts _ (is_there rules rules.soldier) h12.0 in
    let h14 = and_parts _ (is_there rules rules.pawn) h13.0 in
    let h15 = and_parts _ (is_there rules rules.king) h14.0 in
    let h16 = and_parts _ (all_below (kind_fits rules) 26) h15.0 in
    let h17 = and_parts _ (list_all (region_fits rules) rules.flag_region) h16.0 in
    let h18 = and_parts _ (list_all (region_fits rules) rules.drop_region) h17.0 in
    let h19 = and_parts _ (list_all (region_fits rules) rules.double_region) h18.0 in
    let h20 = and_parts _ (list_all (region_fits rules) rules.promotion) h19.0 in
    let h21 = and_parts _ (nat_le rules.extinct_least 240) h20.0 in
    let h22 = and_parts _ (nat_le rules.extinct_most 240) h21.0 in
    let h23 = and_parts _ (not (rules.n_fold == 1)) h22.0 in
    let h24 = and_parts _ (nat_le rules.n_fold 100) h23.0 in
    let h25 = and_parts _ (nat_le rules.n_move 500) h24.0 in
    let h26 = and_parts _ (nat_le rules.soldier_rank 10) h25.0 in
    let h27 = and_parts _ (nat_le 1 rules.soldier_rank) h26.0 in
    let h28 = and_parts _ (nat_le rules.castle_rank 10) h27.0 in
    let h29 = and_parts _ (nat_le 1 rules.castle_rank) h28.0 in
    let h30 = and_parts _ (nat_lt rules.castle_far 12) h29.0 in
    let h31 = and_parts _ (nat_lt rules.castle_near 12) h30.0 in
    let h32 = and_parts _ (nat_lt rules.castle_king 12) h31.0 in
    let h33 = and_parts _ (nat_le rules.ranks 10) h32.0 in
    let h34 = and_parts _ (nat_le 1 rules.ranks) h33.0 in
    let h35 = and_parts _ (nat_le rules.files 12) h34.0 in
    let h36 = and_parts _ (nat_le 1 rules.files) h35.0 in
    record {
      letters = same _ _ (h36.0);
      files_least = leb-true _ _ (h36.1);
      files_most = leb-true _ _ (h35.1);
      ranks_least = leb-true _ _ (h34.1);
      ranks_most = leb-true _ _ (h33.1);
      castle_king = less _ _ (h32.1);
      castle_near = less _ _ (h31.1);
      castle_far = less _ _ (h30.1);
      castle_rank_least = leb-true _ _ (h29.1);
      castle_rank_most = leb-true _ _ (h28.1);
      soldier_rank_least = leb-true _ _ (h27.1);
      soldier_rank_most = leb-true _ _ (h26.1);
      n_move = leb-true _ _ (h25.1);
      n_fold_most = leb-true _ _ (h24.1);
      n_fold_not_one = differs _ _ (h23.1);
      extinct_most = leb-true _ _ (h22.1);
      extinct_least = leb-true _ _ (h21.1);
      promotion = h20.1;
      double_region = h19.1;
      drop_region = h18.1;
      flag_region = h17.1;
      kinds = h16.1;
      king = h15.1;
      pawn = h14.1;
      soldier = h13.1;
      soldier_no_pawn = is_false _ (h12.1);
      no_doubled = h11.1;
      flag_kind = h10.1;
      promotion_kinds = h9.1;
      castle_rooks = h8.1;
      n_move_kinds = h7.1;
      extinct_kinds = h6.1;
      pieces = is_false _ (h5.1);
      pawn_promotions = is_false _ (h4.1);
      piece_promotions = is_false _ (h3.1);
      hand_gates = is_false _ (h2.1);
      gates = is_false _ (h1.1);
    }
