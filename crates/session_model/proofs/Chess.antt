-- Chess is the first section that is built in, and is accepted, whatever sections follow: computed.
use Rattle.std.proofs.Common.{◌≡◌, List, ◌++◌, true, Some, refl, is_ok}
use Rattle.std.specs.Prelude.{codes}
use Rattle.variant_ini.specs.Section.{Section}
use Rattle.foundation.specs.Count.{any_below, all_below, first_below, last_below}
use Rattle.rules_model.specs.Attacks.{is_diagonal, attacks_from, stands_between, king_faces, flies_to, attacks, king_attacked_at, king_attacked}
use Rattle.rules_model.specs.Castling.{castling_on, rook_on, rook_file}
use Rattle.rules_model.specs.Ends.{pieces_of}
use Rattle.rules_model.specs.Fit.{has_no_piece, promotes_to_pawn_or_king, chains_promotions, gates_amiss}
use Rattle.rules_model.specs.Movement.{kind_reaches}
use Rattle.rules_model.specs.Reach.{blockers, passes, reaches_over}
use Rattle.rules_model.specs.Sound.{sound_right, sound_gate}
use Rattle.rules_model.specs.Squares.{step_to}
use Rattle.betza_text.specs.SplitPart.{modifier_count, is_doubled, digit_place, digit_count, cut_of, number_place, cut_length, number_value, is_bad_number, number_said, place_of, direction_place, hop_of, part_of}
use Rattle.betza_text.specs.SplitPart.{has as has_letter}
use Rattle.betza_text.specs.Legs.{legs_of}
use Rattle.betza_text.specs.Letters.{is_prefix, is_atom, is_once, is_direction}
use Rattle.betza_text.specs.PartFault.{modifier_fault, modifiers_fault, is_bad_count, is_bad_lame, is_bad_hopper, hopper_place, atom_fault, cut_fault, part_fault}
use Rattle.betza_text.specs.Steps.{shape_of, points, is_rankwise, is_filewise, is_plain_side, leg_along, is_pair, pair_points, is_bad_pair, is_pair_to, are_pairs, are_single, is_clear, picks, steps_of, step_count, is_far, can_be_lame}
use Rattle.betza_text.specs.Word.{first_part, first_length, first_terms}
use Rattle.betza_compile.specs.Terms.{limit_of, way_of}
use Rattle.variant_ini.specs.Cuts.{trimmed, cut_lines}
use Rattle.foundation.specs.Cuts.{cut}
use Rattle.variant_ini.specs.LineKind.{header_of, pair_of, text_kind, line_kind}
use Rattle.variant_ini.specs.OptionValue.{first_named, parent_place, value_within, option_value}
use Rattle.variant_ini.specs.Reading.{sections_of, sections_in_lines, sections_in}
use Rattle.variant_ini.specs.Section.{last_value}
use Rattle.variant_options.specs.BetzaWords.{parts_from, parts_of}
use Rattle.variant_options.specs.LineFaults.{line_fault}
use Rattle.variant_options.specs.Options.{options, option_kind, skipped_keys}
use Rattle.variant_options.specs.Words.{words_of, each_said, listed}
use Rattle.fen_model.specs.Board.{squares_of, row_of, rows_of, cells_from, cells_of}
use Rattle.fen_model.specs.Counts.{side_of, checks_of, count_of}
use Rattle.fen_model.specs.Fields.{pocket_place, fields_of}
use Rattle.fen_model.specs.Held.{are_letters, gate_said, bits_of, may_hold, held_of}
use Rattle.fen_model.specs.Held.{has as has_right}
use Rattle.foundation.specs.Numbers.{are_digits, is_number, number_of, value_after}
use Rattle.fen_model.specs.Passed.{passed_of}
use Rattle.fen_model.specs.Pocket.{no_hands, hands_of}
use Rattle.fen_model.specs.Reading.{judged, said_by, fen_of}
use Rattle.fen_model.specs.Tokens.{tokens_of}
use Rattle.variant_model.specs.Builtin.{builtin_text, builtin_sections}
use Rattle.variant_model.specs.Contradictions.{has_left_twice, contradiction}
use Rattle.variant_model.specs.Entry.{lines_fault, entry_within, entry}
use Rattle.variant_model.specs.Made.{rules_from}
use Rattle.variant_model.specs.PieceLetters.{letter_within, piece_letter, letter_twice}
use Rattle.variant_model.specs.PieceRules.{on_the_board, kind_rule_of}

pub chess_accepted : (more : List Section) → (is_ok (entry (builtin_sections ++ more) 0) ≡ true) × (first_named (builtin_sections ++ more) (codes "chess") ≡ Some 0)
unfolding any_below all_below first_below last_below is_diagonal attacks_from stands_between king_faces flies_to attacks king_attacked_at king_attacked castling_on rook_on rook_file pieces_of has_no_piece promotes_to_pawn_or_king chains_promotions gates_amiss kind_reaches blockers passes reaches_over sound_right sound_gate step_to modifier_count is_doubled digit_place digit_count cut_of number_place cut_length number_value is_bad_number number_said place_of direction_place hop_of part_of has_letter legs_of is_prefix is_atom is_once is_direction modifier_fault modifiers_fault is_bad_count is_bad_lame is_bad_hopper hopper_place atom_fault cut_fault part_fault shape_of points is_rankwise is_filewise is_plain_side leg_along is_pair pair_points is_bad_pair is_pair_to are_pairs are_single is_clear picks steps_of step_count is_far can_be_lame first_part first_length first_terms limit_of way_of trimmed cut cut_lines header_of pair_of text_kind line_kind first_named parent_place value_within option_value sections_of sections_in_lines sections_in last_value parts_from parts_of line_fault options option_kind skipped_keys words_of each_said listed squares_of row_of rows_of cells_from cells_of side_of checks_of count_of pocket_place fields_of are_letters gate_said bits_of may_hold held_of has_right are_digits is_number value_after number_of passed_of no_hands hands_of judged said_by fen_of tokens_of builtin_text builtin_sections has_left_twice contradiction lines_fault entry_within entry rules_from letter_within piece_letter letter_twice on_the_board kind_rule_of
chess_accepted more = (refl, refl)
