-- The lines of the sections that are built in.
use Rattle.std.proofs.Common.{◌≡◌, false, refl}
use Rattle.std.specs.Prelude.{is_some}
use Rattle.std.specs.List.{list_any}
use Rattle.foundation.specs.Count.{first_below}
use Rattle.betza_text.specs.SplitPart.{modifier_count, is_doubled, digit_place, digit_count, cut_of, number_place, cut_length, number_value, is_bad_number, number_said, has, place_of, direction_place, hop_of, part_of}
use Rattle.betza_text.specs.Letters.{is_prefix, is_atom, is_once, is_direction}
use Rattle.betza_text.specs.PartFault.{modifier_fault, modifiers_fault, is_bad_count, is_bad_lame, is_bad_hopper, hopper_place, atom_fault, cut_fault, part_fault}
use Rattle.betza_text.specs.Steps.{shape_of, points, is_rankwise, is_filewise, is_plain_side, leg_along, is_pair, pair_points, is_bad_pair, is_pair_to, are_pairs, are_single, is_clear, picks, steps_of, step_count, is_far, can_be_lame}
use Rattle.betza_text.specs.Word.{first_part, first_length, first_terms}
use Rattle.variant_ini.specs.Cuts.{trimmed, cut_lines}
use Rattle.foundation.specs.Cuts.{cut}
use Rattle.variant_ini.specs.LineKind.{header_of, pair_of, text_kind, line_kind}
use Rattle.variant_ini.specs.Reading.{sections_of, sections_in_lines, sections_in}
use Rattle.variant_ini.specs.Section.{last_value}
use Rattle.variant_options.specs.BetzaWords.{parts_from, parts_of}
use Rattle.variant_options.specs.LineFaults.{line_fault}
use Rattle.foundation.specs.Numbers.{are_digits, is_number, number_of, value_after}
use Rattle.variant_options.specs.Options.{options, option_kind, skipped_keys}
use Rattle.variant_options.specs.Words.{words_of, each_said, listed}
use Rattle.variant_model.specs.Builtin.{builtin_text, builtin_sections}
use Rattle.variant_model.specs.Entry.{lines_fault, own_fault}
use Rattle.variant_model.specs.PieceLetters.{letter_twice}

-- no section has a faulty line or a letter of two pieces
no_fault : list_any (λ section. is_some (own_fault section.lines)) builtin_sections ≡ false
unfolding modifier_count is_doubled digit_place digit_count cut_of number_place cut_length number_value is_bad_number number_said has place_of direction_place hop_of part_of is_prefix is_atom is_once is_direction modifier_fault modifiers_fault is_bad_count is_bad_lame is_bad_hopper hopper_place atom_fault cut_fault part_fault shape_of points is_rankwise is_filewise is_plain_side leg_along is_pair pair_points is_bad_pair is_pair_to are_pairs are_single is_clear picks steps_of step_count is_far can_be_lame first_part first_length first_terms trimmed cut cut_lines header_of pair_of text_kind line_kind sections_of sections_in_lines sections_in last_value parts_from parts_of line_fault value_after number_of is_number are_digits options option_kind skipped_keys words_of each_said listed first_below lines_fault letter_twice builtin_text builtin_sections
no_fault = refl
