-- A proof text, read line by line, and texts with one change.
use Rattle.std.proofs.Common.{◌≡◌, ℕ, ◌-◌, List, [], ◌∷◌, Result, Ok, Err, length, map, take, set, refl}
use Rattle.std.specs.Prelude.{codes}
use Rattle.io_ports.specs.Lines.{Line, Text}
use Rattle.rules_model.specs.declared.board.Side.{Side}
use Rattle.rules_model.specs.declared.board.Side.TheVariants.{White, Black}
use Rattle.foundation.specs.Count.{any_below, all_below, first_below, last_below}
use Rattle.rules_model.specs.Attacks.{is_diagonal, attacks_from, stands_between, king_faces, flies_to, attacks, king_attacked_at, king_attacked}
use Rattle.rules_model.specs.Castling.{castling_on, rook_on, rook_file}
use Rattle.rules_model.specs.Ends.{pieces_of}
use Rattle.rules_model.specs.Fit.{has_no_piece, promotes_to_pawn_or_king, chains_promotions, gates_amiss}
use Rattle.rules_model.specs.Movement.{kind_reaches}
use Rattle.rules_model.specs.Reach.{blockers, passes, reaches_over}
use Rattle.rules_model.specs.Sound.{sound_right, sound_gate}
use Rattle.rules_model.specs.Squares.{step_to}
use Rattle.betza_text.specs.SplitPart.{modifier_count, is_doubled, digit_place, digit_count, cut_of, number_place, cut_length, number_value, is_bad_number, number_said, place_of, direction_place, hop_of, part_of}
use Rattle.betza_text.specs.SplitPart.{has as has_letter}
use Rattle.betza_text.specs.Legs.{legs_of}
use Rattle.betza_text.specs.Letters.{is_prefix, is_atom, is_once, is_direction}
use Rattle.betza_text.specs.PartFault.{modifier_fault, modifiers_fault, is_bad_count, is_bad_lame, is_bad_hopper, hopper_place, atom_fault, cut_fault, part_fault}
use Rattle.betza_text.specs.Steps.{shape_of, points, is_rankwise, is_filewise, is_plain_side, leg_along, is_pair, pair_points, is_bad_pair, is_pair_to, are_pairs, are_single, is_clear, picks, steps_of, step_count, is_far, can_be_lame}
use Rattle.betza_text.specs.Word.{first_part, first_length, first_terms}
use Rattle.betza_compile.specs.Terms.{limit_of, way_of}
use Rattle.variant_ini.specs.LineKind.{header_of, pair_of, text_kind, line_kind}
use Rattle.variant_ini.specs.OptionValue.{first_named, parent_place, value_within, option_value}
use Rattle.variant_ini.specs.Section.{last_value}
use Rattle.variant_options.specs.BetzaWords.{parts_from, parts_of}
use Rattle.variant_options.specs.LineFaults.{line_fault}
use Rattle.variant_options.specs.Options.{options, option_kind, skipped_keys}
use Rattle.variant_options.specs.Words.{words_of, each_said, listed}
use Rattle.fen_model.specs.Board.{squares_of, row_of, rows_of, cells_from, cells_of}
use Rattle.fen_model.specs.Counts.{side_of, checks_of, count_of}
use Rattle.fen_model.specs.Fields.{pocket_place, fields_of}
use Rattle.fen_model.specs.Held.{are_letters, gate_said, bits_of, may_hold, held_of}
use Rattle.fen_model.specs.Held.{has as has_right}
use Rattle.foundation.specs.Numbers.{are_digits, is_number, number_of, value_after}
use Rattle.fen_model.specs.Passed.{is_passed, passed_of}
use Rattle.fen_model.specs.Pocket.{no_hands, hands_of}
use Rattle.fen_model.specs.Reading.{judged, said_by, fen_of}
use Rattle.fen_model.specs.Tokens.{tokens_of}
use Rattle.variant_model.specs.Contradictions.{has_left_twice, contradiction}
use Rattle.variant_model.specs.Entry.{lines_fault, entry_within, entry}
use Rattle.variant_model.specs.Made.{rules_from}
use Rattle.variant_model.specs.PieceLetters.{letter_within, piece_letter, letter_twice}
use Rattle.variant_model.specs.PieceRules.{on_the_board, kind_rule_of}
use Rattle.variant_ini.specs.Cuts.{trimmed}
use Rattle.foundation.specs.Cuts.{cut}
use Rattle.move_text.specs.Read.{castle_to, castle_said, drop_said, move_said}
use Rattle.move_text.specs.Squares.{square_front, squares_front}
use Rattle.strategy.specs.Said.{attacker_said, count_said, node_said, edge_said, said}
use Rattle.strategy.specs.Needed.{lines_on}
use Rattle.strategy.specs.Reading.{with_node, with_edge, with_said, with_text, step, taken, strategy_of, with_last_edge}
use Rattle.strategy.specs.declared.fault.StrategyFault.TheVariants as body
use Rattle.proof_text.specs.declared.fault.ProofFault.{ProofFault}
use Rattle.proof_text.specs.declared.fault.ProofFault.TheVariants.{Header, BadRules, RefusedRules, BadStart, BadHistory, BadBody}
use Rattle.proof_text.specs.declared.proof.Proof.{Proof}
use Rattle.proof_text.specs.Words.{rules_said, start_said, history_said, goal_said}
use Rattle.proof_text.specs.Pairs.{is_read_back, pair_said}
use Rattle.proof_text.specs.Reading.{line_on, body_on, goal_on, moves_on, history_on, start_on, rules_of, pairs_on, rules_on, proof_on, lines_of_proof, proof_of}
use Rattle.variant_model.specs.declared.fault.SectionFault.TheVariants.{LetterTwice}
use Rattle.fen_model.specs.declared.fault.FenFault.TheVariants.{Rank}
use Rattle.variant_options.specs.Letters.{kind}

unfoldable opened : Unit {0}
unfolding any_below all_below first_below last_below is_diagonal attacks_from stands_between king_faces flies_to attacks king_attacked_at king_attacked castling_on rook_on rook_file pieces_of has_no_piece promotes_to_pawn_or_king chains_promotions gates_amiss kind_reaches blockers passes reaches_over sound_right sound_gate step_to modifier_count is_doubled digit_place digit_count cut_of number_place cut_length number_value is_bad_number number_said place_of direction_place hop_of part_of has_letter legs_of is_prefix is_atom is_once is_direction modifier_fault modifiers_fault is_bad_count is_bad_lame is_bad_hopper hopper_place atom_fault cut_fault part_fault shape_of points is_rankwise is_filewise is_plain_side leg_along is_pair pair_points is_bad_pair is_pair_to are_pairs are_single is_clear picks steps_of step_count is_far can_be_lame first_part first_length first_terms limit_of way_of header_of pair_of text_kind line_kind first_named parent_place value_within option_value last_value parts_from parts_of line_fault options option_kind skipped_keys words_of each_said listed squares_of row_of rows_of cells_from cells_of side_of checks_of count_of pocket_place fields_of are_letters gate_said bits_of may_hold held_of has_right are_digits is_number value_after number_of passed_of no_hands hands_of judged said_by fen_of tokens_of has_left_twice contradiction lines_fault entry_within entry rules_from letter_within piece_letter letter_twice on_the_board kind_rule_of trimmed cut is_passed castle_to castle_said drop_said move_said square_front squares_front attacker_said count_said node_said edge_said said with_node with_edge with_said with_text step taken strategy_of with_last_edge lines_on rules_said start_said history_said goal_said is_read_back pair_said line_on body_on goal_on moves_on history_on start_on rules_of pairs_on rules_on proof_on
opened = tt

abbrev sample : List (List ℕ)
sample =
    codes "strategy 2"
    ∷ codes "rules 3"
    ∷ codes "king = k"
    ∷ codes "rook = r"
    ∷ codes "startFen = 4k3/8/8/8/8/8/8/R3K3 w Q - 0 1"
    ∷ codes "start 7k/R7/6K1/8/8/8/8/8 w - - 0 1"
    ∷ codes "history 0"
    ∷ codes "goal white 1"
    ∷ codes "attacker white"
    ∷ codes "nodes 2"
    ∷ codes "node 0 1 7k/R7/6K1/8/8/8/8/8 w - - 0 1"
    ∷ codes "edge a7a8 1"
    ∷ codes "node 1 0 R6k/8/6K1/8/8/8/8/8 b - - 1 1"
    ∷ codes "end"
    ∷ []

abbrev lines : List (List ℕ) → List Line
lines texts = map Text texts

-- of a proof the side, the number of moves, the number of nodes and the counter of the start
abbrev told : Result Proof ProofFault → Result (Side × ℕ × ℕ × ℕ) ProofFault
told (Ok p) = Ok (p.attacker, p.n, length p.strategy.nodes, p.game.start.counter)
told (Err fault) = Err fault

read : told (proof_of (lines sample)) ≡ Ok (White, 1, 2, 0)
unfolding opened
read = refl

-- with another text in the place of a line
abbrev faulty : ℕ → List ℕ → List Line
faulty line text = lines (set sample (line - 1) text)

-- the side of the goal is not compared with that of the strategy
other_side : told (proof_of (faulty 8 (codes "goal black 100"))) ≡ Ok (Black, 100, 2, 0)
unfolding opened
other_side = refl

no_version : proof_of (faulty 1 (codes "strategy 1")) ≡ Err (Header 1)
unfolding opened
no_version = refl

nothing : proof_of [] ≡ Err (Header 1)
unfolding opened
nothing = refl

no_goal : proof_of (faulty 8 (codes "goal white 101")) ≡ Err (Header 8)
unfolding opened
no_goal = refl

-- the fourth pair would be the start
too_few_rules : proof_of (faulty 2 (codes "rules 4")) ≡ Err (BadRules 6)
unfolding opened
too_few_rules = refl

-- the rules are judged before the line after them
refused_first : proof_of (lines (take 5 (set sample 3 (codes "rook = k")))) ≡ Err (RefusedRules (LetterTwice (kind 10)))
unfolding opened
refused_first = refl

-- and after all of their lines
refused_last : proof_of (lines (take 4 (set sample 3 (codes "rook = k")))) ≡ Err (BadRules 5)
unfolding opened
refused_last = refl

no_start : proof_of (faulty 6 (codes "start 7k/R7/6K1/8/8/8/8 w - - 0 1")) ≡ Err (BadStart 6 Rank)
unfolding opened
no_start = refl

-- a line is missing, whatever follows
no_move : proof_of (lines (set (take 7 sample) 6 (codes "history 1"))) ≡ Err (BadHistory 8)
unfolding opened
no_move = refl

-- the lines of the strategy count in the whole text
no_edge : proof_of (faulty 12 (codes "edge a7a8 2")) ≡ Err (BadBody (body.BadNumber 12))
unfolding opened
no_edge = refl

no_attacker : proof_of (faulty 9 (codes "strategy 1")) ≡ Err (BadBody (body.Header 9))
unfolding opened
no_attacker = refl

no_end : proof_of (lines (take 13 sample)) ≡ Err (BadBody (body.Ended 14))
unfolding opened
no_end = refl

-- ---- no line is needed after the first faulty one

all_needed : lines_of_proof (lines sample) ≡ 14
unfolding opened
all_needed = refl

two_needed : lines_of_proof (faulty 2 (codes "rules 04")) ≡ 2
unfolding opened
two_needed = refl

-- the rules are judged when the last of their lines is taken
rules_needed : lines_of_proof (lines (set sample 3 (codes "rook = k"))) ≡ 5
unfolding opened
rules_needed = refl

twelve_needed : lines_of_proof (faulty 12 (codes "edge a7a8 2")) ≡ 12
unfolding opened
twelve_needed = refl
