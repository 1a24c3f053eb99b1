-- The entry of a section that stands alone with the lines that another tells.
use Rattle.std.proofs.Common.{◌≡◌, ℕ, ◌<◌, ◌≤◌, true, false, is_err, List, [], ◌∷◌, Option, Some, None, Ok, length, get_or, refl, sym, ap, ◌∙◌, arith, option_and_then, count_by}
use Rattle.std.specs.Option.{option_map, option_or}
use Rattle.std.proofs.lemmas.Bool.{le-ltb}
use Rattle.std.proofs.lemmas.List.{length-map}
use Rattle.foundation.specs.Count.{any_below, first_below}
use Rattle.foundation.proofs.CountLemmas.{first_below-same}
use Rattle.rules_model.specs.declared.board.Kind.{Kind}
use Rattle.rules_model.specs.declared.rules.Rules.{Rules}
use Rattle.rules_model.specs.Fit.{has_no_piece}
use Rattle.rules_model.specs.Kinds.{names}
use Rattle.variant_ini.specs.declared.key_line.KeyLine.{KeyLine}
use Rattle.variant_ini.specs.Lone.{lone_section}
use Rattle.variant_ini.specs.OptionValue.{first_named, option_value, own_or, parent_place, value_within}
use Rattle.variant_ini.specs.Section.{Section, last_value}
use Rattle.variant_ini.proofs.OptionLaws.{option_value_is}
use Rattle.variant_options.specs.Letters.{kind}
use Rattle.variant_options.specs.PieceTable.{PieceRow, pieces, wordless}
use Rattle.variant_model.specs.declared.fault.SectionFault.TheVariants.{Inconsistent, LetterTwice}
use Rattle.variant_model.specs.Contradictions.{contradiction}
use Rattle.variant_model.specs.Entry.{bare_rules, entry, first_fault, is_refused, letter_fault, own_fault, rules_fault}
use Rattle.variant_model.specs.Made.{resolved, rules_from}
use Rattle.variant_model.specs.PieceLetters.{is_given_twice, letter_in, letter_twice, letter_with, letter_within, own_letter, piece_letter}
use Rattle.variant_model.specs.PieceRules.{Resolved, held_pairs}
use Rattle.variant_model.specs.Told.{line_of, told, told_section}
use Rattle.variant_model.proofs.ChainLaws.{faultless, letters_once, rules_faultless}
use Rattle.variant_model.proofs.EntryLaws.{entry_by_fault}
use Rattle.variant_model.proofs.LetterLaws.{piece_letter_is}
use Rattle.variant_model.proofs.ListLemmas.{count_by-same}
use Rattle.variant_model.proofs.SameRules.{SaysSame, accepted_same, rules_fault_same}
use Rattle.variant_model.proofs.ToldLaws.{row_is_piece, told_good, told_letter, told_lines, told_option, told_word}

-- ---- a section that stands alone

own_or_none : (own : Option (List ℕ)) → own_or own None ≡ own
own_or_none None = refl
own_or_none (Some value) = refl

letter_with_none : (lines : List KeyLine) (own : Option (List ℕ))
    → letter_with lines own None ≡ option_and_then letter_in own
letter_with_none lines None = refl
letter_with_none lines (Some value) = refl

module _ (name : List ℕ) (lines : List KeyLine) where
  abbrev alone : List Section
  alone = lone_section name lines ∷ []

  -- its values and its letters are those of its own lines
  lone_value : (key : List ℕ) → option_value alone 0 key ≡ last_value lines key
  unfolding parent_place
  lone_value key = option_value_is alone key 0 ∙ own_or_none (last_value lines key)

  lone_letter : (piece : List ℕ) → piece_letter alone 0 piece ≡ own_letter lines piece
  unfolding parent_place
  lone_letter piece = piece_letter_is alone piece 0 ∙ letter_with_none lines (last_value lines piece)

  -- it has no fault of its name or parent
  lone_fault : first_fault alone 0 (is_refused alone) ≡ option_or (own_fault lines) (rules_fault (resolved alone 0))
  unfolding first_named
  lone_fault = refl

-- without a line it has no piece
no_piece_alone : has_no_piece (bare_rules (resolved (alone [] []) 0)) ≡ true
unfolding has_no_piece any_below rules_from parent_place last_value value_within option_value letter_within piece_letter
no_piece_alone = refl

pieceless : (rules : Rules) (pairs : List (Kind × Kind)) → has_no_piece rules ≡ true
    → contradiction rules pairs ≡ Some 1
unfolding contradiction
pieceless rules pairs none = rw none refl

-- where its rules have no fault it has a line
lines_alone : (lines : List KeyLine) → rules_fault (resolved (alone [] lines) 0) ≡ None → 1 ≤ length lines
lines_alone [] e =
    let empty = resolved (alone [] []) 0 in
    let bad : rules_fault empty ≡ Some (Inconsistent 1) =
    ap (option_map Inconsistent) (pieceless (bare_rules empty) (held_pairs empty) no_piece_alone)
    in
    absurd (cc)
lines_alone (line ∷ lines) e = omega arith

-- ---- the lines that are told

module _ (sections : List Section) (place : ℕ) (accepts : is_refused sections place ≡ false) where
  -- they give no letter to two pieces
  not_given_twice : (k : ℕ) → k < 26 → is_given_twice (told_lines sections place) k ≡ false
  not_given_twice k below =
      let own = λ (piece : PieceRow). names (own_letter (told_lines sections place) piece.key) (kind k) in
      let letter = λ (piece : PieceRow). names (piece_letter sections place piece.key) (kind k) in
      let same : count_by own pieces ≡ count_by letter pieces =
      count_by-same own letter pieces (wordless [])
      (λ i l.
      let row = get_or pieces i (wordless []) in
      ap (λ o. names o (kind k)) (told_letter sections place row.key (row_is_piece i l)))
      in
      let once = letters_once sections k below place (faultless sections place accepts) in
      le-ltb 1 (count_by own pieces) (omega (arith, same, once))

  told_letters : letter_fault (told_lines sections place) ≡ None
  unfolding letter_twice first_below
  told_letters =
      ap (option_map (λ k. LetterTwice (kind k)))
      (first_below-same (is_given_twice (told_lines sections place)) (λ k. false) 26 not_given_twice)

  -- they have no fault
  told_faultless : own_fault (told_lines sections place) ≡ None
  told_faultless =
      ap (λ o. option_or o (letter_fault (told_lines sections place))) (told_good sections place accepts) ∙ told_letters

  module _ (name : List ℕ) where
    abbrev teller : Resolved
    teller = resolved sections place

    -- a section that tells the same
    abbrev again : List Section
    again = told_section name sections place ∷ []

    abbrev retold : Resolved
    retold = resolved again 0

    says_same : SaysSame retold teller
    says_same = record {
      options = λ key no_piece unread.
          lone_value name (told_lines sections place) key ∙ told_option sections place accepts key no_piece unread;
      letters = λ piece is. lone_letter name (told_lines sections place) piece ∙ told_letter sections place piece is;
      words = λ piece k is has.
          lone_value name (told_lines sections place) piece ∙ told_word sections place piece k is has;
    }

    retold_rules : rules_fault retold ≡ None
    retold_rules =
        rules_fault_same retold teller says_same ∙ rules_faultless sections place (faultless sections place accepts)

    retold_faultless : first_fault again 0 (is_refused again) ≡ None
    retold_faultless =
        lone_fault name (told_lines sections place)
        ∙ ap (λ o. option_or o (rules_fault retold)) told_faultless
        ∙ retold_rules

    same_entry : entry again 0 ≡ entry sections place
    same_entry =
        entry_by_fault again 0 None retold_faultless
        ∙ accepted_same retold teller says_same
        ∙ sym (entry_by_fault sections place None (faultless sections place accepts))

-- ---- what is claimed of it

module _ (sections : List Section) (place : ℕ) (rules : Rules) (accepts : entry sections place ≡ Ok rules) where
  -- an accepted section tells at least one line
  pub told_some : 1 ≤ length (told sections place)
  told_some =
      let lines = lines_alone (told_lines sections place) (retold_rules sections place (ap is_err accepts) []) in
      omega (arith, lines, length-map (told sections place) line_of)

  -- a section that has the lines that it tells has the same rules
  pub same_rules : (name : List ℕ) → entry (told_section name sections place ∷ []) 0 ≡ Ok rules
  same_rules name = same_entry sections place (ap is_err accepts) name ∙ accepts
