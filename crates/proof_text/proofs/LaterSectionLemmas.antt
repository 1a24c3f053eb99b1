-- A section without a parent has the same rules after other sections that do not have its name.
use Rattle.std.proofs.Common.{◌≡◌, ℕ, List, [], ◌∷◌, ◌++◌, Option, Some, None, Ok, is_err, is_some, length, take, refl, sym, ap, ◌∙◌, option_and_then}
use Rattle.std.specs.Option.{option_or}
use Rattle.std.proofs.Math.Seq.{get_or-append_seam, take-append_seam}
use Rattle.rules_model.specs.declared.rules.Rules.{Rules}
use Rattle.variant_ini.specs.declared.key_line.KeyLine.{KeyLine}
use Rattle.variant_ini.specs.Lone.{lone_section}
use Rattle.variant_ini.specs.OptionValue.{first_named, option_value, own_or, parent_place}
use Rattle.variant_ini.specs.Section.{Section, last_value, no_section, section_at}
use Rattle.variant_ini.proofs.OptionLaws.{option_value_is}
use Rattle.variant_model.specs.declared.fault.SectionFault.{SectionFault}
use Rattle.variant_model.specs.declared.fault.SectionFault.TheVariants.{DuplicateName}
use Rattle.variant_model.specs.Entry.{entry, fault_where, first_fault, is_refused, own_fault, parent_fault_by, rules_fault}
use Rattle.variant_model.specs.Made.{resolved}
use Rattle.variant_model.specs.PieceLetters.{letter_with, piece_letter}
use Rattle.variant_model.proofs.ChainLaws.{faultless, rules_faultless}
use Rattle.variant_model.proofs.EntryLaws.{entry_by_fault}
use Rattle.variant_model.proofs.LetterLaws.{piece_letter_is}
use Rattle.variant_model.proofs.SameRules.{SaysSame, accepted_same, rules_fault_same}

first_none : (a b : Option SectionFault) → option_or a b ≡ None → a ≡ None
first_none None b none = refl
first_none (Some fault) b none = cc

module _ (earlier : List Section) (name : List ℕ) (lines : List KeyLine) where
  abbrev here : Section
  here = lone_section name lines

  abbrev all : List Section
  all = earlier ++ here ∷ []

  abbrev place : ℕ
  place = length earlier

  abbrev alone : List Section
  alone = here ∷ []

  there : section_at all place ≡ here
  there = get_or-append_seam earlier here [] no_section

  no_parent : parent_place all place ≡ None
  unfolding parent_place
  no_parent = ap (λ (s : Section). option_and_then (first_named (take place all)) s.parent) there

  value_same : (key : List ℕ) → option_value all place key ≡ option_value alone 0 key
  unfolding parent_place
  value_same key =
      option_value_is all key place
      ∙ ap (λ (s : Section). own_or (last_value s.lines key) (option_and_then (λ parent. option_value all parent key) (parent_place all place))) there
      ∙ ap (λ parent. own_or (last_value lines key) (option_and_then (λ p. option_value all p key) parent)) no_parent
      ∙ sym (option_value_is alone key 0)

  letter_same : (piece : List ℕ) → piece_letter all place piece ≡ piece_letter alone 0 piece
  unfolding parent_place
  letter_same piece =
      piece_letter_is all piece place
      ∙ ap (λ (s : Section). letter_with s.lines (last_value s.lines piece) (option_and_then (λ parent. piece_letter all parent piece) (parent_place all place))) there
      ∙ ap (λ parent. letter_with lines (last_value lines piece) (option_and_then (λ p. piece_letter all p piece) parent)) no_parent
      ∙ sym (piece_letter_is alone piece 0)

  same : SaysSame (resolved all place) (resolved alone 0)
  same = record {
    options = λ key no_piece unread. value_same key;
    letters = λ piece is. letter_same piece;
    words = λ piece k is has. value_same piece;
  }

  module _ (none : first_named earlier name ≡ None) (rules : Rules) (accepts : entry alone 0 ≡ Ok rules) where
    lines_faultless : own_fault lines ≡ None
    unfolding first_named
    lines_faultless =
        first_none (own_fault lines) (rules_fault (resolved alone 0)) (faultless alone 0 (ap is_err accepts))

    all_faultless : first_fault all place (is_refused all) ≡ None
    all_faultless =
        ap (λ (s : Section). option_or (option_or (fault_where (is_some (first_named (take place all) s.name)) DuplicateName)
        (parent_fault_by s.parent (parent_place all place) (is_refused all)))
        (option_or (own_fault s.lines) (rules_fault (resolved all place)))) there
        ∙ ap (λ above. option_or (option_or (fault_where (is_some (first_named above name)) DuplicateName) None)
        (option_or (own_fault lines) (rules_fault (resolved all place)))) (take-append_seam earlier (here ∷ []))
        ∙ ap (λ first. option_or (option_or (fault_where (is_some first) DuplicateName) None)
        (option_or (own_fault lines) (rules_fault (resolved all place)))) none
        ∙ ap (λ own. option_or own (rules_fault (resolved all place))) lines_faultless
        ∙ rules_fault_same (resolved all place) (resolved alone 0) same
        ∙ rules_faultless alone 0 (faultless alone 0 (ap is_err accepts))

    pub later-entry : entry all place ≡ Ok rules
    later-entry =
        entry_by_fault all place None all_faultless
        ∙ accepted_same (resolved all place) (resolved alone 0) same
        ∙ sym (entry_by_fault alone 0 None (faultless alone 0 (ap is_err accepts)))
        ∙ accepts
