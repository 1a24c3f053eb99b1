-- No value that an accepted section tells ends in a carriage return.
use Rattle.std.proofs.Common.{◌≡◌, ℕ, Bool, true, false, not, ◌||◌, ◌&&◌, is_err, is_none, is_some, List, Option, Some, None, Ok, Err, Result, All, refl, sym, ap, ◌∙◌, option_and_then}
use Rattle.std.specs.Prelude.{if◌then◌else◌, unwrap_or}
use Rattle.std.specs.Io.BufRead.{ends_with_byte}
use Rattle.std.specs.List.{find, list_any}
use Rattle.std.specs.Str.{bytes_eq}
use Rattle.std.proofs.lemmas.Bool.{and_from, both_ways, not_from_false, true_from_ne_false}
use Rattle.std.proofs.lemmas.Slice.Eq.{bytes_eq-Decides}
use Rattle.rules_model.specs.declared.board.Position.{Position}
use Rattle.rules_model.specs.declared.rules.Rules.{Rules}
use Rattle.fen_model.specs.declared.fault.FenFault.{FenFault}
use Rattle.fen_model.specs.Reading.{fen_of}
use Rattle.variant_ini.specs.OptionValue.{option_value}
use Rattle.variant_ini.specs.Section.{Section}
use Rattle.variant_options.specs.declared.fault.LineFault.TheVariants.{BadValue}
use Rattle.variant_options.specs.declared.value.ValueKind.{ValueKind}
use Rattle.variant_options.specs.declared.value.ValueKind.TheVariants as kind
use Rattle.variant_options.specs.Keys.{ordered_keys}
use Rattle.variant_options.specs.LineFaults.{fault_with, line_fault, piece_named}
use Rattle.variant_options.specs.Options.{OptionRow, is_mobility_key, is_skipped, kind_from, option_kind, options, read, start_fen}
use Rattle.variant_options.specs.PieceTable.{PieceRow}
use Rattle.variant_model.specs.Entry.{bare_rules, is_refused, started_by}
use Rattle.variant_model.specs.Made.{resolved, start_text}
use Rattle.variant_model.specs.PieceLetters.{piece_letter}
use Rattle.variant_model.specs.Told.{lacks_piece, told, told_of, told_value}
use Rattle.variant_model.proofs.ChainLaws.{faultless, value_good}
use Rattle.variant_model.proofs.EntryLaws.{entry_by_fault}
use Rattle.variant_model.proofs.FenEnds.{fen_ends}
use Rattle.variant_model.proofs.ListLemmas.{found_in, found_passes}
use Rattle.variant_model.proofs.OptionEnds.{option_ends}
use Rattle.variant_model.proofs.TextEnds.{Says, ends_alike, ends_in_return}
use Rattle.variant_model.proofs.ToldLaws.{among_ordered, each_told, is_among, is_option, is_piece, unless_lacking}
use Rattle.variant_model.proofs.WordEnds.{piece_ends}

-- ---- the text of the start is the value of one key alone

abbrev is_position : ValueKind → Bool
is_position kind.Flag = false
is_position (kind.Number low high) = false
is_position kind.Fold = false
is_position kind.File = false
is_position kind.Result = false
is_position kind.ResultOrNone = false
is_position kind.Letter = false
is_position kind.Letters = false
is_position kind.LettersOrAll = false
is_position kind.Pairs = false
is_position kind.Region = false
is_position kind.Position = true

-- a row of another key whose value is the text of a position
abbrev is_other_start : OptionRow → Bool
is_other_start option = is_position option.values && not (bytes_eq option.key start_fen.key)

no_other_start : list_any is_other_start options ≡ false
unfolding options
no_other_start = refl

row_of_position : (found : Option OptionRow) (mobility : Bool) → kind_from found mobility ≡ Some kind.Position
    → (option : OptionRow) × (found ≡ Some option) × (option.values ≡ kind.Position)
row_of_position (Some option) mobility is = (option, refl, cc)
row_of_position None true is = cc
row_of_position None false is = cc

start_row : (key : List ℕ) (option : OptionRow) → find (λ row. bytes_eq row.key key) options ≡ Some option
    → option.values ≡ kind.Position → bytes_eq option.key start_fen.key ≡ true
start_row key option found is =
    true_from_ne_false (bytes_eq option.key start_fen.key)
    (λ other.
    both_ways (list_any is_other_start options) no_other_start
    (found_in (λ row. bytes_eq row.key key) is_other_start options option found
    (and_from (is_position option.values) _ (ap is_position is) (not_from_false _ other))))

position_key : (key : List ℕ) → option_kind key ≡ Some kind.Position → key ≡ start_fen.key
unfolding option_kind
position_key key is =
    let same = λ (row : OptionRow). bytes_eq row.key key in
    let row = row_of_position (find same options) (is_mobility_key key) is in
    let option = row.0 in
    sym ((bytes_eq-Decides option.key key).0 (found_passes same options option row.1))
    ∙ (bytes_eq-Decides option.key start_fen.key).0 (start_row key option row.1 row.2)

-- ---- a key that is told is that of a piece or of an option

kind_there : (found : Option OptionRow) (mobility : Bool) → (is_some found || mobility) ≡ true
    → Says (kind_from found mobility)
kind_there (Some option) mobility e = refl
kind_there None true e = refl
kind_there None false e = cc

or_last : (a b : Bool) → (a || b) ≡ true → b ≡ false → a ≡ true
or_last true b e none = refl
or_last false b e none = absurd (both_ways b none e)

kind_of_told : (key : List ℕ) → is_among key ordered_keys ≡ true → is_piece key ≡ false → Says (option_kind key)
unfolding option_kind
kind_of_told key among no_piece =
    kind_there (find (λ row. bytes_eq row.key key) options) (is_mobility_key key)
    (or_last (is_option key || is_mobility_key key) (is_piece key) (sym (among_ordered key) ∙ among) no_piece)

-- ---- the values of an accepted section

not_missing : (missing : Bool) → (if missing then Some BadValue else None) ≡ None → missing ≡ false
not_missing true none = cc
not_missing false none = refl

value_ends : (piece : Option PieceRow) (values : Option ValueKind) (skipped : Bool) (text : List ℕ)
    → (is_some piece ≡ false → Says values) → (values ≡ Some kind.Position → ends_in_return text ≡ false)
    → fault_with piece values skipped text ≡ None → ends_in_return text ≡ false
value_ends (Some piece) values skipped text there start none = piece_ends piece text none
value_ends None (Some values) skipped text there start none =
    option_ends values text (λ is. start (ap (λ v. Some v) is)) (not_missing (is_none (read values text)) none)
value_ends None None skipped text there start none = let no_kind : true ≡ false = there refl in cc

started : (rules : Rules) (start : Result Position FenFault) → is_err (started_by rules start) ≡ false
    → (p : Position) × (start ≡ Ok p)
started rules (Ok p) good = (p, refl)
started rules (Err fault) good = cc

module _ (sections : List Section) (place : ℕ) (accepts : is_refused sections place ≡ false) where
  -- the text of the start says a position
  start_good : (p : Position)
      × (fen_of (bare_rules (resolved sections place)) (start_text (resolved sections place)) ≡ Ok p)
  start_good =
      started (bare_rules (resolved sections place)) _
      (ap is_err (sym (entry_by_fault sections place None (faultless sections place accepts))) ∙ accepts)

  start_ends : (text : List ℕ) → option_value sections place start_fen.key ≡ Some text → ends_in_return text ≡ false
  start_ends text is =
      let default = start_fen.default (piece_letter sections place) in
      let said : start_text (resolved sections place) ≡ text =
      ap (λ o. unwrap_or (option_and_then (read start_fen.values) o) default) is
      in
      ap ends_in_return (sym said) ∙ fen_ends (bare_rules (resolved sections place)) _ start_good.0 start_good.1

  told_value_ends : (key text : List ℕ) → is_among key ordered_keys ≡ true → told_value sections place key ≡ Some text
      → ends_with_byte 13 text ≡ false
  unfolding line_fault
  told_value_ends key text among told =
      let is = unless_lacking (lacks_piece sections place key) (option_value sections place key) text told in
      ends_alike text
      ∙ value_ends (piece_named key) (option_kind key) (is_skipped key) text (kind_of_told key among)
      (λ position. start_ends text (ap (option_value sections place) (sym (position_key key position)) ∙ is))
      (value_good sections key text place (faultless sections place accepts) is)

  pub told_ends : All (λ (pair : List ℕ × List ℕ). ends_with_byte 13 pair.1 ≡ false) (told sections place)
  unfolding told told_of
  told_ends =
      each_told (told_value sections place) (λ pair. ends_with_byte 13 pair.1 ≡ false) ordered_keys told_value_ends
