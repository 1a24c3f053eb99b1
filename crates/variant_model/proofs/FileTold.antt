-- What a section tells are lines as files give them, where the lines of all sections are.
use Rattle.std.proofs.Common.{◌≡◌, ℕ, zero, suc, ◌+◌, All, List, [], ◌∷◌, Some, subst, option_and_then}
use Rattle.std.proofs.lemmas.List.Elements.{All-head, All-nil, All-tail}
use Rattle.std.proofs.lemmas.Option.{option_and_then_some}
use Rattle.variant_ini.specs.declared.key_line.KeyLine.{KeyLine}
use Rattle.variant_ini.specs.FileLines.{AreFileLines, IsFileLine}
use Rattle.variant_ini.specs.OptionValue.{option_value, parent_place, value_within}
use Rattle.variant_ini.specs.Section.{Section, key_line, last_value}
use Rattle.variant_options.specs.Keys.{ordered_keys}
use Rattle.variant_model.specs.PieceLetters.{own_lines}
use Rattle.variant_model.specs.Told.{lacks_piece, line_of, told, told_of, told_value}
use Rattle.variant_model.proofs.ChainLaws.{found_or_here, own_or_inherited}
use Rattle.variant_model.proofs.ToldLaws.{each_told, unless_lacking}

-- the lines of one section, which has none past the end
lines_at : (sections : List Section) (place : ℕ) → AreFileLines sections → All IsFileLine (own_lines sections place)
lines_at [] place files = All-nil IsFileLine
lines_at (section ∷ sections) zero files = All-head (λ s. All IsFileLine s.lines) section sections files
lines_at (section ∷ sections) (suc n) files =
    lines_at sections n (All-tail (λ s. All IsFileLine s.lines) section sections files)

-- the last line with a key
last_file_line : (lines : List KeyLine) (key value : List ℕ) → All IsFileLine lines → last_value lines key ≡ Some value
    → IsFileLine (key_line key value)
unfolding last_value
last_file_line [] key value files e = absurd (cc)
last_file_line (line ∷ lines) key value files e =
    found_or_here (last_value lines key) line key value (IsFileLine (key_line key value))
    (λ found. last_file_line lines key value (All-tail IsFileLine line lines files) found)
    (λ here. subst IsFileLine here (All-head IsFileLine line lines files)) e

module _ (sections : List Section) (files : AreFileLines sections) where
  within_file : (key value : List ℕ) (n place : ℕ) → value_within n sections key place ≡ Some value
      → IsFileLine (key_line key value)
  unfolding value_within
  within_file key value zero place e = absurd (cc)
  within_file key value (suc n) place e =
      own_or_inherited (last_value (own_lines sections place) key)
      (option_and_then (value_within n sections key) (parent_place sections place))
      value (IsFileLine (key_line key value))
      (λ own. last_file_line (own_lines sections place) key value (lines_at sections place files) own)
      (λ inherited.
      option_and_then_some (value_within n sections key) (parent_place sections place) value inherited
      (λ parent is found. within_file key value n parent found))
      e

  option_of_file : (place : ℕ) (key value : List ℕ) → option_value sections place key ≡ Some value
      → IsFileLine (key_line key value)
  unfolding option_value
  option_of_file place key value e = within_file key value (place + 1) place e

  pub told_of_file : (place : ℕ) → All (λ pair. IsFileLine (line_of pair)) (told sections place)
  unfolding told told_of
  told_of_file place =
      each_told (told_value sections place) (λ pair. IsFileLine (line_of pair)) ordered_keys
      (λ key value among is.
      option_of_file place key value
      (unless_lacking (lacks_piece sections place key) (option_value sections place key) value is))
