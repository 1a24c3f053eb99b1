-- Options, pieces and refusals along the chain of parents.
use Rattle.std.proofs.Common.{◌≡◌, ℕ, List, [], ◌∷◌, Option, Some, None, refl, map}
use Rattle.std.specs.Prelude.{codes}
use Rattle.foundation.specs.Count.{first_below}
use Rattle.variant_ini.specs.declared.key_line.KeyLine.{KeyLine}
use Rattle.variant_ini.specs.Section.{Section, key_line, last_value}
use Rattle.variant_ini.specs.OptionValue.{first_named, parent_place, value_within, option_value}
use Rattle.foundation.specs.Numbers.{are_digits, is_number, number_of, value_after}
use Rattle.variant_model.specs.Made.{resolved}
use Rattle.variant_model.specs.PieceRules.{said}
use Rattle.variant_model.specs.PieceLetters.{letter_within, piece_letter, letter_twice}
use Rattle.variant_model.specs.Told.{told, told_of}
use Rattle.variant_options.specs.Keys.{all_keys, in_order, key_inserted, ordered_keys}
use Rattle.variant_options.specs.Options.{options}
use Rattle.variant_options.specs.Options as option
use Rattle.variant_options.specs.Letters.{kind}

abbrev section : List ℕ → Option (List ℕ) → List KeyLine → Section
section name parent lines = record { name = name; parent = parent; lines = lines }

-- a, b:a, c:b: what c does not say comes from a
abbrev chain : List Section
chain =
    section (codes "a") None (key_line (codes "nMoveRule") (codes "40") ∷ key_line (codes "rook") (codes "r") ∷ [])
    ∷ section (codes "b") (Some (codes "a")) (key_line (codes "chancellor") (codes "R") ∷ [])
    ∷ section (codes "c") (Some (codes "b")) (key_line (codes "chancellor") (codes "e") ∷ [])
    ∷ []

from_the_grandparent : said (resolved chain 2) option.n_move_rule ≡ 40
unfolding number_of is_number are_digits value_after first_named parent_place value_within option_value last_value
from_the_grandparent = refl

-- without the lines of a the default stands
by_default : said (resolved (section (codes "a") None [] ∷ section (codes "b") (Some (codes "a")) [] ∷ []) 1) option.n_move_rule ≡ 50
unfolding number_of is_number are_digits value_after first_named parent_place value_within option_value last_value
by_default = refl

-- b gave the letter of the rook away, and c takes it from b's piece: no piece has it then
letters : map (λ place. piece_letter chain place (codes "rook")) (0 ∷ 1 ∷ 2 ∷ []) ≡ Some (kind 17) ∷ None ∷ None ∷ []
unfolding first_named parent_place last_value letter_within piece_letter
letters = refl

other_letters : map (λ place. piece_letter chain place (codes "chancellor")) (0 ∷ 1 ∷ 2 ∷ []) ≡ None ∷ Some (kind 17) ∷ Some (kind 4) ∷ []
unfolding first_named parent_place last_value letter_within piece_letter
other_letters = refl

-- a tells its rook; b gave its letter away, and c has it no more
tells : map (told chain) (0 ∷ 1 ∷ 2 ∷ [])
    ≡ ((codes "nMoveRule", codes "40") ∷ (codes "rook", codes "r") ∷ [])
    ∷ ((codes "chancellor", codes "R") ∷ (codes "nMoveRule", codes "40") ∷ [])
    ∷ ((codes "chancellor", codes "e") ∷ (codes "nMoveRule", codes "40") ∷ [])
    ∷ []
unfolding options all_keys key_inserted in_order ordered_keys first_named parent_place last_value value_within option_value letter_within piece_letter told_of told
tells = refl

-- q and a are given twice: a is the smaller
twice : letter_twice (key_line (codes "queen") (codes "q") ∷ key_line (codes "amazon") (codes "Q") ∷ key_line (codes "alfil") (codes "a") ∷ key_line (codes "archbishop") (codes "a") ∷ []) ≡ Some 0
unfolding last_value letter_twice first_below
twice = refl

-- only the last line of a piece counts
not_twice : letter_twice (key_line (codes "queen") (codes "a") ∷ key_line (codes "amazon") (codes "a") ∷ key_line (codes "queen") (codes "q") ∷ []) ≡ None
unfolding last_value letter_twice first_below
not_twice = refl
