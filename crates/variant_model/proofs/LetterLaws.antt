-- The letters of pieces, along the chain of parents.
use Rattle.std.proofs.Common.{◌≡◌, ℕ, zero, suc, ◌+◌, ◌<◌, List, Option, None, Some, refl, ap, ◌∙◌, arith, option_and_then, add-one}
use Rattle.variant_ini.specs.Section.{Section, section_at, last_value}
use Rattle.variant_ini.specs.OptionValue.{parent_place}
use Rattle.variant_ini.proofs.OptionLaws.{parent_place_above}
use Rattle.variant_model.specs.PieceLetters.{letter_with, letter_within, piece_letter}

-- two functions that agree on a value agree after it
and_then_same : {A B : Type 0} (f g : A → Option B) (o : Option A) → ((x : A) → o ≡ Some x → f x ≡ g x) → option_and_then f o ≡ option_and_then g o
and_then_same f g None h = refl
and_then_same f g (Some x) h = h x refl

module _ (sections : List Section) (piece : List ℕ) where
  -- more steps than the chain has find nothing else
  enough_steps : (m n place : ℕ) → place < m → place < n → letter_within m sections piece place ≡ letter_within n sections piece place
  unfolding letter_within
  enough_steps zero n place h k = absurd (omega arith)
  enough_steps (suc m) zero place h k = absurd (omega arith)
  enough_steps (suc m) (suc n) place h k =
      ap (letter_with (section_at sections place).lines (last_value (section_at sections place).lines piece))
      (and_then_same (letter_within m sections piece) (letter_within n sections piece) (parent_place sections place)
      (λ parent e. let above : parent < place = parent_place_above sections place parent e in enough_steps m n parent (omega arith) (omega arith)))

  -- the sentence by which a letter is inherited
  pub piece_letter_is : (place : ℕ) → piece_letter sections place piece ≡ letter_with (section_at sections place).lines (last_value (section_at sections place).lines piece) (option_and_then (λ parent. piece_letter sections parent piece) (parent_place sections place))
  unfolding piece_letter letter_within
  piece_letter_is place =
      ap (λ n. letter_within n sections piece place) (add-one place)
      ∙ ap (letter_with (section_at sections place).lines (last_value (section_at sections place).lines piece))
      (and_then_same (letter_within place sections piece) (λ parent. letter_within (parent + 1) sections piece parent) (parent_place sections place)
      (λ parent e. let above : parent < place = parent_place_above sections place parent e in enough_steps place (parent + 1) parent above (omega arith)))
