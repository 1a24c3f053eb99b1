-- The words of a value, which runs of spaces separate.
use Rattle.std.specs.Prelude.{ℕ, Bool, false, not, ◌==◌, List, [], ◌∷◌, Option, Some, None, if◌then◌else◌, option_and_then, length, filter}
use Rattle.std.specs.Option.{option_map}
use Rattle.std.specs.List.{slice_split}
use Rattle.foundation.specs.Tests.{is_nil}

abbrev pub is_space : ℕ → Bool
is_space b = b == 32

unfoldable pub words_of : List ℕ → List (List ℕ)
words_of text = filter (λ word. not (length word == 0)) (slice_split is_space text)

-- `-`, which stands for nothing
abbrev pub is_hyphen : List ℕ → Bool
is_hyphen (b ∷ []) = b == 45
is_hyphen text = false

abbrev pub onto : {X : Type 0} → X → List X → List X
onto x xs = x ∷ xs

-- what each word says, where each says something
unfoldable pub each_said : {X : Type 0} → (List ℕ → Option X) → List (List ℕ) → Option (List X)
each_said say [] = Some []
each_said say (word ∷ words) = option_and_then (λ x. option_map (onto x) (each_said say words)) (say word)

abbrev pub said_by_words : {X : Type 0} → (List ℕ → Option X) → List (List ℕ) → Option (List X)
said_by_words say words = if is_nil words then None else each_said say words

-- what the words of a value say: nothing at all by `-`, and else at least one word
unfoldable pub listed : {X : Type 0} → (List ℕ → Option X) → List ℕ → Option (List X)
listed say text = if is_hyphen text then Some [] else said_by_words say (words_of text)
