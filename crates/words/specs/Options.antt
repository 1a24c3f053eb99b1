-- The options of a run, cut off the front of its words.
use Rattle.std.specs.Prelude.{ℕ, nat_lt, List, [], ◌∷◌, ◌++◌, length, Option, Some, None, Bool, true, false, not, ◌&&◌, ◌||◌, ◌==◌, bytes_eq, codes, if◌then◌else◌, is_some}
use Rattle.std.specs.List.{list_any}
use Rattle.clap.specs.Lexer.{long_of}

abbrev pub Text : Type 0
Text = List ℕ

-- the options that there are
pub data OptionName : Type 0 where
  Variants : OptionName
  Threads : OptionName

abbrev pub text_of : OptionName → Text
text_of Variants = codes "variants"
text_of Threads = codes "threads"

abbrev pub same_name : OptionName → OptionName → Bool
same_name Variants Variants = true
same_name Threads Threads = true
same_name _ _ = false

-- the option that a text names
abbrev pub option_named : Text → Option OptionName
option_named text =
    if bytes_eq (text_of Variants) text then Some Variants
    else (if bytes_eq (text_of Threads) text then Some Threads else None)

-- a text does not begin with a dash
abbrev pub has_no_dash : Text → Bool
has_no_dash [] = true
has_no_dash (byte ∷ bytes) = not (byte == 45)

-- the options that are given, in their order, each with its value
abbrev pub Given : Type 0
Given = List (OptionName × Text)

abbrev pub is_given : OptionName → Given → Bool
is_given name given = list_any (λ g. same_name g.0 name) given

abbrev pub value_of : OptionName → Given → Option Text
value_of name [] = None
value_of name (g ∷ rest) = if same_name g.0 name then Some g.1 else value_of name rest

-- what words come to: the options that they give, and the words after these
abbrev pub Cut : Type 0
Cut = Option (Given × List Text)

-- one more option, with its value; none is given twice
abbrev pub on_value : OptionName → Text → Given → (Given → Cut) → Cut
on_value name value given next = if is_given name given then None else next (given ++ (name, value) ∷ [])

-- an option `--name=value`, or `--name` with the value in the next word
abbrev pub on_option : Option OptionName → Option Text → Given → (Given → Cut) → (OptionName → Cut) → Cut
on_option None value given next wait = None
on_option (Some name) (Some value) given next wait = on_value name value given next
on_option (Some name) None given next wait = wait name

-- a word that is an option's, or the first of the command
abbrev pub on_word : Option (Text × Option Text) → Given → Cut → (Given → Cut) → (OptionName → Cut) → Cut
on_word None given stop next wait = stop
on_word (Some p) given stop next wait = on_option (option_named p.0) p.1 given next wait

-- the words cut after their options; an option may wait for its value
unfoldable pub cut_from : Option OptionName → Given → List Text → Cut
cut_from None given [] = Some (given, [])
cut_from (Some name) given [] = None
cut_from None given (word ∷ rest) =
    on_word (long_of word) given (Some (given, word ∷ rest))
    (λ more. cut_from None more rest) (λ name. cut_from (Some name) given rest)
cut_from (Some name) given (word ∷ rest) =
    if has_no_dash word then on_value name word given (λ more. cut_from None more rest) else None

-- an option's value is not empty, and does not begin with a dash
abbrev pub is_value : Text → Bool
is_value text = nat_lt 0 (length text) && has_no_dash text

-- a word that begins with a dash and names no option: `-`, `--` or `-x`
abbrev pub is_stray : Text → Bool
is_stray word = not (has_no_dash word || is_some (long_of word))
