-- What the reader's walk makes of the words.
use Rattle.std.proofs.Common.{◌≡◌, ◌∙◌, ◌&&◌, ◌||◌, Bool, cond, codes, true, false, refl, sym, ap, ap₂, List, [], ◌∷◌, ◌++◌, map, Option, Some, None, true≢false, option_map, append-nil}
use Rattle.std.specs.Prelude.{fold}
use Rattle.std.proofs.lemmas.List.{map-append}
use Rattle.std.specs.Str.{bytes_eq}
use Rattle.clap.specs.Lexer.{long_of, short_of}
use Rattle.clap.specs.Walk.{Held, Row, Rule, Walk, Waiting, idle, option, positional, arg_by_long, at_row, has_row, is_pending, more_values, subcommand_met, reacted, settled, used, walked}
use Rattle.clap.specs.Simple.{Shape, built}
use Rattle.clap.specs.Values.{reading_of}
use Rattle.clap.specs.Kinds.{Kinds, or_else}
use Rattle.clap.specs.Faults.{react_fault, settle_fault, turn_fault, walk_fault}
use Rattle.clap.specs.declared.error.kind.ErrorKind.{ErrorKind}
use Rattle.clap.specs.declared.error.kind.ErrorKind.TheVariants as kind
use Rattle.clap.specs.declared.builder.value_parser.ValueParser.TheVariants as vp
use Rattle.clap.specs.declared.builder.value_parser.Reading.{Reading}
use Rattle.clap.specs.declared.parser.matches.ValueSource.TheVariants.{CommandLine}
use Rattle.words.specs.Options.{Text, OptionName, Variants, Threads, Given, text_of, option_named, is_given, same_name}
use Rattle.words.specs.Reader.{option_rule, words_rule, reader}

abbrev pub shape : Shape
shape = (built reader).top

abbrev pub rules : List Rule
rules = shape.rules

-- the rule of an option, as it is built
abbrev pub rule : OptionName → Rule
rule name = record (option_rule name) {
  range = Some (record { start_inclusive = 1; end_inclusive = 1 });
  parser = Some vp.String;
}

abbrev pub rest_rule : Rule
rest_rule = record words_rule { index = Some 1; parser = Some vp.String }

abbrev pub how : Reading
how = reading_of vp.String

abbrev pub row_of_values : Text → List Text → Row
row_of_values id values = record {
  id = id;
  values = values;
  count = None;
  source = Some CommandLine;
  reading = how;
}

abbrev pub row : OptionName × Text → Row
row g = row_of_values (text_of g.0) (g.1 ∷ [])

abbrev pub rows : Given → List Row
rows = map row

abbrev pub rest_rows : List Text → List Row
rest_rows [] = []
rest_rows (w ∷ ws) = row_of_values (codes "words") (w ∷ ws) ∷ []

-- ---- rows
pub at_new : (id : Text) (change : Row → List Row) (missing rs : List Row) → has_row id rs ≡ false → at_row id change missing rs ≡ rs ++ missing
at_new id change missing [] none = refl
at_new id change missing (r ∷ rs) none = go (bytes_eq r.id id) none (at_new id change missing rs)
  where
    go : (b : Bool) → (b || has_row id rs) ≡ false → (has_row id rs ≡ false → at_row id change missing rs ≡ rs ++ missing)
        → cond b (change r ++ rs) (r ∷ at_row id change missing rs) ≡ r ∷ (rs ++ missing)
    go true e more = absurd (true≢false e)
    go false e more = ap (λ xs. r ∷ xs) (more e)

pub same_texts : (a b : OptionName) → bytes_eq (text_of a) (text_of b) ≡ same_name a b
same_texts Variants Variants = refl
same_texts Variants Threads = refl
same_texts Threads Variants = refl
same_texts Threads Threads = refl

pub given_row : (name : OptionName) (given : Given) → has_row (text_of name) (rows given) ≡ is_given name given
given_row name [] = refl
given_row name (g ∷ rest) = ap₂ (λ a b. a || b) (same_texts g.0 name) (given_row name rest)

pub no_rest_row : (given : Given) → has_row (codes "words") (rows given) ≡ false
no_rest_row [] = refl
no_rest_row (g ∷ rest) = go g.0 (no_rest_row rest)
  where
    go : (name : OptionName) → has_row (codes "words") (rows rest) ≡ false → (bytes_eq (text_of name) (codes "words") || has_row (codes "words") (rows rest)) ≡ false
    go Variants e = e
    go Threads e = e

pub twice_new : (id : Text) (change remove : Row → List Row) (missing rs : List Row) → has_row id rs ≡ false → at_row id change missing (at_row id remove [] rs) ≡ rs ++ missing
twice_new id change remove missing rs none = ap (at_row id change missing) (at_new id remove [] rs none ∙ append-nil rs) ∙ at_new id change missing rs none

-- a first use of an option
pub used_new : (name : OptionName) (value : Text) (given : Given) → is_given name given ≡ false → used (rule name) (value ∷ []) (rows given) ≡ rows (given ++ (name, value) ∷ [])
used_new name value given none = twice_new (text_of name) (more_values CommandLine (value ∷ [])) (λ _. []) _ (rows given) (given_row name given ∙ none) ∙ sym (map-append row given ((name, value) ∷ []))

-- ---- one word
abbrev pub dashes : Text
dashes = 45 ∷ 45 ∷ []

abbrev pub Pending : Type 0
Pending = Option (Text × List Text)

abbrev pub held : List Row → Pending → Held
held rs p = record { rows = rs; pending = p; skip = 0 }

abbrev pub at : Waiting → List Row → Pending → Walk
at waiting rs p = record { held = held rs p; waiting = waiting; position = 1; is_trailing = false; stopped = None }

-- the walk past the first word of the command
abbrev pub trailing_at : List Row → List Text → Walk
trailing_at rs ws = record { held = held rs (Some (codes "words", ws)); waiting = positional; position = 1; is_trailing = true; stopped = None }

abbrev pub turn : Walk → Text → Kinds
turn w word = turn_fault shape [] w word

abbrev pub on : Walk → Text → Walk
on w word = walked rules [] w word

pub or_nil : (k : Kinds) → or_else k [] ≡ k
or_nil [] = refl
or_nil (x ∷ xs) = refl

pub by_long : (text : Text) → arg_by_long rules text ≡ option_map rule (option_named text)
by_long text = go (bytes_eq (text_of Variants) text) (bytes_eq (text_of Threads) text)
  where
    go : (a b : Bool) → cond (a || false) (Some (rule Variants)) (cond (b || false) (Some (rule Threads)) None) ≡ option_map rule (cond a (Some Variants) (cond b (Some Threads) None))
    go true b = refl
    go false true = refl
    go false false = refl

module _ (waiting : Waiting) (word name : Text) (free : subcommand_met [] waiting word ≡ None) (no : bytes_eq word dashes ≡ false) (rs : List Row) (p : Pending) where
  pub turn_unknown : (v : Option Text) → long_of word ≡ Some (name, v) → option_named name ≡ None → turn (at waiting rs p) word ≡ kind.UnknownArgument ∷ []
  turn_unknown v long none = rw (free, no, long, by_long name, none) refl

  pub turn_value : (v : Text) (n : OptionName) → long_of word ≡ Some (name, Some v) → option_named name ≡ Some n
      → turn (at waiting rs p) word ≡ react_fault rules false (rule n) (v ∷ []) (held rs p)
  turn_value v n long is = rw (free, no, long, by_long name, is) (or_nil _)

  pub on_value_of : (v : Text) (n : OptionName) → long_of word ≡ Some (name, Some v) → option_named name ≡ Some n
      → on (at waiting rs p) word ≡ at idle (reacted rules (rule n) (v ∷ []) (held rs p)).rows None
  unfolding walked
  on_value_of v n long is = rw (free, no, long, by_long name, is) refl

  pub turn_name : (n : OptionName) → long_of word ≡ Some (name, None) → option_named name ≡ Some n → turn (at waiting rs p) word ≡ settle_fault rules false (held rs p)
  turn_name n long is = rw (free, no, long, by_long name, is) (or_nil _)

  pub on_name : (n : OptionName) → long_of word ≡ Some (name, None) → option_named name ≡ Some n
      → on (at waiting rs p) word ≡ at (option (text_of n)) (settled rules (held rs p)).rows (Some (text_of n, []))
  unfolding walked
  on_name n long is = rw (free, no, long, by_long name, is) refl

module _ (word : Text) (long : long_of word ≡ None) (short : short_of word ≡ None) (no : bytes_eq word dashes ≡ false) (rs : List Row) where
  pub turn_plain : (p : Pending) → is_pending rest_rule p ≡ false → turn (at idle rs p) word ≡ settle_fault rules false (held rs p)
  turn_plain p other = rw (no, long, short, other) refl

  pub on_plain : (p : Pending) → is_pending rest_rule p ≡ false → on (at idle rs p) word ≡ trailing_at (settled rules (held rs p)).rows (word ∷ [])
  unfolding walked
  on_plain p other = rw (no, long, short, other) refl

  pub turn_awaited : (n : OptionName) → turn (at (option (text_of n)) rs (Some (text_of n, []))) word ≡ []
  turn_awaited Variants = rw (no, long, short) refl
  turn_awaited Threads = rw (no, long, short) refl

  pub on_awaited : (n : OptionName) → on (at (option (text_of n)) rs (Some (text_of n, []))) word ≡ at idle rs (Some (text_of n, word ∷ []))
  unfolding walked
  on_awaited Variants = rw (no, long, short) refl
  on_awaited Threads = rw (no, long, short) refl

-- an option that still waits has no value
pub waits_fault : (n : OptionName) (rs : List Row) → settle_fault rules false (held rs (Some (text_of n, []))) ≡ kind.InvalidValue ∷ []
waits_fault Variants rs = refl
waits_fault Threads rs = refl

module _ (value : Text) (given : Given) where
  pub new_fault : (n : OptionName) → is_given n given ≡ false → settle_fault rules false (held (rows given) (Some (text_of n, value ∷ []))) ≡ []
  new_fault Variants none = rw (given_row Variants given ∙ none) refl
  new_fault Threads none = rw (given_row Threads given ∙ none) refl

  pub twice_fault : (n : OptionName) → is_given n given ≡ true → settle_fault rules false (held (rows given) (Some (text_of n, value ∷ []))) ≡ kind.ArgumentConflict ∷ []
  twice_fault Variants twice = rw (given_row Variants given ∙ twice) refl
  twice_fault Threads twice = rw (given_row Threads given ∙ twice) refl

  pub now_fault : (n : OptionName) → react_fault rules false (rule n) (value ∷ []) (held (rows given) None) ≡ cond (is_given n given) (kind.ArgumentConflict ∷ []) []
  now_fault n = ap (λ b. or_else (cond (b && true) (kind.ArgumentConflict ∷ []) []) []) (given_row n given) ∙ go (is_given n given)
    where
      go : (b : Bool) → or_else (cond (b && true) (kind.ArgumentConflict ∷ []) []) [] ≡ cond b (kind.ArgumentConflict ∷ []) []
      go true = refl
      go false = refl

  pub new_settled : (n : OptionName) → is_given n given ≡ false → (settled rules (held (rows given) (Some (text_of n, value ∷ [])))).rows ≡ rows (given ++ (n, value) ∷ [])
  new_settled Variants none = used_new Variants value given none
  new_settled Threads none = used_new Threads value given none

  pub other_pending : (n : OptionName) → is_pending rest_rule (Some (text_of n, value ∷ [])) ≡ false
  other_pending Variants = refl
  other_pending Threads = refl

-- ---- all the words
abbrev pub verdict : Kinds → List Row → Option (List Row)
verdict [] rs = Some rs
verdict (k ∷ ks) rs = None

abbrev pub end : Walk → List Text → Walk
end w words = fold (walked rules []) w words

abbrev pub reads : Walk → List Text → Option (List Row)
reads w words = verdict (or_else (walk_fault shape [] w words) (settle_fault rules false (end w words).held)) (settled rules (end w words).held).rows

pub pass : (w after : Walk) (word : Text) (rest : List Text) → turn w word ≡ [] → on w word ≡ after → reads w (word ∷ rest) ≡ reads after rest
unfolding walk_fault
pass w after word rest passes is = rw passes (ap (λ (v : Walk). reads v rest) is)

pub fail : (w : Walk) (word : Text) (rest : List Text) (k : ErrorKind) (ks : Kinds) → turn w word ≡ k ∷ ks → reads w (word ∷ rest) ≡ None
unfolding walk_fault
fail w word rest k ks fails = rw fails refl
