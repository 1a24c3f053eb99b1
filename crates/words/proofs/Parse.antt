-- What a parse of the reader says of the words.
use Rattle.std.proofs.Common.{◌≡◌, ◌∙◌, ◌≤◌, ◌&&◌, ◌||◌, Bool, cond, codes, true, false, refl, sym, ap, ap₂, arith, List, [], ◌∷◌, ◌++◌, length, Option, Some, None, is_some, true≢false, option_map, eqb-true}
use Rattle.std.specs.Prelude.{fold, unwrap_or, find, option_and_then, slice_get}
use Rattle.std.proofs.lemmas.Bool.{not-true}
use Rattle.std.proofs.Math.Bool.{and-false}
use Rattle.std.specs.Borrow.{Bor}
use Rattle.std.specs.List.{list_all, list_any}
use Rattle.std.specs.Str.{bytes_eq}
use Rattle.clap.specs.Lexer.{long_of, usize_max}
use Rattle.clap.specs.Matches.{first_value, matched_of, raw_values}
use Rattle.clap.specs.Walk.{idle, Row, Rule, all_of, default_rows, first_of, has_row, is_empty, reading_by, nothing_held, rows_of, settled, with_default}
use Rattle.clap.specs.Simple.{App, built, entered, matches_of}
use Rattle.clap.specs.Kinds.{Kinds, or_else}
use Rattle.clap.specs.Faults.{default_fault, defaults_fault, entered_fault, fault_of, given_default_fault, level_fault, settle_fault, walk_fault}
use Rattle.clap.specs.declared.error.kind.ErrorKind.{ErrorKind}
use Rattle.clap.specs.declared.parser.matches.Found.{Found}
use Rattle.clap.specs.declared.builder.value_parser.Reading.{Reading}
use Rattle.clap.proofs.WalkLemmas.{both, first_value-rows, raw_values-rows}
use Rattle.words.specs.Asked.{Asked, asked_after, asked_by, asked_cut, asked_of, are_sound, is_sound}
use Rattle.words.specs.Options.{Cut, Text, OptionName, Variants, Threads, Given, cut_from, has_no_dash, is_given, is_stray, on_option, option_named, on_value, on_word, same_name, text_of, value_of}
use Rattle.words.specs.Reader.{reader}
use Rattle.words.specs.View.{texts}
use Rattle.words.proofs.Walks.{at, end, or_nil, reads, rest_rows, row, rows, rules, same_texts, shape, verdict}
use Rattle.words.proofs.Cuts.{reads_cut, rows_in}

-- ---- no argument has a default
skip : (b : Bool) (k : Kinds) → cond (b || true) [] k ≡ []
skip true k = refl
skip false k = refl

no_default : (rs : List Row) (a : Rule) → is_empty a.defaults ≡ true → default_fault rs a ≡ []
no_default rs a e = rw e (skip (has_row a.id rs) (given_default_fault a a.defaults))

no_defaults : (args : List Rule) → list_all (λ a. is_empty a.defaults) args ≡ true → (rs : List Row) → defaults_fault rs args ≡ []
unfolding defaults_fault
no_defaults [] e rs = refl
no_defaults (a ∷ args) e rs = ap₂ or_else (no_default rs a (both _ _ e).0) (no_defaults args (both _ _ e).1 (with_default rs a))

not_added : (b : Bool) (id : Text) (how : Reading) (defaults : List Text) (rs : List Row) → is_empty defaults ≡ true → cond b rs (default_rows id how defaults rs) ≡ rs
not_added true id how defaults rs e = refl
not_added false id how [] rs e = refl
not_added false id how (d ∷ ds) rs e = absurd (omega (arith, eqb-true _ _ e))

none_added : (args : List Rule) → list_all (λ a. is_empty a.defaults) args ≡ true → (rs : List Row) → fold with_default rs args ≡ rs
none_added [] e rs = refl
none_added (a ∷ args) e rs = ap (λ xs. fold with_default xs args) (not_added (has_row a.id rs) a.id (reading_by a) a.defaults rs (both _ _ e).0) ∙ none_added args (both _ _ e).1 rs

-- ---- the faults and the rows of a parse
level : (words : List Text) → level_fault shape [] nothing_held words false [] ≡ or_else (walk_fault shape [] (at idle [] None) words) (settle_fault rules false (end (at idle [] None) words).held)
level words =
    ap (λ d. or_else (walk_fault shape [] (at idle [] None) words) (or_else (settle_fault rules false (end (at idle [] None) words).held) (or_else d [])))
    (no_defaults rules refl (settled rules (end (at idle [] None) words).held).rows)
    ∙ ap (or_else (walk_fault shape [] (at idle [] None) words)) (or_nil _)

pub fault_is : (words : List Text) → fault_of reader words ≡ or_else (walk_fault shape [] (at idle [] None) words) (settle_fault rules false (end (at idle [] None) words).held)
fault_is words = go (end (at idle [] None) words).stopped
  where
    go : (stop : Option (Text × List Text)) → level_fault shape [] nothing_held words (is_some (entered (built reader) stop)) (entered_fault (built reader) stop)
        ≡ or_else (walk_fault shape [] (at idle [] None) words) (settle_fault rules false (end (at idle [] None) words).held)
    go None = level words
    go (Some p) = level words

matches_are : (words : List Text) → matches_of reader words ≡ (settled rules (end (at idle [] None) words).held).rows
matches_are words = none_added rules refl (settled rules (end (at idle [] None) words).held).rows

read_found : (words : List Text) → fault_of reader words ≡ [] → reads (at idle [] None) words ≡ Some (matches_of reader words)
read_found words none = ap (λ k. verdict k (settled rules (end (at idle [] None) words).held).rows) (sym (fault_is words) ∙ none) ∙ ap Some (sym (matches_are words))

read_none : (words : List Text) (k : ErrorKind) (ks : Kinds) → fault_of reader words ≡ k ∷ ks → reads (at idle [] None) words ≡ None
read_none words k ks some = ap (λ ks. verdict ks (settled rules (end (at idle [] None) words).held).rows) (sym (fault_is words) ∙ some)

-- ---- what the getters read
abbrev pub final : Option (List Row) → Option Asked
final None = None
final (Some rs) = asked_by (first_of (codes "variants") rs) (first_of (codes "threads") rs) (unwrap_or (all_of (codes "words") rs) [])

first_is : (n : OptionName) (given : Given) (words : List Text) → first_of (text_of n) (rows given ++ rest_rows words) ≡ value_of n given
first_is Variants [] [] = refl
first_is Threads [] [] = refl
first_is Variants [] (w ∷ ws) = refl
first_is Threads [] (w ∷ ws) = refl
first_is n (g ∷ rest) words =
    ap (λ b. option_and_then (λ (r : Row). slice_get r.values 0) (cond b (Some (row g)) (find (λ (r : Row). bytes_eq r.id (text_of n)) (rows rest ++ rest_rows words)))) (same_texts g.0 n)
    ∙ go (same_name g.0 n) (first_is n rest words)
  where
    go : (b : Bool) → first_of (text_of n) (rows rest ++ rest_rows words) ≡ value_of n rest
        → option_and_then (λ (r : Row). slice_get r.values 0) (cond b (Some (row g)) (find (λ (r : Row). bytes_eq r.id (text_of n)) (rows rest ++ rest_rows words))) ≡ cond b (Some g.1) (value_of n rest)
    go true e = refl
    go false e = e

words_are : (given : Given) (words : List Text) → unwrap_or (all_of (codes "words") (rows given ++ rest_rows words)) [] ≡ words
words_are [] [] = refl
words_are [] (w ∷ ws) = refl
words_are (g ∷ rest) words = go g.0 (words_are rest words)
  where
    go : (name : OptionName) → unwrap_or (all_of (codes "words") (rows rest ++ rest_rows words)) [] ≡ words
        → unwrap_or (option_map (λ (r : Row). r.values) (cond (bytes_eq (text_of name) (codes "words")) (Some (row g)) (find (λ (r : Row). bytes_eq r.id (codes "words")) (rows rest ++ rest_rows words)))) [] ≡ words
    go Variants e = e
    go Threads e = e

ends : (given : Given) (words : List Text) → final (Some (rows given ++ rest_rows words)) ≡ asked_of given words
ends given words =
    ap₂ (λ (v t : Option Text). asked_by v t (unwrap_or (all_of (codes "words") (rows given ++ rest_rows words)) [])) (first_is Variants given words) (first_is Threads given words)
    ∙ ap (asked_by (value_of Variants given) (value_of Threads given)) (words_are given words)

cut_asked : (cut : Cut) → final (option_map rows_in cut) ≡ asked_cut cut
cut_asked None = refl
cut_asked (Some cut) = ends cut.0 cut.1

module _ (words : List Text) (stray : list_any is_stray words ≡ false) (fits : length words ≤ usize_max) where
  all_read : final (reads (at idle [] None) words) ≡ asked_after words
  all_read = ap final (reads_cut None [] words stray fits [] None (record { passes = refl; now = refl; other = refl })) ∙ cut_asked (cut_from None [] words)

  -- where the parse finds something, that is what the words ask
  pub parse_asked : (a : App) (m : Found) → a ≡ reader → fault_of a words ≡ [] → rows_of m ≡ matches_of a words
      → asked_by (first_value m (codes "variants")) (first_value m (codes "threads")) (unwrap_or (option_map raw_values (matched_of m (codes "words"))) []) ≡ asked_after words
  parse_asked a m is none found =
      ap₂ (λ (v t : Option Text). asked_by v t (unwrap_or (option_map raw_values (matched_of m (codes "words"))) [])) (first_value-rows m (codes "variants")) (first_value-rows m (codes "threads"))
      ∙ ap (λ ws. asked_by (first_of (codes "variants") (rows_of m)) (first_of (codes "threads") (rows_of m)) (unwrap_or ws [])) (raw_values-rows m (codes "words"))
      ∙ ap (λ rs. final (Some rs)) (found ∙ ap (λ x. matches_of x words) is)
      ∙ ap final (sym (read_found words (ap (λ x. fault_of x words) (sym is) ∙ none))) ∙ all_read

  -- where the parse fails, the words ask nothing
  pub parse_fails : (a : App) (k : ErrorKind) (ks : Kinds) → a ≡ reader → fault_of a words ≡ k ∷ ks → None ≡ asked_after words
  parse_fails a k ks is fails = ap final (sym (read_none words k ks (ap (λ x. fault_of x words) (sym is) ∙ fails))) ∙ all_read

-- ---- words that begin with a dash
no_command : (a b c : Bool) → c ≡ false → (a && b && c) ≡ false
no_command a b c e = rw e (and-false (a && b))

stray_dash : (word : Text) → is_stray word ≡ true → (has_no_dash word ≡ false) × (long_of word ≡ None)
stray_dash word e = go (has_no_dash word) (long_of word) refl refl (not-true _ e)
  where
    go : (b : Bool) (o : Option (Text × Option Text)) → has_no_dash word ≡ b → long_of word ≡ o → (b || is_some o) ≡ false → (has_no_dash word ≡ false) × (long_of word ≡ None)
    go true o h l s = absurd (true≢false s)
    go false None h l s = (h, l)
    go false (Some p) h l s = absurd (true≢false s)

stray_words : (words : List Text) → list_any is_stray words ≡ true → list_all has_no_dash words ≡ false
stray_words [] e = absurd (true≢false (sym e))
stray_words (word ∷ rest) e = go (is_stray word) refl e (stray_words rest)
  where
    go : (b : Bool) → is_stray word ≡ b → (b || list_any is_stray rest) ≡ true → (list_any is_stray rest ≡ true → list_all has_no_dash rest ≡ false) → (has_no_dash word && list_all has_no_dash rest) ≡ false
    go true s some more = rw (stray_dash word s).0 refl
    go false s some more = rw (more some) (and-false (has_no_dash word))

stray_end : (given : Given) (words : List Text) → list_any is_stray words ≡ true → asked_of given words ≡ None
stray_end given words e =
    let unsound : are_sound (value_of Variants given) (value_of Threads given) words ≡ false = no_command (is_sound (value_of Variants given)) (is_sound (value_of Threads given)) (list_all has_no_dash words) (stray_words words e) in
    rw unsound refl

-- a value that is given next
pub value_next : (name : OptionName) (value : Text) (given : Given) (next : Given → Cut) → ((more : Given) → asked_cut (next (given ++ more)) ≡ None) → asked_cut (on_value name value given next) ≡ None
value_next name value given next none = go (is_given name given)
  where
    go : (b : Bool) → asked_cut (cond b None (next (given ++ (name, value) ∷ []))) ≡ None
    go true = refl
    go false = none ((name, value) ∷ [])

pub word_next : (parts : Option (Text × Option Text)) (given : Given) (stop : Cut) (next : Given → Cut) (wait : OptionName → Cut) → asked_cut stop ≡ None
    → ((more : Given) → asked_cut (next (given ++ more)) ≡ None) → ((n : OptionName) → asked_cut (wait n) ≡ None) → asked_cut (on_word parts given stop next wait) ≡ None
word_next None given stop next wait stops nexts waits = stops
word_next (Some p) given stop next wait stops nexts waits = go (option_named p.0) p.1
  where
    go : (name : Option OptionName) (v : Option Text) → asked_cut (on_option name v given next wait) ≡ None
    go None v = refl
    go (Some n) None = waits n
    go (Some n) (Some v) = value_next n v given next nexts

-- words of which one begins with a dash and names no option ask nothing
pub stray_asked : (w : Option OptionName) (given : Given) (words : List Text) → list_any is_stray words ≡ true → asked_cut (cut_from w given words) ≡ None
unfolding cut_from
stray_asked None given [] e = absurd (true≢false (sym e))
stray_asked (Some name) given [] e = refl
stray_asked None given (word ∷ rest) e = go (is_stray word) refl e (λ more. stray_asked None (given ++ more) rest) (λ name. stray_asked (Some name) given rest)
  where
    go : (b : Bool) → is_stray word ≡ b → (b || list_any is_stray rest) ≡ true → ((more : Given) → list_any is_stray rest ≡ true → asked_cut (cut_from None (given ++ more) rest) ≡ None)
        → ((name : OptionName) → list_any is_stray rest ≡ true → asked_cut (cut_from (Some name) given rest) ≡ None)
        → asked_cut (on_word (long_of word) given (Some (given, word ∷ rest)) (λ more. cut_from None more rest) (λ name. cut_from (Some name) given rest)) ≡ None
    go true s some next wait = rw (stray_dash word s).1 (stray_end given (word ∷ rest) e)
    go false s some next wait =
        word_next (long_of word) given (Some (given, word ∷ rest)) (λ more. cut_from None more rest) (λ name. cut_from (Some name) given rest) (stray_end given (word ∷ rest) e) (λ more. next more some) (λ name. wait name some)
stray_asked (Some name) given (word ∷ rest) e = go (has_no_dash word) refl (λ more. stray_asked None (given ++ more) rest)
  where
    go : (b : Bool) → has_no_dash word ≡ b → ((more : Given) → list_any is_stray rest ≡ true → asked_cut (cut_from None (given ++ more) rest) ≡ None)
        → asked_cut (cond b (on_value name word given (λ more. cut_from None more rest)) None) ≡ None
    go false d next = refl
    go true d next =
        let later : list_any is_stray (word ∷ rest) ≡ list_any is_stray rest = rw d refl in
        value_next name word given (λ more. cut_from None more rest) (λ more. next more (sym later ∙ e))

-- ---- getters
pub texts_or : (o : Option (Bor (List (Bor Text)))) (d : Bor (List (Bor Text))) → d.now ≡ [] → texts (unwrap_or o d).now ≡ unwrap_or (option_map (λ s. texts s.now) o) []
texts_or None d e = rw e refl
texts_or (Some s) d e = refl
