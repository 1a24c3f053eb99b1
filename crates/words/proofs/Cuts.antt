-- The reader's walk gives the words cut after their options.
use Rattle.std.proofs.Common.{◌≡◌, ◌∙◌, ◌<◌, ◌≤◌, ◌+◌, ◌||◌, ◌⊎◌, inl, inr, Bool, Decides, cond, codes, true, false, refl, sym, ap, ap₂, arith, List, [], ◌∷◌, ◌++◌, length, Option, Some, None, is_some, option_map, true≢false, append-nil, append_assoc, le-ltb, ne_eqb}
use Rattle.std.proofs.lemmas.Bool.{not-true, not-false}
use Rattle.std.proofs.lemmas.Slice.Eq.{bytes_eq-Decides}
use Rattle.std.proofs.lemmas.List.{length-append}
use Rattle.std.specs.List.{list_any}
use Rattle.std.specs.Str.{bytes_eq}
use Rattle.clap.specs.Lexer.{long_of, short_of, usize_max}
use Rattle.clap.specs.Walk.{walked, is_pending, Row, Walk, Waiting, idle, option, has_row, settled, used, subcommand_met, more_values}
use Rattle.clap.specs.Kinds.{Kinds, or_else, range_kinds}
use Rattle.clap.specs.Faults.{settle_fault, use_fault, values_fault, walk_fault}
use Rattle.clap.specs.declared.error.kind.ErrorKind.{ErrorKind}
use Rattle.clap.specs.declared.error.kind.ErrorKind.TheVariants as kind
use Rattle.clap.specs.declared.parser.matches.ValueSource.TheVariants.{CommandLine}
use Rattle.words.specs.Options.{Text, OptionName, Given, text_of, option_named, is_given, cut_from, has_no_dash, is_stray}
use Rattle.words.proofs.Walks.{Pending, at, at_new, dashes, fail, held, new_fault, new_settled, no_rest_row, now_fault, on_awaited, on_name, on_plain, on_value_of, other_pending, pass, reads, rest_rows, rest_rule, row_of_values, rows, rule, rules, trailing_at, turn, turn_awaited, turn_name, turn_plain, turn_unknown, turn_value, twice_fault, used_new, verdict, waits_fault}

-- ---- the end of the words
all_pass : (ws : List Text) → values_fault rest_rule ws ≡ []
all_pass [] = refl
all_pass (w ∷ ws) = all_pass ws

in_range : (ws : List Text) → 0 < length ws → length ws ≤ usize_max → range_kinds 1 usize_max (length ws) ≡ []
in_range ws some most = rw (ne_eqb (length ws) 0 (λ e. omega arith), le-ltb (length ws) 1 (omega arith), le-ltb usize_max (length ws) most) refl

trailing_fault : (rs : List Row) (ws : List Text) → 0 < length ws → length ws ≤ usize_max → settle_fault rules false (held rs (Some (codes "words", ws))) ≡ []
trailing_fault rs [] some most = absurd (omega arith)
trailing_fault rs (w ∷ ws) some most = ap (λ k. or_else k (values_fault rest_rule (w ∷ ws))) (in_range (w ∷ ws) some most) ∙ all_pass (w ∷ ws)

trailing_rows : (rs : List Row) (ws : List Text) → 0 < length ws → has_row (codes "words") rs ≡ false → (settled rules (held rs (Some (codes "words", ws)))).rows ≡ rs ++ row_of_values (codes "words") ws ∷ []
trailing_rows rs [] some none = absurd (omega arith)
trailing_rows rs (w ∷ ws) some none = at_new (codes "words") (more_values CommandLine (w ∷ ws)) (row_of_values (codes "words") (w ∷ ws) ∷ []) rs none

reads_end : (rs : List Row) (ws : List Text) → 0 < length ws → length ws ≤ usize_max → has_row (codes "words") rs ≡ false → reads (trailing_at rs ws) [] ≡ Some (rs ++ row_of_values (codes "words") ws ∷ [])
unfolding walk_fault
reads_end rs ws some most none = ap (λ k. verdict k (settled rules (held rs (Some (codes "words", ws)))).rows) (trailing_fault rs ws some most) ∙ ap Some (trailing_rows rs ws some none)

-- all words after the first of the command are taken as they are
pub reads_trailing : (rs : List Row) (ws rest : List Text) → 0 < length ws → length ws + length rest ≤ usize_max → has_row (codes "words") rs ≡ false
    → reads (trailing_at rs ws) rest ≡ Some (rs ++ row_of_values (codes "words") (ws ++ rest) ∷ [])
unfolding walked
reads_trailing rs ws [] some most none = reads_end rs ws some (omega arith) none ∙ ap (λ xs. Some (rs ++ row_of_values (codes "words") xs ∷ [])) (sym (append-nil ws))
reads_trailing rs ws (word ∷ rest) some most none =
    pass (trailing_at rs ws) (trailing_at rs (ws ++ word ∷ [])) word rest refl refl
    ∙ reads_trailing rs (ws ++ word ∷ []) rest (omega (arith, length-append ws (word ∷ []))) (omega (arith, length-append ws (word ∷ []))) none
    ∙ ap (λ xs. Some (rs ++ row_of_values (codes "words") xs ∷ [])) (append_assoc ws (word ∷ []) rest)

-- ---- words
pub no_dash : (word : Text) → has_no_dash word ≡ true → (long_of word ≡ None) × (short_of word ≡ None) × (bytes_eq word dashes ≡ false)
no_dash [] e = (refl, refl, refl)
no_dash (x ∷ xs) e =
    let other = not-true _ e in
    (rw other refl, rw other refl, rw other refl)

pub long_dash : (word : Text) (p : Text × Option Text) → long_of word ≡ Some p → has_no_dash word ≡ false
long_dash word p long = go (has_no_dash word) refl
  where
    go : (b : Bool) → has_no_dash word ≡ b → b ≡ false
    go false e = refl
    go true e = absurd (true≢false (sym (ap is_some (sym (no_dash word e).0 ∙ long))))

pub long_no_dashes : (word : Text) (p : Text × Option Text) → long_of word ≡ Some p → bytes_eq word dashes ≡ false
long_no_dashes word p long = go (bytes_eq word dashes) (bytes_eq-Decides word dashes) long
  where
    go : (b : Bool) → Decides b (word ≡ dashes) → long_of word ≡ Some p → b ≡ false
    go false d l = refl
    go true d l = absurd (true≢false (sym (ap (λ w. is_some (long_of w)) (sym (d.0 refl)) ∙ ap is_some l)))

or_true : (a b : Bool) → (a || b) ≡ false → (a ≡ false) × (b ≡ false)
or_true true b e = absurd (true≢false e)
or_true false b e = (refl, e)

-- ---- the walk and the cut
-- a word is none of an option, or an option's
abbrev pub Look : Text → Type 0
Look word = ((has_no_dash word ≡ true) × (long_of word ≡ None) × (short_of word ≡ None) × (bytes_eq word dashes ≡ false)) ⊎ ((p : Text × Option Text) × (long_of word ≡ Some p) × (bytes_eq word dashes ≡ false))

pub look : (word : Text) → is_stray word ≡ false → Look word
look word stray = go (has_no_dash word) (long_of word) refl refl (not-false _ stray)
  where
    go : (b : Bool) (o : Option (Text × Option Text)) → has_no_dash word ≡ b → long_of word ≡ o → (b || is_some o) ≡ true → Look word
    go true o e l some = let plain = no_dash word e in inl (e, plain.0, plain.1, plain.2)
    go false None e l some = absurd (true≢false (sym some))
    go false (Some p) e l some = inr (p, l, long_no_dashes word p l)

-- where what is pending fails, each option's word fails
option_fails : (waiting : Waiting) (word : Text) (rs : List Row) (p : Pending) (rest : List Text) (k : ErrorKind) → subcommand_met [] waiting word ≡ None
    → settle_fault rules false (held rs p) ≡ k ∷ [] → (q : Text × Option Text) → long_of word ≡ Some q → bytes_eq word dashes ≡ false → reads (at waiting rs p) (word ∷ rest) ≡ None
option_fails waiting word rs p rest k free fails q long single = go (option_named q.0) q.1 refl refl
  where
    go : (o : Option OptionName) (v : Option Text) → option_named q.0 ≡ o → q.1 ≡ v → reads (at waiting rs p) (word ∷ rest) ≡ None
    go None v is given = fail (at waiting rs p) word rest kind.UnknownArgument [] (turn_unknown waiting word q.0 free single rs p q.1 long is)
    go (Some n) None is given = fail (at waiting rs p) word rest k [] (turn_name waiting word q.0 free single rs p n (long ∙ ap (λ x. Some (q.0, x)) given) is ∙ fails)
    go (Some n) (Some v) is given =
        fail (at waiting rs p) word rest k [] (turn_value waiting word q.0 free single rs p v n (long ∙ ap (λ x. Some (q.0, x)) given) is ∙ ap (λ ks. or_else ks (use_fault false (rule n) (v ∷ []) (settled rules (held rs p)).rows)) fails)

-- an option that is given twice fails at the next word
late_twice : (n : OptionName) (v : Text) (given : Given) (words : List Text) → list_any is_stray words ≡ false → is_given n given ≡ true
    → reads (at idle (rows given) (Some (text_of n, v ∷ []))) words ≡ None
unfolding walk_fault
late_twice n v given [] stray twice = rw (twice_fault v given n twice) refl
late_twice n v given (word ∷ rest) stray twice = go (look word (or_true _ _ stray).0)
  where
    go : Look word → reads (at idle (rows given) (Some (text_of n, v ∷ []))) (word ∷ rest) ≡ None
    go (inl h) =
        fail (at idle (rows given) (Some (text_of n, v ∷ []))) word rest kind.ArgumentConflict []
        (turn_plain word h.1 h.2 h.3 (rows given) (Some (text_of n, v ∷ [])) (other_pending v given n) ∙ twice_fault v given n twice)
    go (inr h) = option_fails idle word (rows given) (Some (text_of n, v ∷ [])) rest kind.ArgumentConflict refl (twice_fault v given n twice) h.0 h.1 h.2

-- what is pending passes, and with it the rows are those of the options given
pub record Ready (rs : List Row) (p : Pending) (given : Given) : Type 0 where
  pub passes : settle_fault rules false (held rs p) ≡ []
  pub now : (settled rules (held rs p)).rows ≡ rows given
  pub other : is_pending rest_rule p ≡ false

abbrev pub awaits : OptionName → Given → Walk
awaits n given = at (option (text_of n)) (rows given) (Some (text_of n, []))

-- the rows of words that are cut
abbrev pub rows_in : Given × List Text → List Row
rows_in cut = rows cut.0 ++ rest_rows cut.1

-- the walk finds the words as they are cut, between two options or before an option's value
abbrev pub Reads : Option OptionName → Given → List Text → Type 0
Reads None given words = (rs : List Row) (p : Pending) → Ready rs p given → reads (at idle rs p) words ≡ option_map rows_in (cut_from None given words)
Reads (Some n) given words = reads (awaits n given) words ≡ option_map rows_in (cut_from (Some n) given words)

module _ (given : Given) (word : Text) (rest : List Text) (stray : list_any is_stray rest ≡ false) (fits : length rest < usize_max) (next : (more : Given) → Reads None more rest) where
  step_value : (n : OptionName) (v : Text) (name : Text) → long_of word ≡ Some (name, Some v) → option_named name ≡ Some n → bytes_eq word dashes ≡ false → Reads None given (word ∷ rest)
  unfolding cut_from
  step_value n v name long is single rs p r = rw (long, is) (go (is_given n given) refl)
    where
      turn_is : turn (at idle rs p) word ≡ cond (is_given n given) (kind.ArgumentConflict ∷ []) []
      turn_is =
          turn_value idle word name refl single rs p v n long is ∙ ap₂ (λ (k : Kinds) (xs : List Row). or_else k (use_fault false (rule n) (v ∷ []) xs)) r.passes r.now ∙ now_fault v given n

      go : (b : Bool) → is_given n given ≡ b → reads (at idle rs p) (word ∷ rest) ≡ option_map rows_in (cond (is_given n given) None (cut_from None (given ++ (n, v) ∷ []) rest))
      go true e = fail (at idle rs p) word rest kind.ArgumentConflict [] (turn_is ∙ ap (λ b. cond b (kind.ArgumentConflict ∷ []) []) e) ∙ rw e refl
      go false e =
          pass (at idle rs p) (at idle (rows (given ++ (n, v) ∷ [])) None) word rest (turn_is ∙ ap (λ b. cond b (kind.ArgumentConflict ∷ []) []) e)
          (on_value_of idle word name refl single rs p v n long is ∙ ap (λ xs. at idle xs None) (ap (used (rule n) (v ∷ [])) r.now ∙ used_new n v given e))
          ∙ next (given ++ (n, v) ∷ []) _ None (record { passes = refl; now = refl; other = refl }) ∙ rw e refl

  step_idle : ((n : OptionName) → Reads (Some n) given rest) → Look word → Reads None given (word ∷ rest)
  unfolding cut_from
  step_idle wait (inl h) rs p r =
      pass (at idle rs p) (trailing_at (rows given) (word ∷ [])) word rest (turn_plain word h.1 h.2 h.3 rs p r.other ∙ r.passes)
      (on_plain word h.1 h.2 h.3 rs p r.other ∙ ap (λ xs. trailing_at xs (word ∷ [])) r.now)
      ∙ reads_trailing (rows given) (word ∷ []) rest (omega arith) (omega arith) (no_rest_row given) ∙ rw h.1 refl
  step_idle wait (inr h) rs p r = go (option_named h.0.0) h.0.1 refl refl
    where
      go : (o : Option OptionName) (x : Option Text) → option_named h.0.0 ≡ o → h.0.1 ≡ x → reads (at idle rs p) (word ∷ rest) ≡ option_map rows_in (cut_from None given (word ∷ rest))
      go None x is its = fail (at idle rs p) word rest kind.UnknownArgument [] (turn_unknown idle word h.0.0 refl h.2 rs p h.0.1 h.1 is) ∙ rw (h.1, is) refl
      go (Some n) None is its =
          let joined : long_of word ≡ Some (h.0.0, None) = h.1 ∙ ap (λ y. Some (h.0.0, y)) its in
          pass (at idle rs p) (awaits n given) word rest (turn_name idle word h.0.0 refl h.2 rs p n joined is ∙ r.passes)
          (on_name idle word h.0.0 refl h.2 rs p n joined is ∙ ap (λ xs. at (option (text_of n)) xs (Some (text_of n, []))) r.now) ∙ wait n ∙ rw (joined, is) refl
      go (Some n) (Some v) is its = step_value n v h.0.0 (h.1 ∙ ap (λ y. Some (h.0.0, y)) its) is h.2 rs p r

  step_awaited : (n : OptionName) → Look word → Reads (Some n) given (word ∷ rest)
  unfolding cut_from
  step_awaited n (inr h) = option_fails (option (text_of n)) word (rows given) (Some (text_of n, [])) rest kind.InvalidValue refl (waits_fault n (rows given)) h.0 h.1 h.2 ∙ rw (long_dash word h.0 h.1) refl
  step_awaited n (inl h) =
      pass (awaits n given) (at idle (rows given) (Some (text_of n, word ∷ []))) word rest (turn_awaited word h.1 h.2 h.3 (rows given) n) (on_awaited word h.1 h.2 h.3 (rows given) n)
      ∙ rw h.0 (go (is_given n given) refl)
    where
      go : (b : Bool) → is_given n given ≡ b → reads (at idle (rows given) (Some (text_of n, word ∷ []))) rest ≡ option_map rows_in (cond (is_given n given) None (cut_from None (given ++ (n, word) ∷ []) rest))
      go true e = late_twice n word given rest stray e ∙ rw e refl
      go false e = next (given ++ (n, word) ∷ []) _ _ (record { passes = new_fault word given n e; now = new_settled word given n e; other = other_pending word given n }) ∙ rw e refl

pub reads_cut : (w : Option OptionName) (given : Given) (words : List Text) → list_any is_stray words ≡ false → length words ≤ usize_max → Reads w given words
unfolding cut_from walk_fault
reads_cut None given [] stray fits = λ rs p r. ap₂ (λ (k : Kinds) (xs : List Row). verdict k xs) r.passes r.now ∙ ap Some (sym (append-nil (rows given)))
reads_cut (Some n) given [] stray fits = rw (waits_fault n (rows given)) refl
reads_cut None given (word ∷ rest) stray fits =
    step_idle given word rest (or_true _ _ stray).1 (omega arith) (λ more. reads_cut None more rest (or_true _ _ stray).1 (omega arith)) (λ n. reads_cut (Some n) given rest (or_true _ _ stray).1 (omega arith))
    (look word (or_true _ _ stray).0)
reads_cut (Some n) given (word ∷ rest) stray fits =
    step_awaited given word rest (or_true _ _ stray).1 (omega arith) (λ more. reads_cut None more rest (or_true _ _ stray).1 (omega arith)) n (look word (or_true _ _ stray).0)
