-- What the words of a value say, one word after another.
use Rattle.std.proofs.Common.{◌≡◌, ℕ, zero, suc, ◌+◌, ◌<◌, Bool, true, false, List, [], ◌∷◌, ◌++◌, Option, Some, None, length, get_or, take, map, refl, ap, sym, ◌∙◌, ◌≤◌, arith, add-one}
use Rattle.std.specs.Borrow.{Bor}
use Rattle.std.proofs.lemmas.List.{get_or-map, length-map, take_all}
use Rattle.std.specs.Prelude.{option_and_then, unwrap_or, if◌then◌else◌}
use Rattle.std.specs.Option.{option_map}
use Rattle.std.proofs.Math.Seq.{take-suc}
use Rattle.foundation.specs.Tests.{is_nil}
use Rattle.variant_options.specs.Words.{onto, each_said, is_hyphen, words_of, listed}

abbrev with_said : {X : Type 0} → Option X → Option (List X) → Option (List X)
with_said word rest = option_and_then (λ x. option_map (onto x) rest) word

append-step : {X : Type 0} (word : Option X) (rest more : Option (List X)) (said : List X) (x : X) → ((s : List X) → rest ≡ Some s → more ≡ Some (s ++ x ∷ [])) → with_said word rest ≡ Some said → with_said word more ≡ Some (said ++ x ∷ [])
append-step None rest more said x step h = cc
append-step (Some y) None more said x step h = cc
append-step (Some y) (Some s) more said x step h = rw (step s refl) (ap (option_map (λ l. l ++ x ∷ [])) h)

said-append : {X : Type 0} (say : List ℕ → Option X) (xs : List (List ℕ)) (word : List ℕ) (said : List X) (x : X) → each_said say xs ≡ Some said → say word ≡ Some x → each_said say (xs ++ word ∷ []) ≡ Some (said ++ x ∷ [])
unfolding each_said
said-append say [] word said x before here = rw here (ap (option_map (λ l. l ++ x ∷ [])) before)
said-append say (w ∷ ws) word said x before here =
    append-step (say w) (each_said say ws) (each_said say (ws ++ word ∷ [])) said x (λ s e. said-append say ws word s x e here) before

pub each_said_none : {X : Type 0} (say : List ℕ → Option X) (words : List (List ℕ)) → each_said say (take 0 words) ≡ Some []
unfolding each_said
each_said_none say [] = refl
each_said_none say (w ∷ ws) = refl

-- one more word
pub each_said_more : {X : Type 0} (say : List ℕ → Option X) (words : List (List ℕ)) (i : ℕ) (said : List X) (x : X) → i < length words → each_said say (take i words) ≡ Some said → say (get_or words i []) ≡ Some x → each_said say (take (i + 1) words) ≡ Some (said ++ x ∷ [])
each_said_more say words i said x below before here = rw (add-one, take-suc words i []) (said-append say (take i words) (get_or words i []) said x before here)

none-after : {X : Type 0} (word : Option X) → with_said word None ≡ None
none-after None = refl
none-after (Some x) = refl

-- a word that says nothing
pub each_said_bad : {X : Type 0} (say : List ℕ → Option X) (words : List (List ℕ)) (i : ℕ) → i < length words → say (get_or words i []) ≡ None → each_said say words ≡ None
unfolding each_said
each_said_bad say [] i below bad = absurd (omega arith)
each_said_bad say (w ∷ ws) zero below bad = let none : say w ≡ None = bad in rw none refl
each_said_bad say (w ∷ ws) (suc i) below bad = rw (each_said_bad say ws i (omega arith) bad) (none-after (say w))

nil-step : {X : Type 0} (word : Option X) (rest : Option (List X)) (said : List X) → with_said word rest ≡ Some said → false ≡ is_nil said
nil-step None rest said h = cc
nil-step (Some y) None said h = cc
nil-step (Some y) (Some s) said h = ap (λ o. is_nil (unwrap_or o [])) h

-- nothing is said by no word alone
pub each_said_nil : {X : Type 0} (say : List ℕ → Option X) (words : List (List ℕ)) (said : List X) → each_said say words ≡ Some said → is_nil words ≡ is_nil said
unfolding each_said
each_said_nil say [] said h = ap (λ o. is_nil (unwrap_or o [])) h
each_said_nil say (w ∷ ws) said h = nil-step (say w) (each_said say ws) said h

-- ---- a value

pub listed_hyphen : {X : Type 0} (say : List ℕ → Option X) (text : List ℕ) → is_hyphen text ≡ true → listed say text ≡ Some []
unfolding listed
listed_hyphen say text h = rw h refl

pub listed_said : {X : Type 0} (say : List ℕ → Option X) (text : List ℕ) (said : List X) → is_hyphen text ≡ false → each_said say (words_of text) ≡ Some said → listed say text ≡ (if is_nil said then None else Some said)
unfolding listed
listed_said say text said h e = rw (h, each_said_nil say (words_of text) said e, e) refl

same-either : {X : Type 0} (b : Bool) (x : X) → (if b then x else x) ≡ x
same-either true x = refl
same-either false x = refl

pub listed_bad : {X : Type 0} (say : List ℕ → Option X) (text : List ℕ) → is_hyphen text ≡ false → each_said say (words_of text) ≡ None → listed say text ≡ None
unfolding listed
listed_bad say text h e = rw (h, e) (same-either (is_nil (words_of text)) None)

-- ---- words as code holds them

abbrev pub texts : List (Bor (List ℕ)) → List (List ℕ)
texts words = map (λ word. word.now) words

text-at : (words : List (Bor (List ℕ))) (i : ℕ) (d : Bor (List ℕ)) → i < length words → get_or (texts words) i [] ≡ (get_or words i d).now
text-at words i d below = get_or-map (λ word. word.now) words i d [] below

texts-below : (words : List (Bor (List ℕ))) (i : ℕ) → i < length words → i < length (texts words)
texts-below words i below = omega (arith, below, length-map words (λ word. word.now))

pub more_word : {X : Type 0} (say : List ℕ → Option X) (words : List (Bor (List ℕ))) (i : ℕ) (d : Bor (List ℕ)) (said : List X) (x : X) → i < length words → each_said say (take i (texts words)) ≡ Some said → say (get_or words i d).now ≡ Some x → each_said say (take (i + 1) (texts words)) ≡ Some (said ++ x ∷ [])
more_word say words i d said x below before here =
    each_said_more say (texts words) i said x (texts-below words i below) before (ap say (text-at words i d below) ∙ here)

pub bad_word : {X : Type 0} (say : List ℕ → Option X) (words : List (Bor (List ℕ))) (i : ℕ) (d : Bor (List ℕ)) (text : List ℕ) → texts words ≡ words_of text → is_hyphen text ≡ false → i < length words → say (get_or words i d).now ≡ None → listed say text ≡ None
bad_word say words i d text are hyphen below bad =
    listed_bad say text hyphen
    (ap (each_said say) (sym are) ∙ each_said_bad say (texts words) i (texts-below words i below) (ap say (text-at words i d below) ∙ bad))

pub all_words : {X : Type 0} (say : List ℕ → Option X) (words : List (Bor (List ℕ))) (i : ℕ) (said : List X) (text : List ℕ) → texts words ≡ words_of text → is_hyphen text ≡ false → length words ≤ i → each_said say (take i (texts words)) ≡ Some said → listed say text ≡ (if is_nil said then None else Some said)
all_words say words i said text are hyphen end so_far =
    listed_said say text said hyphen
    (ap (each_said say) (sym are ∙ sym (take_all i (texts words) (omega (arith, end, length-map words (λ word. word.now))))) ∙ so_far)

pub nil_from_length : {X : Type 0} (xs : List X) → length xs ≡ 0 → is_nil xs ≡ true
nil_from_length [] e = refl
nil_from_length (x ∷ xs) e = absurd (omega arith)

pub cons_from_length : {X : Type 0} (xs : List X) → 0 < length xs → is_nil xs ≡ false
cons_from_length [] h = absurd (omega arith)
cons_from_length (x ∷ xs) h = refl
