-- Texts without blanks at their ends.
use Rattle.std.proofs.Common.{◌≡◌, ℕ, suc, ◌≤◌, Bool, true, false, List, [], ◌∷◌, ◌++◌, length, reverse, if◌then◌else◌, refl, sym, ap, subst, ◌∙◌, arith}
use Rattle.std.proofs.lemmas.List.{length-reverse, reverse-append, reverse-reverse}
use Rattle.foundation.specs.Cuts.{is_blank}
use Rattle.variant_ini.specs.Cuts.{trimmed, without_blanks}

-- no blank is at the front
abbrev pub BeginsBare : List ℕ → Type 0
BeginsBare text = without_blanks text ≡ text

-- no blank is at either end
pub record IsBare (text : List ℕ) : Type 0 where
  pub front : BeginsBare text
  pub back : BeginsBare (reverse text)

-- ---- blanks at the front

without-short : (text : List ℕ) → length (without_blanks text) ≤ length text
without-short [] = omega arith
without-short (b ∷ text) = go (is_blank b) (without-short text)
  where
    go : (t : Bool) → length (without_blanks text) ≤ length text
        → length (if t then without_blanks text else b ∷ text) ≤ suc (length text)
    go true short = omega (arith, short)
    go false short = omega arith

without-bare : (text : List ℕ) → BeginsBare (without_blanks text)
without-bare [] = refl
without-bare (b ∷ text) = go (is_blank b) refl (without-bare text)
  where
    go : (t : Bool) → is_blank b ≡ t → BeginsBare (without_blanks text)
        → BeginsBare (if t then without_blanks text else b ∷ text)
    go true is bare = bare
    go false is bare = ap (λ u. if u then without_blanks text else b ∷ text) is

-- the text is some blanks and what is left without them
abbrev Blanks : List ℕ → List ℕ → Type 0
Blanks text left = (blanks : List ℕ) × (text ≡ blanks ++ left)

without-parts : (text : List ℕ) → Blanks text (without_blanks text)
without-parts [] = ([], refl)
without-parts (b ∷ text) = go (is_blank b) (without-parts text)
  where
    go : (t : Bool) → Blanks text (without_blanks text)
        → Blanks (b ∷ text) (if t then without_blanks text else b ∷ text)
    go true more = (b ∷ more.0, ap (λ x. b ∷ x) more.1)
    go false more = ([], refl)

bare-if : (b : ℕ) (text : List ℕ) (t : Bool) → is_blank b ≡ t → BeginsBare (b ∷ text) → is_blank b ≡ false
bare-if b text false is bare = is
bare-if b text true is bare =
    let same : without_blanks text ≡ b ∷ text =
    sym (ap (λ u. if u then without_blanks text else b ∷ text) is) ∙ bare in
    absurd (let short = without-short text in let long = ap length same in omega (arith, short, long))

pub bare-first : (b : ℕ) (text more : List ℕ) → BeginsBare (b ∷ text) → BeginsBare (b ∷ more)
bare-first b text more bare =
    ap (λ u. if u then without_blanks more else b ∷ more) (bare-if b text (is_blank b) refl bare)

bare-front : (front back : List ℕ) → BeginsBare (front ++ back) → BeginsBare front
bare-front [] back bare = refl
bare-front (b ∷ front) back bare = bare-first b (front ++ back) front bare

-- ---- both ends

pub trimmed-short : (text : List ℕ) → length (trimmed text) ≤ length text
unfolding trimmed
trimmed-short text =
    let inner = without_blanks text in
    let outer = without_blanks (reverse inner) in
    omega (arith, without-short text, without-short (reverse inner), length-reverse inner, length-reverse outer)

pub trimmed-bare : (text : List ℕ) → IsBare (trimmed text)
unfolding trimmed
trimmed-bare text =
    let inner = without_blanks text in
    let outer = without_blanks (reverse inner) in
    let parts = without-parts (reverse inner) in
    let whole : inner ≡ reverse outer ++ reverse parts.0 =
    sym (reverse-reverse inner) ∙ ap reverse parts.1 ∙ reverse-append parts.0 outer in
    record {
      front = bare-front (reverse outer) (reverse parts.0) (subst BeginsBare whole (without-bare text));
      back = subst BeginsBare (sym (reverse-reverse outer)) (without-bare (reverse inner));
    }

pub bare-trimmed : (text : List ℕ) → IsBare text → trimmed text ≡ text
unfolding trimmed
bare-trimmed text bare =
    ap (λ t. reverse (without_blanks (reverse t))) bare.front
    ∙ ap reverse bare.back
    ∙ reverse-reverse text

-- a blank after it is left out
pub blank-after : (b : ℕ) (text : List ℕ) → IsBare (b ∷ text) → trimmed ((b ∷ text) ++ 32 ∷ []) ≡ b ∷ text
unfolding trimmed
blank-after b text bare =
    ap (λ t. reverse (without_blanks (reverse t))) (bare-first b text (text ++ 32 ∷ []) bare.front)
    ∙ ap (λ t. reverse (without_blanks t)) (reverse-append (b ∷ text) (32 ∷ []))
    ∙ ap reverse bare.back
    ∙ reverse-reverse (b ∷ text)

-- and so is one before it
pub blank-before : (text : List ℕ) → trimmed (32 ∷ text) ≡ trimmed text
unfolding trimmed
blank-before text = refl
