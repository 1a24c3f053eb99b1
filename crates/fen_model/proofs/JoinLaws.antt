-- Parts that are joined are cut again.
use Rattle.std.proofs.Common.{◌≡◌, ℕ, zero, suc, ◌+◌, ◌*◌, ◌<◌, ◌≤◌, ◌==◌, Bool, true, false, not, List, [], ◌∷◌, length, map, refl, ap, ◌∙◌, arith, length-append}
use Rattle.std.specs.List.{All, join_with_byte, list_all, position_or_len, range_with_len, slice_split}
use Rattle.std.proofs.lemmas.Bool.{eq-eqb, ne_eqb, and_from, and_parts, not-true, not_from_false, true_from_ne_false}
use Rattle.std.proofs.lemmas.List.Folds.{list_all-append, list_all_at}
use Rattle.std.proofs.lemmas.List.Splits.{slice_split_at, slice_split_none}

-- the text has no such byte
abbrev pub Lacks : ℕ → List ℕ → Type 0
Lacks byte text = list_all (λ b. not (b == byte)) text ≡ true

-- each element meets the condition
abbrev pub Each : {A : Type 0} → (A → Type 0) → List A → Type 0
Each P [] = Unit {0}
Each P (x ∷ xs) = P x × Each P xs

pub each-range : {A : Type 0} (P : A → Type 0) (f : ℕ → A) (a n : ℕ) → ((k : ℕ) → k < a + n → P (f k)) → Each P (map f (range_with_len a n))
each-range P f a zero h = tt
each-range P f a (suc n) h = (h a (omega arith), each-range P f (a + 1) n (λ k below. h k (omega arith)))

pub each-map : {A B : Type 0} (P : B → Type 0) (f : A → B) (xs : List A) → Each (λ x. P (f x)) xs → Each P (map f xs)
each-map P f [] each = tt
each-map P f (x ∷ xs) each = (each.0, each-map P f xs each.1)

differs : (q : ℕ → Bool) (byte b : ℕ) → q byte ≡ false → q b ≡ true → not (b == byte) ≡ true
differs q byte b not_q is_q = not_from_false _ (ne_eqb b byte (λ same. let h = ap q same in cc))

-- a text of bytes that pass a test lacks the bytes that do not
pub lacks-from : (q : ℕ → Bool) (byte : ℕ) (text : List ℕ) → q byte ≡ false → list_all q text ≡ true → Lacks byte text
lacks-from q byte [] not_q all = refl
lacks-from q byte (b ∷ bs) not_q all = and_from _ _ (differs q byte b not_q (and_parts _ _ all).0) (lacks-from q byte bs not_q (and_parts _ _ all).1)

none_there : (byte : ℕ) (text : List ℕ) → Lacks byte text → All (λ b. (b == byte) ≡ false) text
none_there byte text lacks = λ k d below.
    not-true _ (true_from_ne_false _ (λ n. let bad = list_all_at (λ b. not (b == byte)) text k d below n in cc))

pub split-join : (byte : ℕ) (text : List ℕ) (texts : List (List ℕ)) → Each (Lacks byte) (text ∷ texts) → slice_split (λ b. b == byte) (join_with_byte byte (text ∷ texts)) ≡ text ∷ texts
split-join byte text [] each = slice_split_none (λ b. b == byte) text (none_there byte text each.0)
split-join byte text (next ∷ texts) each =
    slice_split_at (λ b. b == byte) text byte (join_with_byte byte (next ∷ texts)) (none_there byte text each.0) (eq-eqb byte byte refl)
    ∙ ap (λ parts. text ∷ parts) (split-join byte next texts each.1)

-- a text without the byte has its place at the end
pub place-none : (byte : ℕ) (text : List ℕ) → Lacks byte text → position_or_len (λ b. b == byte) text ≡ length text
place-none byte [] lacks = refl
place-none byte (b ∷ bs) lacks =
    let here : not (b == byte) ≡ true = (and_parts (not (b == byte)) (list_all (λ c. not (c == byte)) bs) lacks).0 in
    let e = place-none byte bs (and_parts (not (b == byte)) (list_all (λ c. not (c == byte)) bs) lacks).1 in
    rw here (omega (arith, e))

-- bytes of joined texts
pub join-all : (q : ℕ → Bool) (byte : ℕ) (texts : List (List ℕ)) → q byte ≡ true → Each (λ text. list_all q text ≡ true) texts → list_all q (join_with_byte byte texts) ≡ true
join-all q byte [] is_q each = refl
join-all q byte (text ∷ []) is_q each = each.0
join-all q byte (text ∷ next ∷ texts) is_q each =
    list_all-append q text (byte ∷ join_with_byte byte (next ∷ texts)) ∙ and_from _ _ each.0 (and_from _ _ is_q (join-all q byte (next ∷ texts) is_q each.1))

-- the length of joined texts
pub join-short : (n byte : ℕ) (texts : List (List ℕ)) → Each (λ text. length text ≤ n) texts → length (join_with_byte byte texts) ≤ length texts * (n + 1)
join-short n byte [] each = omega arith
join-short n byte (text ∷ []) each = let one = each.0 in omega arith
join-short n byte (text ∷ next ∷ texts) each =
    let one = each.0 in
    let others = join-short n byte (next ∷ texts) each.1 in
    omega (arith, one, others, length-append text (byte ∷ join_with_byte byte (next ∷ texts)))
