-- A node is proved exactly where its disproof number is infinite, and disproved exactly where its proof number is.
use Rattle.std.proofs.Common.{◌≡◌, ◌⊎◌, inl, inr, ℕ, zero, suc, ◌+◌, ◌-◌, ◌<◌, min, List, [], ◌∷◌, map, take, drop, length, get_or, Bool, true, false, not, refl, sym, ◌∙◌, subst, arith}
use Rattle.std.proofs.lemmas.Bool.Decides.{nat_tests}
use Rattle.std.proofs.lemmas.List.{length-take, length-drop, get_or-take, get_or-drop}
use Rattle.pn_search.specs.declared.node.Node.{Node}
use Rattle.pn_search.specs.declared.node.State.{State}
use Rattle.pn_search.specs.declared.node.State.TheVariants.{Open, Won, Lost, Inner}
use Rattle.pn_search.specs.declared.numbers.Pair.{Pair}
use Rattle.pn_search.specs.Meaning.{won_pair, lost_pair}
use Rattle.pn_search.specs.Numbers.{infinite, plus, sum_of, least_of, own_number, pair_with, inner_pair, open_pair, of_children_from, pair_at, numbers_of, pairs_from, pairs_of}

-- one of the numbers is 0 and the other infinite, or both are between
pub data AreFair (a b : ℕ) : Type 0 where
  reached : a ≡ 0 → b ≡ infinite → AreFair a b
  barred : a ≡ infinite → b ≡ 0 → AreFair a b
  between : 0 < a → a < infinite → 0 < b → b < infinite → AreFair a b

turned : (a b : ℕ) → AreFair a b → AreFair b a
turned a b (reached e f) = barred f e
turned a b (barred e f) = reached f e
turned a b (between p q r s) = between r s p q

plus-infinite : (a b : ℕ) → (a ≡ infinite) ⊎ (b ≡ infinite) → plus a b ≡ infinite
unfolding plus
plus-infinite a b (inl e) = grind (arith, nat_tests)
plus-infinite a b (inr e) = grind (arith, nat_tests)

plus-finite : (a b : ℕ) → a < infinite → b < infinite → plus a b ≡ min (a + b) (infinite - 1)
unfolding plus
plus-finite a b h k = grind (arith, nat_tests)

-- the least of one number and the sum of the other
step : (a b l s : ℕ) → AreFair a b → AreFair l s → AreFair (min a l) (plus b s)
step a b l s (reached e f) fair = reached (omega arith) (plus-infinite b s (inl f))
step a b l s (barred e f) (reached g h) = reached (omega arith) (plus-infinite b s (inr h))
step a b l s (barred e f) (barred g h) = barred (omega arith) (plus-finite b s (omega arith) (omega arith) ∙ (omega arith))
step a b l s (barred e f) (between p q r t) = let k = plus-finite b s (omega arith) t in between (omega arith) (omega arith) (omega arith) (omega arith)
step a b l s (between p q r t) (reached g h) = reached (omega arith) (plus-infinite b s (inr h))
step a b l s (between p q r t) (barred g h) = let k = plus-finite b s t (omega arith) in between (omega arith) (omega arith) (omega arith) (omega arith)
step a b l s (between p q r t) (between w x y z) = let k = plus-finite b s t z in between (omega arith) (omega arith) (omega arith) (omega arith)

abbrev pub IsFair : Pair → Type 0
IsFair q = AreFair q.proof q.disproof

pub own-fair : (a : Bool) (q : Pair) → IsFair q → AreFair (own_number a q) (own_number (not a) q)
own-fair true q h = h
own-fair false q h = turned q.proof q.disproof h

with-fair : (a : Bool) (own others : ℕ) → AreFair own others → IsFair (pair_with a own others)
with-fair true own others h = h
with-fair false own others h = turned own others h

all-fair : (a : Bool) (cs : List Pair) → ((k : ℕ) → k < length cs → IsFair (get_or cs k open_pair)) → AreFair (least_of (map (own_number a) cs)) (sum_of (map (own_number (not a)) cs))
unfolding least_of sum_of
all-fair a [] h = barred refl refl
all-fair a (c ∷ cs) h =
    step (own_number a c) (own_number (not a) c) (least_of (map (own_number a) cs)) (sum_of (map (own_number (not a)) cs))
    (own-fair a c (h 0 (omega arith)))
    (all-fair a cs (λ k low. h (suc k) (omega arith)))

taken-fair : (count skip : ℕ) (ps : List Pair) → ((k : ℕ) → k < length ps → IsFair (get_or ps k open_pair)) → (k : ℕ) → k < length (take count (drop skip ps)) → IsFair (get_or (take count (drop skip ps)) k open_pair)
taken-fair count skip ps h k low =
    let a = length-take count (drop skip ps) in
    let b = length-drop skip ps in
    let e = get_or-take count (drop skip ps) k open_pair (omega arith) ∙ get_or-drop skip ps k open_pair in
    subst IsFair (sym e) (h (skip + k) (omega arith))

node-fair : (at : ℕ) (s : State) (a : Bool) (later : List Pair) → ((k : ℕ) → k < length later → IsFair (get_or later k open_pair)) → IsFair (numbers_of s a (of_children_from at s later))
unfolding inner_pair
node-fair at Open a later h = between (omega arith) (omega arith) (omega arith) (omega arith)
node-fair at Won a later h = reached refl refl
node-fair at Lost a later h = barred refl refl
node-fair at (Inner first count) a later h =
    with-fair a (least_of (map (own_number a) (take count (drop (first - at) later)))) (sum_of (map (own_number (not a)) (take count (drop (first - at) later))))
    (all-fair a (take count (drop (first - at) later)) (taken-fair count (first - at) later h))

pairs-fair : (at : ℕ) (vs : List Node) (k : ℕ) → k < length (pairs_from at vs) → IsFair (get_or (pairs_from at vs) k open_pair)
unfolding pairs_from
pairs-fair at [] k low = absurd (omega arith)
pairs-fair at (v ∷ vs) zero low = node-fair (suc at) v.state v.attacking (pairs_from (suc at) vs) (λ k low. pairs-fair (suc at) vs k low)
pairs-fair at (v ∷ vs) (suc k) low = pairs-fair (suc at) vs k (omega arith)

pub fair_at : (nodes : List Node) (i : ℕ) → i < length (pairs_of nodes) → IsFair (pair_at (pairs_of nodes) i)
unfolding pairs_of
fair_at nodes i low = pairs-fair 0 nodes i low

-- one infinite number says both
pub settled-won : (q : Pair) → IsFair q → q.disproof ≡ infinite → q ≡ won_pair
settled-won q (reached e f) h = λ i. record { proof = e i; disproof = f i }
settled-won q (barred e f) h = absurd (omega arith)
settled-won q (between p r s t) h = absurd (omega arith)

pub settled-lost : (q : Pair) → IsFair q → q.proof ≡ infinite → q ≡ lost_pair
settled-lost q (reached e f) h = absurd (omega arith)
settled-lost q (barred e f) h = λ i. record { proof = e i; disproof = f i }
settled-lost q (between p r s t) h = absurd (omega arith)
