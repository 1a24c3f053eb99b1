-- Keys in which one number stands in the place of another.
use Rattle.std.proofs.Common.{◌≡◌, ◌≢◌, ℕ, ◌+◌, ◌-◌, ◌%◌, ◌^◌, ◌<◌, ◌≤◌, true, false, Option, List, length, ap, sym, ◌∙◌, arith}
use Rattle.std.proofs.Math.Nat.{mod-add-mod, add-mod-mod, add-mod_right}
use Rattle.square_set.proofs.Cases.{by_order}
use Rattle.square_set.specs.declared.Set.{Set}
use Rattle.square_set.specs.Members.{has, IsWithout}
use Rattle.rules_model.specs.declared.board.Cell.{Cell}
use Rattle.rules_model.specs.declared.board.Side.{Side}
use Rattle.rules_model.specs.declared.board.Side.TheVariants.{White, Black}
use Rattle.rules_model.specs.Hands.{hand_of}
use Rattle.rules_model.specs.Sides.{other}
use Rattle.rules_model.specs.Squares.{cell_at}
use Rattle.next_position.specs.Changed.{AgreeOutside}
use Rattle.next_position.proofs.BetweenLaws.{between, between-all, between-none, beyond, inside, others, taken-out}
use Rattle.position_key.specs.Changed.{IsExchanged}
use Rattle.position_key.specs.Key.{sum_below, cells_sum, hand_sum, hands_sum}
use Rattle.position_key.specs.Words.{cell_word}
use Rattle.position_key.proofs.SumLemmas.{sum_below-zero, sum_below-more, sum_below-same, sums-apart}

-- ---- sums mod m

-- one number taken off a sum and one put to it
swapped : (rest out put m : ℕ) → out ≤ m → (((((rest + out) % m) + (m - out)) % m) + put) % m ≡ (rest + put) % m
swapped rest out put m l =
    let x = (rest + out) % m in
    let d = m - out in
    let inner = mod-add-mod (x + d) m put in
    let flat_out = mod-add-mod (rest + out) m (d + put) in
    let a : (x + d) + put ≡ x + (d + put) = omega arith in
    let b : (rest + out) + (d + put) ≡ (rest + put) + m = omega (arith, l) in
    inner ∙ ap (λ k. k % m) a ∙ flat_out ∙ ap (λ k. k % m) b ∙ add-mod_right (rest + put) m

pub exchange : (key out put : ℕ) → out < 2 ^ 64 → IsExchanged key out put ((((key + (2 ^ 64 - out)) % 2 ^ 64) + put) % 2 ^ 64)
exchange key out put l rest e = rw e (swapped rest out put (2 ^ 64) (omega (arith, l)))

-- one more number in a sum
pub summed : (sum x k m : ℕ) → k ≡ sum % m → (k + x) % m ≡ (sum + x) % m
summed sum x k m e = rw e (mod-add-mod sum m x)

-- two sums
pub both-summed : (a b k l m : ℕ) → k ≡ a % m → l ≡ b % m → (k + l) % m ≡ (a + b) % m
both-summed a b k l m e f = rw (e, f) (mod-add-mod a m (b % m) ∙ add-mod-mod a b m)

-- ---- one exchange after another

-- in two places
pub both-exchanged : (key mid new a b x y : ℕ) → IsExchanged key a b mid → IsExchanged mid x y new → IsExchanged key (a + x) (b + y) new
both-exchanged key mid new a b x y first second rest e =
    let p : rest + (a + x) ≡ (rest + x) + a = omega arith in
    let q : (rest + x) + b ≡ (rest + b) + x = omega arith in
    let r : (rest + b) + y ≡ rest + (b + y) = omega arith in
    let m = first (rest + x) (e ∙ ap (λ k. k % 2 ^ 64) p) in
    second (rest + b) (m ∙ ap (λ k. k % 2 ^ 64) q) ∙ ap (λ k. k % 2 ^ 64) r

-- in one place
pub exchanged-within : (key mid new a b c out put rest : ℕ) → IsExchanged key a b mid → IsExchanged mid out put new → b ≡ rest + out → c ≡ rest + put → IsExchanged key a c new
exchanged-within key mid new a b c out put rest first second was is more e =
    let m = first more e in
    let p : more + b ≡ (more + rest) + out = omega (arith, was) in
    let q : (more + rest) + put ≡ more + c = omega (arith, is) in
    second (more + rest) (m ∙ ap (λ k. k % 2 ^ 64) p) ∙ ap (λ k. k % 2 ^ 64) q

-- in two parts of a sum
pub parts-exchanged : (key mid new a b x y : ℕ) → key ≡ (a + x) % 2 ^ 64 → IsExchanged key a b mid → IsExchanged mid x y new → new ≡ (b + y) % 2 ^ 64
parts-exchanged key mid new a b x y is first second =
    let p : a + x ≡ x + a = omega arith in
    let q : x + b ≡ b + x = omega arith in
    second b (first x (is ∙ ap (λ k. k % 2 ^ 64) p) ∙ ap (λ k. k % 2 ^ 64) q)

-- ---- sums below a number

pub sum-step : (f : ℕ → ℕ) (n sum x : ℕ) → sum ≡ sum_below f n % 2 ^ 64 → x ≡ f n → (sum + x) % 2 ^ 64 ≡ sum_below f (n + 1) % 2 ^ 64
sum-step f n sum x e is = summed (sum_below f n) x sum (2 ^ 64) e ∙ ap (λ k. k % 2 ^ 64) (ap (λ k. sum_below f n + k) is ∙ sym (sum_below-more f n))

pub sums-start : (f g : ℕ → ℕ) (key : ℕ) → IsExchanged key (sum_below f 0) (sum_below g 0) key
sums-start f g key rest e = e ∙ ap (λ k. (rest + k) % 2 ^ 64) (sum_below-zero f ∙ sym (sum_below-zero g))

pub sums-step : (f g : ℕ → ℕ) (n key mid new x y : ℕ) → IsExchanged key (sum_below f n) (sum_below g n) mid → IsExchanged mid x y new → x ≡ f n → y ≡ g n → IsExchanged key (sum_below f (n + 1)) (sum_below g (n + 1)) new
sums-step f g n key mid new x y first second was is =
    let p : sum_below f (n + 1) ≡ sum_below f n + x = sum_below-more f n ∙ ap (λ k. sum_below f n + k) (sym was) in
    let q : sum_below g (n + 1) ≡ sum_below g n + y = sum_below-more g n ∙ ap (λ k. sum_below g n + k) (sym is) in
    rw (p, q) (both-exchanged key mid new _ _ x y first second)

-- nothing is exchanged where both are the same
pub same-exchanged : (key x y : ℕ) → x ≡ y → IsExchanged key x y key
same-exchanged key x y e rest is = is ∙ ap (λ k. (rest + k) % 2 ^ 64) e

-- ---- hands

-- of the one side, where the other's stays
pub one-hand : (key new : ℕ) (side : Side) (before next : List (List ℕ)) → hand_of next (other side) ≡ hand_of before (other side)
    → IsExchanged key (hand_sum side (hand_of before side)) (hand_sum side (hand_of next side)) new → IsExchanged key (hands_sum before) (hands_sum next) new
one-hand key new White before next same exchanged =
    both-exchanged key new new _ _ _ _ exchanged (same-exchanged new _ _ (ap (hand_sum Black) (sym same)))
one-hand key new Black before next same exchanged =
    both-exchanged key key new _ _ _ _ (same-exchanged key _ _ (ap (hand_sum White) (sym same))) exchanged

-- ---- squares taken out of a set

abbrev pub between_sum : Set → List (Option Cell) → List (Option Cell) → ℕ
between_sum left before next = sum_below (λ s. cell_word s (between left before next s)) 120

-- before any square is taken out
pub sum-of-all : (left : Set) (before next : List (Option Cell)) → AgreeOutside left before next → between_sum left before next ≡ cells_sum before
sum-of-all left before next agree = sum_below-same _ _ 120 (λ s l. ap (cell_word s) (between-all left before next agree s))

-- once none is left
pub sum-of-none : (left : Set) (before next : List (Option Cell)) → ((s : ℕ) → has left s ≡ false) → between_sum left before next ≡ cells_sum next
sum-of-none left before next none = sum_below-same _ _ 120 (λ s l. ap (cell_word s) (between-none left before next none s))

module _ (left now : Set) (before next : List (Option Cell)) (at : ℕ) (member : has left at ≡ true) (without : IsWithout left at now) where
  same-word : (s : ℕ) → s ≢ at → cell_word s (between left before next s) ≡ cell_word s (between now before next s)
  same-word s d = ap (cell_word s) (others left now before next at without s d)

  pub between-less : (key mid new : ℕ) → length before ≡ 120 → length next ≡ 120 → IsExchanged key (cells_sum before) (between_sum left before next) mid → IsExchanged mid (cell_word at (cell_at before at)) (cell_word at (cell_at next at)) new → IsExchanged key (cells_sum before) (between_sum now before next) new
  between-less key mid new sizes sizes_too first second =
      by_order at 120 _
      (λ l.
      let d = sums-apart (λ s. cell_word s (between left before next s)) (λ s. cell_word s (between now before next s)) 120 at l same-word in
      exchanged-within key mid new _ _ _ _ _ d.rest first second (d.first ∙ ap (λ c. d.rest + cell_word at c) (inside left before next at member)) (d.second ∙ ap (λ c. d.rest + cell_word at c) (taken-out left now before next at without)))
      (λ l.
      let same = sum_below-same (λ s. cell_word s (between left before next s)) (λ s. cell_word s (between now before next s)) 120 (λ s m. same-word s (λ e. omega (arith, l, m, e))) in
      let was = beyond before at (omega (arith, l, sizes)) in
      let is = beyond next at (omega (arith, l, sizes_too)) in
      exchanged-within key mid new _ _ _ _ _ (between_sum left before next) first second (rw was (omega arith)) (rw is (omega (arith, same))))
