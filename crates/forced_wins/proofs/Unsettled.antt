-- A near win has a good strategy, or it is unsettled.
use Rattle.std.proofs.Common.{◌≡◌, ◌⊎◌, ◌↔◌, inl, inr, ℕ, zero, suc, ◌+◌, ◌-◌, ◌*◌, ◌<◌, ◌≤◌, List, [], ◌∷◌, length, Bool, true, false, Option, Some, None, not, nat_le, nat_lt, ◌&&◌, ◌||◌, if◌then◌else◌, refl, ap, sym, ◌∙◌, subst, arith}
use Rattle.std.specs.List.{list_any}
use Rattle.std.specs.Bool.{Decides}
use Rattle.std.proofs.lemmas.Bool.Decides.{nat_tests}
use Rattle.foundation.specs.Member.{Member, IsEachOnce}
use Rattle.forced_wins.specs.Contests.{decided, within}
use Rattle.forced_wins.specs.Games.{Game, GameLaws, TableLaws, Story, IsPlayed, IsInLimit, repeated, run_out, lost_if, or_end, of_positions, wins, near, blocked, near_root}
use Rattle.forced_wins.specs.Lines.{moves_left, IsWonAlong, behind, OnWin, IsUnsettled}
use Rattle.forced_wins.specs.PlainTables.{Node, plain}
use Rattle.forced_wins.specs.Tables.{IsGood}
use Rattle.forced_wins.proofs.GoodWins.{good-wins}
use Rattle.forced_wins.proofs.Verdicts.{verdict-faultless, faultless-verdict}
use Rattle.forced_wins.proofs.ContestLaws.{within-mono, double, double-is, forced-attacking, forced-other}
use Rattle.forced_wins.proofs.Counts.{by_cases, not_true, own_cases, tests_from}
use Rattle.forced_wins.proofs.NearLaws.{near_root-wins}
use Rattle.forced_wins.proofs.Writings.{Writing, GoodTable}
use Rattle.forced_wins.proofs.GoodExists.{ended_table, exists-good}
use Rattle.forced_wins.proofs.ShortestWins.{upward, doubled}
use Rattle.forced_wins.proofs.NearLimit.{Line, near_root-settled}

-- ---- a list with each element once has none doubled

or_no : (a b : Bool) → a ≡ false → b ≡ false → (a || b) ≡ false
or_no a b h k = grind arith

module _ {M : Type 0} (same : M → M → Bool) (d : (a b : M) → Decides (same a b) (a ≡ b)) where
  not_again : (m : M) (ms : List M) → (Member m ms → ⊥) → list_any (same m) ms ≡ false
  not_again m [] f = refl
  not_again m (x ∷ ms) f = or_no _ _ (not_true (same m x) (λ t. f (inl (sym ((d m x).0 t))))) (not_again m ms (λ k. f (inr k)))

  pub once-doubled : (ms : List M) → IsEachOnce ms → doubled same ms ≡ false
  once-doubled [] o = refl
  once-doubled (m ∷ ms) o = or_no _ _ (not_again m ms o.0) (once-doubled ms o.1)

module _ {P R M : Type 0} (r : Game P R M) (l : GameLaws P R M r) {Reached Written : P → Type 0} (writing : Writing P R M r Reached Written) (apart : (p : P) → doubled r.same_move (r.legal p) ≡ false) (g : Story P) (start : Reached g.last) where
  -- n moves of the attacker in plies
  abbrev plies_at : ℕ → P → ℕ
  plies_at n p = if r.attacking p then double n else suc (double n)

  within_up : (q : P) (v : ℕ) → within (of_positions r (blocked r g)) v q ≡ true → within (of_positions r (blocked r g)) (suc v) q ≡ true
  within_up q v h = within-mono (of_positions r (blocked r g)) v q h

  near-plies : (t n : ℕ) (q : P) → t ≤ plies_at n q → within (of_positions r (blocked r g)) t q ≡ true → near r (blocked r g) n q ≡ true
  near-plies t n q h w =
      by_cases (r.attacking q)
      (λ e. forced-attacking (of_positions r (blocked r g)) l.turns n q e ∙ longer (double n) (subst (λ c. t ≤ (if c then double n else suc (double n))) e h))
      (λ e. forced-other (of_positions r (blocked r g)) l.turns n q e ∙ longer (suc (double n)) (subst (λ c. t ≤ (if c then double n else suc (double n))) e h))
    where
      longer : (u : ℕ) → t ≤ u → within (of_positions r (blocked r g)) u q ≡ true
      longer u k = upward (λ v. within (of_positions r (blocked r g)) v q) (within_up q) t u k w

  one_less : (t n : ℕ) → suc t ≤ double n → (0 < n) × (t ≤ suc (double (n - 1)))
  one_less t zero h = absurd (let d = double-is 0 in omega arith)
  one_less t (suc n) h = let d = double-is (suc n) in let f = double-is n in (omega arith, down)
    where
      down : t ≤ suc (double (suc n - 1))
      down = let d = double-is (suc n) in let f = double-is n in let e : suc n - 1 ≡ n = omega arith in rw e (omega arith)

  has_move : (t n : ℕ) (p : P) → suc t ≤ plies_at n p → r.attacking p ≡ true → 0 < n
  has_move t n p h e = (one_less t n (subst (λ c. suc t ≤ (if c then double n else suc (double n))) e h)).0

  next_plies : (t n : ℕ) (p : P) (m : M) → suc t ≤ plies_at n p → t ≤ plies_at (moves_left r n p) (r.next p m)
  next_plies t n p m h =
      by_cases (r.attacking p)
      (λ e. let f : r.attacking (r.next p m) ≡ false = l.turns p m ∙ ap not e in
      let k = (one_less t n (subst (λ c. suc t ≤ (if c then double n else suc (double n))) e h)).1 in rw (f, e) k)
      (λ e. let f : r.attacking (r.next p m) ≡ true = l.turns p m ∙ ap not e in
      let k : suc t ≤ suc (double n) = subst (λ c. suc t ≤ (if c then double n else suc (double n))) e h in rw (f, e) (omega arith))

  -- a line by plies is one by moves
  record Walk (t n : ℕ) (p x : P) : Type 0 where
    moves : List M
    short : length moves ≤ t
    won : IsWonAlong r (blocked r g) n p moves
    ends : behind r p moves ≡ x

  walk : (t n : ℕ) (p x : P) → t ≤ plies_at n p → Line r l writing apart g start t p x → Walk t n p x
  walk zero n p x h e = record { moves = []; short = omega arith; won = tt; ends = e }
  walk (suc t) n p x h (inl e) = record { moves = []; short = omega arith; won = tt; ends = e }
  walk (suc t) n p x h (inr k) =
      let fits = next_plies t n p k.0 h in
      let rest = walk t (moves_left r n p) (r.next p k.0) x fits k.3 in
      let small = rest.short in
      record {
        moves = k.0 ∷ rest.moves;
        short = omega arith;
        won = (k.1, has_move t n p h, near-plies t (moves_left r n p) (r.next p k.0) fits k.2, rest.won);
        ends = rest.ends;
      }

  at_most : (n : ℕ) → plies_at n g.last ≤ 2 * n + 1
  at_most n = let d = double-is n in by_cases (r.attacking g.last) (λ e. rw e (omega arith)) (λ e. rw e (omega arith))

  on_win : (n t : ℕ) (x : R) (c : ℕ) → t ≤ plies_at n g.last → (q : P) × (r.repeat q ≡ x) × (r.counter q ≡ c) × Line r l writing apart g start t g.last q → OnWin P R M r n g x c
  on_win n t x c h k =
      let w = walk t n g.last k.0 h k.3 in
      let small = w.short in
      let most = at_most n in
      record { line = w.moves; short = omega arith; won = w.won; repeat = ap r.repeat w.ends ∙ k.1; counter = ap r.counter w.ends ∙ k.2 }

decided_none : (o : Option Bool) (y z t : Bool) → o ≡ None → decided (or_end o (lost_if (y || z))) t ≡ true → (y ≡ false) × (z ≡ false)
decided_none None true z t e h = cc
decided_none None false true t e h = cc
decided_none None false false t e h = (refl, refl)
decided_none (Some w) y z t e h = cc

decided_some : (o : Option Bool) (b t w : Bool) → o ≡ Some w → decided (or_end o (lost_if b)) t ≡ true → w ≡ true
decided_some None b t w e h = cc
decided_some (Some u) b t w e h = let k : u ≡ w = cc in sym k ∙ h

limit_cases : {C : Type 0} (a x : ℕ) → ((a ≡ 0) ⊎ (x < a) → C) → (0 < a → a ≤ x → C) → C
limit_cases {C = C} a x f g = by_cases (nat_lt 0 a && nat_le a x) (λ h. let k = tests_from a x h in g k.0 k.1) (λ h. f (low a x h))
  where
    low : (a x : ℕ) → (nat_lt 0 a && nat_le a x) ≡ false → (a ≡ 0) ⊎ (x < a)
    low a x h = grind (arith, nat_tests)

module _ {P R M : Type 0} (r : Game P R M) (l : GameLaws P R M r) {Reached Written : P → Type 0} (writing : Writing P R M r Reached Written) (once : (p : P) → IsEachOnce (r.legal p)) (g : Story P) (start : Reached g.last) where
  apart : (p : P) → doubled r.same_move (r.legal p) ≡ false
  apart p = once-doubled r.same_move l.decides_move (r.legal p) (once p)

  -- inside the limit a win has a good strategy
  pub win-good : (n : ℕ) → IsPlayed r g → IsInLimit r n g → wins r n g ≡ true → GoodTable P R M r Written g n
  win-good n played low h = exists-good r l writing apart g start n played low h

  widen : (n : ℕ) (own : r.own g.last ≡ None) (y : repeated r g ≡ false) (z : run_out r (r.counter g.last) ≡ false) → near_root r n g ≡ true → 0 < r.limit → r.limit ≤ r.counter g.last + (n + n) → GoodTable P R M r Written g n ⊎ IsUnsettled P R M r n g
  widen n own y z h counted close =
      elim (near_root-settled r l writing apart g start n own y z h) as (λ _. GoodTable P R M r Written g n ⊎ IsUnsettled P R M r n g) [
        | inl k ↦ inl k
        | inr k ↦ inr (record {
          near_win = h;
          counted = counted;
          close = close;
          repeat = k.2.repeat;
          counters = k.2.counters;
          differ = k.2.differ;
          on_lines = λ c m. on_win r l writing apart g start n (suc k.0.left) k.2.repeat c k.1 (k.2.on_lines c m);
          many = k.2.many;
        })
      ]

  live : (n : ℕ) → IsPlayed r g → near_root r n g ≡ true → r.own g.last ≡ None → GoodTable P R M r Written g n ⊎ IsUnsettled P R M r n g
  unfolding near_root
  live n played h own =
      let k = decided_none (r.own g.last) (repeated r g) (run_out r (r.counter g.last)) _ own h in
      limit_cases r.limit (r.counter g.last + (n + n)) (λ low. inl (win-good n played low (near_root-wins r l n g low h))) (widen n own k.0 k.1 h)

  -- an ended game that is won
  pub ended-good : (n : ℕ) → near_root r n g ≡ true → (w : Bool) → r.own g.last ≡ Some w → GoodTable P R M r Written g n
  unfolding near_root
  ended-good n h w e = ended_table r l writing apart g start w e (decided_some (r.own g.last) (repeated r g || run_out r (r.counter g.last)) _ w e h) n

  -- a near win has a good strategy, or it is unsettled
  pub near-settled : (n : ℕ) → IsPlayed r g → near_root r n g ≡ true → GoodTable P R M r Written g n ⊎ IsUnsettled P R M r n g
  near-settled n played h = own_cases (r.own g.last) (λ w e. inl (ended-good n h w e)) (live n played h)

-- ---- with nothing asked of the positions of nodes

module _ {P R M : Type 0} (r : Game P R M) (t : TableLaws P R M r) where
  any : P → Type 0
  any p = Unit {0}

  anyhow : Writing P R M r any any
  unfolding any
  anyhow = record {
    goes_on = λ p m h k. tt;
    at = t.at;
    at_repeat = t.at_repeat;
    at_low = λ p c. let e = t.at_counter p c in omega arith;
    at_high = λ p c _ low. let e = t.at_counter p c in omega arith;
    at_next = λ p q m c d less. let e = t.at_counter p c in let f = t.at_counter q d in let up = t.base.rises (t.at p c) m in omega arith;
    at_written = λ p c _. tt;
    exact = λ p. p;
    exact_repeat = λ p. refl;
    exact_counter = λ p. refl;
    exact_written = λ p _. tt;
  }

  anywhere : (p : P) → any p
  unfolding any
  anywhere p = tt

  abbrev HasGood : Story P → ℕ → Type 0
  HasGood g n = (s : List (Node P M)) × IsGood r plain true s g n

  judged : (g : Story P) (n : ℕ) → GoodTable P R M r any g n → HasGood g n
  judged g n k = (k.nodes, faultless-verdict r plain k.nodes g n k.faultless)

  pub good-exactly-wins : (g : Story P) (n : ℕ) → IsPlayed r g → IsInLimit r n g → HasGood g n ↔ (wins r n g ≡ true)
  good-exactly-wins g n played low = (
    λ k. good-wins r plain t.base k.0 g n (verdict-faultless r plain k.0 g true n k.1).1,
    λ h. judged g n (win-good r t.base anyhow t.once g (anywhere g.last) n played low h),
  )

  pub near-good-or-unsettled : (g : Story P) (n : ℕ) → IsPlayed r g → near_root r n g ≡ true → HasGood g n ⊎ IsUnsettled P R M r n g
  near-good-or-unsettled g n played h =
      elim (near-settled r t.base anyhow t.once g (anywhere g.last) n played h) as (λ _. HasGood g n ⊎ IsUnsettled P R M r n g) [
        | inl k ↦ inl (judged g n k)
        | inr k ↦ inr k
      ]
