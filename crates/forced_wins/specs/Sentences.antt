-- What is proved of any game, law by law.
use Rattle.std.specs.Prelude.{◌≡◌, ◌⊎◌, ◌↔◌, ℕ, suc, ◌≤◌, List, Bool, true, false, not, Some, None}
use Rattle.std.specs.List.{list_any, list_all}
use Rattle.foundation.specs.Member.{Member}
use Rattle.forced_wins.specs.Contests.{Contest, forced}
use Rattle.forced_wins.specs.Games.{Game, Story, IsInLimit, of_positions, blocked, wins, near, near_root}
use Rattle.forced_wins.specs.Claims.{IsWon, IsRefuted}
use Rattle.forced_wins.specs.Lines.{IsUnsettled}
use Rattle.forced_wins.specs.Tables.{Accessors, IsGood}
use Rattle.forced_wins.specs.PlainTables.{Node, plain}

-- ---- contests

-- the sides take turns
abbrev pub TakesTurns : {X M : Type 0} → Contest X M → Type 0
TakesTurns {X = X} {M = M} g = (x : X) (m : M) → g.attacking (g.after x m) ≡ not (g.attacking x)

-- the state is ongoing, and the attacker is to move
pub record IsAttack (X M : Type 0) (g : Contest X M) (x : X) : Type 0 where
  pub ongoing : g.end x ≡ None
  pub turn : g.attacking x ≡ true

-- it is ongoing, and the other side is to move
pub record IsDefence (X M : Type 0) (g : Contest X M) (x : X) : Type 0 where
  pub ongoing : g.end x ≡ None
  pub turn : g.attacking x ≡ false

-- some move leads to a state that passes, and each move does
abbrev pub some_move : {X M : Type 0} → Contest X M → (X → Bool) → X → Bool
some_move g test x = list_any (λ m. test (g.after x m)) (g.moves x)

abbrev pub each_move : {X M : Type 0} → Contest X M → (X → Bool) → X → Bool
each_move g test x = list_all (λ m. test (g.after x m)) (g.moves x)

-- the attacker needs a move to what he wins by one move less, and each move of the other side must leave it won
pub record GoesByMoves (X M : Type 0) (g : Contest X M) : Type 0 where
  pub attack : (n : ℕ) (x : X) → IsAttack X M g x → forced g (suc n) x ≡ some_move g (forced g n) x
  pub defence : (n : ℕ) (x : X) → IsDefence X M g x → forced g n x ≡ each_move g (forced g n) x

-- ---- near wins

-- q has the repeat of p, at its counter or a lower one
pub record IsLower (P R M : Type 0) (r : Game P R M) (p q : P) : Type 0 where
  pub repeat : r.repeat q ≡ r.repeat p
  pub counter : r.counter q ≤ r.counter p

-- each repeat that is barred now was barred before
abbrev pub BarsNoMore : {R : Type 0} → (R → Bool) → (R → Bool) → Type 0
BarsNoMore {R = R} old new = (x : R) → new x ≡ true → old x ≡ true

-- what a near win within n moves survives: a lower counter, and that fewer repeats are barred
pub record NearWinsStay (P R M : Type 0) (r : Game P R M) (n : ℕ) : Type 0 where
  pub lower : (b : R → Bool) (p q : P) → IsLower P R M r p q → near r b n p ≡ true → near r b n q ≡ true
  pub fewer : (b c : R → Bool) (p : P) → BarsNoMore b c → near r b n p ≡ true → near r c n p ≡ true

-- near wins of a game: more moves do no harm, and a root whose repeat is not barred is looked at as any other position
pub record LooksPastRoot (P R M : Type 0) (r : Game P R M) (g : Story P) : Type 0 where
  pub more : (k n : ℕ) → k ≤ n → near_root r k g ≡ true → near_root r n g ≡ true
  pub unbarred : (n : ℕ) → blocked r g (r.repeat g.last) ≡ false → near_root r n g ≡ near r (blocked r g) n g.last

-- a win is a near win, and where the counter cannot run out the two are one
pub record WinsAreNear (P R M : Type 0) (r : Game P R M) (n : ℕ) (g : Story P) : Type 0 where
  pub always : wins r n g ≡ true → near_root r n g ≡ true
  pub in_limit : IsInLimit r n g → wins r n g ≡ near_root r n g

-- ---- claims that derive

-- the repeat of p is won at each counter up to its own, or refuted at each from its own on
abbrev pub IsWonHere : {P R M : Type 0} → Game P R M → (R → Bool) → ℕ → P → Type 0
IsWonHere r barred n p = IsWon r barred (r.repeat p) n (r.counter p)

abbrev pub IsRefutedHere : {P R M : Type 0} → Game P R M → (R → Bool) → ℕ → P → Type 0
IsRefutedHere r barred n p = IsRefuted r barred (r.repeat p) n (r.counter p)

-- the repeat after a move is won within k moves, or refuted, at the counter that stands there among others
pub record IsWonAfter (P R M : Type 0) (r : Game P R M) (barred : R → Bool) (p : P) (m : M) (k : ℕ) : Type 0 where
  pub counter : ℕ
  pub covers : r.counter (r.next p m) ≤ counter
  pub won : IsWon r barred (r.repeat (r.next p m)) k counter

pub record IsRefutedAfter (P R M : Type 0) (r : Game P R M) (barred : R → Bool) (p : P) (m : M) (k : ℕ) : Type 0 where
  pub counter : ℕ
  pub covers : counter ≤ r.counter (r.next p m)
  pub refuted : IsRefuted r barred (r.repeat (r.next p m)) k counter

-- the repeat after each legal move is won within some number of moves up to n, or refuted for n or more
abbrev pub EachIsWon : {P R M : Type 0} → Game P R M → (R → Bool) → ℕ → P → Type 0
EachIsWon {P = P} {R = R} {M = M} r barred n p =
    (m : M) → Member m (r.legal p) → (k : ℕ) × (k ≤ n) × IsWonAfter P R M r barred p m k

abbrev pub EachIsRefuted : {P R M : Type 0} → Game P R M → (R → Bool) → ℕ → P → Type 0
EachIsRefuted {P = P} {R = R} {M = M} r barred n p =
    (m : M) → Member m (r.legal p) → (k : ℕ) × (n ≤ k) × IsRefutedAfter P R M r barred p m k

-- the attacker, or the other side, is to move in an ongoing position
abbrev pub Attacks : {P R M : Type 0} → Game P R M → (R → Bool) → P → Type 0
Attacks {P = P} {M = M} r barred p = IsAttack P M (of_positions r barred) p

abbrev pub Defends : {P R M : Type 0} → Game P R M → (R → Bool) → P → Type 0
Defends {P = P} {M = M} r barred p = IsDefence P M (of_positions r barred) p

-- the claims on the repeat of p that what holds of its legal moves allows
pub record ClaimsDerive (P R M : Type 0) (r : Game P R M) (b : R → Bool) (p : P) : Type 0 where
  pub won_now : (c : ℕ) → r.own p ≡ Some true → IsWon r b (r.repeat p) 0 c
  pub by_move : (m : M) (k : ℕ) → Attacks r b p → Member m (r.legal p) →
      IsWonAfter P R M r b p m k → IsWonHere r b (suc k) p
  pub by_all : (n : ℕ) → Defends r b p → EachIsWon r b n p → IsWonHere r b n p
  pub refuted_now : (n : ℕ) → (of_positions r b).end p ≡ Some false → IsRefutedHere r b n p
  pub refuted_zero : Attacks r b p → IsRefutedHere r b 0 p
  pub refuted_by_all : (n : ℕ) → Attacks r b p → EachIsRefuted r b n p → IsRefutedHere r b (suc n) p
  pub refuted_by_move : (m : M) (n : ℕ) → Defends r b p → Member m (r.legal p) →
      IsRefutedAfter P R M r b p m n → IsRefutedHere r b n p

-- ---- strategies

abbrev pub GoodStrategiesWin : {P R M N E : Type 0} → Game P R M → Accessors P M N E → Type 0
GoodStrategiesWin {P = P} {N = N} r tb =
    (is_for : Bool) (s : List N) (g : Story P) (n : ℕ) → IsGood r tb is_for s g n → wins r n g ≡ true

-- the attacker has a good strategy of plain nodes
abbrev pub HasGood : {P R M : Type 0} → Game P R M → ℕ → Story P → Type 0
HasGood {P = P} {M = M} r n g = (s : List (Node P M)) × IsGood r plain true s g n

-- inside the limit there is one exactly where the game is won, and a near win has one or is unsettled
pub record HasStrategies (P R M : Type 0) (r : Game P R M) (n : ℕ) (g : Story P) : Type 0 where
  pub in_limit : IsInLimit r n g → HasGood r n g ↔ (wins r n g ≡ true)
  pub settled : near_root r n g ≡ true → HasGood r n g ⊎ IsUnsettled P R M r n g
