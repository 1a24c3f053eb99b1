-- Any game of two sides whose positions repeat and have a counter: wins with the history, and near wins without.
use Rattle.std.specs.Prelude.{◌≡◌, ◌⊎◌, ℕ, zero, suc, ◌+◌, ◌<◌, ◌≤◌, List, [], ◌∷◌, ◌++◌, Bool, true, false, not, ◌&&◌, ◌||◌, nat_le, nat_lt, Option, Some, None, if◌then◌else◌, count_by}
use Rattle.std.specs.List.{list_any, list_all}
use Rattle.std.specs.Bool.{Decides}
use Rattle.foundation.specs.Member.{Member, IsEachOnce}
use Rattle.forced_wins.specs.Contests.{Contest, decided, forced}

-- the rules as the attacker sees them: P are positions, R what a repetition compares, M moves
pub record Game (P R M : Type 0) : Type 0 where
  pub repeat : P → R
  -- tests of equality
  pub same : R → R → Bool
  pub same_move : M → M → Bool
  pub counter : P → ℕ
  -- an end by the position itself, or without a legal move: whether the attacker has won
  pub own : P → Option Bool
  -- the attacker is to move
  pub attacking : P → Bool
  pub legal : P → List M
  pub next : P → M → P
  -- a repeat ends the game that stands so often, 0 for never
  pub fold : ℕ
  -- a counter ends the game that is so high, 0 for never
  pub limit : ℕ

-- what the laws of forced wins ask of the rules
pub record GameLaws (P R M : Type 0) (r : Game P R M) : Type 0 where
  pub decides : (a b : R) → Decides (r.same a b) (a ≡ b)
  pub decides_move : (a b : M) → Decides (r.same_move a b) (a ≡ b)
  -- the repeat alone says how the position ends, who moves and what is legal
  pub same_own : (p q : P) → r.repeat p ≡ r.repeat q → r.own p ≡ r.own q
  pub same_turn : (p q : P) → r.repeat p ≡ r.repeat q → r.attacking p ≡ r.attacking q
  pub same_legal : (p q : P) → r.repeat p ≡ r.repeat q → r.legal p ≡ r.legal q
  -- with the move it says the next repeat
  pub same_next : (p q : P) (m : M) → r.repeat p ≡ r.repeat q → r.repeat (r.next p m) ≡ r.repeat (r.next q m)
  -- the sides take turns
  pub turns : (p : P) (m : M) → r.attacking (r.next p m) ≡ not (r.attacking p)
  -- at one repeat and move the next counter is monotone in the counter, and at most one more
  pub lower : (p q : P) (m : M) → r.repeat p ≡ r.repeat q → r.counter p ≤ r.counter q →
      r.counter (r.next p m) ≤ r.counter (r.next q m)
  pub rises : (p : P) (m : M) → r.counter (r.next p m) ≤ r.counter p + 1

-- what is asked besides, where a strategy is to be found
pub record TableLaws (P R M : Type 0) (r : Game P R M) : Type 0 where
  pub base : GameLaws P R M r
  -- the same position at another counter
  pub at : P → ℕ → P
  pub at_repeat : (p : P) (c : ℕ) → r.repeat (at p c) ≡ r.repeat p
  pub at_counter : (p : P) (c : ℕ) → r.counter (at p c) ≡ c
  -- no legal move stands twice
  pub once : (p : P) → IsEachOnce (r.legal p)

-- ---- games with their history

-- a game by its positions: the last one, and those before it in order
pub record Story (P : Type 0) : Type 0 where
  pub earlier : List P
  pub last : P

abbrev pub history : {P : Type 0} → Story P → List P
history g = g.earlier ++ g.last ∷ []

-- the game one move longer
abbrev pub plus : {P R M : Type 0} → Game P R M → Story P → M → Story P
plus r g m = record { earlier = history g; last = r.next g.last m }

-- no position before the last one is ended by itself, since a move was made there
abbrev pub IsPlayed : {P R M : Type 0} → Game P R M → Story P → Type 0
IsPlayed {P = P} r g = (p : P) → Member p g.earlier → r.own p ≡ None

-- how many of the positions have the repeat
unfoldable pub times : {P R M : Type 0} → Game P R M → R → List P → ℕ
times r x ps = count_by (λ p. r.same (r.repeat p) x) ps

-- ---- ends

-- the counter has reached the limit
unfoldable pub run_out : {P R M : Type 0} → Game P R M → ℕ → Bool
run_out r c = nat_lt 0 r.limit && nat_le r.limit c

-- the last position has stood often enough
unfoldable pub repeated : {P R M : Type 0} → Game P R M → Story P → Bool
repeated r g = nat_lt 0 r.fold && nat_le r.fold (times r (r.repeat g.last) (history g))

-- one standing more of the repeat ends the game
unfoldable pub blocked : {P R M : Type 0} → Game P R M → Story P → R → Bool
blocked r g x = nat_lt 0 r.fold && nat_le r.fold (times r x (history g) + 1)

-- the counter does not run out in n moves of the attacker and the replies to them
abbrev pub IsInLimit : {P R M : Type 0} → Game P R M → ℕ → Story P → Type 0
IsInLimit r n g = (r.limit ≡ 0) ⊎ (r.counter g.last + (n + n) < r.limit)

abbrev pub lost_if : Bool → Option Bool
lost_if true = Some false
lost_if false = None

-- the first that is an end
abbrev pub or_end : Option Bool → Option Bool → Option Bool
or_end (Some won) later = Some won
or_end None later = later

-- ---- wins

-- games with their history: an end by itself comes before repetition and move count, and these are no wins
abbrev pub of_games : {P R M : Type 0} → Game P R M → Contest (Story P) M
of_games r = record {
  end = λ g. or_end (r.own g.last) (lost_if (repeated r g || run_out r (r.counter g.last)));
  attacking = λ g. r.attacking g.last;
  moves = λ g. r.legal g.last;
  after = plus r;
}

-- positions alone: each of a barred repeat is lost to the attacker
abbrev pub of_positions : {P R M : Type 0} → Game P R M → (R → Bool) → Contest P M
of_positions r barred = record {
  end = λ p. or_end (r.own p) (lost_if (barred (r.repeat p) || run_out r (r.counter p)));
  attacking = r.attacking;
  moves = r.legal;
  after = r.next;
}

-- the attacker wins the game by n moves of his own
abbrev pub wins : {P R M : Type 0} → Game P R M → ℕ → Story P → Bool
wins r n g = forced (of_games r) n g

-- he wins from the position
abbrev pub near : {P R M : Type 0} → Game P R M → (R → Bool) → ℕ → P → Bool
near r barred n p = forced (of_positions r barred) n p

-- some move leads to a win by one move less
abbrev pub near_attack : {P R M : Type 0} → Game P R M → (R → Bool) → ℕ → P → Bool
near_attack r barred zero p = false
near_attack r barred (suc n) p = list_any (λ m. near r barred n (r.next p m)) (r.legal p)

-- each move leads to a win
abbrev pub near_defence : {P R M : Type 0} → Game P R M → (R → Bool) → ℕ → P → Bool
near_defence r barred n p = list_all (λ m. near r barred n (r.next p m)) (r.legal p)

-- the game itself is looked at with its history, and what follows it without: its repeats that are used up are barred
unfoldable pub near_root : {P R M : Type 0} → Game P R M → ℕ → Story P → Bool
near_root r n g =
    decided ((of_games r).end g)
    (if r.attacking g.last then near_attack r (blocked r g) n g.last else near_defence r (blocked r g) n g.last)
