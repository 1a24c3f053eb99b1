-- What facts say of positions without their history.
use Rattle.std.specs.Prelude.{◌≡◌, ℕ, ◌≤◌, Bool, true, false}
use Rattle.forced_wins.specs.Games.{Game, near}

-- the repeat is won within n moves at each counter up to c
abbrev pub IsWon : {P R M : Type 0} → Game P R M → (R → Bool) → R → ℕ → ℕ → Type 0
IsWon {P = P} r barred x n c = (q : P) → r.repeat q ≡ x → r.counter q ≤ c → near r barred n q ≡ true

-- it is not won within n moves at any counter from c on
abbrev pub IsRefuted : {P R M : Type 0} → Game P R M → (R → Bool) → R → ℕ → ℕ → Type 0
IsRefuted {P = P} r barred x n c = (q : P) → r.repeat q ≡ x → c ≤ r.counter q → near r barred n q ≡ false
