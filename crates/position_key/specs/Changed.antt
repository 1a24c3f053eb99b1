-- What a move changes of a key.
use Rattle.std.specs.Prelude.{◌≡◌, ℕ, ◌+◌, ◌%◌, ◌^◌}

-- where the old key is a sum of which the first number is a part, the new one is the sum with the second in its place
abbrev pub IsExchanged : ℕ → ℕ → ℕ → ℕ → Type 0
IsExchanged old out put new = (rest : ℕ) → old ≡ (rest + out) % 2 ^ 64 → new ≡ (rest + put) % 2 ^ 64
