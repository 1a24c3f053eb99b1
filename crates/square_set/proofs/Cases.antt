-- Proofs by cases: on a test, on two numbers.
use Rattle.std.proofs.Common.{◌≡◌, ◌≢◌, ℕ, ◌<◌, ◌≤◌, nat_lt, Bool, true, false, ◌==◌, refl, sym, arith}

pub by_bool : (b : Bool) (P : Type 0) → (b ≡ true → P) → (b ≡ false → P) → P
by_bool true P f g = f refl
by_bool false P f g = g refl

pub by_order : (a b : ℕ) (P : Type 0) → (a < b → P) → (b ≤ a → P) → P
by_order a b P f g = elim (nat_lt a b) as (λ v. nat_lt a b ≡ v → P) [ true ↦ λ e. f (grind arith) | false ↦ λ e. g (grind arith) ] refl

pub by_equal : (a b : ℕ) (P : Type 0) → ((a == b) ≡ true → a ≡ b → P) → ((a == b) ≡ false → a ≢ b → P) → P
by_equal a b P f g = elim (a == b) as (λ v. (a == b) ≡ v → P) [ true ↦ λ e. f e (grind arith) | false ↦ λ e. g e (λ h. grind arith) ] refl

-- two tests of which each passes where the other does
pub same_both : (a b : Bool) → (a ≡ true → b ≡ true) → (b ≡ true → a ≡ true) → a ≡ b
same_both true b f g = sym (f refl)
same_both false true f g = g refl
same_both false false f g = refl
