-- Two contests of which one is seen in the other have the same forced wins.
use Rattle.std.proofs.Common.{◌≡◌, ℕ, zero, suc, Bool, false, if◌then◌else◌, ap, ◌∙◌}
use Rattle.std.specs.List.{list_any, list_all}
use Rattle.forced_wins.specs.Contests.{Contest, decided, replies, attacks_by, forced}

module _ {X Y M : Type 0} (g : Contest X M) (h : Contest Y M) (f : X → Y) (ends : (x : X) → g.end x ≡ h.end (f x)) (turn : (x : X) → g.attacking x ≡ h.attacking (f x)) (moves : (x : X) → g.moves x ≡ h.moves (f x)) (after : (x : X) (m : M) → f (g.after x m) ≡ h.after (f x) m) where
  behind : (p : X → Bool) (q : Y → Bool) → ((x : X) → p x ≡ q (f x)) → (x : X) → ◌≡◌ {A = M → Bool} (λ m. p (g.after x m)) (λ m. q (h.after (f x) m))
  behind p q s x i m = (s (g.after x m) ∙ ap q (after x m)) i

  replies-along : (p : X → Bool) (q : Y → Bool) → ((x : X) → p x ≡ q (f x)) → (x : X) → replies g p x ≡ replies h q (f x)
  unfolding replies
  replies-along p q s x i = decided (ends x i) (list_all (behind p q s x i) (moves x i))

  attacks-along : (n : ℕ) (x : X) → attacks_by g n x ≡ attacks_by h n (f x)
  unfolding attacks_by
  attacks-along zero x = λ i. decided (ends x i) false
  attacks-along (suc n) x = λ i. decided (ends x i) (list_any (behind (replies g (attacks_by g n)) (replies h (attacks_by h n)) (replies-along (attacks_by g n) (attacks_by h n) (attacks-along n)) x i) (moves x i))

  pub forced-along : (n : ℕ) (x : X) → forced g n x ≡ forced h n (f x)
  unfolding forced
  forced-along n x i = if turn x i then attacks-along n x i else replies-along (attacks_by g n) (attacks_by h n) (attacks-along n) x i
