-- GameLaws of any play.
use Rattle.std.proofs.Common.{◌≡◌, inl, inr, ℕ, zero, suc, ◌+◌, List, [], ◌∷◌, Bool, true, false, Option, Some, None, not, ◌&&◌, ◌||◌, if◌then◌else◌, refl, ap, ◌∙◌, arith}
use Rattle.std.specs.List.{list_any, list_all}
use Rattle.foundation.specs.Member.{Member}
use Rattle.forced_wins.specs.Contests.{Contest, decided, replies, attacks_by, forced, within}

or_mono : (a b c d : Bool) → (a ≡ true → c ≡ true) → (b ≡ true → d ≡ true) → (a || b) ≡ true → (c || d) ≡ true
or_mono a b c d f g h = grind arith

and_mono : (a b c d : Bool) → (a ≡ true → c ≡ true) → (b ≡ true → d ≡ true) → (a && b) ≡ true → (c && d) ≡ true
and_mono a b c d f g h = grind arith

pub if_mono : (b s t u v : Bool) → (s ≡ true → u ≡ true) → (t ≡ true → v ≡ true) → (if b then s else t) ≡ true → (if b then u else v) ≡ true
if_mono true s t u v f g h = f h
if_mono false s t u v f g h = g h

pub decided-mono : (o : Option Bool) (s t : Bool) → (s ≡ true → t ≡ true) → decided o s ≡ true → decided o t ≡ true
decided-mono None s t f h = f h
decided-mono (Some w) s t f h = h

module _ {X : Type 0} where
  pub any_mono : (p q : X → Bool) (xs : List X) → ((x : X) → p x ≡ true → q x ≡ true) → list_any p xs ≡ true → list_any q xs ≡ true
  any_mono p q [] f h = h
  any_mono p q (x ∷ xs) f h = or_mono (p x) (list_any p xs) (q x) (list_any q xs) (f x) (any_mono p q xs f) h

  pub all_mono : (p q : X → Bool) (xs : List X) → ((x : X) → p x ≡ true → q x ≡ true) → list_all p xs ≡ true → list_all q xs ≡ true
  all_mono p q [] f h = h
  all_mono p q (x ∷ xs) f h = and_mono (p x) (list_all p xs) (q x) (list_all q xs) (f x) (all_mono p q xs f) h

  pub any_intro : (f : X → Bool) (m : X) (xs : List X) → Member m xs → f m ≡ true → list_any f xs ≡ true
  any_intro f m [] k h = absurd k
  any_intro f m (x ∷ xs) (inl e) h = let g : f x ≡ true = ap f e ∙ h in rw g
  any_intro f m (x ∷ xs) (inr k) h = or_mono false (list_any f xs) (f x) (list_any f xs) (λ e. cc) (λ e. e) (any_intro f m xs k h)

  pub all_intro : (f : X → Bool) (xs : List X) → ((m : X) → Member m xs → f m ≡ true) → list_all f xs ≡ true
  all_intro f [] h = refl
  all_intro f (x ∷ xs) h = let g : f x ≡ true = h x (inl refl) in rw (g, all_intro f xs (λ m k. h m (inr k)))

unfoldable pub double : ℕ → ℕ
double zero = zero
double (suc n) = suc (suc (double n))

pub double-is : (n : ℕ) → double n ≡ n + n
unfolding double
double-is zero = refl
double-is (suc n) = let h = double-is n in omega arith

module _ {X M : Type 0} (g : Contest X M) where
  -- with one move more a win stays one
  pub within-mono : (t : ℕ) (x : X) → within g t x ≡ true → within g (suc t) x ≡ true
  unfolding within
  within-mono zero x h = decided-mono (g.end x) _ _ (λ e. cc) h
  within-mono (suc t) x h =
      decided-mono (g.end x) _ _
      (if_mono (g.attacking x) _ _ _ _ (any_mono _ _ (g.moves x) (λ m. within-mono t (g.after x m))) (all_mono _ _ (g.moves x) (λ m. within-mono t (g.after x m)))) h

  module _ (turns : (x : X) (m : M) → g.attacking (g.after x m) ≡ not (g.attacking x)) where
    attacks_more : (n : ℕ) → ((x : X) → g.attacking x ≡ true → attacks_by g n x ≡ within g (double n) x) → (x : X) → g.attacking x ≡ false → replies g (attacks_by g n) x ≡ within g (suc (double n)) x
    unfolding within replies double
    attacks_more n f x e =
        let same : (λ m. attacks_by g n (g.after x m)) ≡ (λ m. within g (double n) (g.after x m)) = λ i m. f (g.after x m) (turns x m ∙ ap not e) i in
        rw e (ap (λ h. decided (g.end x) (list_all h (g.moves x))) same)

    -- the ways of counting agree, where the sides take turns
    pub attacks_by-within : (n : ℕ) (x : X) → g.attacking x ≡ true → attacks_by g n x ≡ within g (double n) x
    unfolding attacks_by within double
    attacks_by-within zero x e = refl
    attacks_by-within (suc n) x e =
        let same : (λ m. replies g (attacks_by g n) (g.after x m)) ≡ (λ m. within g (suc (double n)) (g.after x m)) = λ i m. attacks_more n (attacks_by-within n) (g.after x m) (turns x m ∙ ap not e) i in
        rw e (ap (λ h. decided (g.end x) (list_any h (g.moves x))) same)

    pub replies-within : (n : ℕ) (x : X) → g.attacking x ≡ false → replies g (attacks_by g n) x ≡ within g (suc (double n)) x
    replies-within n = attacks_more n (attacks_by-within n)

    pub forced-attacking : (n : ℕ) (x : X) → g.attacking x ≡ true → forced g n x ≡ within g (double n) x
    unfolding forced
    forced-attacking n x e = rw e (attacks_by-within n x e)

    pub forced-other : (n : ℕ) (x : X) → g.attacking x ≡ false → forced g n x ≡ within g (suc (double n)) x
    unfolding forced
    forced-other n x e = rw e (replies-within n x e)
