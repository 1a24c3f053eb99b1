-- What a source's lines decide, call by call.
use Rattle.std.proofs.Common.{◌≡◌, ◌≤◌, ℕ, ◌+◌, arith, length, List, [], ◌∷◌, ◌++◌, inl, inr, Option, refl, ap, sym, subst, append_assoc, length-append}
use Rattle.std.proofs.lemmas.List.{append-nil}
use Rattle.std.specs.Io.KnownBytes.{IsAtEnd}
use Rattle.io_ports.specs.Lines.{Line}
use Rattle.io_ports.specs.Source.{Takes}
use Rattle.io_ports.proofs.Moved.{takes_none, takes_more}
use Rattle.game_text.specs.HeardLines.{HeardLines}

-- the end was met, and nothing before it
pub heard_end : (a b : Option (List ℕ)) (needed : List Line → ℕ) (P : List Line → Type 0) → Takes a b [] → IsAtEnd b → P [] → HeardLines a b needed P
heard_end a b needed P takes ended holds = record { lines = []; took = takes; few = λ more. omega arith; holds = inl (ended, holds) }

-- one line decides
pub heard_line : (a b : Option (List ℕ)) (needed : List Line → ℕ) (x : Line) (P : List Line → Type 0) → Takes a b (x ∷ [])
    → ((more : List Line) → 1 ≤ needed (x ∷ more)) → ((more : List Line) → P (x ∷ more)) → HeardLines a b needed P
heard_line a b needed x P takes one holds = record { lines = x ∷ []; took = takes; few = one; holds = inr holds }

-- no line is needed
pub heard_none : (a b : Option (List ℕ)) (needed : List Line → ℕ) (P : List Line → Type 0) → Takes a b [] → ((more : List Line) → P more) → HeardLines a b needed P
heard_none a b needed P takes holds = record { lines = []; took = takes; few = λ more. omega arith; holds = inr holds }

-- no call was made
pub heard_nothing : (a : Option (List ℕ)) (needed : List Line → ℕ) (P : List Line → Type 0) → ((more : List Line) → P more) → HeardLines a a needed P
heard_nothing a needed P holds = heard_none a a needed P (takes_none a) holds

-- what follows from it
pub heard_so : (a b : Option (List ℕ)) (needed needed' : List Line → ℕ) (P Q : List Line → Type 0) → HeardLines a b needed P → ((lines : List Line) → needed lines ≤ needed' lines)
    → ((lines : List Line) → P lines → Q lines) → HeardLines a b needed' Q
heard_so a b needed needed' P Q h wider so = record {
  lines = h.lines;
  took = h.took;
  few = λ more. let few = h.few more in let more_needed = wider (h.lines ++ more) in omega (arith, few, more_needed);
  holds = elim h.holds [ inl (ended, holds) ↦ inl (ended, so h.lines holds) | inr holds ↦ inr (λ more. so (h.lines ++ more) (holds more)) ];
}

pub same_needed : (needed : List Line → ℕ) (lines : List Line) → needed lines ≤ needed lines
same_needed needed lines = omega arith

-- a line, and what those after it decide
pub heard_more : (a b c : Option (List ℕ)) (needed needed' : List Line → ℕ) (x : Line) (P Q : List Line → Type 0) → Takes a b (x ∷ []) → HeardLines b c needed P
    → ((lines : List Line) → 1 + needed lines ≤ needed' (x ∷ lines)) → ((lines : List Line) → P lines → Q (x ∷ lines)) → HeardLines a c needed' Q
heard_more a b c needed needed' x P Q takes h adds so = record {
  lines = x ∷ h.lines;
  took = takes_more a b c (x ∷ []) h.lines takes h.took;
  few = λ more. let few = h.few more in let added = adds (h.lines ++ more) in omega (arith, few, added);
  holds = elim h.holds [ inl (ended, holds) ↦ inl (ended, so h.lines holds) | inr holds ↦ inr (λ more. so (h.lines ++ more) (holds more)) ];
}

-- ---- lines, and then others

first_lines : {a b : Option (List ℕ)} {needed : List Line → ℕ} (P : List Line → Type 0) (h : HeardLines a b needed P) → P h.lines
first_lines P h = elim h.holds [ inl (ended, holds) ↦ holds | inr holds ↦ subst P (append-nil h.lines) (holds []) ]

-- the first lines decide by exactly k of them, and the others what follows
pub heard_then : (a b c : Option (List ℕ)) (k : ℕ) (first then needed : List Line → ℕ) (P Q R : List Line → Type 0) → HeardLines a b first P → HeardLines b c then Q
    → ((lines : List Line) → P lines → k ≤ length lines) → ((lines : List Line) → first lines ≤ k)
    → ((front rest : List Line) → length front ≡ k → P front → k + then rest ≤ needed (front ++ rest))
    → ((front rest : List Line) → length front ≡ k → P front → Q rest → R (front ++ rest)) → HeardLines a c needed R
heard_then a b c k first then needed P Q R h more there few_first adds so =
    let holds = first_lines P h in
    let low = there h.lines holds in
    let high = h.few [] in
    let most = few_first (h.lines ++ []) in
    let is : length h.lines ≡ k = omega (arith, low, high, most) in
    record {
      lines = h.lines ++ more.lines;
      took = takes_more a b c h.lines more.lines h.took more.took;
      few = λ later.
          let few = more.few later in
          let added = adds h.lines (more.lines ++ later) is holds in
          let long = length-append h.lines more.lines in
          let joined = ap needed (append_assoc h.lines more.lines later) in
          omega (arith, few, added, long, joined, is);
      holds = elim more.holds [
        | inl (ended, then_holds) ↦ inl (ended, so h.lines more.lines is holds then_holds)
        | inr then_holds ↦ inr (λ later. subst R (sym (append_assoc h.lines more.lines later)) (so h.lines (more.lines ++ later) is holds (then_holds later)))
      ];
    }
