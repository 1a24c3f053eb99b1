-- The leftmost line: a position by its first move and the others.
use Rattle.std.proofs.Common.{◌≡◌, ◌∙◌, inl, ℕ, ◌+◌, ◌-◌, ◌<◌, ◌≤◌, List, [], ◌∷◌, None, ap, drop, get_or, length, take, refl, sym, subst, arith}
use Rattle.std.specs.Prelude.{ℤ}
use Rattle.std.proofs.lemmas.List.Sums.{sum_by-cons}
use Rattle.std.specs.List.{All}
use Rattle.std.specs.List.Sorted.{IsPermutation}
use Rattle.std.proofs.lemmas.List.Sorted.{IsPermutation-sym, sum_by-IsPermutation}
use Rattle.foundation.specs.Member.{Member}
use Rattle.foundation.proofs.Members.{member-contains, member-permutation}
use Rattle.std.proofs.lemmas.List.{take_all}
use Rattle.std.proofs.lemmas.List.Elements.{All-drop, All-take, Contains-get_or}
use Rattle.rules_model.specs.declared.moves.Move.{Move}
use Rattle.rules_model.specs.declared.rules.Rules.{Rules}
use Rattle.rules_model.specs.Games.{Story}
use Rattle.rules_model.specs.Legal.{legal}
use Rattle.rules_model.specs.Repeats.{repeat_of}
use Rattle.evaluation.specs.Values.{greatest, play, tree_size, value, worst}
use Rattle.evaluation.proofs.GamesByRules.{play_laws}
use Rattle.evaluation.proofs.Greatest.{greatest-set}
use Rattle.negamax.specs.declared.facts.Best.{Best}
use Rattle.negamax.specs.RootFacts.{root_tree, score_of}
use Rattle.negamax.specs.Windows.{Bounds}
use Rattle.negamax.proofs.NodeLaws.{all_fit, value_on}
use Rattle.negamax.proofs.RootLaws.{list-bounds}
use Rattle.alpha_beta.specs.Roots.{root_lines}

-- all but the first, as a slice from 1 on reads them
abbrev pub others : List Move → List Move
others ms = take (length ms - 1) (drop 1 ms)

-- the first of some, and the others
pub first_and_others : (ms : List Move) (d : Move) → 0 < length ms → ms ≡ get_or ms 0 d ∷ others ms
first_and_others [] d lt = absurd (omega (arith, lt))
first_and_others (m ∷ ms) d lt = ap (λ ns. m ∷ ns) (sym (take_all (length (m ∷ ms) - 1) ms (omega arith)))

-- what holds of all, holds of the others
pub all_others : (P : Move → Type 0) (ms : List Move) → All P ms → All P (others ms)
all_others P ms h = All-take P (length ms - 1) (drop 1 ms) (All-drop P 1 ms h)

some_member : {X : Type 0} (x : X) (xs : List X) → Member x xs → 0 < length xs
some_member x [] h = absurd h
some_member x (y ∷ xs) h = omega arith

-- where a list has some, it has some in another order
pub permuted_some : (xs ys : List Move) → IsPermutation xs ys → 0 < length xs → 0 < length ys
permuted_some [] ys h lt = absurd (omega (arith, lt))
permuted_some (x ∷ xs) ys h lt = some_member x ys (member-permutation x (x ∷ xs) ys h (inl refl))

-- where the game goes on, some move is legal
pub some_legal : (rules : Rules) (ply : ℕ) (g : Story) → (play rules).ended g ply ≡ None → 0 < length (legal rules (repeat_of g.last))
some_legal rules ply g on =
    let lively = (play_laws rules).lively g ply on in
    some_member lively.0 (legal rules (repeat_of g.last)) lively.1

-- what is read from the list in another order is legal
pub permuted_legal : (xs ys : List Move) (i : ℕ) (d : Move) → IsPermutation xs ys → i < length ys → Member (get_or ys i d) xs
permuted_legal xs ys i d h lt =
    member-permutation _ ys xs (IsPermutation-sym xs ys h) (member-contains _ ys (Contains-get_or ys i d lt))

-- so is each of them
pub all_legal : (xs ys : List Move) → IsPermutation xs ys → All (λ m. Member m xs) ys
all_legal xs ys h = λ i d lt. permuted_legal xs ys i d h lt

module _ (rules : Rules) (depth ply : ℕ) (g : Story) (m : Move) (ms : List Move) (on : (play rules).ended g ply ≡ None) (some : 0 < depth)
    (all : IsPermutation (legal rules (repeat_of g.last)) (m ∷ ms)) where
  -- the greatest score of the moves is the value of the position
  pub value-listed : value (play rules) depth ply g ≡ greatest worst (score_of rules depth ply g) (m ∷ ms)
  value-listed =
      value_on (play rules) depth ply g on some
      ∙ sym (greatest-set (score_of rules depth ply g) worst (m ∷ ms) (legal rules (repeat_of g.last))
      (λ n h. member-permutation n (m ∷ ms) (legal rules (repeat_of g.last)) (IsPermutation-sym (legal rules (repeat_of g.last)) (m ∷ ms) all) h)
      (λ n h. member-permutation n (legal rules (repeat_of g.last)) (m ∷ ms) all h))

  pub left-bounds : (a b : ℤ) (first best : Best) → Bounds a b first.value (score_of rules depth ply g m)
      → ((v : ℤ) → Bounds a b first.value v → Bounds a b best.value (greatest v (score_of rules depth ply g) ms))
      → Bounds a b best.value (value (play rules) depth ply g)
  left-bounds a b first best told rest =
      subst (λ v. Bounds a b best.value v) (sym value-listed) (list-bounds rules depth ply g a b m ms first best told rest)

  -- the position, the lines behind its first move, and those behind the others
  pub lines-listed : 1 + (root_tree rules depth g m + root_lines rules depth g ms) ≤ tree_size rules (depth + 4) g
  lines-listed =
      let all' = all_fit (play rules) (depth + 4) (depth + 3) g (omega arith) in
      let once = sum_by-IsPermutation (root_tree rules depth g) (legal rules (repeat_of g.last)) (m ∷ ms) all in
      let parts = sum_by-cons (root_tree rules depth g) m ms in
      omega (arith, all', once, parts)
