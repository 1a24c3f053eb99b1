-- Candidates behind the first ones of a list.
use Rattle.std.proofs.Common.{◌≡◌, ℕ, ◌+◌, ◌-◌, ◌<◌, ◌≤◌, List, ◌++◌, length, take, drop, get_or, set, swap_remove, refl, sym, ap, ◌∙◌, arith}
use Rattle.std.proofs.Math.Seq.{take-append-add}
use Rattle.std.proofs.lemmas.List.{length-append, length-drop, length-take, get_or-append_right, get_or-drop, set-append_right, take-append-drop}
use Rattle.std.proofs.lemmas.List.Sorted.{IsPermutation-swap_remove}
use Rattle.negamax.specs.declared.scored_moves.ScoredMove.{ScoredMove}
use Rattle.negamax.specs.Trials.{Takes}

module _ {X : Type 0} where
  -- what is taken out of a part behind others leaves the others where they are
  behind : (us vs : List X) (n i : ℕ) (d : X) → length us ≡ n → n ≤ i → i - n < length vs
      → swap_remove (us ++ vs) i d ≡ us ++ swap_remove vs (i - n) d
  behind us vs n i d long low high =
      let l = length-append us vs in
      let whole : length (us ++ vs) - 1 ≡ length us + (length vs - 1) = omega arith in
      let place : length (us ++ vs) - 1 - n ≡ length vs - 1 = omega arith in
      let last : get_or (us ++ vs) (length (us ++ vs) - 1) d ≡ get_or vs (length vs - 1) d =
      get_or-append_right us vs n (length (us ++ vs) - 1) d long (omega arith) ∙ ap (λ k. get_or vs k d) place in
      let part = set vs (i - n) (get_or vs (length vs - 1) d) in
      ap (λ y. take (length (us ++ vs) - 1) (set (us ++ vs) i y)) last
      ∙ ap (take (length (us ++ vs) - 1)) (set-append_right us vs n i (get_or vs (length vs - 1) d) long low)
      ∙ ap (λ k. take k (us ++ part)) whole
      ∙ take-append-add us part (length vs - 1)

pub taken_behind : (first place : ℕ) (old new : List ScoredMove) (c : ScoredMove) → first ≤ place → place < length old
    → c ≡ get_or old place c → new ≡ swap_remove old place c → Takes first old new c.chosen
taken_behind first place old new c low high is e =
    let front = length-take first old in
    let back = length-drop first old in
    let there : first + (place - first) ≡ place = omega arith in
    let at : c ≡ get_or (drop first old) (place - first) c =
    is ∙ sym (get_or-drop first old (place - first) c ∙ ap (λ k. get_or old k c) there) in
    record {
      taken = c;
      rest = swap_remove (drop first old) (place - first) c;
      is =
          e ∙ ap (λ xs. swap_remove xs place c) (sym (take-append-drop first old))
          ∙ behind (take first old) (drop first old) first place c (omega arith) low (omega arith);
      are = IsPermutation-swap_remove (drop first old) (place - first) c (omega arith) at;
      chosen = refl;
    }
