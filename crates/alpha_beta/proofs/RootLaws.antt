-- Root moves that are searched once each.
use Rattle.std.proofs.Common.{◌≡◌, ℕ, ◌+◌, ◌*◌, ◌≤◌, ◌<◌, List, [], ◌∷◌, length, take, get_or, ap, ◌∙◌, arith, ℤ, inl, refl}
use Rattle.std.proofs.lemmas.List.Elements.{All-contains, Contains-get_or}
use Rattle.std.proofs.lemmas.List.Sums.{sum_by-cons, sum_by_more, sum_by-take-le}
use Rattle.foundation.specs.Member.{Member}
use Rattle.foundation.proofs.Members.{contains-member, member-contains}
use Rattle.rules_model.specs.declared.moves.Move.{Move}
use Rattle.rules_model.specs.declared.rules.Rules.{Rules}
use Rattle.rules_model.specs.Games.{Story}
use Rattle.rules_model.specs.Legal.{legal}
use Rattle.rules_model.specs.Repeats.{repeat_of}
use Rattle.game_play.specs.Played.{Played, story}
use Rattle.evaluation.specs.Bounds.{search_bound}
use Rattle.evaluation.specs.Values.{play, root_score, root_value, tree_size, value_of, worst}
use Rattle.evaluation.proofs.Greatest.{greatest-set}
use Rattle.evaluation.proofs.TreeLaws.{roots-lines}
use Rattle.negamax.specs.RootFacts.{root_tree}
use Rattle.alpha_beta.specs.Roots.{AreDistinct, AreLegal, root_lines}
use Rattle.alpha_beta.specs.Bests.{IsBest}

some-member : (m : Move) (xs : List Move) → Member m xs → 0 < length xs
some-member m [] k = absurd k
some-member m (x ∷ xs) k = omega arith

module _ (roots distinct : List Move) (h : AreDistinct roots distinct) where
  pub distinct-some : 0 < length roots → 0 < length distinct
  distinct-some s = first roots s h
    where
      first : (ms : List Move) → 0 < length ms → AreDistinct ms distinct → 0 < length distinct
      first [] s h = absurd (omega arith)
      first (m ∷ ms) s h = some-member m distinct (h.complete m (inl refl))

  module _ (rules : Rules) (depth : ℕ) (g : Story) where
    value-distinct : value_of rules depth g distinct ≡ value_of rules depth g roots
    unfolding root_value
    value-distinct = greatest-set (root_score (play rules) depth g) worst distinct roots h.sound h.complete

    pub legal-distinct : AreLegal rules g roots → AreLegal rules g distinct
    legal-distinct legal' = λ k d lt. All-contains (λ x. Member x (legal rules (repeat_of g.last))) roots (get_or distinct k d) legal' (contains-member (get_or distinct k d) roots (h.sound (get_or distinct k d) (member-contains (get_or distinct k d) distinct (Contains-get_or distinct k d lt))))

    -- each of them is searched at most three times
    pub lines-within : AreLegal rules g distinct → 3 * root_lines rules depth g distinct ≤ search_bound rules depth g
    unfolding search_bound
    lines-within h' =
        let all = roots-lines (play rules) (depth + 3) g distinct h.once (λ m k. All-contains (λ x. Member x (legal rules (repeat_of g.last))) distinct m h' (contains-member m distinct k)) in
        let four : tree_size rules (depth + 3 + 1) g ≡ tree_size rules (depth + 4) g = ap (λ n. tree_size rules n g) (omega arith) in
        omega (arith, all, four)

  pub best-distinct : (game : Played) (depth : ℕ) (v : ℤ) (m : Move) → IsBest game depth distinct v m → IsBest game depth roots v m
  best-distinct game depth v m b = record {
    value_is = b.value_is ∙ value-distinct game.rules depth (story game);
    attains = record { root = h.sound m b.attains.root; attained = b.attains.attained };
  }

-- ---- root moves one by one

module _ (rules : Rules) (depth : ℕ) (g : Story) (roots : List Move) where
  abbrev after_root : Move → ℕ
  after_root = root_tree rules depth g

  pub lines-none : root_lines rules depth g (take 0 roots) ≡ 0
  lines-none = refl

  -- one more is searched
  pub lines-more : (i : ℕ) (d : Move) → i < length roots → root_lines rules depth g (take i roots) + after_root (get_or roots i d) ≤ root_lines rules depth g (take (i + 1) roots)
  lines-more i d h = let more = sum_by_more after_root roots i d h in omega (arith, more)

  -- or none
  pub lines-skip : (i : ℕ) (d : Move) → i < length roots → root_lines rules depth g (take i roots) ≤ root_lines rules depth g (take (i + 1) roots)
  lines-skip i d h = let more = sum_by_more after_root roots i d h in omega (arith, more)

  pub lines-part : (i : ℕ) → root_lines rules depth g (take i roots) ≤ root_lines rules depth g roots
  lines-part i = sum_by-take-le after_root roots i

  -- the lines behind the first, and behind the others
  pub lines-first : (m : Move) (ms : List Move) → root_lines rules depth g (m ∷ ms) ≡ after_root m + root_lines rules depth g ms
  lines-first m ms = sum_by-cons after_root m ms
