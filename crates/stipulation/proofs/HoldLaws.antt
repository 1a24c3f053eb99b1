-- A certificate that holds forces what it says.
use Rattle.std.proofs.Common.{◌≡◌, ◌⊎◌, inl, inr, ℕ, zero, suc, ◌+◌, ◌-◌, ◌*◌, ◌<◌, ◌≤◌, List, [], ◌∷◌, Bool, true, false, Option, Some, None, refl, ap, sym, ◌∙◌, subst, arith}
use Rattle.std.specs.List.{list_any, list_all}
use Rattle.foundation.specs.Member.{Member}
use Rattle.foundation.specs.Tests.{is_nil}
use Rattle.rules_model.specs.declared.moves.Move.{Move}
use Rattle.forced_wins.specs.Contests.{Contest, within}
use Rattle.forced_wins.proofs.ContestLaws.{any_intro, all_intro}
use Rattle.forced_wins.proofs.Counts.{by_cases, own_cases}
use Rattle.stipulation.specs.declared.cert.Step.{Step}
use Rattle.stipulation.specs.declared.verdict.CertVerdict.TheVariants.{Holds}
use Rattle.stipulation.specs.Trees.{game_at, moves_at, parent_game, children}
use Rattle.stipulation.specs.Verdicts.{end_verdict, game_verdict, plies_verdict, steps_verdict, tree_verdict}
use Rattle.stipulation.proofs.TreeLemmas.{some-member, end-won, chosen-some, replies-all, or-holds, IsFaultless, steps-holds, game-here, game-past, moves-lower, moves-same, moves-higher}

-- each step has at most this ply
abbrev pub Shallow : ℕ → List Step → Type 0
Shallow d [] = Unit {0}
Shallow d (s ∷ steps) = (s.ply ≤ d) × Shallow d steps

order_cases : {C : Type 0} (a b : ℕ) → (a < b → C) → (a ≡ b → C) → (b < a → C) → C
order_cases {C = C} a b f g h = split (three a b)
  where
    three : (a b : ℕ) → (a < b) ⊎ (a ≡ b) ⊎ (b < a)
    three a b = grind arith

    split : (a < b) ⊎ (a ≡ b) ⊎ (b < a) → C
    split (inl k) = f k
    split (inr (inl k)) = g k
    split (inr (inr k)) = h k

module _ {X : Type 0} (c : Contest X Move) (n : ℕ) (root : X) where
  -- a child, by its move, of the last of the earlier steps of the ply
  record Child (d : ℕ) (earlier : List Step) (p : ℕ) (m : Move) : Type 0 where
    number : ℕ
    before : List Step
    step : Step
    after : List Step
    is_ply : step.ply ≡ p + 1
    is_move : step.chosen ≡ m
    same : game_at c root before p ≡ game_at c root earlier p
    faultless : IsFaultless X c n root number before step after
    rest : steps_verdict c n root (number + 1) (step ∷ before) after ≡ Holds
    shallow : (step.ply ≤ d) × Shallow d after

  child-past : (d : ℕ) (earlier : List Step) (p : ℕ) (m : Move) (s : Step) → (s.ply ≡ p → ⊥) → Child d (s ∷ earlier) p m → Child d earlier p m
  child-past d earlier p m s h k = record {
    number = k.number;
    before = k.before;
    step = k.step;
    after = k.after;
    is_ply = k.is_ply;
    is_move = k.is_move;
    same = k.same ∙ game-past c root s earlier p h;
    faultless = k.faultless;
    rest = k.rest;
    shallow = k.shallow;
  }

  find-child : (d p i : ℕ) (earlier later : List Step) (m : Move) → steps_verdict c n root i earlier later ≡ Holds → Shallow d later → Member m (moves_at (p + 1) later) → Child d earlier p m
  unfolding moves_at
  find-child d p i earlier [] m h sh k = absurd k
  find-child d p i earlier (s ∷ later) m h sh k =
      let u = steps-holds c n root i earlier s later h in
      let go : (s.ply ≡ p → ⊥) → Member m (moves_at (p + 1) later) → Child d earlier p m = λ ne j. child-past d earlier p m s ne (find-child d p (i + 1) (s ∷ earlier) later m u.1 sh.1 j) in
      order_cases s.ply (p + 1)
      (λ low. absurd (subst (Member m) (moves-lower (p + 1) s later low) k))
      (λ e. let j = subst (Member m) (moves-same (p + 1) s later e) k in
      elim j as (λ _. Child d earlier p m) [
        | inl is ↦ record { number = i; before = earlier; step = s; after = later; is_ply = e; is_move = is; same = refl; faultless = u.0; rest = u.1; shallow = sh }
        | inr r ↦ go (λ f. omega arith) r
      ])
      (λ high. go (λ f. omega arith) (subst (Member m) (moves-higher (p + 1) s later high) k))

  within-ended : (t : ℕ) (x : X) → c.end x ≡ Some true → within c t x ≡ true
  unfolding within
  within-ended zero x e = rw e
  within-ended (suc t) x e = rw e

  within-chosen : (t : ℕ) (x : X) → c.end x ≡ None → c.attacking x ≡ true → list_any (λ m. within c t (c.after x m)) (c.moves x) ≡ true → within c (suc t) x ≡ true
  unfolding within
  within-chosen t x e a h = rw (e, a, h)

  within-replied : (t : ℕ) (x : X) → c.end x ≡ None → c.attacking x ≡ false → list_all (λ m. within c t (c.after x m)) (c.moves x) ≡ true → within c (suc t) x ≡ true
  unfolding within
  within-replied t x e a h = rw (e, a, h)

  verdict-at : (i : ℕ) (x : X) (cs : List Move) (o : Option Bool) (a : Bool) → c.end x ≡ o → c.attacking x ≡ a → game_verdict c i x cs ≡ Holds → end_verdict i o a (c.moves x) cs ≡ Holds
  verdict-at i x cs o a e f h = sym (λ j. end_verdict i (e j) (f j) (c.moves x) cs) ∙ h

  -- what a node of the tree is: its game, by the steps up to it, the steps after it, and the plies that it has left
  record IsNode (d t p : ℕ) (earlier later : List Step) (x : X) : Type 0 where
    is : game_at c root earlier p ≡ x
    left : p + t ≡ d
    i : ℕ
    holds : steps_verdict c n root i earlier later ≡ Holds
    shallow : Shallow d later
    number : ℕ
    game : game_verdict c number x (children p later) ≡ Holds

  child-of : (d t p : ℕ) (earlier later : List Step) (x : X) (m : Move) → IsNode d t p earlier later x → Member m (children p later) → Child d earlier p m
  child-of d t p earlier later x m node k = find-child d p node.i earlier later m node.holds node.shallow k

  parent-is : (d t p : ℕ) (earlier later : List Step) (x : X) (m : Move) → IsNode d t p earlier later x → (k : Child d earlier p m) → parent_game c root k.before k.step.ply ≡ x
  parent-is d t p earlier later x m node k =
      let e = k.is_ply in
      let back : k.step.ply - 1 ≡ p = omega arith in
      ap (game_at c root k.before) back ∙ k.same ∙ node.is

  child-legal : (d t p : ℕ) (earlier later : List Step) (x : X) (m : Move) → IsNode d t p earlier later x → Child d earlier p m → Member m (c.moves x)
  child-legal d t p earlier later x m node k =
      subst (λ y. Member m (c.moves y)) (parent-is d t p earlier later x m node k)
      (subst (λ j. Member j (c.moves (parent_game c root k.before k.step.ply))) k.is_move k.faultless.legal)

  -- the child is a node with one ply less
  child-node : (d t p : ℕ) (earlier later : List Step) (x : X) (m : Move) → IsNode d (suc t) p earlier later x → (k : Child d earlier p m) → IsNode d t k.step.ply (k.step ∷ k.before) k.after (c.after x m)
  child-node d t p earlier later x m node k =
      let e = k.is_ply in
      let l = node.left in
      let game : c.after (parent_game c root k.before k.step.ply) k.step.chosen ≡ c.after x m = λ j. c.after (parent-is d (suc t) p earlier later x m node k j) (k.is_move j) in
      record {
        is = game-here c root k.step k.before ∙ game;
        left = omega arith;
        i = k.number + 1;
        holds = k.rest;
        shallow = k.shallow.1;
        number = k.number;
        game = subst (λ y. game_verdict c k.number y (children k.step.ply k.after) ≡ Holds) game k.faultless.game;
      }

  no-ply-left : (d p : ℕ) (earlier later : List Step) (x : X) (m : Move) → IsNode d 0 p earlier later x → Child d earlier p m → ⊥
  no-ply-left d p earlier later x m node k =
      let e = k.is_ply in
      let l = node.left in
      let s = k.shallow.0 in omega arith

  module _ (alive : (x : X) → c.end x ≡ None → is_nil (c.moves x) ≡ false) where
    node-within : (d t p : ℕ) (earlier later : List Step) (x : X) → IsNode d t p earlier later x → within c t x ≡ true
    node-within d zero p earlier later x node =
        own_cases (c.end x)
        (λ w e. within-ended 0 x (e ∙ ap Some (end-won node.number w (c.attacking x) (c.moves x) (children p later) (verdict-at node.number x (children p later) (Some w) (c.attacking x) e refl node.game))))
        (λ e. by_cases (c.attacking x)
        (λ a. let some = some-member (children p later) (chosen-some node.number (c.moves x) (children p later) (verdict-at node.number x (children p later) None true e a node.game)) in
        absurd (no-ply-left d p earlier later x some.0 node (child-of d 0 p earlier later x some.0 node some.1)))
        (λ a. let some = some-member (c.moves x) (alive x e) in
        absurd (no-ply-left d p earlier later x some.0 node (child-of d 0 p earlier later x some.0 node
        (replies-all node.number (c.moves x) (children p later) (verdict-at node.number x (children p later) None false e a node.game) some.0 some.1)))))
    node-within d (suc t) p earlier later x node =
        own_cases (c.end x)
        (λ w e. within-ended (suc t) x (e ∙ ap Some (end-won node.number w (c.attacking x) (c.moves x) (children p later) (verdict-at node.number x (children p later) (Some w) (c.attacking x) e refl node.game))))
        (λ e. by_cases (c.attacking x)
        (λ a. let some = some-member (children p later) (chosen-some node.number (c.moves x) (children p later) (verdict-at node.number x (children p later) None true e a node.game)) in
        let k = child-of d (suc t) p earlier later x some.0 node some.1 in
        within-chosen t x e a (any_intro (λ m. within c t (c.after x m)) some.0 (c.moves x) (child-legal d (suc t) p earlier later x some.0 node k)
        (node-within d t k.step.ply (k.step ∷ k.before) k.after (c.after x some.0) (child-node d t p earlier later x some.0 node k))))
        (λ a. within-replied t x e a (all_intro (λ m. within c t (c.after x m)) (c.moves x) (λ m legal.
        let k = child-of d (suc t) p earlier later x m node
        (replies-all node.number (c.moves x) (children p later) (verdict-at node.number x (children p later) None false e a node.game) m legal) in
        node-within d t k.step.ply (k.step ∷ k.before) k.after (c.after x m) (child-node d t p earlier later x m node k)))))

    -- a tree without a failure forces it within the greatest ply
    pub tree-within : (d : ℕ) (steps : List Step) → Shallow d steps → tree_verdict c n root steps ≡ Holds → within c d root ≡ true
    unfolding tree_verdict game_at
    tree-within d steps sh h =
        let a = or-holds (plies_verdict 1 0 steps) _ h in
        let b = or-holds (game_verdict c 0 root (children 0 steps)) _ a.1 in
        node-within d d 0 [] steps root (record { is = refl; left = omega arith; i = 1; holds = b.1; shallow = sh; number = 0; game = b.0 })

  -- ---- how deep it is

  steps-shallow : (i : ℕ) (earlier later : List Step) → steps_verdict c n root i earlier later ≡ Holds → Shallow (2 * n) later
  steps-shallow i earlier [] h = tt
  steps-shallow i earlier (s ∷ later) h = let u = steps-holds c n root i earlier s later h in (u.0.shallow, steps-shallow (i + 1) (s ∷ earlier) later u.1)

  pub tree-shallow : (steps : List Step) → tree_verdict c n root steps ≡ Holds → Shallow (2 * n) steps
  unfolding tree_verdict
  tree-shallow steps h =
      let a = or-holds (plies_verdict 1 0 steps) _ h in
      let b = or-holds (game_verdict c 0 root (children 0 steps)) _ a.1 in
      steps-shallow 1 [] steps b.1
