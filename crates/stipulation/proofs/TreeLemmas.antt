-- Verdicts taken apart, and the parts of trees.
use Rattle.std.proofs.Common.{◌≡◌, inl, inr, ℕ, ◌+◌, ◌*◌, ◌<◌, ◌≤◌, ◌==◌, nat_lt, List, [], ◌∷◌, Bool, true, false, not, ◌||◌, is_some, Option, Some, None, refl, ap, sym, ◌∙◌, subst, arith}
use Rattle.std.specs.Bool.{Decides}
use Rattle.std.specs.List.{list_any}
use Rattle.std.proofs.lemmas.Bool.{or_cases, or_left, or_right}
use Rattle.std.proofs.lemmas.Bool.Decides.{nat_tests}
use Rattle.foundation.specs.Member.{Member}
use Rattle.foundation.specs.Tests.{is_nil}
use Rattle.rules_model.specs.declared.moves.Move.{Move}
use Rattle.rules_model.specs.Moves.{same_move}
use Rattle.rules_model.proofs.EqualLaws.{move-decides}
use Rattle.forced_wins.specs.Contests.{Contest}
use Rattle.forced_wins.proofs.Counts.{by_cases}
use Rattle.stipulation.specs.declared.cert.Step.{Step}
use Rattle.stipulation.specs.declared.verdict.CertVerdict.{CertVerdict}
use Rattle.stipulation.specs.declared.verdict.CertVerdict.TheVariants.{Holds, BadPly, BadMove, TooDeep, NotMate, MissingReply, Unfinished}
use Rattle.stipulation.specs.Trees.{game_at, moves_at, parent_game, siblings, children}
use Rattle.stipulation.specs.Verdicts.{or_verdict, fault_if, is_bad_move, first_missing, missing, end_verdict, game_verdict, plies_verdict, step_verdict, steps_verdict, tree_verdict}

-- ---- moves among moves

pub tested-member : (m : Move) (ms : List Move) → list_any (same_move m) ms ≡ true → Member m ms
tested-member m [] h = cc
tested-member m (k ∷ ms) h = elim (or_cases (same_move m k) (list_any (same_move m) ms) h) as (λ _. Member m (k ∷ ms)) [ inl e ↦ inl (sym ((move-decides m k).0 e)) | inr r ↦ inr (tested-member m ms r) ]

pub member-tested : (m : Move) (ms : List Move) → Member m ms → list_any (same_move m) ms ≡ true
member-tested m [] k = absurd k
member-tested m (k ∷ ms) (inl e) = or_left _ _ ((move-decides m k).1 (sym e))
member-tested m (k ∷ ms) (inr r) = or_right (same_move m k) _ (member-tested m ms r)

pub any-decides : (m : Move) (ms : List Move) → Decides (list_any (same_move m) ms) (Member m ms)
any-decides m ms = (tested-member m ms, member-tested m ms)

pub some-member : (ms : List Move) → is_nil ms ≡ false → (m : Move) × Member m ms
some-member [] h = cc
some-member (m ∷ ms) h = (m, inl refl)

-- ---- verdicts that hold

pub or-holds : (u v : CertVerdict) → or_verdict u v ≡ Holds → (u ≡ Holds) × (v ≡ Holds)
or-holds Holds v h = (refl, h)
or-holds (BadPly i) v h = cc
or-holds (BadMove i) v h = cc
or-holds (TooDeep i) v h = cc
or-holds (NotMate i) v h = cc
or-holds (MissingReply i m) v h = cc
or-holds (Unfinished i) v h = cc

pub fault-holds : (b : Bool) (f : CertVerdict) → (f ≡ Holds → ⊥) → fault_if b f ≡ Holds → b ≡ false
fault-holds true f k h = absurd (k h)
fault-holds false f k h = refl

pub bad_ply : (i : ℕ) → BadPly i ≡ Holds → ⊥
bad_ply i h = cc

bad_move : (i : ℕ) → BadMove i ≡ Holds → ⊥
bad_move i h = cc

too_deep : (i : ℕ) → TooDeep i ≡ Holds → ⊥
too_deep i h = cc

pub unfinished : (i : ℕ) → Unfinished i ≡ Holds → ⊥
unfinished i h = cc

pub not_mate : (i : ℕ) → NotMate i ≡ Holds → ⊥
not_mate i h = cc

pub missing-holds : (i : ℕ) (o : Option Move) → missing i o ≡ Holds → o ≡ None
missing-holds i None h = refl
missing-holds i (Some m) h = cc

-- each of the moves is a child's
pub none-missing : (cs ms : List Move) → first_missing cs ms ≡ None → (m : Move) → Member m ms → Member m cs
unfolding first_missing
none-missing cs [] h m k = absurd k
none-missing cs (m ∷ ms) h k j =
    by_cases {C = Member k cs} (list_any (same_move m) cs)
    (λ y. let rest : first_missing cs ms ≡ None = rw y at h in
    elim j as (λ _. Member k cs) [ inl e ↦ subst (λ x. Member x cs) e (tested-member m cs y) | inr r ↦ none-missing cs ms rest k r ])
    (λ n. let bad : Some m ≡ None = rw n at h in cc)

-- how a game of a faultless tree stands: won, or with a move chosen, or with each move replied to
pub end-won : (i : ℕ) (w attacking : Bool) (legal cs : List Move) → end_verdict i (Some w) attacking legal cs ≡ Holds → w ≡ true
end-won i true attacking legal cs h = refl
end-won i false attacking legal cs h = cc

pub chosen-some : (i : ℕ) (legal cs : List Move) → end_verdict i None true legal cs ≡ Holds → is_nil cs ≡ false
chosen-some i legal cs h = fault-holds (is_nil cs) (Unfinished i) (unfinished i) h

pub replies-all : (i : ℕ) (legal cs : List Move) → end_verdict i None false legal cs ≡ Holds → (m : Move) → Member m legal → Member m cs
replies-all i legal cs h = none-missing cs legal (missing-holds i (first_missing cs legal) h)

-- ---- a step that holds

pub bad-parts : {X : Type 0} (c : Contest X Move) (parent : X) (sibs : List Move) (m : Move) → is_bad_move c parent sibs m ≡ false → (is_some (c.end parent) ≡ false) × (list_any (same_move m) (c.moves parent) ≡ true)
unfolding is_bad_move
bad-parts c parent sibs m h = split (is_some (c.end parent)) (list_any (same_move m) (c.moves parent)) _ h
  where
    split : (a b r : Bool) → (a || (not b || r)) ≡ false → (a ≡ false) × (b ≡ true)
    split true b r h = cc
    split false true r h = (refl, refl)
    split false false r h = cc

pub record IsFaultless (X : Type 0) (c : Contest X Move) (n : ℕ) (root : X) (i : ℕ) (earlier : List Step) (s : Step) (later : List Step) : Type 0 where
  pub ongoing : is_some (c.end (parent_game c root earlier s.ply)) ≡ false
  pub legal : Member s.chosen (c.moves (parent_game c root earlier s.ply))
  pub shallow : s.ply ≤ 2 * n
  pub game : game_verdict c i (c.after (parent_game c root earlier s.ply) s.chosen) (children s.ply later) ≡ Holds

le_from : (a b : ℕ) → nat_lt a b ≡ false → b ≤ a
le_from a b h = grind (arith, nat_tests)

pub step-faultless : {X : Type 0} (c : Contest X Move) (n : ℕ) (root : X) (i : ℕ) (earlier : List Step) (s : Step) (later : List Step) → step_verdict c n root i earlier s later ≡ Holds → IsFaultless X c n root i earlier s later
unfolding step_verdict
step-faultless c n root i earlier s later h =
    let parent = parent_game c root earlier s.ply in
    let a = or-holds (fault_if (is_bad_move c parent (siblings earlier s.ply) s.chosen) (BadMove i)) _ h in
    let b = or-holds (fault_if (nat_lt (2 * n) s.ply) (TooDeep i)) _ a.1 in
    let k = bad-parts c parent (siblings earlier s.ply) s.chosen (fault-holds _ (BadMove i) (bad_move i) a.0) in
    record {
      ongoing = k.0;
      legal = tested-member s.chosen (c.moves parent) k.1;
      shallow = le_from (2 * n) s.ply (fault-holds _ (TooDeep i) (too_deep i) b.0);
      game = b.1;
    }

pub steps-holds : {X : Type 0} (c : Contest X Move) (n : ℕ) (root : X) (i : ℕ) (earlier : List Step) (s : Step) (later : List Step) → steps_verdict c n root i earlier (s ∷ later) ≡ Holds → IsFaultless X c n root i earlier s later × (steps_verdict c n root (i + 1) (s ∷ earlier) later ≡ Holds)
unfolding steps_verdict
steps-holds c n root i earlier s later h = let k = or-holds (step_verdict c n root i earlier s later) _ h in (step-faultless c n root i earlier s later k.0, k.1)

-- a faultless tree
pub tree-parts : {X : Type 0} (c : Contest X Move) (n : ℕ) (root : X) (steps : List Step) → tree_verdict c n root steps ≡ Holds → (plies_verdict 1 0 steps ≡ Holds) × (steps_verdict c n root 1 [] steps ≡ Holds)
unfolding tree_verdict
tree-parts c n root steps h =
    let u = or-holds (plies_verdict 1 0 steps) _ h in
    (u.0, (or-holds (game_verdict c 0 root (children 0 steps)) _ u.1).1)

-- ---- games and moves of a tree

eq_true : (a : ℕ) → (a == a) ≡ true
eq_true a = grind (arith, nat_tests)

eq_false : (a b : ℕ) → (a ≡ b → ⊥) → (a == b) ≡ false
eq_false a b h = grind (arith, nat_tests)

pub game-here : {X : Type 0} (c : Contest X Move) (root : X) (s : Step) (earlier : List Step) → game_at c root (s ∷ earlier) s.ply ≡ c.after (parent_game c root earlier s.ply) s.chosen
unfolding game_at
game-here c root s earlier = rw (eq_true s.ply)

pub game-past : {X : Type 0} (c : Contest X Move) (root : X) (s : Step) (earlier : List Step) (ply : ℕ) → (s.ply ≡ ply → ⊥) → game_at c root (s ∷ earlier) ply ≡ game_at c root earlier ply
unfolding game_at
game-past c root s earlier ply h = rw (eq_false s.ply ply h)

lt_true : (a b : ℕ) → a < b → nat_lt a b ≡ true
lt_true a b h = grind (arith, nat_tests)

lt_false : (a b : ℕ) → b ≤ a → nat_lt a b ≡ false
lt_false a b h = grind (arith, nat_tests)

pub moves-lower : (ply : ℕ) (s : Step) (steps : List Step) → s.ply < ply → moves_at ply (s ∷ steps) ≡ []
unfolding moves_at
moves-lower ply s steps h = rw (lt_true s.ply ply h)

pub moves-same : (ply : ℕ) (s : Step) (steps : List Step) → s.ply ≡ ply → moves_at ply (s ∷ steps) ≡ s.chosen ∷ moves_at ply steps
unfolding moves_at
moves-same ply s steps e =
    let a = lt_false s.ply ply (omega arith) in
    let b : (s.ply == ply) ≡ true = sym (ap (λ q. s.ply == q) e) ∙ eq_true s.ply in rw (a, b)

pub moves-higher : (ply : ℕ) (s : Step) (steps : List Step) → ply < s.ply → moves_at ply (s ∷ steps) ≡ moves_at ply steps
unfolding moves_at
moves-higher ply s steps h =
    let a = lt_false s.ply ply (omega arith) in
    let b = eq_false s.ply ply (omega arith) in rw (a, b)
