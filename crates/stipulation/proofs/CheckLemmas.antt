-- Lines along the steps of a tree, and verdicts step by step.
use Rattle.std.proofs.Common.{◌≡◌, ◌⊎◌, inl, inr, ℕ, zero, suc, ◌+◌, ◌-◌, ◌<◌, ◌≤◌, Bool, false, is_some, Option, None, Result, Ok, Err, IfOk, List, [], ◌∷◌, length, take, drop, reverse, get_or, refl, ap, sym, ◌∙◌, subst, add-one, arith}
use Rattle.std.proofs.lemmas.Bool.Decides.{nat_tests}
use Rattle.std.proofs.lemmas.List.{take_more, take_all, length-take, length-drop, reverse-append}
use Rattle.std.proofs.Math.Seq.{drop-cons}
use Rattle.foundation.specs.declared.Memory.{Memory}
use Rattle.foundation.specs.Member.{Member}
use Rattle.rules_model.specs.declared.board.Position.{Position}
use Rattle.rules_model.specs.declared.moves.Move.{Move}
use Rattle.rules_model.specs.declared.moves.Move.TheVariants.{Go}
use Rattle.rules_model.specs.declared.moves.Promo.TheVariants.{Stays}
use Rattle.rules_model.specs.Games.{Story}
use Rattle.forced_wins.specs.Contests.{Contest}
use Rattle.game_play.specs.Played.{story}
use Rattle.stipulation.specs.declared.cert.Step.{Step}
use Rattle.stipulation.specs.declared.task.Task.{Task}
use Rattle.stipulation.specs.declared.verdict.CertVerdict.{CertVerdict}
use Rattle.stipulation.specs.declared.verdict.CertVerdict.TheVariants.{Holds, BadPly, BadMove, TooDeep, NotMate, MissingReply, Unfinished}
use Rattle.stipulation.specs.Lines.{IsPathTo, along}
use Rattle.stipulation.specs.Trees.{game_at, children}
use Rattle.stipulation.specs.Verdicts.{or_verdict, fault_if, is_bad_ply, plies_verdict, is_bad_move, game_verdict, step_verdict, steps_verdict, tree_verdict, is_empty_end}
use Rattle.stipulation.specs.AtTask as At
use Rattle.stipulation.proofs.LineLemmas.{along-none}
use Rattle.stipulation.proofs.TreeLemmas.{or-holds, fault-holds, bad_ply, bad-parts, tested-member, game-here, game-past}

-- ---- parts of lists

take_none : {X : Type 0} (n : ℕ) → take {A = X} n [] ≡ []
take_none zero = refl
take_none (suc n) = refl

take_part : {X : Type 0} (a b : ℕ) (xs : List X) → a ≤ b → take a (take b xs) ≡ take a xs
take_part zero b xs h = refl
take_part (suc a) zero xs h = absurd (omega arith)
take_part (suc a) (suc b) [] h = refl
take_part (suc a) (suc b) (x ∷ xs) h = ap (λ ys. x ∷ ys) (take_part a b xs (omega arith))

-- one step more, the latest first
pub earlier-more : (steps : List Step) (i : ℕ) (d : Step) → i < length steps → reverse (take (i + 1) steps) ≡ get_or steps i d ∷ reverse (take i steps)
earlier-more steps i d h = ap reverse (take_more steps i d h) ∙ reverse-append (take i steps) (get_or steps i d ∷ [])

later-more : (steps : List Step) (i : ℕ) (d : Step) → i < length steps → drop i steps ≡ get_or steps i d ∷ drop (i + 1) steps
later-more steps i d h = drop-cons steps i d h ∙ (λ j. get_or steps i d ∷ drop (sym (add-one i) j) steps)

-- ---- lines

pub line-none : (t : Task) → At.IsLineTo t [] []
unfolding game_at
line-none t q h = ap (At.at t) (take_none q) ∙ along-none (story t.game.now)

-- after a step's move, along positions that are cut before it
module _ (c : Contest Story Move) (g : Story) (earlier : List Step) (s : Step) (ps cut qs : List Position) (before : IsPathTo c g earlier ps) (cut_is : cut ≡ take (s.ply - 1) ps)
    (least : 1 ≤ s.ply) (most : s.ply ≤ length ps + 1) (one : length qs ≡ length cut + 1) (front : take (length cut) qs ≡ cut) (play : along g qs ≡ c.after (along g cut) s.chosen) where
  cut_length : length cut ≡ s.ply - 1
  cut_length = let f = ap length cut_is ∙ length-take (s.ply - 1) ps in omega arith

  last_or : (q p : ℕ) → q ≤ p → (q ≡ p) ⊎ (q < p)
  last_or q p h = grind arith

  here : (q : ℕ) → q ≡ s.ply → along g (take q qs) ≡ game_at c g (s ∷ earlier) q
  here q f =
      let k = cut_length in
      ap (along g) (take_all q qs (omega arith)) ∙ play
      ∙ ap (λ (h : Story). c.after h s.chosen) (ap (along g) cut_is ∙ before (s.ply - 1) (omega arith))
      ∙ sym (game-here c g s earlier) ∙ ap (game_at c g (s ∷ earlier)) (sym f)

  past : (q : ℕ) → q < s.ply → along g (take q qs) ≡ game_at c g (s ∷ earlier) q
  past q f =
      let k = cut_length in
      ap (along g) (sym (take_part q (length cut) qs (omega arith)) ∙ ap (take q) (front ∙ cut_is) ∙ take_part q (s.ply - 1) ps (omega arith))
      ∙ before q (omega arith) ∙ sym (game-past c g s earlier q (λ e. omega arith))

  pub path-more : IsPathTo c g (s ∷ earlier) qs
  path-more q k = let long = cut_length in elim (last_or q s.ply (omega arith)) [ inl f ↦ here q f | inr f ↦ past q f ]

pub line-more : (t : Task) (earlier : List Step) (ps cut qs : List Position) (s : Step) → At.IsLineTo t earlier ps → 1 ≤ s.ply → s.ply ≤ length ps + 1 → cut ≡ take (s.ply - 1) ps → length qs ≡ length cut + 1 → take (length cut) qs ≡ cut → At.at t qs ≡ (At.games t).after (At.at t cut) s.chosen → At.IsLineTo t (s ∷ earlier) qs
line-more t earlier ps cut qs s h a b e l before play = path-more (At.games t) (story t.game.now) earlier s ps cut qs h e a b l before play

-- a move that is not bad is legal
pub good-legal : {X : Type 0} (c : Contest X Move) (parent : X) (sibs : List Move) (m : Move) (bad : Bool) → bad ≡ is_bad_move c parent sibs m → bad ≡ false → Member m (c.moves parent)
good-legal c parent sibs m bad e f = tested-member m (c.moves parent) (bad-parts c parent sibs m (sym e ∙ f)).1

-- ---- plies

low : (before ply : ℕ) → is_bad_ply before ply ≡ false → 1 ≤ ply
low before ply h = grind (arith, nat_tests)

next : (before ply : ℕ) → is_bad_ply before ply ≡ false → ply ≤ before + 1
next before ply h = grind (arith, nat_tests)

-- the first of the steps may follow, and those after it may follow it
pub plies-first : (i before : ℕ) (s : Step) (later : List Step) → plies_verdict i before (s ∷ later) ≡ Holds → (is_bad_ply before s.ply ≡ false) × (plies_verdict (i + 1) s.ply later ≡ Holds)
unfolding plies_verdict
plies-first i before s later h =
    let u = or-holds (fault_if (is_bad_ply before s.ply) (BadPly i)) _ h in
    (fault-holds (is_bad_ply before s.ply) (BadPly i) (bad_ply i) u.0, u.1)

plies-parts : (i before : ℕ) (s : Step) (later : List Step) → plies_verdict i before (s ∷ later) ≡ Holds → (1 ≤ s.ply) × (s.ply ≤ before + 1) × (plies_verdict (i + 1) s.ply later ≡ Holds)
plies-parts i before s later h =
    let parts = plies-first i before s later h in
    (low before s.ply parts.0, next before s.ply parts.0, parts.1)

pub plies-at : (i before : ℕ) (steps : List Step) (d : Step) → i < length steps → plies_verdict (i + 1) before (drop i steps) ≡ Holds → (1 ≤ (get_or steps i d).ply) × ((get_or steps i d).ply ≤ before + 1) × (plies_verdict (i + 1 + 1) (get_or steps i d).ply (drop (i + 1) steps) ≡ Holds)
plies-at i before steps d l h =
    plies-parts (i + 1) before (get_or steps i d) (drop (i + 1) steps) (sym (ap (plies_verdict (i + 1) before) (later-more steps i d l)) ∙ h)

-- ---- verdicts step by step

fault-stays : (u v : CertVerdict) → (u ≡ Holds → ⊥) → or_verdict u v ≡ u
fault-stays Holds v h = absurd (h refl)
fault-stays (BadPly i) v h = refl
fault-stays (BadMove i) v h = refl
fault-stays (TooDeep i) v h = refl
fault-stays (NotMate i) v h = refl
fault-stays (MissingReply i m) v h = refl
fault-stays (Unfinished i) v h = refl

module _ {X : Type 0} (c : Contest X Move) (n : ℕ) (root : X) where
  fault-at : (i : ℕ) (earlier : List Step) (s : Step) (later : List Step) (v : CertVerdict) → v ≡ step_verdict c n root i earlier s later → (v ≡ Holds → ⊥) → steps_verdict c n root i earlier (s ∷ later) ≡ v
  unfolding steps_verdict
  fault-at i earlier s later v e h = fault-stays (step_verdict c n root i earlier s later) _ (λ f. h (e ∙ f)) ∙ sym e

  held-at : (i : ℕ) (earlier : List Step) (s : Step) (later : List Step) → step_verdict c n root i earlier s later ≡ Holds → steps_verdict c n root i earlier (s ∷ later) ≡ steps_verdict c n root (i + 1) (s ∷ earlier) later
  unfolding steps_verdict
  held-at i earlier s later e = rw e

  none-left : (i : ℕ) (earlier later : List Step) → length later ≡ 0 → steps_verdict c n root i earlier later ≡ Holds
  unfolding steps_verdict
  none-left i earlier [] e = refl
  none-left i earlier (s ∷ later) e = absurd (omega arith)

  -- the steps from the place i on
  abbrev from : List Step → ℕ → CertVerdict
  from steps i = steps_verdict c n root (i + 1) (reverse (take i steps)) (drop i steps)

  abbrev one : List Step → ℕ → Step → CertVerdict
  one steps i d = step_verdict c n root (i + 1) (reverse (take i steps)) (get_or steps i d) (drop (i + 1) steps)

  pub from-fault : (steps : List Step) (i : ℕ) (d : Step) (v : CertVerdict) → i < length steps → v ≡ one steps i d → (v ≡ Holds → ⊥) → v ≡ from steps i
  from-fault steps i d v l e h =
      sym (ap (steps_verdict c n root (i + 1) (reverse (take i steps))) (later-more steps i d l)
      ∙ fault-at (i + 1) (reverse (take i steps)) (get_or steps i d) (drop (i + 1) steps) v e h)

  pub from-later : (steps : List Step) (i : ℕ) (d : Step) (v : CertVerdict) → i < length steps → v ≡ one steps i d → v ≡ Holds → from steps (i + 1) ≡ from steps i
  from-later steps i d v l e h =
      ap (λ earlier. steps_verdict c n root (i + 1 + 1) earlier (drop (i + 1) steps)) (earlier-more steps i d l)
      ∙ sym (ap (steps_verdict c n root (i + 1) (reverse (take i steps))) (later-more steps i d l)
      ∙ held-at (i + 1) (reverse (take i steps)) (get_or steps i d) (drop (i + 1) steps) (sym e ∙ h))

  pub from-end : (steps : List Step) (i : ℕ) → length steps ≤ i → from steps i ≡ Holds
  from-end steps i l = none-left (i + 1) (reverse (take i steps)) (drop i steps) (let k = length-drop i steps in omega arith)

  pub tree-fault : (steps : List Step) (x : X) (v : CertVerdict) → x ≡ root → plies_verdict 1 0 steps ≡ Holds → v ≡ game_verdict c 0 x (children 0 steps) → (v ≡ Holds → ⊥) → v ≡ tree_verdict c n root steps
  unfolding tree_verdict
  tree-fault steps x v r p e h =
      let f : v ≡ game_verdict c 0 root (children 0 steps) = e ∙ ap (λ (y : X). game_verdict c 0 y (children 0 steps)) r in
      rw p (f ∙ sym (fault-stays (game_verdict c 0 root (children 0 steps)) _ (λ g. h (f ∙ g))))

  pub tree-rest : (steps : List Step) (x : X) (v : CertVerdict) → x ≡ root → plies_verdict 1 0 steps ≡ Holds → v ≡ game_verdict c 0 x (children 0 steps) → v ≡ Holds → steps_verdict c n root 1 [] steps ≡ tree_verdict c n root steps
  unfolding tree_verdict
  tree-rest steps x v r p e h =
      let f : game_verdict c 0 root (children 0 steps) ≡ Holds = sym (e ∙ ap (λ (y : X). game_verdict c 0 y (children 0 steps)) r) ∙ h in rw (p, f)

-- an answer that no failure spoils
pub ok-const : {A : Type 0} (r : Result CertVerdict Memory) → A → IfOk r (λ v. v ≡ Holds → A)
ok-const (Ok v) a = λ _. a
ok-const (Err e) a = tt

-- the root as the end of an empty line
pub root-end : (t : Task) (ps : List Position) → ps ≡ [] → At.at t ps ≡ story t.game.now
root-end t ps e = ap (At.at t) e ∙ along-none (story t.game.now)

pub ok-mono : (P Q : CertVerdict → Type 0) (r : Result CertVerdict Memory) → IfOk r P → ((v : CertVerdict) → P v → Q v) → IfOk r Q
ok-mono P Q (Ok v) h f = f v h
ok-mono P Q (Err e) h f = tt

-- ---- a line of no move

pub none-sound : (t : Task) (ps : List Position) → ps ≡ [] → At.AreSound t ps
none-sound t ps e = λ k d h. let l = ap length e in absurd (omega arith)

pub none-leads : (t : Task) (ps : List Position) → ps ≡ [] → At.IsLineTo t [] ps
none-leads t ps e = subst (At.IsLineTo t []) (sym e) (line-none t)

pub empty-ended : (t : Task) (ps : List Position) (o : Option Bool) (b : Bool) (steps : List Step) → length steps ≡ 0 → ps ≡ [] → o ≡ (At.games t).end (At.at t ps) → b ≡ is_some o → b ≡ is_empty_end (At.games t) (story t.game.now) steps
empty-ended t ps o b steps l e f h = h ∙ ap is_some (f ∙ ap (λ (g : Story). (At.games t).end g) (root-end t ps e)) ∙ nothing steps l
  where
    nothing : (steps : List Step) → length steps ≡ 0 → is_some ((At.games t).end (story t.game.now)) ≡ is_empty_end (At.games t) (story t.game.now) steps
    nothing [] l = refl
    nothing (s ∷ steps) l = absurd (omega arith)

-- ---- what a step is that is not there

abbrev pub blank : Step
blank = record { ply = 0; chosen = Go (record { 0 = 0 }) (record { 0 = 0 }) Stays None }
