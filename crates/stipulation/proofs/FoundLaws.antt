-- What a plain search finds holds, and it finds a certificate wherever there is one.
use Rattle.std.proofs.Common.{◌≡◌, inl, inr, ℕ, zero, suc, ◌+◌, ◌-◌, ◌*◌, ◌<◌, ◌≤◌, nat_lt, List, [], ◌∷◌, ◌++◌, length, Bool, true, false, not, ◌&&◌, ◌||◌, is_some, Option, Some, None, if◌then◌else◌, refl, ap, sym, ◌∙◌, subst, append-nil, append_assoc, arith}
use Rattle.std.specs.List.{list_any, list_all}
use Rattle.std.specs.Option.{option_or}
use Rattle.std.proofs.lemmas.Bool.Decides.{nat_tests}
use Rattle.foundation.specs.Member.{Member, IsEachOnce}
use Rattle.foundation.specs.Tests.{is_nil}
use Rattle.rules_model.specs.declared.moves.Move.{Move}
use Rattle.rules_model.specs.Moves.{same_move}
use Rattle.forced_wins.specs.Contests.{Contest, decided, within}
use Rattle.forced_wins.proofs.Counts.{by_cases, own_cases, not_true}
use Rattle.stipulation.specs.declared.cert.Step.{Step}
use Rattle.stipulation.specs.declared.verdict.CertVerdict.{CertVerdict}
use Rattle.stipulation.specs.declared.verdict.CertVerdict.TheVariants.{Holds, BadPly, BadMove, TooDeep}
use Rattle.stipulation.specs.Trees.{game_at, moves_at, parent_game, children, siblings}
use Rattle.stipulation.specs.Verdicts.{or_verdict, fault_if, is_bad_ply, plies_verdict, is_bad_move, first_missing, game_verdict, step_verdict, steps_verdict, tree_verdict}
use Rattle.stipulation.specs.Searches.{first_of, joined, all_of, step, led, ended, found, followed}
use Rattle.stipulation.proofs.TreeLemmas.{tested-member, member-tested, game-here, game-past, moves-lower, moves-same, moves-higher}

-- ---- whether there is a certificate

module _ (f : Move → Option (List Step)) where
  first-some : (ms : List Move) → is_some (first_of f ms) ≡ list_any (λ m. is_some (f m)) ms
  unfolding first_of
  first-some [] = refl
  first-some (m ∷ ms) = either (f m) (first_of f ms) ∙ ap (λ b. is_some (f m) || b) (first-some ms)
    where
      either : (a b : Option (List Step)) → is_some (option_or a b) ≡ (is_some a || is_some b)
      either None b = refl
      either (Some s) b = refl

  all-some : (ms : List Move) → is_some (all_of f ms) ≡ list_all (λ m. is_some (f m)) ms
  unfolding all_of
  all-some [] = refl
  all-some (m ∷ ms) = both (f m) (all_of f ms) ∙ ap (λ b. is_some (f m) && b) (all-some ms)
    where
      both : (a b : Option (List Step)) → is_some (joined a b) ≡ (is_some a && is_some b)
      both None b = refl
      both (Some s) None = refl
      both (Some s) (Some u) = refl

led-some : (p : ℕ) (m : Move) (o : Option (List Step)) → is_some (led p m o) ≡ is_some o
led-some p m None = refl
led-some p m (Some s) = refl

ended-some : (e : Option Bool) (o : Option (List Step)) (b : Bool) → is_some o ≡ b → is_some (ended e o) ≡ decided e b
ended-some None o b h = h
ended-some (Some true) o b h = refl
ended-some (Some false) o b h = refl

if-some : (a : Bool) (o u : Option (List Step)) (b c : Bool) → is_some o ≡ b → is_some u ≡ c → is_some (if a then o else u) ≡ (if a then b else c)
if-some true o u b c h k = h
if-some false o u b c h k = k

module _ {X : Type 0} (c : Contest X Move) where
  pub found-within : (t p : ℕ) (x : X) → is_some (found c t p x) ≡ within c t x
  unfolding found within
  found-within zero p x = ended-some (c.end x) None false refl
  found-within (suc t) p x =
      let same : ◌≡◌ {A = Move → Bool} (λ m. is_some (followed c t p x m)) (λ m. within c t (c.after x m)) = λ i m. (led-some (p + 1) m (found c t (p + 1) (c.after x m)) ∙ found-within t (p + 1) (c.after x m)) i in
      ended-some (c.end x) _ _
      (if-some (c.attacking x) _ _ _ _
      (first-some (followed c t p x) (c.moves x) ∙ ap (λ h. list_any h (c.moves x)) same)
      (all-some (followed c t p x) (c.moves x) ∙ ap (λ h. list_all h (c.moves x)) same))

-- ---- what is found, by cases

some-same : (a b : List Step) → Some a ≡ Some b → a ≡ b
some-same a b e = cc

record Led (f : Move → Option (List Step)) (ms : List Move) (ss : List Step) : Type 0 where
  move : Move
  listed : Member move ms
  is : f move ≡ Some ss

first-led : (f : Move → Option (List Step)) (ms : List Move) (ss : List Step) → first_of f ms ≡ Some ss → Led f ms ss
unfolding first_of
first-led f [] ss e = cc
first-led f (m ∷ ms) ss e = pick (f m) refl (λ k. first-led f ms ss k)
  where
    pick : (o : Option (List Step)) → f m ≡ o → (first_of f ms ≡ Some ss → Led f ms ss) → Led f (m ∷ ms) ss
    pick (Some s) h go = record { move = m; listed = inl refl; is = h ∙ (let k : Some s ≡ Some ss = rw h at e in k) }
    pick None h go =
        let k : first_of f ms ≡ Some ss = rw h at e in
        let l = go k in record { move = l.move; listed = inr l.listed; is = l.is }

record Joined (f : Move → Option (List Step)) (m : Move) (ms : List Move) (ss : List Step) : Type 0 where
  front : List Step
  rest : List Step
  is_front : f m ≡ Some front
  is_rest : all_of f ms ≡ Some rest
  is : ss ≡ front ++ rest

all-joined : (f : Move → Option (List Step)) (m : Move) (ms : List Move) (ss : List Step) → all_of f (m ∷ ms) ≡ Some ss → Joined f m ms ss
unfolding all_of
all-joined f m ms ss e = pick (f m) (all_of f ms) refl refl
  where
    pick : (a b : Option (List Step)) → f m ≡ a → all_of f ms ≡ b → Joined f m ms ss
    pick None b h k = let bad : None ≡ Some ss = rw h at e in cc
    pick (Some s) None h k = let bad : None ≡ Some ss = rw (h, k) at e in cc
    pick (Some s) (Some u) h k = let j : Some (s ++ u) ≡ Some ss = rw (h, k) at e in record { front = s; rest = u; is_front = h; is_rest = k; is = sym (some-same _ _ j) }

record After (p : ℕ) (m : Move) (o : Option (List Step)) (ss : List Step) : Type 0 where
  sub : List Step
  is_sub : o ≡ Some sub
  is : ss ≡ step p m ∷ sub

led-after : (p : ℕ) (m : Move) (o : Option (List Step)) (ss : List Step) → led p m o ≡ Some ss → After p m o ss
led-after p m None ss e = cc
led-after p m (Some s) ss e = record { sub = s; is_sub = refl; is = sym (some-same _ _ e) }

-- ---- steps above a ply, and lists that leave it

abbrev Above : ℕ → List Step → Type 0
Above p [] = Unit {0}
Above p (s ∷ ss) = (p < s.ply) × Above p ss

above-less : (p q : ℕ) (ss : List Step) → p ≤ q → Above q ss → Above p ss
above-less p q [] h k = tt
above-less p q (s ∷ ss) h k = (let l = k.0 in omega arith, above-less p q ss h k.1)

above-append : (p : ℕ) (ss ts : List Step) → Above p ss → Above p ts → Above p (ss ++ ts)
above-append p [] ts h k = k
above-append p (s ∷ ss) ts h k = (h.0, above-append p ss ts h.1 k)

abbrev Closed : ℕ → List Step → Type 0
Closed p [] = Unit {0}
Closed p (s ∷ later) = s.ply ≤ p

closed-more : (p q : ℕ) (later : List Step) → p ≤ q → Closed p later → Closed q later
closed-more p q [] h k = tt
closed-more p q (s ∷ later) h k = omega arith

closed-none : (p : ℕ) (later : List Step) → Closed p later → moves_at (p + 1) later ≡ []
unfolding moves_at
closed-none p [] k = refl
closed-none p (s ∷ later) k = moves-lower (p + 1) s later (omega arith)

over : (q : ℕ) (ss later : List Step) → Above q ss → moves_at q (ss ++ later) ≡ moves_at q later
over q [] later h = refl
over q (s ∷ ss) later h = moves-higher q s (ss ++ later) h.0 ∙ over q ss later h.1

-- the steps become earlier ones
unfoldable onto : List Step → List Step → List Step
onto [] earlier = earlier
onto (s ∷ ss) earlier = onto ss (s ∷ earlier)

onto-append : (ss ts earlier : List Step) → onto (ss ++ ts) earlier ≡ onto ts (onto ss earlier)
unfolding onto
onto-append [] ts earlier = refl
onto-append (s ∷ ss) ts earlier = onto-append ss ts (s ∷ earlier)

moves-onto : (q : ℕ) (ss earlier : List Step) → Above q ss → moves_at q (onto ss earlier) ≡ moves_at q earlier
unfolding onto
moves-onto q [] earlier h = refl
moves-onto q (s ∷ ss) earlier h = moves-onto q ss (s ∷ earlier) h.1 ∙ moves-higher q s earlier h.0

game-onto : {X : Type 0} (c : Contest X Move) (root : X) (p : ℕ) (ss earlier : List Step) → Above p ss → game_at c root (onto ss earlier) p ≡ game_at c root earlier p
unfolding onto
game-onto c root p [] earlier h = refl
game-onto c root p (s ∷ ss) earlier h = game-onto c root p ss (s ∷ earlier) h.1 ∙ game-past c root s earlier p (λ e. let l = h.0 in omega arith)

-- ---- verdicts that hold

or-both : (u v : CertVerdict) → u ≡ Holds → v ≡ Holds → or_verdict u v ≡ Holds
or-both u v e f = rw (e, f)

no-fault : (b : Bool) (f : CertVerdict) → b ≡ false → fault_if b f ≡ Holds
no-fault b f e = rw e

bad_ply-none : (before ply : ℕ) → 1 ≤ ply → ply ≤ before + 1 → is_bad_ply before ply ≡ false
bad_ply-none before ply h k = grind (arith, nat_tests)

deep-none : (a b : ℕ) → b ≤ a → nat_lt a b ≡ false
deep-none a b h = grind (arith, nat_tests)

nothing-missing : (cs ms : List Move) → ((m : Move) → Member m ms → Member m cs) → first_missing cs ms ≡ None
unfolding first_missing
nothing-missing cs [] h = refl
nothing-missing cs (m ∷ ms) h =
    let here : list_any (same_move m) cs ≡ true = member-tested m cs (h m (inl refl)) in
    rw here (nothing-missing cs ms (λ k l. h k (inr l)))

module _ {X : Type 0} (c : Contest X Move) where
  move-good : (x : X) (sibs : List Move) (m : Move) → c.end x ≡ None → Member m (c.moves x) → list_any (same_move m) sibs ≡ false → (c.attacking x && not (is_nil sibs)) ≡ false → is_bad_move c x sibs m ≡ false
  unfolding is_bad_move
  move-good x sibs m e k l a = let t = member-tested m (c.moves x) k in rw (e, t, l, a)

  -- ---- the search by cases

  found-ended : (t p : ℕ) (x : X) (w : Bool) (ss : List Step) → c.end x ≡ Some w → found c t p x ≡ Some ss → (w ≡ true) × (ss ≡ [])
  unfolding found
  found-ended zero p x true ss e h = let k : Some [] ≡ Some ss = rw e at h in (refl, sym (some-same _ _ k))
  found-ended zero p x false ss e h = let k : None ≡ Some ss = rw e at h in cc
  found-ended (suc t) p x true ss e h = let k : Some [] ≡ Some ss = rw e at h in (refl, sym (some-same _ _ k))
  found-ended (suc t) p x false ss e h = let k : None ≡ Some ss = rw e at h in cc

  found-zero : (p : ℕ) (x : X) (ss : List Step) → c.end x ≡ None → found c 0 p x ≡ Some ss → ⊥
  unfolding found
  found-zero p x ss e h = let k : None ≡ Some ss = rw e at h in cc

  found-chosen : (t p : ℕ) (x : X) (ss : List Step) → c.end x ≡ None → c.attacking x ≡ true → found c (suc t) p x ≡ Some ss → first_of (followed c t p x) (c.moves x) ≡ Some ss
  unfolding found
  found-chosen t p x ss e a h = rw (e, a) at h

  found-replied : (t p : ℕ) (x : X) (ss : List Step) → c.end x ≡ None → c.attacking x ≡ false → found c (suc t) p x ≡ Some ss → all_of (followed c t p x) (c.moves x) ≡ Some ss
  unfolding found
  found-replied t p x ss e a h = rw (e, a) at h

  -- ---- all steps are above the state's ply

  all-above : (f : Move → Option (List Step)) (p : ℕ) → ((m : Move) (ss : List Step) → f m ≡ Some ss → Above p ss) → (ms : List Move) (ss : List Step) → all_of f ms ≡ Some ss → Above p ss
  unfolding all_of
  all-above f p h [] ss e = subst (Above p) (some-same _ _ e) tt
  all-above f p h (m ∷ ms) ss e =
      let j = all-joined f m ms ss e in
      subst (Above p) (sym j.is) (above-append p j.front j.rest (h m j.front j.is_front) (all-above f p h ms j.rest j.is_rest))

  followed-above : (t p : ℕ) (x : X) → ((m : Move) (ss : List Step) → found c t (p + 1) (c.after x m) ≡ Some ss → Above (p + 1) ss) → (m : Move) (ss : List Step) → followed c t p x m ≡ Some ss → Above p ss
  followed-above t p x h m ss e =
      let a = led-after (p + 1) m (found c t (p + 1) (c.after x m)) ss e in
      subst (Above p) (sym a.is) (omega arith, above-less p (p + 1) a.sub (omega arith) (h m a.sub a.is_sub))

  found-above : (t p : ℕ) (x : X) (ss : List Step) → found c t p x ≡ Some ss → Above p ss
  found-above zero p x ss h =
      own_cases (c.end x) (λ w e. subst (Above p) (sym (found-ended 0 p x w ss e h).1) tt) (λ e. absurd (found-zero p x ss e h))
  found-above (suc t) p x ss h =
      let each = followed-above t p x (λ m us k. found-above t (p + 1) (c.after x m) us k) in
      own_cases (c.end x) (λ w e. subst (Above p) (sym (found-ended (suc t) p x w ss e h).1) tt)
      (λ e. by_cases (c.attacking x)
      (λ a. let l = first-led (followed c t p x) (c.moves x) ss (found-chosen t p x ss e a h) in each l.move ss l.is)
      (λ a. all-above (followed c t p x) p each (c.moves x) ss (found-replied t p x ss e a h)))

  -- ---- the children are the moves

  all-children : (t p : ℕ) (x : X) (ms : List Move) (ss later : List Step) → all_of (followed c t p x) ms ≡ Some ss → Closed p later → moves_at (p + 1) (ss ++ later) ≡ ms
  unfolding all_of
  all-children t p x [] ss later e k = sym (ap (λ us. moves_at (p + 1) (us ++ later)) (some-same _ _ e)) ∙ closed-none p later k
  all-children t p x (m ∷ ms) ss later e k =
      let j = all-joined (followed c t p x) m ms ss e in
      let a = led-after (p + 1) m (found c t (p + 1) (c.after x m)) j.front j.is_front in
      let split : ss ++ later ≡ step (p + 1) m ∷ (a.sub ++ (j.rest ++ later)) =
      ap (λ us. us ++ later) (j.is ∙ ap (λ us. us ++ j.rest) a.is) ∙ append_assoc (step (p + 1) m ∷ a.sub) j.rest later in
      ap (moves_at (p + 1)) split
      ∙ moves-same (p + 1) (step (p + 1) m) (a.sub ++ (j.rest ++ later)) refl
      ∙ ap (λ us. m ∷ us) (over (p + 1) a.sub (j.rest ++ later) (found-above t (p + 1) (c.after x m) a.sub a.is_sub) ∙ all-children t p x ms j.rest later j.is_rest k)

  -- the game of the state has no failure
  found-game : (t p : ℕ) (x : X) (ss later : List Step) → found c t p x ≡ Some ss → Closed p later → (i : ℕ) → game_verdict c i x (moves_at (p + 1) (ss ++ later)) ≡ Holds
  found-game zero p x ss later h k i =
      own_cases (c.end x) (λ w e. let won = e ∙ ap Some (found-ended 0 p x w ss e h).0 in rw won) (λ e. absurd (found-zero p x ss e h))
  found-game (suc t) p x ss later h k i =
      own_cases (c.end x) (λ w e. let won = e ∙ ap Some (found-ended (suc t) p x w ss e h).0 in rw won)
      (λ e. by_cases (c.attacking x)
      (λ a. let l = first-led (followed c t p x) (c.moves x) ss (found-chosen t p x ss e a h) in
      let f = led-after (p + 1) l.move (found c t (p + 1) (c.after x l.move)) ss l.is in
      let some = ap (λ us. moves_at (p + 1) (us ++ later)) f.is ∙ moves-same (p + 1) (step (p + 1) l.move) (f.sub ++ later) refl in
      rw (e, a, some))
      (λ a. let all = all-children t p x (c.moves x) ss later (found-replied t p x ss e a h) k in
      let none = nothing-missing (c.moves x) (c.moves x) (λ m j. j) in
      rw (e, a, all, none)))

-- ---- plies

abbrev PliesHold : ℕ → List Step → Type 0
PliesHold before later = (i : ℕ) → plies_verdict i before later ≡ Holds

plies-step : (before : ℕ) (s : Step) (later : List Step) → 1 ≤ s.ply → s.ply ≤ before + 1 → PliesHold s.ply later → PliesHold before (s ∷ later)
unfolding plies_verdict
plies-step before s later h k f i = or-both _ _ (no-fault _ (BadPly i) (bad_ply-none before s.ply h k)) (f (i + 1))

module _ {X : Type 0} (c : Contest X Move) where
  -- the steps of a state may follow any step that is not above it
  abbrev PliesFollow : ℕ → List Step → Type 0
  PliesFollow p ss = (later : List Step) → ((b : ℕ) → p ≤ b → PliesHold b later) → (b : ℕ) → p ≤ b → PliesHold b (ss ++ later)

  plies-led : (t p : ℕ) (x : X) → ((m : Move) (ss : List Step) → found c t (p + 1) (c.after x m) ≡ Some ss → PliesFollow (p + 1) ss) → (m : Move) (ss : List Step) → followed c t p x m ≡ Some ss → PliesFollow p ss
  plies-led t p x h m ss e later k b l =
      let a = led-after (p + 1) m (found c t (p + 1) (c.after x m)) ss e in
      subst (λ us. PliesHold b (us ++ later)) (sym a.is)
      (plies-step b (step (p + 1) m) (a.sub ++ later) (omega arith) (omega arith)
      (h m a.sub a.is_sub later (λ d j. k d (omega arith)) (p + 1) (omega arith)))

  plies-all : (p : ℕ) (f : Move → Option (List Step)) → ((m : Move) (ss : List Step) → f m ≡ Some ss → PliesFollow p ss) → (ms : List Move) (ss : List Step) → all_of f ms ≡ Some ss → PliesFollow p ss
  unfolding all_of
  plies-all p f h [] ss e later k b l = subst (λ us. PliesHold b (us ++ later)) (some-same _ _ e) (k b l)
  plies-all p f h (m ∷ ms) ss e later k b l =
      let j = all-joined f m ms ss e in
      subst (PliesHold b) (sym (ap (λ us. us ++ later) j.is ∙ append_assoc j.front j.rest later))
      (h m j.front j.is_front (j.rest ++ later) (plies-all p f h ms j.rest j.is_rest later k) b l)

  found-plies : (t p : ℕ) (x : X) (ss : List Step) → found c t p x ≡ Some ss → PliesFollow p ss
  found-plies zero p x ss h later k b l =
      own_cases (c.end x) (λ w e. subst (λ us. PliesHold b (us ++ later)) (sym (found-ended c 0 p x w ss e h).1) (k b l)) (λ e. absurd (found-zero c p x ss e h))
  found-plies (suc t) p x ss h later k b l =
      let each = plies-led t p x (λ m us g. found-plies t (p + 1) (c.after x m) us g) in
      own_cases (c.end x) (λ w e. subst (λ us. PliesHold b (us ++ later)) (sym (found-ended c (suc t) p x w ss e h).1) (k b l))
      (λ e. by_cases (c.attacking x)
      (λ a. let f = first-led (followed c t p x) (c.moves x) ss (found-chosen c t p x ss e a h) in each f.move ss f.is later k b l)
      (λ a. plies-all p (followed c t p x) each (c.moves x) ss (found-replied c t p x ss e a h) later k b l))

-- ---- the steps

module _ {X : Type 0} (c : Contest X Move) (n : ℕ) (root : X) (once : (x : X) → IsEachOnce (c.moves x)) where
  abbrev StepsHold : List Step → List Step → Type 0
  StepsHold earlier later = (i : ℕ) → steps_verdict c n root i earlier later ≡ Holds

  steps-step : (earlier : List Step) (s : Step) (later : List Step) → ((i : ℕ) → step_verdict c n root i earlier s later ≡ Holds) → StepsHold (s ∷ earlier) later → StepsHold earlier (s ∷ later)
  unfolding steps_verdict
  steps-step earlier s later h k i = or-both _ _ (h i) (k (i + 1))

  -- what is known before the steps of a state, and that they hold where those after them do
  record Before (t p : ℕ) (x : X) (earlier : List Step) : Type 0 where
    is : game_at c root earlier p ≡ x
    new : moves_at (p + 1) earlier ≡ []
    few : p + t ≤ 2 * n

  abbrev Hold : List Step → List Step → Type 0
  Hold earlier ss = (later : List Step) → StepsHold (onto ss earlier) later → StepsHold earlier (ss ++ later)

  -- a step with what follows it
  step-good : (t p : ℕ) (x : X) (m : Move) (sub earlier later : List Step) → game_at c root earlier p ≡ x → c.end x ≡ None → Member m (c.moves x) → list_any (same_move m) (moves_at (p + 1) earlier) ≡ false → (c.attacking x && not (is_nil (moves_at (p + 1) earlier))) ≡ false → p + 1 ≤ 2 * n → found c t (p + 1) (c.after x m) ≡ Some sub → Closed (p + 1) later → (i : ℕ) → step_verdict c n root i earlier (step (p + 1) m) (sub ++ later) ≡ Holds
  unfolding step_verdict
  step-good t p x m sub earlier later is e k l a d h o i =
      let back : p + 1 - 1 ≡ p = omega arith in
      let parent : parent_game c root earlier (p + 1) ≡ x = ap (game_at c root earlier) back ∙ is in
      let good : is_bad_move c (parent_game c root earlier (p + 1)) (siblings earlier (p + 1)) m ≡ false =
      ap (λ (y : X). is_bad_move c y (siblings earlier (p + 1)) m) parent ∙ move-good c x (siblings earlier (p + 1)) m e k l a in
      let game : game_verdict c i (c.after (parent_game c root earlier (p + 1)) m) (children (p + 1) (sub ++ later)) ≡ Holds =
      ap (λ (y : X). game_verdict c i (c.after y m) (children (p + 1) (sub ++ later))) parent ∙ found-game c t (p + 1) (c.after x m) sub later h o i in
      or-both _ _ (no-fault _ (BadMove i) good) (or-both _ _ (no-fault _ (TooDeep i) (deep-none (2 * n) (p + 1) d)) game)

  -- the state after the step
  step-before : (t p : ℕ) (x : X) (m : Move) (earlier : List Step) → game_at c root earlier p ≡ x → p + suc t ≤ 2 * n → Before t (p + 1) (c.after x m) (step (p + 1) m ∷ earlier)
  step-before t p x m earlier is d =
      let back : p + 1 - 1 ≡ p = omega arith in
      record {
        is = game-here c root (step (p + 1) m) earlier ∙ ap (λ (y : X). c.after y m) (ap (game_at c root earlier) back ∙ is);
        new = moves-lower (p + 1 + 1) (step (p + 1) m) earlier (omega arith);
        few = omega arith;
      }

  none-of : (m : Move) (sibs : List Move) → (Member m sibs → ⊥) → list_any (same_move m) sibs ≡ false
  none-of m sibs h = not_true _ (λ e. h (tested-member m sibs e))

  -- by each reply in turn
  all-hold : (t p : ℕ) (x : X) → c.end x ≡ None → c.attacking x ≡ false → p + suc t ≤ 2 * n → ((m : Move) (us earlier : List Step) → found c t (p + 1) (c.after x m) ≡ Some us → Before t (p + 1) (c.after x m) earlier → (later : List Step) → Closed (p + 1) later → StepsHold (onto us earlier) later → StepsHold earlier (us ++ later)) →
      (ms : List Move) (ss earlier later : List Step) → all_of (followed c t p x) ms ≡ Some ss → IsEachOnce ms → ((m : Move) → Member m ms → Member m (c.moves x)) → ((m : Move) → Member m ms → Member m (moves_at (p + 1) earlier) → ⊥) → game_at c root earlier p ≡ x → Closed p later → StepsHold (onto ss earlier) later → StepsHold earlier (ss ++ later)
  unfolding all_of onto
  all-hold t p x e a d h [] ss earlier later k u w v is o g = let none = some-same _ _ k in subst (λ us. StepsHold (onto us earlier) later → StepsHold earlier (us ++ later)) none (λ j. j) g
  all-hold t p x e a d h (m ∷ ms) ss earlier later k u w v is o g =
      let j = all-joined (followed c t p x) m ms ss k in
      let f = led-after (p + 1) m (found c t (p + 1) (c.after x m)) j.front j.is_front in
      let s = step (p + 1) m in
      let whole : ss ≡ (s ∷ f.sub) ++ j.rest = j.is ∙ ap (λ us. us ++ j.rest) f.is in
      let split : ss ++ later ≡ s ∷ (f.sub ++ (j.rest ++ later)) = ap (λ us. us ++ later) whole ∙ append_assoc (s ∷ f.sub) j.rest later in
      let up = found-above c t (p + 1) (c.after x m) f.sub f.is_sub in
      let up_all : Above p (s ∷ f.sub) = (omega arith, above-less p (p + 1) f.sub (omega arith) up) in
      let back = onto f.sub (s ∷ earlier) in
      let sibs : moves_at (p + 1) back ≡ m ∷ moves_at (p + 1) earlier = moves-onto (p + 1) f.sub (s ∷ earlier) up ∙ moves-same (p + 1) s earlier refl in
      let shut = rest_closed t p x ms j.rest later j.is_rest o in
      let last : StepsHold (onto j.rest back) later = subst (λ es. StepsHold es later) (ap (λ us. onto us earlier) whole ∙ onto-append (s ∷ f.sub) j.rest earlier) g in
      let rest : StepsHold back (j.rest ++ later) =
      all-hold t p x e a d h ms j.rest back later j.is_rest u.1 (λ q i. w q (inr i))
      (λ q i b. apart m ms q (moves_at (p + 1) earlier) u.0 (v q (inr i)) i (subst (Member q) sibs b))
      (game-onto c root p (s ∷ f.sub) earlier up_all ∙ is) o last in
      subst (StepsHold earlier) (sym split)
      (steps-step earlier s (f.sub ++ (j.rest ++ later))
      (step-good t p x m f.sub earlier (j.rest ++ later) is e (w m (inl refl)) (none-of m (moves_at (p + 1) earlier) (v m (inl refl))) (rw a) (omega arith) f.is_sub shut)
      (h m f.sub (s ∷ earlier) f.is_sub (step-before t p x m earlier is d) (j.rest ++ later) shut rest))
    where
      apart : (m : Move) (ms : List Move) (q : Move) (es : List Move) → (Member m ms → ⊥) → (Member q es → ⊥) → Member q ms → Member q (m ∷ es) → ⊥
      apart m ms q es h k i (inl eq) = h (subst (λ y. Member y ms) (sym eq) i)
      apart m ms q es h k i (inr r) = k r

      rest_closed : (t p : ℕ) (x : X) (ms : List Move) (rest later : List Step) → all_of (followed c t p x) ms ≡ Some rest → Closed p later → Closed (p + 1) (rest ++ later)
      rest_closed t p x [] rest later k o = subst (λ us. Closed (p + 1) (us ++ later)) (some-same _ _ k) (closed-more p (p + 1) later (omega arith) o)
      rest_closed t p x (m ∷ ms) rest later k o =
          let j = all-joined (followed c t p x) m ms rest k in
          let f = led-after (p + 1) m (found c t (p + 1) (c.after x m)) j.front j.is_front in
          subst (λ us. Closed (p + 1) (us ++ later)) (sym (j.is ∙ ap (λ us. us ++ j.rest) f.is)) (omega arith)

  found-hold : (t p : ℕ) (x : X) (ss earlier later : List Step) → found c t p x ≡ Some ss → Before t p x earlier → Closed p later → StepsHold (onto ss earlier) later → StepsHold earlier (ss ++ later)
  unfolding onto
  found-hold zero p x ss earlier later h b o g =
      own_cases (c.end x) (λ w e. subst (λ us. StepsHold (onto us earlier) later → StepsHold earlier (us ++ later)) (sym (found-ended c 0 p x w ss e h).1) (λ j. j) g) (λ e. absurd (found-zero c p x ss e h))
  found-hold (suc t) p x ss earlier later h b o g =
      own_cases (c.end x) (λ w e. subst (λ us. StepsHold (onto us earlier) later → StepsHold earlier (us ++ later)) (sym (found-ended c (suc t) p x w ss e h).1) (λ j. j) g)
      (λ e. by_cases (c.attacking x)
      (λ a. let l = first-led (followed c t p x) (c.moves x) ss (found-chosen c t p x ss e a h) in
      let f = led-after (p + 1) l.move (found c t (p + 1) (c.after x l.move)) ss l.is in
      let s = step (p + 1) l.move in
      let few = b.few in
      let none : list_any (same_move l.move) (moves_at (p + 1) earlier) ≡ false = ap (list_any (same_move l.move)) b.new in
      let alone : (c.attacking x && not (is_nil (moves_at (p + 1) earlier))) ≡ false = ap (λ us. c.attacking x && not (is_nil us)) b.new ∙ and_false (c.attacking x) in
      let shut = closed-more p (p + 1) later (omega arith) o in
      subst (λ us. StepsHold earlier (us ++ later)) (sym f.is)
      (steps-step earlier s (f.sub ++ later)
      (step-good t p x l.move f.sub earlier later b.is e l.listed none alone (omega arith) f.is_sub shut)
      (found-hold t (p + 1) (c.after x l.move) f.sub (s ∷ earlier) later f.is_sub (step-before t p x l.move earlier b.is b.few) shut
      (subst (λ us. StepsHold (onto us earlier) later) f.is g))))
      (λ a. all-hold t p x e a b.few (λ m us es k before more shut. found-hold t (p + 1) (c.after x m) us es more k before shut) (c.moves x) ss earlier later
      (found-replied c t p x ss e a h) (once x) (λ m k. k) (λ m k j. subst (Member m) b.new j) b.is o g))
    where
      and_false : (v : Bool) → (v && not true) ≡ false
      and_false true = refl
      and_false false = refl

  -- what is found at the root holds
  pub found-holds : (t : ℕ) (ss : List Step) → t ≤ 2 * n → found c t 0 root ≡ Some ss → tree_verdict c n root ss ≡ Holds
  unfolding tree_verdict game_at plies_verdict steps_verdict moves_at
  found-holds t ss l h =
      let all = append-nil ss in
      let plies : plies_verdict 1 0 ss ≡ Holds = ap (plies_verdict 1 0) (sym all) ∙ found-plies c t 0 root ss h [] (λ b k i. refl) 0 (omega arith) 1 in
      let game : game_verdict c 0 root (children 0 ss) ≡ Holds = ap (λ us. game_verdict c 0 root (children 0 us)) (sym all) ∙ found-game c t 0 root ss [] h tt 0 in
      let steps : steps_verdict c n root 1 [] ss ≡ Holds =
      ap (steps_verdict c n root 1 []) (sym all) ∙ found-hold t 0 root ss [] [] h (record { is = refl; new = refl; few = omega arith }) tt (λ i. refl) 1 in
      or-both _ _ plies (or-both _ _ game steps)

-- ---- lines

-- where every move is one to choose, a line is found, of at most so many moves
pub found-short : {X : Type 0} (c : Contest X Move) → ((x : X) → c.attacking x ≡ true) → (t p : ℕ) (x : X) (ss : List Step) → found c t p x ≡ Some ss → length ss ≤ t
found-short c chosen zero p x ss h = own_cases (c.end x) (λ w e. let k = ap length (found-ended c 0 p x w ss e h).1 in omega arith) (λ e. absurd (found-zero c p x ss e h))
found-short c chosen (suc t) p x ss h =
    own_cases (c.end x) (λ w e. let k = ap length (found-ended c (suc t) p x w ss e h).1 in omega arith)
    (λ e. let l = first-led (followed c t p x) (c.moves x) ss (found-chosen c t p x ss e (chosen x) h) in
    let f = led-after (p + 1) l.move (found c t (p + 1) (c.after x l.move)) ss l.is in
    let k = found-short c chosen t (p + 1) (c.after x l.move) f.sub f.is_sub in
    let j = ap length f.is in omega arith)
