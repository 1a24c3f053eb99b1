-- What the lines of a problem say, as they are read.
use Rattle.std.proofs.Common.{◌≡◌, ◌≤◌, ℕ, ◌+◌, ◌-◌, arith, length, take, drop, List, [], ◌∷◌, ◌++◌, Option, Some, None, Result, Ok, Err, refl, sym, ap, subst, ◌∙◌, length-drop}
use Rattle.io_ports.specs.Lines.{Line, Text, TooLong}
use Rattle.variant_rules.specs.Entries.{Named, found}
use Rattle.game_play.specs.Played.{Played}
use Rattle.game_text.specs.declared.fault.GameFault.{GameFault}
use Rattle.game_text.specs.declared.fault.GameFault.TheVariants.{BadGoal, Missing, LineTooLong}
use Rattle.game_text.specs.declared.unmade.Unmade.TheVariants.{Faulty, Unread, Memory}
use Rattle.game_text.specs.declared.problem.Problem.{Problem}
use Rattle.game_text.specs.GameText.{game_of, lines_in, lines_of_game, unless_faulty}
use Rattle.game_text.specs.Playing.{and_then, play_all, words_of}
use Rattle.game_text.specs.Problem.{goal_on, lines_of_problem, lines_on_problem, moves_on, or_bad, problem_of, problem_on, with_goal}
use Rattle.game_text.specs.ReadView.{NoGame, Plays, Says}
use Rattle.game_text.proofs.StartLemmas.{start-most, start-needs, start-there}

-- ---- line 4

pub goal-none : {A : Type 0} (said : List ℕ → Option A) → goal_on said [] ≡ Err (Missing 4)
unfolding goal_on
goal-none said = refl

pub goal-long : {A : Type 0} (said : List ℕ → Option A) (more : List Line) → goal_on said (TooLong ∷ more) ≡ Err (LineTooLong 4)
unfolding goal_on
goal-long said more = refl

pub goal-good : {A : Type 0} (said : List ℕ → Option A) (text : List ℕ) (goal : A) (more : List Line) → said text ≡ Some goal → goal_on said (Text text ∷ more) ≡ Ok goal
unfolding goal_on
goal-good said text goal more is = ap or_bad is

pub goal-bad : {A : Type 0} (said : List ℕ → Option A) (text : List ℕ) (more : List Line) → said text ≡ None → goal_on said (Text text ∷ more) ≡ Err (BadGoal 4)
unfolding goal_on
goal-bad said text more is = ap or_bad is

-- ---- line 3

plays_says : (said : Result Played GameFault) (now : Played) (answer : Result (Unit {0}) NoGame) → Plays said now answer → Says said now answer
plays_says said now (Ok x) plays = plays
plays_says said now (Err (Faulty fault)) plays = plays
plays_says said now (Err Unread) plays = absurd plays
plays_says said now (Err Memory) plays = tt

pub moves-none : (g : Played) → moves_on g [] ≡ Err (Missing 3)
unfolding moves_on
moves-none g = refl

pub moves-long : (g : Played) (more : List Line) → moves_on g (TooLong ∷ more) ≡ Err (LineTooLong 3)
unfolding moves_on
moves-long g more = refl

pub moves-played : (g h : Played) (line text : List ℕ) (more : List Line) (answer : Result (Unit {0}) NoGame) → line ≡ text → Plays (play_all g (words_of line)) h answer
    → Says (moves_on g (Text text ∷ more)) h answer
unfolding moves_on
moves-played g h line text more answer is plays = plays_says _ h answer (subst (λ t. Plays (play_all g (words_of t)) h answer) is plays)

-- the lines after it do not matter
moves_first : (g : Played) (x : Line) (more : List Line) → moves_on g (x ∷ more) ≡ moves_on g (x ∷ [])
unfolding moves_on
moves_first g TooLong more = refl
moves_first g (Text text) more = refl

pub first-line : (lines : List Line) → length (take 1 lines) ≤ 1
first-line [] = omega arith
first-line (x ∷ lines) = omega arith

pub moves-there : (g h : Played) (lines : List Line) → moves_on g lines ≡ Ok h → 1 ≤ length lines
unfolding moves_on
moves-there g h [] is = cc
moves-there g h (x ∷ lines) is = omega arith

pub on-faulty : {A : Type 0} (said : List ℕ → Option A) (g : Played) (lines : List Line) (fault : GameFault) → moves_on g lines ≡ Err fault → problem_on said g lines ≡ Err fault
unfolding problem_on
on-faulty said g lines fault is = ap (λ r. and_then r (λ h. with_goal h (goal_on said (drop 1 lines)))) is

pub on-first : (g : Played) (lines : List Line) → length (take 1 lines) ≤ lines_on_problem g lines
unfolding lines_on_problem
on-first g lines = omega arith

moved : {A : Type 0} (said : List ℕ → Option A) (g h : Played) (x : Line) (more : List Line) → moves_on g (x ∷ []) ≡ Ok h → problem_on said g (x ∷ more) ≡ with_goal h (goal_on said more)
unfolding problem_on
moved said g h x more is = ap (λ r. and_then r (λ k. with_goal k (goal_on said more))) (moves_first g x more ∙ is)

moved_needs : (g h : Played) (x : Line) (more : List Line) → moves_on g (x ∷ []) ≡ Ok h → lines_on_problem g (x ∷ more) ≡ 1 + length (take 1 more)
unfolding lines_on_problem
moved_needs g h x more is = ap (λ r. 1 + unless_faulty r (λ k. length (take 1 more))) (moves_first g x more ∙ is)

-- the goal comes after it
pub on-moved : {A : Type 0} (said : List ℕ → Option A) (g h : Played) (front more : List Line) → length front ≡ 1 → moves_on g front ≡ Ok h → problem_on said g (front ++ more) ≡ with_goal h (goal_on said more)
on-moved said g h [] more one is = absurd (omega (arith, one))
on-moved said g h (x ∷ []) more one is = moved said g h x more is
on-moved said g h (x ∷ y ∷ front) more one is = absurd (omega (arith, one))

pub on-needs : (g h : Played) (front more : List Line) → length front ≡ 1 → moves_on g front ≡ Ok h → 1 + length (take 1 more) ≤ lines_on_problem g (front ++ more)
on-needs g h [] more one is = absurd (omega (arith, one))
on-needs g h (x ∷ []) more one is = let needs = moved_needs g h x more is in omega (arith, needs)
on-needs g h (x ∷ y ∷ front) more one is = absurd (omega (arith, one))

pub on-goal : {A : Type 0} (said : List ℕ → Option A) (g h : Played) (front more : List Line) (goal : A) → length front ≡ 1 → moves_on g front ≡ Ok h → goal_on said more ≡ Ok goal
    → problem_on said g (front ++ more) ≡ Ok (record { game = h; goal = goal })
on-goal said g h front more goal one is says = on-moved said g h front more one is ∙ ap (with_goal h) says

pub on-bad : {A : Type 0} (said : List ℕ → Option A) (g h : Played) (front more : List Line) (fault : GameFault) → length front ≡ 1 → moves_on g front ≡ Ok h → goal_on said more ≡ Err fault → problem_on said g (front ++ more) ≡ Err fault
on-bad said g h front more fault one is says = on-moved said g h front more one is ∙ ap (with_goal h) says

-- ---- lines 1 and 2

pub start-bad : {A : Type 0} (said : List ℕ → Option A) (variants : List Named) (lines : List Line) (fault : GameFault) → game_of variants (take 2 lines) ≡ Err fault → problem_of said variants lines ≡ Err fault
unfolding problem_of
start-bad said variants lines fault is = ap (λ r. and_then r (λ g. problem_on said g (drop 2 lines))) is

pub start-first : (variants : List Named) (lines : List Line) → lines_of_game variants (take 2 lines) ≤ lines_of_problem variants lines
unfolding lines_of_problem
start-first variants lines = omega arith

-- what follows them
pub start-problem : {A : Type 0} (said : List ℕ → Option A) (variants : List Named) (front more : List Line) (g : Played) → length front ≡ 2 → game_of variants (take 2 front) ≡ Ok g → problem_of said variants (front ++ more) ≡ problem_on said g more
unfolding problem_of
start-problem said variants [] more g two is = absurd (omega (arith, two))
start-problem said variants (x ∷ []) more g two is = absurd (omega (arith, two))
start-problem said variants (x ∷ y ∷ []) more g two is = ap (λ r. and_then r (λ h. problem_on said h more)) is
start-problem said variants (x ∷ y ∷ z ∷ front) more g two is = absurd (omega (arith, two))

started_needs : (variants : List Named) (x y : Line) (more : List Line) (g : Played) → game_of variants (x ∷ y ∷ []) ≡ Ok g
    → lines_of_problem variants (x ∷ y ∷ more) ≡ lines_of_game variants (x ∷ y ∷ []) + lines_on_problem g more
unfolding lines_of_problem
started_needs variants x y more g is = ap (λ r. lines_of_game variants (x ∷ y ∷ []) + unless_faulty r (λ h. lines_on_problem h more)) is

two_needed : (variants : List Named) (x y : Line) (more : List Line) (g : Played) → game_of variants (x ∷ y ∷ []) ≡ Ok g → 2 + lines_on_problem g more ≤ lines_of_problem variants (x ∷ y ∷ more)
two_needed variants x y more g is =
    let all = started_needs variants x y more g is in
    let two = start-needs variants (x ∷ y ∷ []) [] g refl is in
    omega (arith, all, two)

pub start-problem-needs : (variants : List Named) (front more : List Line) (g : Played) → length front ≡ 2 → game_of variants (take 2 front) ≡ Ok g
    → 2 + lines_on_problem g more ≤ lines_of_problem variants (front ++ more)
start-problem-needs variants [] more g two is = absurd (omega (arith, two))
start-problem-needs variants (x ∷ []) more g two is = absurd (omega (arith, two))
start-problem-needs variants (x ∷ y ∷ []) more g two is = two_needed variants x y more g is
start-problem-needs variants (x ∷ y ∷ z ∷ front) more g two is = absurd (omega (arith, two))

-- ---- line 2 after line 1

module _ (variants : List Named) (name : List ℕ) where
  in_needs : (lines : List Line) → lines_of_game variants (Text name ∷ take 1 lines) ≡ 1 + lines_in (found variants name) (take 1 lines)
  unfolding lines_of_game
  in_needs lines = refl

  pub after-there : (lines : List Line) (g : Played) → game_of variants (Text name ∷ take 1 lines) ≡ Ok g → 1 ≤ length lines
  after-there lines g is = let two = start-there variants (Text name ∷ lines) g is in omega (arith, two)

  pub after-most : (lines : List Line) → lines_in (found variants name) (take 1 lines) ≤ 1
  after-most lines =
      let two = start-most variants (Text name ∷ lines) in
      let needs = in_needs lines in
      omega (arith, two, needs)

  pub after-bad : {A : Type 0} (said : List ℕ → Option A) (lines : List Line) (fault : GameFault) → game_of variants (Text name ∷ take 1 lines) ≡ Err fault → problem_of said variants (Text name ∷ lines) ≡ Err fault
  after-bad said lines fault is = start-bad said variants (Text name ∷ lines) fault is

  pub after-first : (lines : List Line) → lines_in (found variants name) (take 1 lines) ≤ lines_of_problem variants (Text name ∷ lines) - 1
  after-first lines =
      let first = start-first variants (Text name ∷ lines) in
      let needs = in_needs lines in
      omega (arith, first, needs)

  pub after-problem : {A : Type 0} (said : List ℕ → Option A) (front more : List Line) (g : Played) → length front ≡ 1 → game_of variants (Text name ∷ take 1 front) ≡ Ok g → problem_of said variants (Text name ∷ front ++ more) ≡ problem_on said g more
  after-problem said front more g one is = start-problem said variants (Text name ∷ front) more g (omega (arith, one)) is

  pub after-needs : (front more : List Line) (g : Played) → length front ≡ 1 → game_of variants (Text name ∷ take 1 front) ≡ Ok g
      → 1 + lines_on_problem g more ≤ lines_of_problem variants (Text name ∷ front ++ more) - 1
  after-needs front more g one is = let two = start-problem-needs variants (Text name ∷ front) more g (omega (arith, one)) is in omega (arith, two)

-- ---- a problem has exactly four lines

then_parts : {A : Type 0} (r : Result Played GameFault) (next : Played → Result A GameFault) (x : A) → and_then r next ≡ Ok x → (g : Played) × (r ≡ Ok g) × (next g ≡ Ok x)
then_parts (Ok g) next x is = (g, refl, is)
then_parts (Err fault) next x is = cc

goal_parts : {A : Type 0} (g : Played) (r : Result A GameFault) (p : Problem A) → with_goal g r ≡ Ok p → (goal : A) × (r ≡ Ok goal)
goal_parts g (Ok goal) p is = (goal, refl)
goal_parts g (Err fault) p is = cc

on_parts : {A : Type 0} (said : List ℕ → Option A) (g : Played) (lines : List Line) (p : Problem A) → problem_on said g lines ≡ Ok p → (h : Played) × (moves_on g lines ≡ Ok h) × (with_goal h (goal_on said (drop 1 lines)) ≡ Ok p)
unfolding problem_on
on_parts said g lines p is = then_parts (moves_on g lines) (λ h. with_goal h (goal_on said (drop 1 lines))) p is

of_parts : {A : Type 0} (said : List ℕ → Option A) (variants : List Named) (lines : List Line) (p : Problem A) → problem_of said variants lines ≡ Ok p → (g : Played) × (game_of variants (take 2 lines) ≡ Ok g) × (problem_on said g (drop 2 lines) ≡ Ok p)
unfolding problem_of
of_parts said variants lines p is = then_parts (game_of variants (take 2 lines)) (λ g. problem_on said g (drop 2 lines)) p is

goal_there : {A : Type 0} (said : List ℕ → Option A) (lines : List Line) (goal : A) → goal_on said lines ≡ Ok goal → 1 ≤ length lines
unfolding goal_on
goal_there said [] goal is = cc
goal_there said (x ∷ lines) goal is = omega arith

on_there : {A : Type 0} (said : List ℕ → Option A) (g : Played) (lines : List Line) (p : Problem A) → problem_on said g lines ≡ Ok p → 2 ≤ length lines
on_there said g lines p is =
    let parts = on_parts said g lines p is in
    let one = moves-there g parts.0 lines parts.1 in
    let goal = goal_parts parts.0 (goal_on said (drop 1 lines)) p parts.2 in
    let rest = goal_there said (drop 1 lines) goal.0 goal.1 in
    let long = length-drop 1 lines in
    omega (arith, one, rest, long)

pub problem-there : {A : Type 0} (said : List ℕ → Option A) (variants : List Named) (lines : List Line) (p : Problem A) → problem_of said variants lines ≡ Ok p → 4 ≤ length lines
problem-there said variants lines p is =
    let parts = of_parts said variants lines p is in
    let two = start-there variants lines parts.0 parts.1 in
    let rest = on_there said parts.0 (drop 2 lines) p parts.2 in
    let long = length-drop 2 lines in
    omega (arith, two, rest, long)

unless_most : (r : Result Played GameFault) (more : Played → ℕ) (k : ℕ) → ((g : Played) → more g ≤ k) → unless_faulty r more ≤ k
unless_most (Ok g) more k most = most g
unless_most (Err fault) more k most = omega arith

on_most : (g : Played) (lines : List Line) → lines_on_problem g lines ≤ 2
unfolding lines_on_problem
on_most g lines =
    let first = first-line lines in
    let later = unless_most (moves_on g lines) (λ h. length (take 1 (drop 1 lines))) 1 (λ h. first-line (drop 1 lines)) in
    omega (arith, first, later)

pub problem-most : (variants : List Named) (lines : List Line) → lines_of_problem variants lines ≤ 4
unfolding lines_of_problem
problem-most variants lines =
    let first = start-most variants lines in
    let later = unless_most (game_of variants (take 2 lines)) (λ g. lines_on_problem g (drop 2 lines)) 2 (λ g. on_most g (drop 2 lines)) in
    omega (arith, first, later)

goal_first : {A : Type 0} (said : List ℕ → Option A) (x : Line) (more : List Line) → goal_on said (x ∷ more) ≡ goal_on said (x ∷ [])
unfolding goal_on
goal_first said TooLong more = refl
goal_first said (Text text) more = refl

four : {A : Type 0} (said : List ℕ → Option A) (variants : List Named) (x y z w : Line) (more : List Line) (p : Problem A) → problem_of said variants (x ∷ y ∷ z ∷ w ∷ []) ≡ Ok p
    → (problem_of said variants (x ∷ y ∷ z ∷ w ∷ more) ≡ Ok p) × (4 ≤ lines_of_problem variants (x ∷ y ∷ z ∷ w ∷ more))
four said variants x y z w more p is =
    let start = of_parts said variants (x ∷ y ∷ z ∷ w ∷ []) p is in
    let moves = on_parts said start.0 (z ∷ w ∷ []) p start.2 in
    let alone : moves_on start.0 (z ∷ []) ≡ Ok moves.0 = sym (moves_first start.0 z (w ∷ [])) ∙ moves.1 in
    let needs = moved_needs start.0 moves.0 z (w ∷ more) alone in
    let two = two_needed variants x y (z ∷ w ∷ more) start.0 start.1 in (
      start-problem said variants (x ∷ y ∷ []) (z ∷ w ∷ more) start.0 refl start.1
          ∙ moved said start.0 moves.0 z (w ∷ more) alone
          ∙ ap (with_goal moves.0) (goal_first said w more)
          ∙ moves.2,
      omega (arith, needs, two),
    )

-- which decide
pub problem-decided : {A : Type 0} (said : List ℕ → Option A) (variants : List Named) (front more : List Line) (p : Problem A) → length front ≡ 4 → problem_of said variants front ≡ Ok p → problem_of said variants (front ++ more) ≡ Ok p
problem-decided said variants (x ∷ y ∷ z ∷ w ∷ []) more p is says = (four said variants x y z w more p says).0
problem-decided said variants [] more p is says = absurd (omega (arith, is))
problem-decided said variants (x ∷ []) more p is says = absurd (omega (arith, is))
problem-decided said variants (x ∷ y ∷ []) more p is says = absurd (omega (arith, is))
problem-decided said variants (x ∷ y ∷ z ∷ []) more p is says = absurd (omega (arith, is))
problem-decided said variants (x ∷ y ∷ z ∷ w ∷ v ∷ front) more p is says = absurd (omega (arith, is))

pub problem-needs : {A : Type 0} (said : List ℕ → Option A) (variants : List Named) (front more : List Line) (p : Problem A) → length front ≡ 4 → problem_of said variants front ≡ Ok p → 4 ≤ lines_of_problem variants (front ++ more)
problem-needs said variants (x ∷ y ∷ z ∷ w ∷ []) more p is says = (four said variants x y z w more p says).1
problem-needs said variants [] more p is says = absurd (omega (arith, is))
problem-needs said variants (x ∷ []) more p is says = absurd (omega (arith, is))
problem-needs said variants (x ∷ y ∷ []) more p is says = absurd (omega (arith, is))
problem-needs said variants (x ∷ y ∷ z ∷ []) more p is says = absurd (omega (arith, is))
problem-needs said variants (x ∷ y ∷ z ∷ w ∷ v ∷ front) more p is says = absurd (omega (arith, is))
