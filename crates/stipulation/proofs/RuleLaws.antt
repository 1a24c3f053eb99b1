-- Certificates that hold give selfmates and helpmates by the rules of play.
use Rattle.std.proofs.Common.{◌≡◌, inl, inr, ℕ, zero, suc, ◌+◌, ◌*◌, ◌<◌, ◌≤◌, List, [], ◌∷◌, length, Bool, true, false, not, is_some, Option, Some, None, refl, ap, sym, ◌∙◌, arith}
use Rattle.std.specs.List.{list_any}
use Rattle.std.proofs.lemmas.Bool.{and_parts}
use Rattle.std.proofs.lemmas.Bool.Decides.{nat_tests}
use Rattle.foundation.specs.Member.{Member}
use Rattle.foundation.specs.Tests.{is_nil}
use Rattle.rules_model.specs.declared.board.Side.{Side}
use Rattle.rules_model.specs.declared.moves.Cause.{Cause}
use Rattle.rules_model.specs.declared.moves.Cause.TheVariants.{Flag, Checks, Extinction, Checkmate, Stalemate, Repetition, MoveCount}
use Rattle.rules_model.specs.declared.moves.Move.{Move}
use Rattle.rules_model.specs.declared.moves.Outcome.{Outcome}
use Rattle.rules_model.specs.declared.moves.Outcome.TheVariants.{Ongoing, Won, Drawn}
use Rattle.rules_model.specs.declared.rules.Rules.{Rules}
use Rattle.rules_model.specs.Repeats.{repeat_of}
use Rattle.rules_model.specs.Sides.{other, same_side}
use Rattle.rules_model.specs.Legal.{legal, is_stuck, own_end}
use Rattle.rules_model.specs.Ends.{is_ongoing}
use Rattle.rules_model.specs.Games.{Story, played, story_from, result}
use Rattle.rules_model.proofs.EqualLaws.{side-decides}
use Rattle.rules_model.proofs.PlayLaws.{own_end-stuck}
use Rattle.rules_model.proofs.ResultLaws.{result-own, story_from-none, story_from-more}
use Rattle.forced_wins.specs.Contests.{Contest, within}
use Rattle.forced_wins.proofs.ClaimLaws as Claims
use Rattle.forced_wins.proofs.ContestLaws.{any_intro, double, double-is, forced-attacking}
use Rattle.forced_wins.proofs.Counts.{by_cases, own_cases}
use Rattle.forced_wins.proofs.Rules.{laws}
use Rattle.stipulation.specs.declared.cert.Step.{Step}
use Rattle.stipulation.specs.declared.verdict.CertVerdict.{CertVerdict}
use Rattle.stipulation.specs.declared.verdict.CertVerdict.TheVariants.{Holds, BadPly, NotMate}
use Rattle.stipulation.specs.Stipulations.{is_checkmate, mated_by, self_games, self_wins, AreInTurn, HelpWins, help_games}
use Rattle.stipulation.specs.Sentences.{SelfSentences}
use Rattle.stipulation.specs.Trees.{game_at, children}
use Rattle.stipulation.specs.Verdicts.{or_verdict, fault_if, is_bad_ply, plies_verdict, game_verdict, steps_verdict, tree_verdict, self_verdict, help_verdict, is_empty_end}
use Rattle.stipulation.proofs.TreeLemmas.{or-holds, fault-holds, not_mate, bad_ply, steps-holds}
use Rattle.stipulation.proofs.HoldLaws.{Shallow, tree-within, tree-shallow}

-- ---- ends

-- an ongoing game has a legal move
pub ongoing-alive : (rules : Rules) (g : Story) → result rules g ≡ Ongoing → is_nil (legal rules (repeat_of g.last)) ≡ false
unfolding is_stuck
ongoing-alive rules g e =
    by_cases (is_stuck rules (repeat_of g.last))
    (λ y. let own : own_end rules (repeat_of g.last) ≡ Ongoing = sym (result-own rules g y) ∙ e in
    let bad : is_ongoing Ongoing ≡ false = sym (ap is_ongoing own) ∙ own_end-stuck rules (repeat_of g.last) ∙ ap not y in cc)
    (λ n. n)

pub mated-ongoing : (w : Side) (o : Outcome) → mated_by w o ≡ None → o ≡ Ongoing
mated-ongoing w Ongoing e = refl
mated-ongoing w (Won s c) e = cc
mated-ongoing w (Drawn c) e = cc

checkmate-is : (c : Cause) → is_checkmate c ≡ true → c ≡ Checkmate
checkmate-is Flag e = cc
checkmate-is Checks e = cc
checkmate-is Extinction e = cc
checkmate-is Checkmate e = refl
checkmate-is Stalemate e = cc
checkmate-is Repetition e = cc
checkmate-is MoveCount e = cc

some-same : (a b : Bool) → Some a ≡ Some b → a ≡ b
some-same a b e = cc

pub mated-won : (w : Side) (o : Outcome) → mated_by w o ≡ Some true → o ≡ Won w Checkmate
mated-won w Ongoing e = cc
mated-won w (Won s c) e =
    let k = and_parts (same_side s w) (is_checkmate c) (some-same _ _ e) in
    (λ i. Won ((side-decides s w).0 k.0 i) (checkmate-is c k.1 i))
mated-won w (Drawn c) e = cc

won-mated : (w : Side) → mated_by w (Won w Checkmate) ≡ Some true
won-mated w = let e = (side-decides w w).1 refl in rw e

pub own-turn : (a : Side) → same_side a a ≡ true
own-turn a = (side-decides a a).1 refl

-- ---- selfmates

module _ (rules : Rules) (a : Side) where
  pub self-alive : (g : Story) → (self_games rules a).end g ≡ None → is_nil ((self_games rules a).moves g) ≡ false
  self-alive g e = ongoing-alive rules g (mated-ongoing (other a) (result rules g) e)

  pub self-turns : (g : Story) (m : Move) → (self_games rules a).attacking ((self_games rules a).after g m) ≡ not ((self_games rules a).attacking g)
  self-turns g m = (laws rules a).turns g.last m

pub self-within : (rules : Rules) (n : ℕ) (g : Story) → self_wins rules n g g.last.side ≡ within (self_games rules g.last.side) (2 * n) g
self-within rules n g =
    let e = double-is n in
    let two : double n ≡ 2 * n = omega arith in
    forced-attacking (self_games rules g.last.side) (self-turns rules g.last.side) n g (own-turn g.last.side)
    ∙ ap (λ t. within (self_games rules g.last.side) t g) two

-- a certificate of a selfmate that holds gives one
pub self-holds : (rules : Rules) (n : ℕ) (g : Story) (steps : List Step) → self_verdict rules n g steps ≡ Holds → self_wins rules n g g.last.side ≡ true
self-holds rules n g steps h =
    let c = self_games rules g.last.side in
    self-within rules n g ∙ tree-within c n g (self-alive rules g.last.side) (2 * n) steps (tree-shallow c n g steps h) h

-- ---- helpmates

plies-shallow : (i before : ℕ) (steps : List Step) → plies_verdict i before steps ≡ Holds → (d : ℕ) → before + length steps ≤ d → Shallow d steps
unfolding plies_verdict
plies-shallow i before [] h d l = tt
plies-shallow i before (s ∷ steps) h d l =
    let u = or-holds (fault_if (is_bad_ply before s.ply) (BadPly i)) _ h in
    let f = fault-holds (is_bad_ply before s.ply) (BadPly i) (bad_ply i) u.0 in
    let le = up before s.ply f in
    (omega arith, plies-shallow (i + 1) s.ply steps u.1 d (omega arith))
  where
    up : (before ply : ℕ) → is_bad_ply before ply ≡ false → ply ≤ before + 1
    up before ply f = grind (arith, nat_tests)

module _ (rules : Rules) (a : Side) where
  abbrev c : Contest Story Move
  c = help_games rules a

  help-alive : (g : Story) → c.end g ≡ None → is_nil (c.moves g) ≡ false
  help-alive g e = ongoing-alive rules g (mated-ongoing (other a) (result rules g) e)

  -- moves in turn to a checkmate
  pub record Line (t : ℕ) (g : Story) : Type 0 where
    pub moves : List Move
    pub few : length moves ≤ t
    pub in_turn : AreInTurn rules g moves
    pub mate : mated_by (other a) (result rules (story_from rules g moves)) ≡ Some true

  line-ended : (t : ℕ) (g : Story) → mated_by (other a) (result rules g) ≡ Some true → Line t g
  line-ended t g e = record { moves = []; few = omega arith; in_turn = tt; mate = ap (λ h. mated_by (other a) (result rules h)) (story_from-none rules g) ∙ e }

  line-more : (t : ℕ) (g : Story) (m : Move) → result rules g ≡ Ongoing → Member m (legal rules (repeat_of g.last)) → Line t (played rules g m) → Line (suc t) g
  line-more t g m e k l = record {
    moves = m ∷ l.moves;
    few = let f = l.few in omega arith;
    in_turn = (e, k, l.in_turn);
    mate = ap (λ h. mated_by (other a) (result rules h)) (story_from-more rules g m l.moves) ∙ l.mate;
  }

  any-member : (f : Move → Bool) (ms : List Move) → list_any f ms ≡ true → (m : Move) × Member m ms × (f m ≡ true)
  any-member f [] h = cc
  any-member f (m ∷ ms) h =
      by_cases {C = (k : Move) × Member k (m ∷ ms) × (f k ≡ true)} (f m)
      (λ y. (m, inl refl, y))
      (λ n. let rest : list_any f ms ≡ true = rw n at h in let k = any-member f ms rest in (k.0, inr k.1, k.2))

  decided-some : (t : ℕ) (g : Story) (w : Bool) → c.end g ≡ Some w → within c t g ≡ true → w ≡ true
  unfolding within
  decided-some zero g w e h = rw e at h
  decided-some (suc t) g w e h = rw e at h

  decided-zero : (g : Story) → c.end g ≡ None → within c 0 g ≡ true → ⊥
  unfolding within
  decided-zero g e h = let bad : false ≡ true = rw e at h in cc

  decided-more : (t : ℕ) (g : Story) → c.end g ≡ None → within c (suc t) g ≡ true → list_any (λ m. within c t (played rules g m)) (legal rules (repeat_of g.last)) ≡ true
  unfolding within
  decided-more t g e h = rw e at h

  pub within-line : (t : ℕ) (g : Story) → within c t g ≡ true → Line t g
  within-line zero g h = own_cases (c.end g) (λ w e. line-ended 0 g (e ∙ ap Some (decided-some 0 g w e h))) (λ e. absurd (decided-zero g e h))
  within-line (suc t) g h =
      own_cases (c.end g) (λ w e. line-ended (suc t) g (e ∙ ap Some (decided-some (suc t) g w e h)))
      (λ e. let k = any-member (λ m. within c t (played rules g m)) (legal rules (repeat_of g.last)) (decided-more t g e h) in
      line-more t g k.0 (mated-ongoing (other a) (result rules g) e) k.1 (within-line t (played rules g k.0) k.2))

  ended-within : (t : ℕ) (g : Story) → mated_by (other a) (result rules g) ≡ Some true → within c t g ≡ true
  unfolding within
  ended-within zero g e = rw e
  ended-within (suc t) g e = rw e

  more-within : (t : ℕ) (g : Story) → result rules g ≡ Ongoing → list_any (λ m. within c t (played rules g m)) (legal rules (repeat_of g.last)) ≡ true → within c (suc t) g ≡ true
  unfolding within
  more-within t g e h = let none : c.end g ≡ None = ap (mated_by (other a)) e in rw (none, h)

  pub line-within : (t : ℕ) (g : Story) (ms : List Move) → length ms ≤ t → AreInTurn rules g ms → mated_by (other a) (result rules (story_from rules g ms)) ≡ Some true → within c t g ≡ true
  line-within t g [] l i e = ended-within t g (sym (ap (λ h. mated_by (other a) (result rules h)) (story_from-none rules g)) ∙ e)
  line-within zero g (m ∷ ms) l i e = absurd (omega arith)
  line-within (suc t) g (m ∷ ms) l i e =
      more-within t g i.0 (any_intro (λ k. within c t (played rules g k)) m (legal rules (repeat_of g.last)) i.1
      (line-within t (played rules g m) ms (omega arith) i.2 (sym (ap (λ h. mated_by (other a) (result rules h)) (story_from-more rules g m ms)) ∙ e)))

-- a helpmate is a line of an ongoing game
pub help-within : (rules : Rules) (n : ℕ) (g : Story) → HelpWins rules n g → (mated_by (other g.last.side) (result rules g) ≡ None) × (within (help_games rules g.last.side) (2 * n) g ≡ true)
help-within rules n g (ms, h) =
    (begins ms h.some h.in_turn, line-within rules g.last.side (2 * n) g ms h.few h.in_turn (ap (mated_by (other g.last.side)) h.mate ∙ won-mated (other g.last.side)))
  where
    begins : (ms : List Move) → 0 < length ms → AreInTurn rules g ms → mated_by (other g.last.side) (result rules g) ≡ None
    begins [] l i = absurd (omega arith)
    begins (m ∷ ms) l i = ap (mated_by (other g.last.side)) i.0

pub within-help : (rules : Rules) (n : ℕ) (g : Story) → mated_by (other g.last.side) (result rules g) ≡ None → within (help_games rules g.last.side) (2 * n) g ≡ true → HelpWins rules n g
within-help rules n g e h =
    let l = within-line rules g.last.side (2 * n) g h in
    (l.moves, record { some = some l.moves l.mate; few = l.few; in_turn = l.in_turn; mate = mated-won (other g.last.side) _ l.mate })
  where
    some : (ms : List Move) → mated_by (other g.last.side) (result rules (story_from rules g ms)) ≡ Some true → 0 < length ms
    some [] m = let bad : None ≡ Some true = sym e ∙ sym (ap (λ h. mated_by (other g.last.side) (result rules h)) (story_from-none rules g)) ∙ m in cc
    some (k ∷ ms) m = omega arith

-- a certificate that holds begins in an ongoing game
pub help-begins : (rules : Rules) (n : ℕ) (g : Story) (steps : List Step) → help_verdict rules n g steps ≡ Holds → mated_by (other g.last.side) (result rules g) ≡ None
unfolding tree_verdict game_at
help-begins rules n g steps h =
    let c = help_games rules g.last.side in
    let u = or-holds (fault_if (is_empty_end c g steps) (NotMate 0)) _ h in
    let empty = fault-holds (is_empty_end c g steps) (NotMate 0) (not_mate 0) u.0 in
    let a = or-holds (plies_verdict 1 0 steps) _ u.1 in
    let b = or-holds (game_verdict c 0 g (children 0 steps)) _ a.1 in
    begins steps empty b.1
  where
    none : (o : Option Bool) → is_some o ≡ false → o ≡ None
    none None e = refl
    none (Some w) e = cc

    begins : (steps : List Step) → is_empty_end (help_games rules g.last.side) g steps ≡ false → steps_verdict (help_games rules g.last.side) n g 1 [] steps ≡ Holds → mated_by (other g.last.side) (result rules g) ≡ None
    begins [] e k = none _ e
    begins (s ∷ later) e k = none _ (steps-holds (help_games rules g.last.side) n g 1 [] s later k).0.ongoing

pub help-tree : (rules : Rules) (n : ℕ) (g : Story) (steps : List Step) → help_verdict rules n g steps ≡ Holds → tree_verdict (help_games rules g.last.side) n g steps ≡ Holds
help-tree rules n g steps h = (or-holds (fault_if (is_empty_end (help_games rules g.last.side) g steps) (NotMate 0)) _ h).1

-- a certificate of a helpmate that holds gives one
pub help-holds : (rules : Rules) (n : ℕ) (g : Story) (steps : List Step) → help_verdict rules n g steps ≡ Holds → HelpWins rules n g
help-holds rules n g steps h =
    let c = help_games rules g.last.side in
    let t = help-tree rules n g steps h in
    within-help rules n g (help-begins rules n g steps h) (tree-within c n g (help-alive rules g.last.side) (2 * n) steps (tree-shallow c n g steps t) t)

-- and a line of as many moves as it has steps
pub help-within-steps : (rules : Rules) (n : ℕ) (g : Story) (steps : List Step) → help_verdict rules n g steps ≡ Holds → within (help_games rules g.last.side) (length steps) g ≡ true
unfolding tree_verdict
help-within-steps rules n g steps h =
    let c = help_games rules g.last.side in
    let t = help-tree rules n g steps h in
    tree-within c n g (help-alive rules g.last.side) (length steps) steps (plies-shallow 1 0 steps (or-holds (plies_verdict 1 0 steps) _ t).0 (length steps) (omega arith)) t

-- a check that went past an empty end
pub help-later : (rules : Rules) (n : ℕ) (g : Story) (steps : List Step) (b : Bool) (v : CertVerdict) → b ≡ is_empty_end (help_games rules g.last.side) g steps → b ≡ false → v ≡ tree_verdict (help_games rules g.last.side) n g steps → v ≡ Holds → help_verdict rules n g steps ≡ Holds
help-later rules n g steps b v e f k h =
    ap (λ empty. or_verdict (fault_if empty (NotMate 0)) (tree_verdict (help_games rules g.last.side) n g steps)) (sym e ∙ f) ∙ sym k ∙ h

-- a check of a selfmate that holds
pub self-checked : (rules : Rules) (n : ℕ) (g : Story) (steps : List Step) (v : CertVerdict) → v ≡ tree_verdict (self_games rules g.last.side) n g steps → v ≡ Holds → self_wins rules n g g.last.side ≡ true
self-checked rules n g steps v e h = self-holds rules n g steps (sym e ∙ h)

-- ---- the sentences on selfmates

module _ (rules : Rules) (a : Side) where
  other_end : (o : Outcome) → (o ≡ Ongoing → ⊥) → (o ≡ Won (other a) Checkmate → ⊥) → mated_by (other a) o ≡ Some false
  other_end o h k = split (mated_by (other a) o) refl
    where
      split : (e : Option Bool) → mated_by (other a) o ≡ e → mated_by (other a) o ≡ Some false
      split None e = absurd (h (mated-ongoing (other a) o e))
      split (Some true) e = absurd (k (mated-won (other a) o e))
      split (Some false) e = e

  pub self-sentences : (n : ℕ) (g : Story) → SelfSentences rules n g a
  self-sentences n g = record {
    mated = λ e. Claims.forced-ended (self_games rules a) n g true (ap (mated_by (other a)) e ∙ won-mated (other a));
    ended = λ h k. Claims.forced-ended (self_games rules a) n g false (other_end (result rules g) h k);
    no_move_left = λ e t. Claims.forced-zero (self_games rules a) g (ap (mated_by (other a)) e) t;
    some_move = λ e t. Claims.forced-attack (self_games rules a) (self-turns rules a) n g (ap (mated_by (other a)) e) t;
    each_reply = λ e t. Claims.forced-defence (self_games rules a) (self-turns rules a) n g (ap (mated_by (other a)) e) t;
  }
