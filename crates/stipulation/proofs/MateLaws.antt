-- A search of a game finds a certificate exactly where there is a selfmate or a helpmate.
use Rattle.std.proofs.Common.{◌≡◌, ◌⊎◌, inl, inr, ℕ, zero, suc, ◌+◌, ◌-◌, ◌*◌, ◌<◌, ◌≤◌, List, length, Bool, true, false, ◌&&◌, is_some, Option, Some, None, Result, Ok, Err, IfOk, MatchOption, refl, ap, sym, ◌∙◌, subst, arith}
use Rattle.std.specs.Option.{option_or}
use Rattle.foundation.specs.declared.Memory.{Memory}
use Rattle.foundation.specs.Tests.{is_nil}
use Rattle.rules_model.specs.declared.moves.Move.{Move}
use Rattle.rules_model.specs.declared.rules.Rules.{Rules}
use Rattle.rules_model.specs.Repeats.{repeat_of}
use Rattle.rules_model.specs.Games.{Story}
use Rattle.rules_model.proofs.LegalLaws.{legal-once}
use Rattle.forced_wins.specs.Contests.{Contest, within}
use Rattle.forced_wins.proofs.ContestLaws.{within-mono}
use Rattle.forced_wins.proofs.Counts.{true_false}
use Rattle.stipulation.specs.declared.cert.Step.{Step}
use Rattle.stipulation.specs.declared.verdict.CertVerdict.TheVariants.{Holds}
use Rattle.stipulation.specs.declared.cert.Cert.{Cert}
use Rattle.stipulation.specs.Searches.{found, help_found, is_ended, least_found, steps_of}
use Rattle.stipulation.specs.Stipulations.{self_games, self_wins, HelpWins, help_games}
use Rattle.stipulation.specs.Verdicts.{self_verdict, help_verdict, tree_verdict, is_empty_end}
use Rattle.stipulation.proofs.FoundLaws.{found-within, found-holds, found-short}
use Rattle.stipulation.proofs.RuleLaws.{self-within, self-holds, help-within, help-later, help-within-steps}

none-lost : {X : Type 0} (c : Contest X Move) (t : ℕ) (x : X) → found c t 0 x ≡ None → within c t x ≡ false
none-lost c t x e = sym (found-within c t 0 x) ∙ ap is_some e

-- more plies do no harm
pub within-more : {X : Type 0} (c : Contest X Move) (k t : ℕ) (x : X) → k ≤ t → within c k x ≡ true → within c t x ≡ true
within-more c k zero x l h = let e : k ≡ 0 = omega arith in subst (λ n. within c n x ≡ true) e h
within-more c k (suc t) x l h = split (order k t l) (λ low. within-more c k t x low h)
  where
    order : (k t : ℕ) → k ≤ suc t → (k ≡ suc t) ⊎ (k ≤ t)
    order k t l = grind arith

    split : (k ≡ suc t) ⊎ (k ≤ t) → (k ≤ t → within c t x ≡ true) → within c (suc t) x ≡ true
    split (inl e) go = subst (λ n. within c n x ≡ true) e h
    split (inr low) go = within-mono c t x (go low)

-- ---- selfmates

module _ (rules : Rules) (n : ℕ) (g : Story) where
  pub self-none : found (self_games rules g.last.side) (2 * n) 0 g ≡ None → self_wins rules n g g.last.side ≡ false
  self-none e = self-within rules n g ∙ none-lost (self_games rules g.last.side) (2 * n) g e

  pub self-found : (ss : List Step) → found (self_games rules g.last.side) (2 * n) 0 g ≡ Some ss → self_verdict rules n g ss ≡ Holds
  self-found ss e = found-holds (self_games rules g.last.side) n g (λ h. legal-once rules (repeat_of h.last)) (2 * n) ss (omega arith) e

  pub self-found-wins : (ss : List Step) → found (self_games rules g.last.side) (2 * n) 0 g ≡ Some ss → self_wins rules n g g.last.side ≡ true
  self-found-wins ss e = self-holds rules n g ss (self-found ss e)

-- ---- helpmates

module _ (rules : Rules) (n : ℕ) (g : Story) where
  abbrev c : Contest Story Move
  c = help_games rules g.last.side

  no-end : (o : Option Bool) → is_some o ≡ false → o ≡ None
  no-end None e = refl
  no-end (Some w) e = cc

  -- an ended game has no helpmate
  pub help-ended : (b : Bool) → b ≡ is_ended c g → b ≡ true → HelpWins rules n g → ⊥
  help-ended b e f h =
      let none = (help-within rules n g h).0 in
      true_false (is_ended c g) (sym e ∙ f) (ap is_some none)

  pub help-begun : (b : Bool) → b ≡ is_ended c g → b ≡ false → within c 0 g ≡ false
  unfolding within
  help-begun b e f = let none = no-end (c.end g) (sym e ∙ f) in rw none

  pub help-missed : (t : ℕ) → found c t 0 g ≡ None → within c t g ≡ false
  help-missed t e = none-lost c t g e

  pub help-none : within c (2 * n) g ≡ false → HelpWins rules n g → ⊥
  help-none e h = true_false (within c (2 * n) g) (help-within rules n g h).1 e

  pub help-found : (b : Bool) (t : ℕ) (ss : List Step) → b ≡ is_ended c g → b ≡ false → t ≤ 2 * n → found c t 0 g ≡ Some ss → help_verdict rules n g ss ≡ Holds
  help-found b t ss e f l h =
      help-later rules n g ss (is_empty_end c g ss) (tree_verdict c n g ss) refl (no-step (is_nil ss) (sym e ∙ f)) refl
      (found-holds c n g (λ h. legal-once rules (repeat_of h.last)) t ss l h)
    where
      no-step : (b : Bool) → is_some (c.end g) ≡ false → (b && is_some (c.end g)) ≡ false
      no-step true k = k
      no-step false k = refl

  -- no certificate that holds is shorter
  pub help-shortest : (t : ℕ) (ss : List Step) → 1 ≤ t → within c (t - 1) g ≡ false → found c t 0 g ≡ Some ss → (steps : List Step) → help_verdict rules n g steps ≡ Holds → length ss ≤ length steps
  help-shortest t ss l e h steps k = order (length ss) (length steps) (t - 1) (found-short c (λ x. refl) t 0 g ss h) (λ low. true_false (within c (t - 1) g) (within-more c (length steps) (t - 1) g low (help-within-steps rules n g steps k)) e) (omega arith)
    where
      order : (a b d : ℕ) → a ≤ t → (b ≤ d → ⊥) → t ≡ d + 1 → a ≤ b
      order a b d h k e = grind arith

-- ---- which certificate it is

-- the steps of an answer are those that were found
pub answered : (o : Option (List Step)) (answer : Option Cert) → MatchOption answer (o ≡ None) (λ k. o ≡ Some k.steps) → steps_of answer ≡ o
answered o None is = sym is
answered o (Some k) is = sym is

pub answered-ok : (o : Option (List Step)) (r : Result (Option Cert) Memory) → IfOk r (λ a. MatchOption a (o ≡ None) (λ k. o ≡ Some k.steps)) → IfOk r (λ a. steps_of a ≡ o)
answered-ok o (Ok a) is = answered o a is
answered-ok o (Err e) is = tt

module _ (rules : Rules) (n : ℕ) (g : Story) where
  abbrev games : Contest Story Move
  games = help_games rules g.last.side

  -- a game that is ended has none
  pub least-ended : (b : Bool) → b ≡ is_ended games g → b ≡ true → help_found rules n g ≡ None
  unfolding help_found
  least-ended b e f = let ended : is_ended games g ≡ true = sym e ∙ f in rw ended refl

  begun-is : (b : Bool) → b ≡ is_ended games g → b ≡ false → help_found rules n g ≡ least_found games (2 * n) 1 g
  unfolding help_found
  begun-is b e f = let begun : is_ended games g ≡ false = sym e ∙ f in rw begun refl

  pub least-begun : (b : Bool) → b ≡ is_ended games g → b ≡ false → help_found rules n g ≡ least_found games (2 * n + 1 - 1) 1 g
  least-begun b e f = let all : 2 * n ≡ 2 * n + 1 - 1 = omega arith in begun-is b e f ∙ ap (λ k. least_found games k 1 g) all

  least-hit : (more t : ℕ) (ss : List Step) → 1 ≤ more → found games t 0 g ≡ Some ss → least_found games more t g ≡ Some ss
  unfolding least_found
  least-hit zero t ss l e = absurd (omega (arith, l))
  least-hit (suc more) t ss l e = ap (λ o. option_or o (least_found games more (t + 1) g)) e

  least-miss : (more t : ℕ) → found games t 0 g ≡ None → least_found games (suc more) t g ≡ least_found games more (t + 1) g
  unfolding least_found
  least-miss more t e = ap (λ o. option_or o (least_found games more (t + 1) g)) e

  -- where none has fewer plies than t
  pub least-at : (t : ℕ) (ss : List Step) → 1 ≤ t → t ≤ 2 * n → help_found rules n g ≡ least_found games (2 * n + 1 - t) t g → found games t 0 g ≡ Some ss → help_found rules n g ≡ Some ss
  least-at t ss l m is e = is ∙ least-hit (2 * n + 1 - t) t ss (omega (arith, m)) e

  pub least-next : (t : ℕ) → t ≤ 2 * n → help_found rules n g ≡ least_found games (2 * n + 1 - t) t g → found games t 0 g ≡ None → help_found rules n g ≡ least_found games (2 * n + 1 - (t + 1)) (t + 1) g
  least-next t m is e =
      let one : 2 * n + 1 - t ≡ suc (2 * n - t) = omega (arith, m) in
      let left : 2 * n - t ≡ 2 * n + 1 - (t + 1) = omega (arith, m) in
      is ∙ ap (λ k. least_found games k t g) one ∙ least-miss (2 * n - t) t e ∙ ap (λ k. least_found games k (t + 1) g) left

  pub least-none : (t : ℕ) → 2 * n < t → help_found rules n g ≡ least_found games (2 * n + 1 - t) t g → help_found rules n g ≡ None
  unfolding least_found
  least-none t m is = let none : 2 * n + 1 - t ≡ 0 = omega (arith, m) in is ∙ ap (λ k. least_found games k t g) none

  -- ---- what it comes to

  least-by : (more t : ℕ) (ss : List Step) (o : Option (List Step)) → found games t 0 g ≡ o → least_found games (suc more) t g ≡ Some ss
      → (least_found games more (t + 1) g ≡ Some ss → (k : ℕ) × (k < t + 1 + more) × (found games k 0 g ≡ Some ss)) → (k : ℕ) × (k < t + suc more) × (found games k 0 g ≡ Some ss)
  unfolding least_found
  least-by more t ss (Some rs) is e later =
      let same : Some rs ≡ Some ss = sym (ap (λ o. option_or o (least_found games more (t + 1) g)) is) ∙ e in
      (t, omega arith, is ∙ same)
  least-by more t ss None is e later =
      let rest : least_found games more (t + 1) g ≡ Some ss = sym (ap (λ o. option_or o (least_found games more (t + 1) g)) is) ∙ e in
      let k = later rest in
      let below = k.1 in
      (k.0, omega (arith, below), k.2)

  least-parts : (more t : ℕ) (ss : List Step) → least_found games more t g ≡ Some ss → (k : ℕ) × (k < t + more) × (found games k 0 g ≡ Some ss)
  unfolding least_found
  least-parts zero t ss e = cc
  least-parts (suc more) t ss e = least-by more t ss (found games t 0 g) refl e (least-parts more (t + 1) ss)

  least-misses : (more t : ℕ) → least_found games (suc more) t g ≡ None → found games (t + more) 0 g ≡ None
  unfolding least_found
  least-misses zero t e = let here : t + 0 ≡ t = omega arith in ap (λ k. found games k 0 g) here ∙ first_none (found games t 0 g) refl
    where
      first_none : (o : Option (List Step)) → found games t 0 g ≡ o → found games t 0 g ≡ None
      first_none None is = is
      first_none (Some rs) is = let bad : Some rs ≡ None = sym (ap (λ o. option_or o (least_found games zero (t + 1) g)) is) ∙ e in cc
  least-misses (suc more) t e =
      let last : t + suc more ≡ t + 1 + more = omega arith in
      ap (λ k. found games k 0 g) last ∙ least-misses more (t + 1) (rest_none (found games t 0 g) refl)
    where
      rest_none : (o : Option (List Step)) → found games t 0 g ≡ o → least_found games (suc more) (t + 1) g ≡ None
      rest_none None is = sym (ap (λ o. option_or o (least_found games (suc more) (t + 1) g)) is) ∙ e
      rest_none (Some rs) is = let bad : Some rs ≡ None = sym (ap (λ o. option_or o (least_found games (suc more) (t + 1) g)) is) ∙ e in cc

  found-if : (ss : List Step) (b : Bool) → is_ended games g ≡ b → help_found rules n g ≡ Some ss → help_verdict rules n g ss ≡ Holds
  found-if ss true is e = let none = least-ended true (sym is) refl in cc
  found-if ss false is e =
      let parts = least-parts (2 * n) 1 ss (sym (begun-is false (sym is) refl) ∙ e) in
      let below = parts.1 in
      help-found rules n g false parts.0 ss (sym is) refl (omega (arith, below)) parts.2

  -- the steps that were found hold
  pub help-least : (ss : List Step) → help_found rules n g ≡ Some ss → help_verdict rules n g ss ≡ Holds
  help-least ss e = found-if ss (is_ended games g) refl e

  unfound-if : (b : Bool) → is_ended games g ≡ b → help_found rules n g ≡ None → HelpWins rules n g → ⊥
  unfound-if true is e = help-ended rules n g true (sym is) refl
  unfound-if false is e = by_moves n refl
    where
      by_moves : (k : ℕ) → n ≡ k → HelpWins rules n g → ⊥
      by_moves zero none = help-none rules n g (subst (λ t. within games t g ≡ false) (let no_ply : 0 ≡ 2 * n = omega (arith, none) in no_ply) (help-begun rules n g false (sym is) refl))
      by_moves (suc k) some =
          let plies : 2 * n ≡ suc (2 * n - 1) = omega (arith, some) in
          let last : 1 + (2 * n - 1) ≡ 2 * n = omega (arith, some) in
          let nothing : least_found games (suc (2 * n - 1)) 1 g ≡ None = ap (λ m. least_found games m 1 g) (sym plies) ∙ sym (begun-is false (sym is) refl) ∙ e in
          let missed : found games (2 * n) 0 g ≡ None = ap (λ m. found games m 0 g) (sym last) ∙ least-misses (2 * n - 1) 1 nothing in
          help-none rules n g (help-missed rules n g (2 * n) missed)

  -- where none was found there is no helpmate
  pub help-unfound : help_found rules n g ≡ None → HelpWins rules n g → ⊥
  help-unfound e = unfound-if (is_ended games g) refl e
