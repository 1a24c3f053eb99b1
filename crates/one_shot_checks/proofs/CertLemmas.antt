-- What `stipulate check` says of what the input states.
use Rattle.std.proofs.Common.{◌≡◌, ◌≤◌, ◌⊎◌, ℕ, ◌+◌, arith, Bool, true, false, length, drop, List, ◌++◌, inl, inr, Option, Some, None, Result, Ok, Err, refl, sym, ap, subst, ◌∙◌}
use Rattle.std.proofs.Math.Seq.{drop-append_seam}
use Rattle.std.specs.Prelude.{codes}
use Rattle.io_ports.specs.Lines.{Line}
use Rattle.rules_model.specs.declared.rules.Rules.{Rules}
use Rattle.rules_model.specs.Games.{Story}
use Rattle.variant_rules.specs.Entries.{Named}
use Rattle.forced_wins.proofs.Counts.{true_false}
use Rattle.game_play.specs.Played.{Played, story}
use Rattle.game_text.specs.declared.fault.GameFault.{GameFault}
use Rattle.game_text.specs.ReadView.{NoGame}
use Rattle.game_text.specs.declared.unmade.Unmade.TheVariants as no_game
use Rattle.game_text.specs.declared.goal.Stipulation.{Stipulation}
use Rattle.game_text.specs.declared.problem.Problem.{Problem}
use Rattle.game_text.specs.Goal.{stipulation_said}
use Rattle.game_text.specs.HeardLines.{HeardLines}
use Rattle.game_text.specs.Problem.{lines_of_problem, problem_of}
use Rattle.game_text.specs.ReadView as read
use Rattle.game_text.proofs.HeardLemmas.{heard_then}
use Rattle.game_text.proofs.ProblemLemmas.{problem-decided, problem-most, problem-needs, problem-there}
use Rattle.stipulation.specs.declared.cert.Cert.{Cert}
use Rattle.stipulation.specs.declared.cert.Step.{Step}
use Rattle.stipulation.specs.declared.verdict.CertVerdict.{CertVerdict}
use Rattle.stipulation.specs.declared.verdict.CertVerdict.TheVariants.{Holds, BadPly, BadMove, TooDeep, NotMate, MissingReply, Unfinished}
use Rattle.stipulation.specs.Verdicts.{verdict_text}
use Rattle.stipulation.specs.Searches.{help_found, self_found}
use Rattle.stipulation.proofs.MateLaws.{help-least, help-unfound, self-found, self-none}
use Rattle.stipulation.proofs.RuleLaws.{help-holds, self-holds}
use Rattle.cert_text.specs.declared.fault.CertFault.{CertFault}
use Rattle.cert_text.specs.declared.fault.CertFault.TheVariants.{BadLine, Ended, Memory}
use Rattle.cert_text.specs.declared.fault.NoCert.{NoCert}
use Rattle.cert_text.specs.declared.fault.NoCert.TheVariants.{Faulty, Unread}
use Rattle.cert_text.specs.Needed.{lines_of_cert}
use Rattle.cert_text.specs.Reading.{cert_of}
use Rattle.cert_text.specs.View.{HasWhy, IsUnread}
use Rattle.one_shot_checks.specs.declared.certificates.Stipulated.{Stipulated}
use Rattle.one_shot_checks.specs.declared.fault.Fault.{Fault}
use Rattle.one_shot_checks.specs.declared.fault.Fault.TheVariants as fault
use Rattle.one_shot_checks.specs.declared.no_answer.NoAnswer.{NoAnswer}
use Rattle.one_shot_checks.specs.declared.no_answer.NoAnswer.TheVariants as no_answer
use Rattle.one_shot_checks.specs.declared.stop.Stop.TheVariants as stop
use Rattle.one_shot_checks.specs.Certificates.{IsMet, Meets, PrintsHelp, PrintsSelf, SaysCertCheck, SaysStipulated, SaysVerdict, by_problem, lines_after, lines_of_cert_check, stipulated_in, verdict_by, verdict_in, with_cert}
use Rattle.one_shot_checks.specs.CheckView.{States}
use Rattle.one_shot_checks.specs.Fault.{error_line, fault_status, fault_text}
use Rattle.one_shot_checks.specs.GameTexts.{cert_or_none, help_mate_of, self_mate_of}
use Rattle.one_shot_checks.specs.NoAnswerView.{Answers, IsUnheard, cert_no_answer, game_no_answer}

-- ---- what was read, where it gives no answer

-- of a problem
pub problem_bad : (input : List Line) (r : Result (Problem Stipulation) GameFault) (why : NoGame) → read.Tells {A = Problem Stipulation} r (Err why) → States (by_problem r input) (Err (game_no_answer why))
problem_bad input r (no_game.Faulty bad) is = ap (λ x. by_problem x input) is
problem_bad input r no_game.Unread is = tt
problem_bad input r no_game.Memory is = tt

-- of the certificate after it
cert_fault : (p : Problem Stipulation) (r : Result Cert CertFault) (bad : CertFault) → r ≡ Err bad → with_cert p r ≡ Err (fault.Cert bad)
cert_fault p r bad is = ap (with_cert p) is

pub cert_bad : (p : Problem Stipulation) (r : Result Cert CertFault) (why : NoCert) → HasWhy r why → States (with_cert p r) (Err (cert_no_answer why))
cert_bad p r Unread says = tt
cert_bad p r (Faulty Memory) says = tt
cert_bad p r (Faulty (BadLine line)) says = cert_fault p r (BadLine line) says
cert_bad p r (Faulty (Ended line)) says = cert_fault p r (Ended line) says

pub cert_good : (p : Problem Stipulation) (r : Result Cert CertFault) (cert : Cert) → r ≡ Ok cert → with_cert p r ≡ Ok (record { problem = p; cert = cert })
cert_good p r cert is = ap (with_cert p) is

-- ---- why nothing was read

pub problem_unheard : (why : NoGame) → IsUnheard {A = Stipulated} (Err (game_no_answer why)) → read.IsUnread {A = Problem Stipulation} (Err why)
problem_unheard (no_game.Faulty bad) unheard = absurd unheard
problem_unheard no_game.Unread unheard = tt
problem_unheard no_game.Memory unheard = absurd unheard

pub cert_unheard : (why : NoCert) → IsUnheard {A = Stipulated} (Err (cert_no_answer why)) → IsUnread {A = Cert} (Err why)
cert_unheard Unread unheard = tt
cert_unheard (Faulty Memory) unheard = absurd unheard
cert_unheard (Faulty (BadLine line)) unheard = absurd unheard
cert_unheard (Faulty (Ended line)) unheard = absurd unheard

-- ---- the lines of a problem and its certificate

-- of variants, by their equation
pub variants_heard : (a b : Option (List ℕ)) (variants variants' : List Named) (r : Result (Problem Stipulation) NoGame) → variants ≡ variants'
    → HeardLines a b (lines_of_problem variants) (λ lines. read.Tells (problem_of stipulation_said variants lines) r)
    → HeardLines a b (lines_of_problem variants') (λ lines. read.Tells (problem_of stipulation_said variants' lines) r)
variants_heard a b variants variants' r is heard =
    subst (λ (v : List Named). HeardLines a b (lines_of_problem v) (λ lines. read.Tells (problem_of stipulation_said v lines) r)) is heard

pub problem_first : (variants : List Named) (lines : List Line) → lines_of_problem variants lines ≤ lines_of_cert_check variants lines
unfolding lines_of_cert_check
problem_first variants lines = omega arith

drop_front : {A : Type 0} (k : ℕ) (front rest : List A) → length front ≡ k → drop k (front ++ rest) ≡ rest
drop_front k front rest is = ap (λ n. drop n (front ++ rest)) (sym is) ∙ drop-append_seam front rest

module _ (variants : List Named) (front rest : List Line) (p : Problem Stipulation) (four : length front ≡ 4) (is : problem_of stipulation_said variants front ≡ Ok p) where
  whole : problem_of stipulation_said variants (front ++ rest) ≡ Ok p
  whole = problem-decided stipulation_said variants front rest p four is

  rest_is : drop 4 (front ++ rest) ≡ rest
  rest_is = drop_front 4 front rest four

  lines_are : lines_of_cert_check variants (front ++ rest) ≡ lines_of_problem variants (front ++ rest) + lines_of_cert p.game.rules (story p.game) rest
  unfolding lines_of_cert_check
  lines_are =
      ap (λ r. lines_of_problem variants (front ++ rest) + lines_after r (drop 4 (front ++ rest))) whole
      ∙ ap (λ (l : List Line). lines_of_problem variants (front ++ rest) + lines_of_cert p.game.rules (story p.game) l) rest_is

  stated_needs : 4 + lines_of_cert p.game.rules (story p.game) rest ≤ lines_of_cert_check variants (front ++ rest)
  stated_needs =
      let low = problem-needs stipulation_said variants front rest p four is in
      let all = lines_are in
      omega (arith, low, all)

  stated_is : stipulated_in variants (front ++ rest) ≡ with_cert p (cert_of p.game.rules (story p.game) rest)
  stated_is =
      ap (λ r. by_problem r (front ++ rest)) whole
      ∙ ap (λ (l : List Line). with_cert p (cert_of p.game.rules (story p.game) l)) rest_is

-- the problem, and the certificate after it
pub stated_heard : (a b c : Option (List ℕ)) (variants : List Named) (p : Problem Stipulation) (P : Result Cert CertFault → Type 0) (R : Result Stipulated Fault → Type 0)
    → HeardLines a b (lines_of_problem variants) (λ lines. problem_of stipulation_said variants lines ≡ Ok p)
    → HeardLines b c (lines_of_cert p.game.rules (story p.game)) (λ lines. P (cert_of p.game.rules (story p.game) lines))
    → ((r : Result Cert CertFault) → P r → R (with_cert p r)) → HeardLines a c (lines_of_cert_check variants) (λ lines. R (stipulated_in variants lines))
stated_heard a b c variants p P R first later so =
    heard_then a b c 4 _ _ _ _ _ _ first later (λ lines is. problem-there stipulation_said variants lines p is) (problem-most variants)
    (λ front rest four is. stated_needs variants front rest p four is)
    (λ front rest four is says. subst R (sym (stated_is variants front rest p four is)) (so (cert_of p.game.rules (story p.game) rest) says))

-- ---- the answers

-- the faults of an input have the status 3
stated_status : (r : Result (Problem Stipulation) GameFault) (input : List Line) (why : Fault) → by_problem r input ≡ Err why → fault_status why ≡ 3
stated_status (Err bad) input why is = let same : fault.Game bad ≡ why = cc in ap fault_status (sym same)
stated_status (Ok p) input why is = cert_status (cert_of p.game.rules (story p.game) (drop 4 input)) is
  where
    cert_status : (r : Result Cert CertFault) → with_cert p r ≡ Err why → fault_status why ≡ 3
    cert_status (Ok cert) is = absurd (cc)
    cert_status (Err bad) is = let same : fault.Cert bad ≡ why = cc in ap fault_status (sym same)

-- where nothing is stated, the check has no answer either
pub states_bad : (variants : List Named) (input : List Line) (why : NoAnswer) → States (stipulated_in variants input) (Err why) → Answers (Err why) (SaysCertCheck variants input)
states_bad variants input no_answer.Usage is = absurd is
states_bad variants input (no_answer.Fault why) is =
    subst (λ (r : Result Stipulated Fault). SaysStipulated r (fault_status why) (error_line (fault_text why))) (sym is)
    (stated_status (problem_of stipulation_said variants input) input why is, refl)
states_bad variants input (no_answer.Stop stop.Source) is = tt
states_bad variants input (no_answer.Stop stop.Sink) is = absurd is
states_bad variants input (no_answer.Stop stop.Memory) is = tt

pub printed : (variants : List Named) (input : List Line) (s : Stipulated) (v : CertVerdict) (status : ℕ) (text : List ℕ) → stipulated_in variants input ≡ Ok s → v ≡ verdict_in s
    → SaysVerdict v status text → SaysCertCheck variants input status text
printed variants input s v status text is verdict says =
    subst (λ (r : Result Stipulated Fault). SaysStipulated r status text) (sym is) (subst (λ (w : CertVerdict). SaysVerdict w status text) verdict says)

-- a failure, as it is printed
pub failure_says : (v : CertVerdict) → (v ≡ Holds → ⊥) → SaysVerdict v 3 (error_line (verdict_text v))
failure_says Holds not = absurd (not refl)
failure_says (BadPly i) not = (refl, refl)
failure_says (BadMove i) not = (refl, refl)
failure_says (TooDeep i) not = (refl, refl)
failure_says (NotMate i) not = (refl, refl)
failure_says (MissingReply i m) not = (refl, refl)
failure_says (Unfinished i) not = (refl, refl)

-- ---- exactly one answer

verdict_some : (v : CertVerdict) → (status : ℕ) × (text : List ℕ) × SaysVerdict v status text
verdict_some Holds = (0, codes "holds\n", (refl, refl))
verdict_some (BadPly i) = (3, error_line (verdict_text (BadPly i)), (refl, refl))
verdict_some (BadMove i) = (3, error_line (verdict_text (BadMove i)), (refl, refl))
verdict_some (TooDeep i) = (3, error_line (verdict_text (TooDeep i)), (refl, refl))
verdict_some (NotMate i) = (3, error_line (verdict_text (NotMate i)), (refl, refl))
verdict_some (MissingReply i m) = (3, error_line (verdict_text (MissingReply i m)), (refl, refl))
verdict_some (Unfinished i) = (3, error_line (verdict_text (Unfinished i)), (refl, refl))

stated_some : (r : Result Stipulated Fault) → (status : ℕ) × (text : List ℕ) × SaysStipulated r status text
stated_some (Err why) = (3, error_line (fault_text why), (refl, refl))
stated_some (Ok s) = verdict_some (verdict_in s)

pub cert_some : (variants : List Named) (input : List Line) → (status : ℕ) × (text : List ℕ) × SaysCertCheck variants input status text
cert_some variants input = stated_some (stipulated_in variants input)

verdict_done : (v : CertVerdict) (status : ℕ) (text : List ℕ) → SaysVerdict v status text → (status ≡ 0) ⊎ (status ≡ 3)
verdict_done Holds status text says = inl says.0
verdict_done (BadPly i) status text says = inr says.0
verdict_done (BadMove i) status text says = inr says.0
verdict_done (TooDeep i) status text says = inr says.0
verdict_done (NotMate i) status text says = inr says.0
verdict_done (MissingReply i m) status text says = inr says.0
verdict_done (Unfinished i) status text says = inr says.0

stated_done : (r : Result Stipulated Fault) (status : ℕ) (text : List ℕ) → SaysStipulated r status text → (status ≡ 0) ⊎ (status ≡ 3)
stated_done (Err why) status text says = inr says.0
stated_done (Ok s) status text says = verdict_done (verdict_in s) status text says

pub cert_done : (variants : List Named) (input : List Line) (status : ℕ) (text : List ℕ) → SaysCertCheck variants input status text → (status ≡ 0) ⊎ (status ≡ 3)
cert_done variants input status text says = stated_done (stipulated_in variants input) status text says

verdict_once : (v : CertVerdict) (s s' : ℕ) (t t' : List ℕ) → SaysVerdict v s t → SaysVerdict v s' t' → (s ≡ s') × (t ≡ t')
verdict_once Holds s s' t t' a b = (a.0 ∙ sym b.0, a.1 ∙ sym b.1)
verdict_once (BadPly i) s s' t t' a b = (a.0 ∙ sym b.0, a.1 ∙ sym b.1)
verdict_once (BadMove i) s s' t t' a b = (a.0 ∙ sym b.0, a.1 ∙ sym b.1)
verdict_once (TooDeep i) s s' t t' a b = (a.0 ∙ sym b.0, a.1 ∙ sym b.1)
verdict_once (NotMate i) s s' t t' a b = (a.0 ∙ sym b.0, a.1 ∙ sym b.1)
verdict_once (MissingReply i m) s s' t t' a b = (a.0 ∙ sym b.0, a.1 ∙ sym b.1)
verdict_once (Unfinished i) s s' t t' a b = (a.0 ∙ sym b.0, a.1 ∙ sym b.1)

stated_once : (r : Result Stipulated Fault) (s s' : ℕ) (t t' : List ℕ) → SaysStipulated r s t → SaysStipulated r s' t' → (s ≡ s') × (t ≡ t')
stated_once (Err why) s s' t t' a b = (a.0 ∙ sym b.0, a.1 ∙ sym b.1)
stated_once (Ok x) s s' t t' a b = verdict_once (verdict_in x) s s' t t' a b

pub cert_once : (variants : List Named) (input : List Line) (s s' : ℕ) (t t' : List ℕ) → SaysCertCheck variants input s t → SaysCertCheck variants input s' t' → (s ≡ s') × (t ≡ t')
cert_once variants input s s' t t' a b = stated_once (stipulated_in variants input) s s' t t' a b

-- ---- what a certificate that holds comes to

pub met_by : (help : Bool) (rules : Rules) (n : ℕ) (g : Story) (steps : List Step) → verdict_by help rules n g steps ≡ Holds → Meets help rules n g
met_by false rules n g steps h = self-holds rules n g steps h
met_by true rules n g steps h = help-holds rules n g steps h

held : (v : CertVerdict) (status : ℕ) (text : List ℕ) → status ≡ 0 → SaysVerdict v status text → v ≡ Holds
held Holds status text zero says = refl
held (BadPly i) status text zero says = let three = says.0 in absurd (omega (arith, zero, three))
held (BadMove i) status text zero says = let three = says.0 in absurd (omega (arith, zero, three))
held (TooDeep i) status text zero says = let three = says.0 in absurd (omega (arith, zero, three))
held (NotMate i) status text zero says = let three = says.0 in absurd (omega (arith, zero, three))
held (MissingReply i m) status text zero says = let three = says.0 in absurd (omega (arith, zero, three))
held (Unfinished i) status text zero says = let three = says.0 in absurd (omega (arith, zero, three))

stated_met : (variants : List Named) (input : List Line) (status : ℕ) (text : List ℕ) (r : Result Stipulated Fault) → status ≡ 0 → stipulated_in variants input ≡ r → SaysStipulated r status text → IsMet variants input
stated_met variants input status text (Err why) zero is says = let three = says.0 in absurd (omega (arith, zero, three))
stated_met variants input status text (Ok s) zero is says =
    let holds = held (verdict_in s) status text zero says in
    let p = s.problem in
    record { stated = s; states = is; holds = holds; met = met_by p.goal.help p.game.rules p.goal.moves (story p.game) s.cert.steps holds }

pub cert_met : (variants : List Named) (input : List Line) (status : ℕ) (text : List ℕ) → status ≡ 0 → SaysCertCheck variants input status text → IsMet variants input
cert_met variants input status text zero says = stated_met variants input status text (stipulated_in variants input) zero refl says

-- ---- what is printed of a game

module _ (g : Played) (n : ℕ) where
  self_by : (o : Option (List Step)) → self_found g.rules n (story g) ≡ o → PrintsSelf g n (cert_or_none false o)
  self_by None is = inr (refl, λ met. true_false _ met (self-none g.rules n (story g) is))
  self_by (Some steps) is = inl (steps, self-found g.rules n (story g) steps is, refl)

  pub self_prints : PrintsSelf g n (self_mate_of n g)
  unfolding self_mate_of
  self_prints = self_by (self_found g.rules n (story g)) refl

  help_by : (o : Option (List Step)) → help_found g.rules n (story g) ≡ o → PrintsHelp g n (cert_or_none true o)
  help_by None is = inr (refl, help-unfound g.rules n (story g) is)
  help_by (Some steps) is = inl (steps, help-least g.rules n (story g) steps is, refl)

  pub help_prints : PrintsHelp g n (help_mate_of n g)
  unfolding help_mate_of
  help_prints = help_by (help_found g.rules n (story g)) refl
