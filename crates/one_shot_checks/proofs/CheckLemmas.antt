-- What `check` says of what the input states.
use Rattle.std.proofs.Common.{◌≡◌, ◌≤◌, ◌⊎◌, ℕ, ◌+◌, ◌-◌, arith, Bool, true, false, length, drop, List, [], ◌∷◌, ◌++◌, inl, inr, Option, Result, Ok, Err, refl, sym, ap, subst, ◌∙◌}
use Rattle.std.proofs.Math.Seq.{drop-append_seam}
use Rattle.std.specs.Prelude.{codes}
use Rattle.io_ports.specs.Lines.{Line, Text, TooLong}
use Rattle.forced_wins.specs.RuleSentences.{GoodStrategiesWin}
use Rattle.variant_rules.specs.Entries.{Named}
use Rattle.rules_model.specs.declared.rules.Rules.{Rules}
use Rattle.game_play.specs.Played.{story}
use Rattle.game_text.specs.declared.fault.GameFault.{GameFault}
use Rattle.game_text.specs.declared.fault.GameFault.TheVariants.{LineTooLong, Missing}
use Rattle.game_text.specs.ReadView.{NoGame}
use Rattle.game_text.specs.declared.unmade.Unmade.TheVariants as no_game
use Rattle.game_text.specs.declared.goal.Goal.{Goal}
use Rattle.game_text.specs.declared.problem.Problem.{Problem}
use Rattle.game_text.specs.GameText.{game_of, lines_of_game}
use Rattle.game_text.specs.Goal.{goal_said}
use Rattle.game_text.specs.HeardLines.{HeardLines}
use Rattle.game_text.specs.Problem.{lines_of_problem, problem_of}
use Rattle.game_text.specs.ReadView as read
use Rattle.game_text.proofs.HeardLemmas.{heard_so, heard_then}
use Rattle.game_text.proofs.ProblemLemmas.{problem-decided, problem-most, problem-needs, problem-there}
use Rattle.strategy.specs.declared.fault.StrategyFault.{StrategyFault}
use Rattle.strategy.specs.declared.fault.StrategyFault.TheVariants.{Header, BadLine, BadPosition, BadMove, BadNumber, Ended, Memory}
use Rattle.strategy.specs.declared.nodes.Strategy.{Strategy}
use Rattle.strategy.specs.Needed.{lines_of_strategy}
use Rattle.strategy.specs.Reading.{strategy_of}
use Rattle.strategy_check.specs.declared.verdict.Verdict.{Verdict}
use Rattle.strategy_check.specs.declared.verdict.Verdict.TheVariants as said
use Rattle.strategy_check.specs.Rows.{kept}
use Rattle.strategy_check.specs.Verdicts.{as_verdict, verdict_text}
use Rattle.strategy_check.proofs.RowLemmas.{wins-from}
use Rattle.proof_text.specs.declared.fault.ProofFault.{ProofFault}
use Rattle.proof_text.specs.declared.fault.ProofFault.TheVariants as proof_fault
use Rattle.proof_text.specs.declared.proof.Proof.{Proof}
use Rattle.proof_text.specs.declared.source_lines.NoProof.{NoProof}
use Rattle.proof_text.specs.declared.source_lines.NoProof.TheVariants as no_proof
use Rattle.proof_text.specs.Reading.{is_proof_text, lines_of_proof, proof_of}
use Rattle.proof_text.proofs.ReadingLemmas.{proof-needed}
use Rattle.proof_text.specs.TakingView as taking
use Rattle.proof_text.specs.Words.{is_version}
use Rattle.one_shot_checks.specs.declared.fault.Fault.{Fault}
use Rattle.one_shot_checks.specs.declared.fault.Fault.TheVariants as fault
use Rattle.one_shot_checks.specs.declared.no_answer.NoAnswer.{NoAnswer}
use Rattle.one_shot_checks.specs.declared.no_answer.NoAnswer.TheVariants as no_answer
use Rattle.one_shot_checks.specs.declared.stop.Stop.TheVariants as stop
use Rattle.proof_text.specs.declared.strategy_lines.NoStrategy.{NoStrategy}
use Rattle.proof_text.specs.declared.strategy_lines.NoStrategy.TheVariants.{Faulty, Unread}
use Rattle.one_shot_checks.specs.Checking.{Good, IsWon, SaysCheck, SaysStated, SaysVerdict, by_problem, by_proof, faulty, good, lines_after, lines_by, lines_of_check, lines_of_stated, stated, stated_by, stated_in, verdict_in, with_strategy}
use Rattle.proof_text.specs.StrategyView.{HasWhy, IsUnread}
use Rattle.one_shot_checks.specs.CheckView.{Prints, States, losing, winning}
use Rattle.one_shot_checks.specs.Fault.{error_line, fault_status, fault_text}
use Rattle.one_shot_checks.specs.NoAnswerView.{Answers, IsUnheard, game_no_answer, proof_no_answer, strategy_no_answer}

-- ---- what was read, where it gives no answer

-- of a problem
pub problem_bad : (input : List Line) (r : Result (Problem Goal) GameFault) (why : NoGame) → read.Tells {A = Problem Goal} r (Err why) → States (by_problem r input) (Err (game_no_answer why))
problem_bad input r (no_game.Faulty bad) is = ap (λ x. by_problem x input) is
problem_bad input r no_game.Unread is = tt
problem_bad input r no_game.Memory is = tt

-- of the strategy after it
strategy_fault : (p : Problem Goal) (r : Result Strategy StrategyFault) (bad : StrategyFault) → r ≡ Err bad → with_strategy p r ≡ Err (fault.Strategy bad)
strategy_fault p r bad is = ap (with_strategy p) is

pub strategy_bad : (p : Problem Goal) (r : Result Strategy StrategyFault) (why : NoStrategy) → HasWhy r why → States (with_strategy p r) (Err (strategy_no_answer why))
strategy_bad p r Unread says = tt
strategy_bad p r (Faulty Memory) says = tt
strategy_bad p r (Faulty (Header line)) says = strategy_fault p r (Header line) says
strategy_bad p r (Faulty (BadLine line)) says = strategy_fault p r (BadLine line) says
strategy_bad p r (Faulty (BadPosition line why)) says = strategy_fault p r (BadPosition line why) says
strategy_bad p r (Faulty (BadMove line)) says = strategy_fault p r (BadMove line) says
strategy_bad p r (Faulty (BadNumber line)) says = strategy_fault p r (BadNumber line) says
strategy_bad p r (Faulty (Ended line)) says = strategy_fault p r (Ended line) says

pub strategy_good : (p : Problem Goal) (r : Result Strategy StrategyFault) (s : Strategy) → r ≡ Ok s → with_strategy p r ≡ Ok (stated p s)
strategy_good p r s is = ap (with_strategy p) is

-- of a proof text
proof_faulty : (r : Result Proof ProofFault) (bad : ProofFault) → r ≡ Err bad → by_proof r ≡ Err (fault.Proof bad)
proof_faulty r bad is = ap by_proof is

pub proof_bad : (r : Result Proof ProofFault) (why : NoProof) → taking.SaysProof {A = Proof} r (Err why) → States (by_proof r) (Err (proof_no_answer why))
proof_bad r no_proof.Unread says = tt
proof_bad r (no_proof.Faulty proof_fault.Memory) says = tt
proof_bad r (no_proof.Faulty (proof_fault.Header line)) says = proof_faulty r (proof_fault.Header line) says
proof_bad r (no_proof.Faulty (proof_fault.BadRules line)) says = proof_faulty r (proof_fault.BadRules line) says
proof_bad r (no_proof.Faulty (proof_fault.RefusedRules why)) says = proof_faulty r (proof_fault.RefusedRules why) says
proof_bad r (no_proof.Faulty (proof_fault.BadStart line why)) says = proof_faulty r (proof_fault.BadStart line why) says
proof_bad r (no_proof.Faulty (proof_fault.BadHistory line)) says = proof_faulty r (proof_fault.BadHistory line) says
proof_bad r (no_proof.Faulty (proof_fault.BadBody why)) says = proof_faulty r (proof_fault.BadBody why) says

pub proof_good : (r : Result Proof ProofFault) (p : Proof) → r ≡ Ok p → by_proof r ≡ Ok p
proof_good r p is = ap by_proof is

-- ---- why nothing was read

pub problem_unheard : (why : NoGame) → IsUnheard {A = Proof} (Err (game_no_answer why)) → read.IsUnread {A = Problem Goal} (Err why)
problem_unheard (no_game.Faulty bad) unheard = absurd unheard
problem_unheard no_game.Unread unheard = tt
problem_unheard no_game.Memory unheard = absurd unheard

pub strategy_unheard : (why : NoStrategy) → IsUnheard {A = Proof} (Err (strategy_no_answer why)) → IsUnread {A = Strategy} (Err why)
strategy_unheard Unread unheard = tt
strategy_unheard (Faulty Memory) unheard = absurd unheard
strategy_unheard (Faulty (Header line)) unheard = absurd unheard
strategy_unheard (Faulty (BadLine line)) unheard = absurd unheard
strategy_unheard (Faulty (BadPosition line why)) unheard = absurd unheard
strategy_unheard (Faulty (BadMove line)) unheard = absurd unheard
strategy_unheard (Faulty (BadNumber line)) unheard = absurd unheard
strategy_unheard (Faulty (Ended line)) unheard = absurd unheard

pub proof_unheard : (why : NoProof) → IsUnheard {A = Proof} (Err (proof_no_answer why)) → taking.IsUnread {A = Proof} (Err why)
proof_unheard no_proof.Unread unheard = tt
proof_unheard (no_proof.Faulty proof_fault.Memory) unheard = absurd unheard
proof_unheard (no_proof.Faulty (proof_fault.Header line)) unheard = absurd unheard
proof_unheard (no_proof.Faulty (proof_fault.BadRules line)) unheard = absurd unheard
proof_unheard (no_proof.Faulty (proof_fault.RefusedRules why)) unheard = absurd unheard
proof_unheard (no_proof.Faulty (proof_fault.BadStart line why)) unheard = absurd unheard
proof_unheard (no_proof.Faulty (proof_fault.BadHistory line)) unheard = absurd unheard
proof_unheard (no_proof.Faulty (proof_fault.BadBody why)) unheard = absurd unheard

-- ---- the lines of a problem and its strategy, after the first

-- of rules, by their equation
pub rules_heard : (a b : Option (List ℕ)) (rules rules' : Rules) (P : Result Strategy StrategyFault → Type 0) → rules ≡ rules' → HeardLines a b (lines_of_strategy rules) (λ lines. P (strategy_of rules lines))
    → HeardLines a b (lines_of_strategy rules') (λ lines. P (strategy_of rules' lines))
rules_heard a b rules rules' P is heard = subst (λ (r : Rules). HeardLines a b (lines_of_strategy r) (λ lines. P (strategy_of r lines))) is heard

-- of variants, by theirs
pub variants_heard : (a b : Option (List ℕ)) (variants variants' : List Named) (x : Line) (r : Result (Problem Goal) NoGame) → variants ≡ variants'
    → HeardLines a b (λ lines. lines_of_problem variants (x ∷ lines) - 1) (λ lines. read.Tells (problem_of goal_said variants (x ∷ lines)) r)
    → HeardLines a b (λ lines. lines_of_problem variants' (x ∷ lines) - 1) (λ lines. read.Tells (problem_of goal_said variants' (x ∷ lines)) r)
variants_heard a b variants variants' x r is heard =
    subst (λ (v : List Named). HeardLines a b (λ lines. lines_of_problem v (x ∷ lines) - 1) (λ lines. read.Tells (problem_of goal_said v (x ∷ lines)) r)) is heard

pub problem_first : (variants : List Named) (x : Line) (lines : List Line) → lines_of_problem variants (x ∷ lines) - 1 ≤ lines_of_stated variants (x ∷ lines) - 1
unfolding lines_of_stated
problem_first variants x lines = omega arith

drop_front : {A : Type 0} (k : ℕ) (front rest : List A) → length front ≡ k → drop k (front ++ rest) ≡ rest
drop_front k front rest is = ap (λ n. drop n (front ++ rest)) (sym is) ∙ drop-append_seam front rest

module _ (variants : List Named) (x : Line) (front rest : List Line) (p : Problem Goal) (three : length front ≡ 3) (is : problem_of goal_said variants (x ∷ front) ≡ Ok p) where
  four : length (x ∷ front) ≡ 4
  four = omega (arith, three)

  whole : problem_of goal_said variants (x ∷ front ++ rest) ≡ Ok p
  whole = problem-decided goal_said variants (x ∷ front) rest p four is

  rest_is : drop 4 (x ∷ front ++ rest) ≡ rest
  rest_is = drop_front 4 (x ∷ front) rest four

  lines_are : lines_of_stated variants (x ∷ front ++ rest) ≡ lines_of_problem variants (x ∷ front ++ rest) + lines_of_strategy p.game.rules rest
  unfolding lines_of_stated
  lines_are =
      ap (λ r. lines_of_problem variants (x ∷ front ++ rest) + lines_after r (drop 4 (x ∷ front ++ rest))) whole
      ∙ ap (λ (l : List Line). lines_of_problem variants (x ∷ front ++ rest) + lines_of_strategy p.game.rules l) rest_is

  pub stated_needs : 3 + lines_of_strategy p.game.rules rest ≤ lines_of_stated variants (x ∷ front ++ rest) - 1
  stated_needs =
      let low = problem-needs goal_said variants (x ∷ front) rest p four is in
      let all = lines_are in
      omega (arith, low, all)

  pub stated_is : by_problem (problem_of goal_said variants (x ∷ front ++ rest)) (x ∷ front ++ rest) ≡ with_strategy p (strategy_of p.game.rules rest)
  stated_is =
      ap (λ r. by_problem r (x ∷ front ++ rest)) whole
      ∙ ap (λ (l : List Line). with_strategy p (strategy_of p.game.rules l)) rest_is

stated_there : (variants : List Named) (x : Line) (lines : List Line) (p : Problem Goal) → problem_of goal_said variants (x ∷ lines) ≡ Ok p → 3 ≤ length lines
stated_there variants x lines p is = let there = problem-there goal_said variants (x ∷ lines) p is in omega (arith, there)

stated_most : (variants : List Named) (x : Line) (lines : List Line) → lines_of_problem variants (x ∷ lines) - 1 ≤ 3
stated_most variants x lines = let most = problem-most variants (x ∷ lines) in omega (arith, most)

-- the problem, and the strategy after it
pub stated_heard : (a b c : Option (List ℕ)) (variants : List Named) (x : Line) (p : Problem Goal) (P : Result Strategy StrategyFault → Type 0) (R : Result Proof Fault → Type 0)
    → HeardLines a b (λ lines. lines_of_problem variants (x ∷ lines) - 1) (λ lines. problem_of goal_said variants (x ∷ lines) ≡ Ok p) → HeardLines b c (lines_of_strategy p.game.rules) (λ lines. P (strategy_of p.game.rules lines))
    → ((r : Result Strategy StrategyFault) → P r → R (with_strategy p r))
    → HeardLines a c (λ lines. lines_of_stated variants (x ∷ lines) - 1) (λ lines. R (by_problem (problem_of goal_said variants (x ∷ lines)) (x ∷ lines)))
stated_heard a b c variants x p P R first later so =
    heard_then a b c 3 _ _ _ _ _ _ first later (λ lines is. stated_there variants x lines p is) (stated_most variants x)
    (λ front rest three is. stated_needs variants x front rest p three is)
    (λ front rest three is says. subst R (sym (stated_is variants x front rest p three is)) (so (strategy_of p.game.rules rest) says))

-- ---- by the first line

first_line : (text : List ℕ) (lines : List Line) → is_proof_text (Text text ∷ lines) ≡ is_version text
first_line text lines = refl

module _ (variants : List Named) (text : List ℕ) (lines : List Line) (t : Bool) (is : is_version text ≡ t) where
  pub states_by : stated_in variants (Text text ∷ lines) ≡ stated_by t variants (Text text ∷ lines)
  states_by = ap (λ b. stated_by b variants (Text text ∷ lines)) (first_line text lines ∙ is)

  pub lines_are_by : lines_of_check variants (Text text ∷ lines) ≡ lines_by t variants (Text text ∷ lines)
  lines_are_by = ap (λ b. lines_by b variants (Text text ∷ lines)) (first_line text lines ∙ is)

-- a proof text
pub proof_heard : (a b : Option (List ℕ)) (variants : List Named) (text first : List ℕ) (P : Result Proof Fault → Type 0) → is_version text ≡ true → first ≡ text
    → HeardLines a b (λ lines. lines_of_proof (Text first ∷ lines) - 1) (λ lines. P (by_proof (proof_of (Text first ∷ lines))))
    → HeardLines a b (λ lines. lines_of_check variants (Text text ∷ lines) - 1) (λ lines. P (stated_in variants (Text text ∷ lines)))
proof_heard a b variants text first P is same heard =
    heard_so a b _ _ _ _ heard
    (λ lines.
    let all = lines_are_by variants text lines true is in
    let alike = ap (λ (t : List ℕ). lines_of_proof (Text t ∷ lines)) same in
    omega (arith, all, alike))
    (λ lines says. subst P (sym (states_by variants text lines true is)) (subst (λ (t : List ℕ). P (by_proof (proof_of (Text t ∷ lines)))) same says))

-- a problem
pub other_heard : (a b : Option (List ℕ)) (variants : List Named) (text : List ℕ) (P : Result Proof Fault → Type 0) → is_version text ≡ false
    → HeardLines a b (λ lines. lines_of_stated variants (Text text ∷ lines) - 1) (λ lines. P (by_problem (problem_of goal_said variants (Text text ∷ lines)) (Text text ∷ lines)))
    → HeardLines a b (λ lines. lines_of_check variants (Text text ∷ lines) - 1) (λ lines. P (stated_in variants (Text text ∷ lines)))
other_heard a b variants text P is heard =
    heard_so a b _ _ _ _ heard (λ lines. let all = lines_are_by variants text lines false is in omega (arith, all))
    (λ lines says. subst P (sym (states_by variants text lines false is)) says)

-- a line that is missing or too long
none_first : (variants : List Named) → problem_of goal_said variants [] ≡ Err (Missing 1)
unfolding problem_of game_of
none_first variants = refl

pub states_none : (variants : List Named) → stated_in variants [] ≡ Err (fault.Game (Missing 1))
states_none variants = ap (λ r. by_problem r []) (none_first variants)

long_first : (variants : List Named) (lines : List Line) → problem_of goal_said variants (TooLong ∷ lines) ≡ Err (LineTooLong 1)
unfolding problem_of game_of
long_first variants lines = refl

pub states_long : (variants : List Named) (lines : List Line) → stated_in variants (TooLong ∷ lines) ≡ Err (fault.Game (LineTooLong 1))
states_long variants lines = ap (λ r. by_problem r (TooLong ∷ lines)) (long_first variants lines)

long_needed : (variants : List Named) (lines : List Line) → 1 ≤ lines_of_problem variants (TooLong ∷ lines)
unfolding lines_of_problem lines_of_game
long_needed variants lines = omega arith

pub check_long : (variants : List Named) (lines : List Line) → 1 ≤ lines_of_check variants (TooLong ∷ lines)
unfolding lines_of_stated
check_long variants lines = let one = long_needed variants lines in omega (arith, one)

text_needed : (variants : List Named) (text : List ℕ) (lines : List Line) → 1 ≤ lines_of_problem variants (Text text ∷ lines)
unfolding lines_of_problem lines_of_game
text_needed variants text lines = omega arith

by_needed : (variants : List Named) (text : List ℕ) (lines : List Line) (t : Bool) → 1 ≤ lines_by t variants (Text text ∷ lines)
unfolding lines_of_stated
by_needed variants text lines true = proof-needed text lines
by_needed variants text lines false = let one = text_needed variants text lines in omega (arith, one)

pub check_needed : (variants : List Named) (text : List ℕ) (lines : List Line) → 1 + (lines_of_check variants (Text text ∷ lines) - 1) ≤ lines_of_check variants (Text text ∷ lines)
check_needed variants text lines = let one = by_needed variants text lines (is_proof_text (Text text ∷ lines)) in omega (arith, one)

-- ---- the answers

-- the faults of an input have the status 3
problem_status : (r : Result (Problem Goal) GameFault) (input : List Line) (why : Fault) → by_problem r input ≡ Err why → fault_status why ≡ 3
problem_status (Err bad) input why is = let same : fault.Game bad ≡ why = cc in ap fault_status (sym same)
problem_status (Ok p) input why is = strategy_status (strategy_of p.game.rules (drop 4 input)) is
  where
    strategy_status : (r : Result Strategy StrategyFault) → with_strategy p r ≡ Err why → fault_status why ≡ 3
    strategy_status (Ok s) is = absurd (cc)
    strategy_status (Err bad) is = let same : fault.Strategy bad ≡ why = cc in ap fault_status (sym same)

proof_status : (r : Result Proof ProofFault) (why : Fault) → by_proof r ≡ Err why → fault_status why ≡ 3
proof_status (Ok p) why is = absurd (cc)
proof_status (Err bad) why is = let same : fault.Proof bad ≡ why = cc in ap fault_status (sym same)

stated_status : (t : Bool) (variants : List Named) (input : List Line) (why : Fault) → stated_by t variants input ≡ Err why → fault_status why ≡ 3
stated_status true variants input why is = proof_status (proof_of input) why is
stated_status false variants input why is = problem_status (problem_of goal_said variants input) input why is

-- where nothing is stated, the check has no answer either
pub states_bad : (variants : List Named) (input : List Line) (why : NoAnswer) → States (stated_in variants input) (Err why) → Answers (Err why) (SaysCheck variants input)
states_bad variants input no_answer.Usage is = absurd is
states_bad variants input (no_answer.Fault why) is =
    subst (λ (r : Result Proof Fault). SaysStated r (fault_status why) (error_line (fault_text why))) (sym is) (stated_status (is_proof_text input) variants input why is, refl)
states_bad variants input (no_answer.Stop stop.Source) is = tt
states_bad variants input (no_answer.Stop stop.Sink) is = absurd is
states_bad variants input (no_answer.Stop stop.Memory) is = tt

prints : (p : Proof) (v : Verdict) (status : ℕ) (text : List ℕ) → verdict_in p ≡ v → Prints v status text → SaysVerdict p status text
prints p said.Wins status text is winning = good (wins-from _ is)
prints p v status text is (losing w not) = faulty v is not

pub printed : (variants : List Named) (input : List Line) (p : Proof) (v : Verdict) (status : ℕ) (text : List ℕ) → stated_in variants input ≡ Ok p → verdict_in p ≡ v
    → Prints v status text → SaysCheck variants input status text
printed variants input p v status text is verdict says =
    subst (λ (r : Result Proof Fault). SaysStated r status text) (sym is) (prints p v status text verdict says)

-- ---- exactly one answer

wins_or_not : (v : Verdict) → (v ≡ said.Wins) ⊎ (v ≡ said.Wins → ⊥)
wins_or_not said.Wins = inl refl
wins_or_not said.Root = inr (λ e. cc)
wins_or_not (said.WrongMove i) = inr (λ e. cc)
wins_or_not (said.MissingReply i m) = inr (λ e. cc)
wins_or_not (said.BadRank i) = inr (λ e. cc)
wins_or_not (said.BadCounter i) = inr (λ e. cc)
wins_or_not (said.Repeats i) = inr (λ e. cc)
wins_or_not (said.NotWon i) = inr (λ e. cc)

stated_some : (r : Result Proof Fault) → (status : ℕ) × (text : List ℕ) × SaysStated r status text
stated_some (Err why) = (3, error_line (fault_text why), (refl, refl))
stated_some (Ok p) = elim (wins_or_not (verdict_in p)) [
  | inl wins ↦ (0, codes "wins\n", good (wins-from _ wins))
  | inr not ↦ (3, error_line (verdict_text (verdict_in p)), faulty (verdict_in p) refl not)
]

pub check_some : (variants : List Named) (input : List Line) → (status : ℕ) × (text : List ℕ) × SaysCheck variants input status text
check_some variants input = stated_some (stated_in variants input)

stated_done : (r : Result Proof Fault) (status : ℕ) (text : List ℕ) → SaysStated r status text → (status ≡ 0) ⊎ (status ≡ 3)
stated_done (Err why) status text says = inr says.0
stated_done (Ok p) status text (good wins) = inl refl
stated_done (Ok p) status text (faulty v is not) = inr refl

pub check_done : (variants : List Named) (input : List Line) (status : ℕ) (text : List ℕ) → SaysCheck variants input status text → (status ≡ 0) ⊎ (status ≡ 3)
check_done variants input status text says = stated_done (stated_in variants input) status text says

-- the answer as a function
abbrev verdict_answer : Verdict → ℕ × List ℕ
verdict_answer said.Wins = (0, codes "wins\n")
verdict_answer said.Root = (3, error_line (verdict_text said.Root))
verdict_answer (said.WrongMove i) = (3, error_line (verdict_text (said.WrongMove i)))
verdict_answer (said.MissingReply i m) = (3, error_line (verdict_text (said.MissingReply i m)))
verdict_answer (said.BadRank i) = (3, error_line (verdict_text (said.BadRank i)))
verdict_answer (said.BadCounter i) = (3, error_line (verdict_text (said.BadCounter i)))
verdict_answer (said.Repeats i) = (3, error_line (verdict_text (said.Repeats i)))
verdict_answer (said.NotWon i) = (3, error_line (verdict_text (said.NotWon i)))

losing_answer : (v : Verdict) → (v ≡ said.Wins → ⊥) → verdict_answer v ≡ (3, error_line (verdict_text v))
losing_answer said.Wins not = absurd (not refl)
losing_answer said.Root not = refl
losing_answer (said.WrongMove i) not = refl
losing_answer (said.MissingReply i m) not = refl
losing_answer (said.BadRank i) not = refl
losing_answer (said.BadCounter i) not = refl
losing_answer (said.Repeats i) not = refl
losing_answer (said.NotWon i) not = refl

good_wins : (p : Proof) → Good p → verdict_in p ≡ said.Wins
good_wins p is = ap as_verdict is

verdict_is : (p : Proof) (status : ℕ) (text : List ℕ) → SaysVerdict p status text → verdict_answer (verdict_in p) ≡ (status, text)
verdict_is p status text (good wins) = ap verdict_answer (good_wins p wins)
verdict_is p status text (faulty v is not) = ap verdict_answer is ∙ losing_answer v not

stated_once : (r : Result Proof Fault) (s s' : ℕ) (t t' : List ℕ) → SaysStated r s t → SaysStated r s' t' → (s ≡ s') × (t ≡ t')
stated_once (Err why) s s' t t' says says' = (says.0 ∙ sym says'.0, says.1 ∙ sym says'.1)
stated_once (Ok p) s s' t t' says says' =
    let same = sym (verdict_is p s t says) ∙ verdict_is p s' t' says' in
    (ap (λ (x : ℕ × List ℕ). x.0) same, ap (λ (x : ℕ × List ℕ). x.1) same)

pub check_once : (variants : List Named) (input : List Line) (s s' : ℕ) (t t' : List ℕ) → SaysCheck variants input s t → SaysCheck variants input s' t' → (s ≡ s') × (t ≡ t')
check_once variants input s s' t t' says says' = stated_once (stated_in variants input) s s' t t' says says'

-- ---- what a good strategy comes to

won_by : (variants : List Named) (input : List Line) (status : ℕ) (text : List ℕ) (r : Result Proof Fault) → ((rules : Rules) → GoodStrategiesWin rules kept) → status ≡ 0 → stated_in variants input ≡ r
    → SaysStated r status text → IsWon variants input
won_by variants input status text (Err why) law zero is says = let three = says.0 in absurd (omega (arith, zero, three))
won_by variants input status text (Ok p) law zero is (good wins) =
    record { proof = p; states = is; won = law p.game.rules (story p.game) p.attacker p.n p.strategy.attacker p.strategy.nodes wins }
won_by variants input status text (Ok p) law zero is (faulty v verdict not) = absurd (omega (arith, zero))

pub checked_won : (variants : List Named) (input : List Line) (status : ℕ) (text : List ℕ) → ((rules : Rules) → GoodStrategiesWin rules kept) → status ≡ 0 → SaysCheck variants input status text → IsWon variants input
checked_won variants input status text law zero says = won_by variants input status text (stated_in variants input) law zero refl says
