-- The lines of a strategy, as they are taken.
use Rattle.std.proofs.Common.{◌≡◌, ◌≤◌, ℕ, ◌+◌, ◌-◌, arith, length, List, [], ◌∷◌, ◌++◌, inl, inr, Option, Result, Ok, Err, refl, sym, ap, subst, ◌∙◌, append_assoc, length-append}
use Rattle.std.specs.Prelude.{codes, ⊤}
use Rattle.std.specs.Io.KnownBytes.{IsAtEnd}
use Rattle.io_ports.specs.Lines.{Line, Text, TooLong}
use Rattle.io_ports.specs.Source.{Takes}
use Rattle.io_ports.proofs.Moved.{takes_none, takes_more}
use Rattle.rules_model.specs.declared.rules.Rules.{Rules}
use Rattle.game_text.specs.HeardLines.{HeardLines}
use Rattle.game_text.proofs.HeardLemmas.{heard_so}
use Rattle.strategy.specs.declared.fault.StrategyFault.{StrategyFault}
use Rattle.strategy.specs.declared.nodes.Strategy.{Strategy}
use Rattle.strategy.specs.declared.reader.Reader.{Reader}
use Rattle.strategy.specs.Fault.{IsFaultOrMemory}
use Rattle.strategy.specs.Needed.{lines_of_strategy, lines_on}
use Rattle.strategy.specs.Reading.{◌>>=◌, begun, finished, step, strategy_of, taken}
use Rattle.strategy.proofs.NeededLemmas.{needed-cons, needed-one}
use Rattle.strategy.proofs.ReadLemmas.{fault-is, fault-so, taken-cons, taken-none}
use Rattle.proof_text.specs.Reading.{body_of, lines_of_body}
use Rattle.proof_text.specs.StrategyView.{HasWhy, IsUnread}
use Rattle.proof_text.specs.declared.strategy_lines.NoStrategy.{NoStrategy}
use Rattle.proof_text.specs.declared.strategy_lines.NoStrategy.TheVariants.{Faulty, Unread}

-- ---- one line

step_taken : (rules : Rules) (b next : Reader) (x : Line) (more : List Line) → step rules b x ≡ Ok next → taken rules b (x ∷ more) ≡ taken rules next more
step_taken rules b next x more is = taken-cons rules b x more ∙ ap (λ r. r >>= λ (y : Reader). taken rules y more) is

step_fault : (rules : Rules) (b : Reader) (x : Line) (more : List Line) (fault : StrategyFault) → step rules b x ≡ Err fault → taken rules b (x ∷ more) ≡ Err fault
step_fault rules b x more fault is = taken-cons rules b x more ∙ ap (λ r. r >>= λ (y : Reader). taken rules y more) is

-- ---- lines

-- Lines were taken from one reader to another.
pub record TakenOn (rules : Rules) (a b : Option (List ℕ)) (start now : Reader) : Type 0 where
  pub lines : List Line
  pub took : Takes a b lines
  pub go_on : (more : List Line) → taken rules start (lines ++ more) ≡ taken rules now more
  pub needed : (more : List Line) → lines_on rules start (lines ++ more) ≡ length lines + lines_on rules now more

pub taken_none : (rules : Rules) (a : Option (List ℕ)) (b : Reader) → TakenOn rules a a b b
taken_none rules a b = record { lines = []; took = takes_none a; go_on = λ more. refl; needed = λ more. omega arith }

module _ {rules : Rules} {a b : Option (List ℕ)} {start now : Reader} (before : TakenOn rules a b start now) where
  -- these lines more
  goes : (front more : List Line) → taken rules start ((before.lines ++ front) ++ more) ≡ taken rules now (front ++ more)
  goes front more = ap (taken rules start) (append_assoc before.lines front more) ∙ before.go_on (front ++ more)

  needs : (front more : List Line) → lines_on rules start ((before.lines ++ front) ++ more) ≡ length before.lines + lines_on rules now (front ++ more)
  needs front more = ap (lines_on rules start) (append_assoc before.lines front more) ∙ before.needed (front ++ more)

  few : (front more : List Line) → length front ≤ lines_on rules now (front ++ more) → length (before.lines ++ front) ≤ lines_on rules start ((before.lines ++ front) ++ more)
  few front more low =
      let is = needs front more in
      let long = length-append before.lines front in
      omega (arith, low, is, long)

-- a line more
pub taken_more : (rules : Rules) (a b c : Option (List ℕ)) (start now next : Reader) (x : Line) → TakenOn rules a b start now → Takes b c (x ∷ []) → step rules now x ≡ Ok next
    → TakenOn rules a c start next
taken_more rules a b c start now next x before takes steps = record {
  lines = before.lines ++ x ∷ [];
  took = takes_more a b c before.lines (x ∷ []) before.took takes;
  go_on = λ more. goes before (x ∷ []) more ∙ step_taken rules now next x more steps;
  needed = λ more.
      let is = needs before (x ∷ []) more in
      let one = needed-cons rules now next x more steps in
      let long = length-append before.lines (x ∷ []) in
      omega (arith, is, one, long);
}

-- the end after them
pub taken_end : (rules : Rules) (a b c : Option (List ℕ)) (start now : Reader) → TakenOn rules a b start now → Takes b c [] → IsAtEnd c
    → HeardLines a c (lines_on rules start) (λ lines. taken rules start lines ≡ Ok now)
taken_end rules a b c start now before takes ended = record {
  lines = before.lines ++ [];
  took = takes_more a b c before.lines [] before.took takes;
  few = λ more. few before [] more (omega arith);
  holds = inl (ended, before.go_on [] ∙ taken-none rules now);
}

-- a faulty line after them, or one for which there was no memory
pub taken_fault : (rules : Rules) (a b c : Option (List ℕ)) (start now : Reader) (x : Line) (fault : StrategyFault) → TakenOn rules a b start now → Takes b c (x ∷ [])
    → IsFaultOrMemory (step rules now x) fault → HeardLines a c (lines_on rules start) (λ lines. IsFaultOrMemory (taken rules start lines) fault)
taken_fault rules a b c start now x fault before takes is = record {
  lines = before.lines ++ x ∷ [];
  took = takes_more a b c before.lines (x ∷ []) before.took takes;
  few = λ more. few before (x ∷ []) more (needed-one rules now x more);
  holds = inr (λ more. fault-so (step rules now x) (taken rules start ((before.lines ++ x ∷ []) ++ more)) (λ e bad. goes before (x ∷ []) more ∙ step_fault rules now x more e bad) fault is);
}

pub taken_long : (rules : Rules) (a b c : Option (List ℕ)) (start now : Reader) (fault : StrategyFault) → TakenOn rules a b start now → Takes b c (TooLong ∷ []) → step rules now TooLong ≡ Err fault
    → HeardLines a c (lines_on rules start) (λ lines. IsFaultOrMemory (taken rules start lines) fault)
taken_long rules a b c start now fault before takes is = taken_fault rules a b c start now TooLong fault before takes (fault-is (step rules now TooLong) fault is)

-- nothing after them
pub taken_stop : (rules : Rules) (a b c : Option (List ℕ)) (start now : Reader) → TakenOn rules a b start now → Takes b c [] → HeardLines a c (lines_on rules start) (λ lines. ⊤)
taken_stop rules a b c start now before takes = record {
  lines = before.lines ++ [];
  took = takes_more a b c before.lines [] before.took takes;
  few = λ more. few before [] more (omega arith);
  holds = inr (λ more. tt);
}

pub taken_so_far : (rules : Rules) (a b : Option (List ℕ)) (start now : Reader) → TakenOn rules a b start now → HeardLines a b (lines_on rules start) (λ lines. ⊤)
taken_so_far rules a b start now before = record {
  lines = before.lines;
  took = before.took;
  few = λ more. let is = before.needed more in omega (arith, is);
  holds = inr (λ more. tt);
}

pub step_same : (rules : Rules) (b : Reader) (text line : List ℕ) (r : Result Reader StrategyFault) → text ≡ line → step rules b (Text text) ≡ r → step rules b (Text line) ≡ r
step_same rules b text line r is says = ap (λ t. step rules b (Text t)) (sym is) ∙ says

pub fault_same : (rules : Rules) (b : Reader) (text line : List ℕ) (fault : StrategyFault) → text ≡ line → IsFaultOrMemory (step rules b (Text text)) fault → IsFaultOrMemory (step rules b (Text line)) fault
fault_same rules b text line fault is says = subst (λ t. IsFaultOrMemory (step rules b (Text t)) fault) is says

-- ---- the whole

-- a reader that has begun, by its equation
pub begun_heard : (rules : Rules) (a b : Option (List ℕ)) (start : Reader) (P : Result Reader StrategyFault → Type 0) → start ≡ begun
    → HeardLines a b (lines_on rules start) (λ lines. P (taken rules start lines)) → HeardLines a b (lines_of_strategy rules) (λ lines. P (taken rules begun lines))
begun_heard rules a b start P is heard = subst (λ (x : Reader). HeardLines a b (lines_on rules x) (λ lines. P (taken rules x lines))) is heard

taken_bad : (rules : Rules) (lines : List Line) (fault : StrategyFault) → taken rules begun lines ≡ Err fault → strategy_of rules lines ≡ Err fault
unfolding strategy_of
taken_bad rules lines fault is = ap (λ r. r >>= finished) is

pub taken_why : (rules : Rules) (lines : List Line) (why : NoStrategy) → HasWhy (taken rules begun lines) why → HasWhy (strategy_of rules lines) why
taken_why rules lines (Faulty fault) is = fault-so (taken rules begun lines) (strategy_of rules lines) (λ e bad. taken_bad rules lines e bad) fault is
taken_why rules lines Unread is = tt

taken_ends : (rules : Rules) (lines : List Line) (b : Reader) → taken rules begun lines ≡ Ok b → strategy_of rules lines ≡ finished b
unfolding strategy_of
taken_ends rules lines b is = ap (λ r. r >>= finished) is

pub taken_finished : (rules : Rules) (lines : List Line) (b : Reader) (s : Strategy) → taken rules begun lines ≡ Ok b → Ok s ≡ finished b → strategy_of rules lines ≡ Ok s
taken_finished rules lines b s is ends = taken_ends rules lines b is ∙ sym ends

pub taken_unfinished : (rules : Rules) (lines : List Line) (b : Reader) (fault : StrategyFault) → taken rules begun lines ≡ Ok b → Err fault ≡ finished b → IsFaultOrMemory (strategy_of rules lines) fault
taken_unfinished rules lines b fault is ends = fault-is (strategy_of rules lines) fault (taken_ends rules lines b is ∙ sym ends)

pub unread_same : (A B : Type 0) (why : NoStrategy) → IsUnread {A = A} (Err why) → IsUnread {A = B} (Err why)
unread_same A B (Faulty fault) unread = unread
unread_same A B Unread unread = unread

-- ---- after a first line `strategy 1`

abbrev version : Line
version = Text (codes "strategy 1")

module _ (rules : Rules) (start : Reader) (text : List ℕ) (new : start ≡ begun) (first : text ≡ codes "strategy 1") where
  version_step : step rules begun version ≡ step rules start (Text text)
  version_step = λ i. step rules (sym new i) (Text (sym first i))

  -- a reader that took it
  pub body_heard : (a b : Option (List ℕ)) (next : Reader) (P : Result Reader StrategyFault → Type 0) → step rules start (Text text) ≡ Ok next
      → HeardLines a b (lines_on rules next) (λ lines. P (taken rules next lines)) → HeardLines a b (lines_of_body rules) (λ lines. P (taken rules begun (version ∷ lines)))
  body_heard a b next P took heard =
      heard_so a b _ _ _ _ heard
      (λ lines. let all = needed-cons rules begun next version lines (version_step ∙ took) in omega (arith, all))
      (λ lines says. subst P (sym (step_taken rules begun next version lines (version_step ∙ took))) says)

  -- it is not faulty, but there may be no memory
  pub body_lost : (lines : List Line) (fault : StrategyFault) → IsFaultOrMemory (step rules start (Text text)) fault → IsFaultOrMemory (body_of rules lines) fault
  body_lost lines fault is =
      fault-so (step rules start (Text text)) (body_of rules lines)
      (λ e bad. taken_bad rules (version ∷ lines) e (step_fault rules begun version lines e (version_step ∙ bad))) fault is
