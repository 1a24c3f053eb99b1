-- What the lines of a suite say, as they are read.
use Rattle.std.proofs.Common.{◌≡◌, ◌≤◌, ℕ, ◌+◌, arith, length, List, [], ◌∷◌, ◌++◌, inl, inr, Bool, true, false, if◌then◌else◌, Option, Result, Ok, Err, refl, sym, ap, subst, ◌∙◌, append_assoc}
use Rattle.std.proofs.lemmas.List.{length-append}
use Rattle.std.specs.Bool.{⊤}
use Rattle.std.specs.Io.KnownBytes.{IsAtEnd}
use Rattle.io_ports.specs.Lines.{Line, Text, TooLong}
use Rattle.io_ports.specs.Source.{Takes}
use Rattle.io_ports.proofs.Moved.{takes_none, takes_more}
use Rattle.variant_rules.specs.Entries.{Named}
use Rattle.game_text.specs.HeardLines.{HeardLines}
use Rattle.game_text.specs.ReadView.{Plays as Adds, Says, Tells}
use Rattle.game_text.proofs.HeardLemmas.{heard_so, same_needed}
use Rattle.game_text.proofs.ReadLemmas.{says_told}
use Rattle.game_text.specs.declared.unmade.Unmade.TheVariants.{Faulty, Unread, Memory}
use Rattle.suite.specs.declared.fault.SuiteFault.{SuiteFault}
use Rattle.suite.specs.declared.fault.SuiteFault.TheVariants.{LineTooLong}
use Rattle.suite.specs.declared.problem.Problem.{Problem}
use Rattle.suite.specs.ReadView.{NoSuite, Reads}
use Rattle.suite.specs.Suite.{Listed, and_then, is_skipped, lines_of_suite, lines_on, nothing_listed, problem_of, suite_of, suite_on, unless_faulty, with_line, with_problem}

module _ (v : List Named) where
  -- ---- one line

  module _ (number : ℕ) (s : Listed) where
    adds_by : (text : List ℕ) (b : Bool) → is_skipped text ≡ b → with_line v s number text ≡ (if b then Ok s else with_problem s number (problem_of v number text))
    unfolding with_line
    adds_by text b is = ap (λ x. if x then Ok s else with_problem s number (problem_of v number text)) is

    pub line-skipped : (text : List ℕ) → is_skipped text ≡ true → with_line v s number text ≡ Ok s
    line-skipped text is = adds_by text true is

    pub line-fault : (now : Listed) (text : List ℕ) (why : NoSuite) → is_skipped text ≡ false → Reads {A = Problem} (problem_of v number text) (Err why)
        → Adds {A = Unit {0}} (with_line v s number text) now (Err why)
    line-fault now text (Faulty fault) is reads = adds_by text false is ∙ ap (with_problem s number) reads
    line-fault now text Unread is reads = reads
    line-fault now text Memory is reads = tt

    pub line-added : (now : Listed) (text : List ℕ) (p : Problem) (r : Result (Unit {0}) NoSuite) → is_skipped text ≡ false → problem_of v number text ≡ Ok p
        → Adds (with_problem s number (Ok p)) now r → Adds (with_line v s number text) now r
    line-added now text p r is reads adds =
        subst (λ (said : Result Listed SuiteFault). Adds said now r) (sym (adds_by text false is ∙ ap (with_problem s number) reads)) adds

  -- ---- line by line

  pub on-none : (number : ℕ) (s : Listed) → suite_on v number s [] ≡ Ok s
  unfolding suite_on
  on-none number s = refl

  on-long : (number : ℕ) (s : Listed) (more : List Line) → suite_on v number s (TooLong ∷ more) ≡ Err (LineTooLong number)
  unfolding suite_on
  on-long number s more = refl

  on-added : (number : ℕ) (s t : Listed) (text : List ℕ) (more : List Line) → with_line v s number text ≡ Ok t → suite_on v number s (Text text ∷ more) ≡ suite_on v (number + 1) t more
  unfolding suite_on
  on-added number s t text more is = ap (λ r. and_then r (λ x. suite_on v (number + 1) x more)) is

  on-fault : (number : ℕ) (s : Listed) (text : List ℕ) (more : List Line) (fault : SuiteFault) → with_line v s number text ≡ Err fault → suite_on v number s (Text text ∷ more) ≡ Err fault
  unfolding suite_on
  on-fault number s text more fault is = ap (λ r. and_then r (λ x. suite_on v (number + 1) x more)) is

  needs-added : (number : ℕ) (s t : Listed) (text : List ℕ) (more : List Line) → with_line v s number text ≡ Ok t → lines_on v number s (Text text ∷ more) ≡ 1 + lines_on v (number + 1) t more
  unfolding lines_on
  needs-added number s t text more is = ap (λ r. 1 + unless_faulty r (λ x. lines_on v (number + 1) x more)) is

  needs-one : (number : ℕ) (s : Listed) (x : Line) (more : List Line) → 1 ≤ lines_on v number s (x ∷ more)
  unfolding lines_on
  needs-one number s TooLong more = omega arith
  needs-one number s (Text text) more = omega arith

  -- Lines were taken, up to this number, and their problems were added.
  pub record ReadOn (a b : Option (List ℕ)) (start now : Listed) (number : ℕ) : Type 0 where
    pub lines : List Line
    pub took : Takes a b lines
    pub go_on : (more : List Line) → suite_on v 1 start (lines ++ more) ≡ suite_on v number now more
    pub needed : (more : List Line) → lines_on v 1 start (lines ++ more) ≡ length lines + lines_on v number now more

  pub read_none : (a : Option (List ℕ)) (s : Listed) → ReadOn a a s s 1
  read_none a s = record { lines = []; took = takes_none a; go_on = λ more. refl; needed = λ more. omega arith }

  module _ {a b : Option (List ℕ)} {start now : Listed} {number : ℕ} (read : ReadOn a b start now number) where
    -- these lines more
    goes : (front more : List Line) → suite_on v 1 start ((read.lines ++ front) ++ more) ≡ suite_on v number now (front ++ more)
    goes front more = ap (suite_on v 1 start) (append_assoc read.lines front more) ∙ read.go_on (front ++ more)

    needs : (front more : List Line) → lines_on v 1 start ((read.lines ++ front) ++ more) ≡ length read.lines + lines_on v number now (front ++ more)
    needs front more = ap (lines_on v 1 start) (append_assoc read.lines front more) ∙ read.needed (front ++ more)

    few : (front more : List Line) → length front ≤ lines_on v number now (front ++ more) → length (read.lines ++ front) ≤ lines_on v 1 start ((read.lines ++ front) ++ more)
    few front more low =
        let is = needs front more in
        let long = length-append read.lines front in
        omega (arith, low, is, long)

  -- a line more, whose problem was added
  pub read_more : (a b c : Option (List ℕ)) (start now next : Listed) (number : ℕ) (text : List ℕ) → ReadOn a b start now number → Takes b c (Text text ∷ [])
      → with_line v now number text ≡ Ok next → ReadOn a c start next (number + 1)
  read_more a b c start now next number text read takes added = record {
    lines = read.lines ++ Text text ∷ [];
    took = takes_more a b c read.lines (Text text ∷ []) read.took takes;
    go_on = λ more. goes read (Text text ∷ []) more ∙ on-added number now next text more added;
    needed = λ more.
        let is = needs read (Text text ∷ []) more in
        let one = needs-added number now next text more added in
        let long = length-append read.lines (Text text ∷ []) in
        omega (arith, is, one, long);
  }

  -- the end after them
  pub read_end : (a b c : Option (List ℕ)) (start now : Listed) (number : ℕ) → ReadOn a b start now number → Takes b c [] → IsAtEnd c
      → HeardLines a c (lines_on v 1 start) (λ lines. suite_on v 1 start lines ≡ Ok now)
  read_end a b c start now number read takes ended = record {
    lines = read.lines ++ [];
    took = takes_more a b c read.lines [] read.took takes;
    few = λ more. few read [] more (omega arith);
    holds = inl (ended, read.go_on [] ∙ on-none number now);
  }

  -- a faulty line after them
  read_fault : (a b c : Option (List ℕ)) (start now : Listed) (number : ℕ) (x : Line) (fault : SuiteFault) → ReadOn a b start now number → Takes b c (x ∷ [])
      → ((more : List Line) → suite_on v number now (x ∷ more) ≡ Err fault) → HeardLines a c (lines_on v 1 start) (λ lines. suite_on v 1 start lines ≡ Err fault)
  read_fault a b c start now number x fault read takes is = record {
    lines = read.lines ++ x ∷ [];
    took = takes_more a b c read.lines (x ∷ []) read.took takes;
    few = λ more. few read (x ∷ []) more (needs-one number now x more);
    holds = inr (λ more. goes read (x ∷ []) more ∙ is more);
  }

  -- a line that is not read further
  read_line : (a b c : Option (List ℕ)) (start now : Listed) (number : ℕ) (x : Line) → ReadOn a b start now number → Takes b c (x ∷ []) → HeardLines a c (lines_on v 1 start) (λ lines. ⊤)
  read_line a b c start now number x read takes = record {
    lines = read.lines ++ x ∷ [];
    took = takes_more a b c read.lines (x ∷ []) read.took takes;
    few = λ more. few read (x ∷ []) more (needs-one number now x more);
    holds = inr (λ more. tt);
  }

  pub read_long : (a b c : Option (List ℕ)) (start now : Listed) (number : ℕ) → ReadOn a b start now number → Takes b c (TooLong ∷ [])
      → HeardLines a c (lines_on v 1 start) (λ lines. suite_on v 1 start lines ≡ Err (LineTooLong number))
  read_long a b c start now number read takes = read_fault a b c start now number TooLong (LineTooLong number) read takes (λ more. on-long number now more)

  -- a line with a fault, or without memory
  pub read_unadded : (a b c : Option (List ℕ)) (start now next new : Listed) (number : ℕ) (text : List ℕ) (why : NoSuite) → ReadOn a b start now number → Takes b c (Text text ∷ [])
      → Adds {A = Unit {0}} (with_line v now number text) next (Err why) → HeardLines a c (lines_on v 1 start) (λ lines. Says {A = Unit {0}} (suite_on v 1 start lines) new (Err why))
  read_unadded a b c start now next new number text (Faulty fault) read takes says =
      read_fault a b c start now number (Text text) fault read takes (λ more. on-fault number now text more fault says)
  read_unadded a b c start now next new number text Unread read takes says = read_line a b c start now number (Text text) read takes
  read_unadded a b c start now next new number text Memory read takes says = read_line a b c start now number (Text text) read takes

  pub adds_same : (s next : Listed) (number : ℕ) (text line : List ℕ) (why : NoSuite) → text ≡ line → Adds {A = Unit {0}} (with_line v s number text) next (Err why)
      → Adds {A = Unit {0}} (with_line v s number line) next (Err why)
  adds_same s next number text line why is adds = subst (λ t. Adds {A = Unit {0}} (with_line v s number t) next (Err why)) is adds

  -- nothing after them
  pub read_stop : (a b c : Option (List ℕ)) (start now : Listed) (number : ℕ) → ReadOn a b start now number → Takes b c [] → HeardLines a c (lines_on v 1 start) (λ lines. ⊤)
  read_stop a b c start now number read takes = record {
    lines = read.lines ++ [];
    took = takes_more a b c read.lines [] read.took takes;
    few = λ more. few read [] more (omega arith);
    holds = inr (λ more. tt);
  }

  pub read_so_far : (a b : Option (List ℕ)) (start now : Listed) (number : ℕ) → ReadOn a b start now number → HeardLines a b (lines_on v 1 start) (λ lines. ⊤)
  read_so_far a b start now number read = record {
    lines = read.lines;
    took = read.took;
    few = λ more. let is = read.needed more in omega (arith, is);
    holds = inr (λ more. tt);
  }

-- a suite was not read to its end
pub read_failed : (v : List Named) (a b : Option (List ℕ)) (start now : Listed) (why : NoSuite) → start ≡ nothing_listed
    → HeardLines a b (lines_on v 1 start) (λ lines. Says {A = Unit {0}} (suite_on v 1 start lines) now (Err why))
    → HeardLines a b (lines_of_suite v) (λ lines. Tells {A = Listed} (suite_of v lines) (Err why))
read_failed v a b start now why is heard =
    let from = subst (λ (s : Listed). HeardLines a b (lines_on v 1 s) (λ lines. Says {A = Unit {0}} (suite_on v 1 s lines) now (Err why))) is heard in
    heard_so _ _ _ _ _ _ from (same_needed (lines_of_suite v)) (λ lines says. says_told (suite_of v lines) now why says)
