-- Where each line but the one that ends the session has an answer, each session has some output, where polls are untold.
use Rattle.std.proofs.Common.{◌≡◌, ℕ, zero, suc, ◌+◌, ◌≤◌, List, [], ◌∷◌, ◌++◌, length, Bool, true, false, Some, refl, sym, ap, subst, arith, length-append, append_assoc}
use Rattle.std.specs.List.{AllByRecursion}
use Rattle.io_ports.specs.Files.{Contents, Read, Finds, IsFound}
use Rattle.io_ports.specs.Lines.{Line}
use Rattle.io_ports.specs.Source.{Untold}
use Rattle.io_ports.specs.Trace.{faults_in}
use Rattle.watching.specs.Events.{Event, heard_lines as heard, opened, readings}
use Rattle.session_model.specs.Laws.{HasOutput}
use Rattle.session_model.specs.Turns.{Protocol, Turn, Turns, IsOver, lines_in, output_in, reads_in, readings_in}

all_append : {X : Type 0} (P : X → Type 0) (xs ys : List X) → AllByRecursion P xs → AllByRecursion P ys → AllByRecursion P (xs ++ ys)
all_append P [] ys h k = k
all_append P (x ∷ xs) ys h k = (h.0, all_append P xs ys h.1 k)

faults_in-append : (xs ys : List Read) → faults_in (xs ++ ys) ≡ faults_in xs + faults_in ys
faults_in-append [] ys = omega arith
faults_in-append (x ∷ xs) ys = omega (arith, faults_in-append xs ys)

shorter : (front rest lines : List Line) → lines ≡ front ++ rest → length rest ≤ length lines
shorter front rest lines is = rw is (omega (arith, length-append front rest))

one_more : (front middle rest lines more : List Line) → lines ≡ front ++ more → more ≡ middle ++ rest → lines ≡ (front ++ middle) ++ rest
one_more front middle rest lines more is next = rw (is, next) (sym (append_assoc front middle rest))

module _ {S : Type 0} (p : Protocol S) where
  -- an answer to one line, where these lines follow it
  pub record Step (state : S) (asked : Line) (lines : List Line) (files : Contents) : Type 0 where
    pub events : List Event
    pub after : S
    pub rest : List Line
    pub lines_are : lines ≡ heard events ++ rest
    pub answers : p.answers (Unit {0}) state (record { line = asked; events = events; after = after }) rest
    pub found : Finds (Some files) (opened events)
    pub faultless : faults_in (opened events) ≡ 0
    pub quiet : readings events ≡ []

  record Spoken (state : S) (lines : List Line) (files : Contents) : Type 0 where
    turns : List (Turn S)
    rest : List Line
    lines_are : lines ≡ lines_in turns ++ rest
    over : IsOver p rest
    allowed : (used : ℕ) → Turns p Untold used state turns rest
    found : Finds (Some files) (reads_in turns)
    faultless : faults_in (reads_in turns) ≡ 0
    quiet : readings_in turns ≡ []

  none_spoken : (state : S) (lines : List Line) (files : Contents) → IsOver p lines → Spoken state lines files
  none_spoken state lines files over =
      record { turns = []; rest = lines; lines_are = refl; over = over; allowed = λ used. tt; found = tt; faultless = refl; quiet = refl }

  then_spoken : (state : S) (asked : Line) (lines : List Line) (files : Contents) → p.quits asked ≡ false
      → (s : Step state asked lines files) → Spoken s.after s.rest files → Spoken state (asked ∷ lines) files
  then_spoken state asked lines files goes_on s r = record {
    turns = record { line = asked; events = s.events; after = s.after } ∷ r.turns;
    rest = r.rest;
    lines_are = ap (λ more. asked ∷ more) (one_more (heard s.events) (lines_in r.turns) r.rest lines s.rest s.lines_are r.lines_are);
    over = r.over;
    allowed = λ used. (
      goes_on,
      subst (λ following. p.answers (Unit {0}) state (record { line = asked; events = s.events; after = s.after }) following)
          r.lines_are s.answers,
      r.allowed _,
    );
    found = all_append (λ read. IsFound (files read.name) read.found) (opened s.events) (reads_in r.turns) s.found r.found;
    faultless = rw (faults_in-append (opened s.events) (reads_in r.turns), s.faultless, r.faultless);
    quiet = rw s.quiet r.quiet;
  }

  module _ (steps : (state : S) (asked : Line) (lines : List Line) (files : Contents) → p.quits asked ≡ false → Step state asked lines files) where
    Speaks : ℕ → Type 0
    Speaks fuel = (state : S) (lines : List Line) (files : Contents) → length lines ≤ fuel → Spoken state lines files

    by_quit : (fuel : ℕ) → Speaks fuel → (state : S) (asked : Line) (lines : List Line) (files : Contents)
        → length (asked ∷ lines) ≤ suc fuel → (b : Bool) → p.quits asked ≡ b → Spoken state (asked ∷ lines) files
    unfolding Speaks
    by_quit fuel speaks state asked lines files few true is = none_spoken state (asked ∷ lines) files is
    by_quit fuel speaks state asked lines files few false is =
        let s : Step state asked lines files = steps state asked lines files is in
        let less : length s.rest ≤ length lines = shorter (heard s.events) s.rest lines s.lines_are in
        then_spoken state asked lines files is s (speaks s.after s.rest files (omega arith))

    spoken : (fuel : ℕ) → Speaks fuel
    unfolding Speaks
    spoken fuel state [] files few = none_spoken state [] files tt
    spoken zero state (asked ∷ lines) files few = absurd (omega arith)
    spoken (suc fuel) state (asked ∷ lines) files few =
        by_quit fuel (spoken fuel) state asked lines files few (p.quits asked) refl

    pub has_output : HasOutput p
    unfolding Speaks
    has_output state files lines =
        let s : Spoken state lines files = spoken (length lines) state lines files (omega arith) in (
          reads_in s.turns,
          output_in p.dialect s.turns,
          record {
            turns = s.turns;
            rest = s.rest;
            lines_are = s.lines_are;
            over = s.over;
            allowed = s.allowed 0;
            reads_are = refl;
            found = s.found;
            readings_are = sym s.quiet;
            output_is = refl;
          },
          s.faultless,
        )
