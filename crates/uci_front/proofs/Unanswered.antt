-- A line that was not answered at all could have been: some answer to it takes no line and no reading.
use Rattle.std.proofs.Common.{◌≡◌, ◌∙◌, ℕ, List, [], ◌∷◌, ◌++◌, true, false, Option, refl, sym, ap, subst}
use Rattle.std.proofs.lemmas.List.{append-nil}
use Rattle.io_ports.specs.Files.{Contents, Finds, Read}
use Rattle.io_ports.specs.Lines.{Line}
use Rattle.io_ports.specs.Source.{Untold}
use Rattle.io_ports.specs.Trace.{Moves, faults_in}
use Rattle.watching.specs.Events.{Event, heard_lines, opened, readings, written}
use Rattle.session_model.proofs.Joined.{quiet_output}
use Rattle.session_model.specs.Laws.{HasOutput}
use Rattle.session_model.specs.Turns.{Protocol, Turn, Turns, IsOver, Session, lines_in, reads_in, readings_in}
use Rattle.io_ports.proofs.Moved.{moves_at, moves_none}
use Rattle.session_model.specs.Lines.{none}
use Rattle.session_model.specs.Turned.{Further, Unserved, turn_of}

module _ {S : Type 0} (p : Protocol S) where
  -- an answer of a line that takes no line and no reading, where the lines end after it
  pub record Quiet (contents : Option Contents) (state : S) (line : Line) : Type 0 where
    pub events : List Event
    pub after : S
    pub heard : heard_lines events ≡ []
    pub unread : readings events ≡ []
    pub more : Further contents (opened events)
    pub answers : p.answers (Unit {0}) state (turn_of line events after) []

  by_turns : (contents : Option Contents) (state : S) (line : Line) → p.quits line ≡ false
      → (reads : List Read) (output : List ℕ) (session : Session S p Untold state contents reads (line ∷ []) [] output)
      → faults_in reads ≡ 0 → (turns : List (Turn S)) → turns ≡ session.turns → Quiet contents state line
  unfolding turn_of
  by_turns contents state line goes_on reads output session faultless [] are =
      let rest_is : line ∷ [] ≡ session.rest = session.lines_are ∙ ap (λ turns. lines_in turns ++ session.rest) (sym are) in
      let over : p.quits line ≡ true = subst (λ lines. IsOver p lines) (sym rest_is) session.over in
      cc
  by_turns contents state line goes_on reads output session faultless (turn ∷ second ∷ turns) are =
      let lines_are : line ∷ [] ≡ lines_in (turn ∷ second ∷ turns) ++ session.rest =
      session.lines_are ∙ ap (λ turns. lines_in turns ++ session.rest) (sym are) in
      absurd (two_lines _ _ _ _ lines_are)
    where
      two_lines : (heard more : List Line) (first second : Line) → line ∷ [] ≡ ((first ∷ heard) ++ (second ∷ more)) ++ session.rest → ⊥
      two_lines [] more first second h = cc
      two_lines (l ∷ heard) more first second h = cc
  by_turns contents state line goes_on reads output session faultless (turn ∷ []) are =
      let lines_are : line ∷ [] ≡ lines_in (turn ∷ []) ++ session.rest =
      session.lines_are ∙ ap (λ turns. lines_in turns ++ session.rest) (sym are) in
      by_rest (heard_lines turn.events) refl session.rest refl lines_are
    where
      allowed : Turns p Untold 0 state (turn ∷ []) session.rest
      allowed = subst (λ turns. Turns p Untold 0 state turns session.rest) (sym are) session.allowed

      unread : readings turn.events ≡ []
      unread = sym (append-nil (readings turn.events)) ∙ sym (session.readings_are ∙ ap readings_in (sym are))

      reads_are : reads ≡ opened turn.events
      reads_are = session.reads_are ∙ ap reads_in (sym are) ∙ append-nil (opened turn.events)

      more : Further contents (opened turn.events)
      more = record {
        found = subst (λ reads. Finds contents reads) reads_are session.found;
        works = ap faults_in (sym reads_are) ∙ faultless;
      }

      by_rest : (heard : List Line) → heard ≡ heard_lines turn.events → (rest : List Line) → rest ≡ session.rest
          → line ∷ [] ≡ ((turn.line ∷ heard) ++ []) ++ rest → Quiet contents state line
      by_rest [] unheard [] ended is =
          let same : turn.line ≡ line = cc in
          record {
            events = turn.events;
            after = turn.after;
            heard = sym unheard;
            unread = unread;
            more = more;
            answers = subst (λ line. p.answers (Unit {0}) state (turn_of line turn.events turn.after) []) same
                (subst (λ rest. p.answers (Unit {0}) state turn rest) (sym ended) allowed.1);
          }
      by_rest [] unheard (l ∷ rest) ended is = cc
      by_rest (l ∷ heard) unheard rest ended is = cc

  pub quiet_answer : HasOutput p → (contents : Option Contents) (state : S) (line : Line) → p.quits line ≡ false
      → Quiet contents state line
  quiet_answer has contents state line goes_on =
      let (reads, output, session, faultless) = quiet_output p has state contents (line ∷ []) in
      by_turns contents state line goes_on reads output session faultless session.turns refl

  pub unserved_quiet : {K C X : Type 0} {left : X → Option (List ℕ)} {taken : K → Option (List ℕ)} {given : C → Option (List ℕ)} {count last : C → ℕ}
      → HasOutput p → (s : X) (k : K) (c : C) (asked : List Read → Type 0) (contents : Option Contents) (state : S) (line : Line)
      → p.quits line ≡ false → asked [] → Unserved p (Moves left taken given count last s s k k c c) asked contents state line
  unserved_quiet has s k c asked contents state line goes_on asks =
      let q = quiet_answer has contents state line goes_on in
      record {
        events = q.events;
        after = q.after;
        behind = [];
        is_held = none;
        front = [];
        back = written p.dialect q.events;
        wrote = refl;
        went = moves_at (moves_none s k c) (sym (ap (λ l. l ++ []) q.heard)) refl (sym q.unread);
        done = [];
        further = opened q.events;
        reads_are = refl;
        asks = asks;
        more = q.more;
        answers = q.answers;
      }
