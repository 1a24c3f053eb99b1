-- Turns of a session, one after another.
use Rattle.std.proofs.Common.{◌≡◌, ◌≢◌, ℕ, ◌+◌, List, [], ◌∷◌, ◌++◌, false, refl, sym, ap, subst, ◌∙◌, append_assoc}
use Rattle.std.specs.declared.option.Option.{Option}
use Rattle.std.specs.List.{flat_map}
use Rattle.std.proofs.lemmas.List.{append-nil}
use Rattle.io_ports.specs.Files.{Read}
use Rattle.io_ports.specs.Lines.{Line}
use Rattle.io_ports.specs.Owing.{Lacks, Spends}
use Rattle.io_ports.specs.Source.{Owed, Takes, got_lines}
use Rattle.io_ports.specs.Trace.{Moves}
use Rattle.io_ports.specs.declared.source.Got.{Got}
use Rattle.io_ports.specs.declared.source.Got.TheVariants as got
use Rattle.io_ports.proofs.Moved.{moves_at, moves_more, moves_source}
use Rattle.io_ports.proofs.Owing.{lacks_before, spends_more, spends_none}
use Rattle.watching.specs.Events.{heard_lines as heard, opened, readings, written}
use Rattle.session_model.specs.Laws.{IsWider}
use Rattle.session_model.specs.Turns.{Protocol, Turn, Turns, after_turns, bound_in, lines_in, reads_in}
use Rattle.session_model.specs.Lines.{HasLine, MayFollow, got_line}
use Rattle.session_model.specs.Turned.{Served, Turned, turn_of}

-- ---- the next line

-- an answer is a line where it is neither the end nor a failure
pub has_line : (next : Got) → next ≢ got.End → next ≢ got.Failed → HasLine next
has_line got.Line goes_on works = tt
has_line got.TooLong goes_on works = tt
has_line got.End goes_on works = absurd (goes_on refl)
has_line got.Failed goes_on works = absurd (works refl)

-- where there is a line, it is the one that was taken
pub line_taken : (next : Got) (text : List ℕ) → HasLine next → got_lines next text ≡ got_line next text ∷ []
line_taken got.Line text has = refl
line_taken got.TooLong text has = refl
line_taken got.End text has = absurd has
line_taken got.Failed text has = absurd has

-- anything follows a line
pub line_followed : (next : Got) → HasLine next → (following : List Line) → MayFollow next following
line_followed got.Line has following = tt
line_followed got.TooLong has following = tt
line_followed got.End has following = absurd has
line_followed got.Failed has following = absurd has

-- and nothing may follow any answer
pub none_follows : (next : Got) → MayFollow next []
none_follows got.Line = tt
none_follows got.TooLong = tt
none_follows got.End = refl
none_follows got.Failed = refl

-- ---- what turns and one more leave

module _ {State : Type 0} where
  pub flat_more : {X : Type 0} (f : Turn State → List X) (us : List (Turn State)) (u : Turn State)
      → flat_map f us ++ f u ≡ flat_map f (us ++ u ∷ [])
  flat_more f [] u = sym (append-nil (f u))
  flat_more f (t ∷ us) u = append_assoc (f t) (flat_map f us) (f u) ∙ ap (λ more. f t ++ more) (flat_more f us u)

  pub lines_more : (us : List (Turn State)) (u : Turn State) (following : List Line)
      → lines_in (us ++ u ∷ []) ++ following ≡ lines_in us ++ (u.line ∷ (heard u.events ++ following))
  lines_more us u following =
      ap (λ lines. lines ++ following) (sym (flat_more (λ t. t.line ∷ heard t.events) us u))
      ∙ append_assoc (lines_in us) (u.line ∷ heard u.events) following

  pub after_more : (start : State) (us : List (Turn State)) (u : Turn State) → after_turns start (us ++ u ∷ []) ≡ u.after
  after_more start [] u = refl
  after_more start (t ∷ us) u = after_more t.after us u

  -- the lines of turns, the line that was there after them, and what was taken since
  pub lines_since : (us : List (Turn State)) (u : Turn State) (next : Got) (text : List ℕ) → HasLine next
      → u.line ≡ got_line next text → (following : List Line)
      → (lines_in us ++ got_lines next text) ++ (heard u.events ++ following) ≡ lines_in (us ++ u ∷ []) ++ following
  lines_since us u next text has is following =
      ap (λ lines. (lines_in us ++ lines) ++ (heard u.events ++ following)) (line_taken next text has ∙ ap (λ l. l ∷ []) (sym is))
      ∙ append_assoc (lines_in us) (u.line ∷ []) (heard u.events ++ following) ∙ sym (lines_more us u following)

  module _ (p : Protocol State) where
    pub bound_more : (used : ℕ) (start : State) (us : List (Turn State)) (u : Turn State)
        → bound_in p used start (us ++ u ∷ []) ≡ bound_in p used start us + p.bound (after_turns start us) u.line
    bound_more used start [] u = refl
    bound_more used start (t ∷ us) u = bound_more (used + p.bound start t.line) t.after us u

    pub turns_more : (owed : Owed) (used : ℕ) (start : State) (us : List (Turn State)) (u : Turn State) (following : List Line)
        → Turns p owed used start us (u.line ∷ (heard u.events ++ following)) → p.quits u.line ≡ false
        → p.answers (Lacks owed (bound_in p used start us + p.bound (after_turns start us) u.line)) (after_turns start us) u following
        → Turns p owed used start (us ++ u ∷ []) following
    turns_more owed used start [] u following allowed goes_on answers = (goes_on, answers, tt)
    turns_more owed used start (t ∷ us) u following allowed goes_on answers = (
      allowed.0,
      subst (λ (lines : List Line). p.answers (Lacks owed (used + p.bound start t.line)) start t lines) (sym (lines_more us u following)) allowed.1,
      turns_more owed (used + p.bound start t.line) t.after us u following allowed.2 goes_on answers,
    )

-- ---- from the start of the loop, and from one line to the next

module _ {State : Type 0} (p : Protocol State) {S K C : Type 0} {left : S → Option (List ℕ)} {taken : K → Option (List ℕ)}
    {given : C → Option (List ℕ)} {count last : C → ℕ} where
  -- the first line is there
  pub first_turn : (asked : List Read → Type 0) {s s' : S} (k : K) (c : C) {owed owed' : Owed} (start : State) (next : Got) (text : List ℕ)
      → Takes (left s) (left s') (got_lines next text) → asked [] → owed' ≡ owed
      → Turned p (Moves left taken given count last s s' k k c c) asked owed owed' start start next text
  first_turn asked k c {owed = owed} start next text takes asks same = record {
    turns = [];
    after_is = refl;
    went = moves_source k c takes;
    asks = asks;
    spends = subst (λ (o : Owed). Spends owed o 0) (sym same) (spends_none owed 0);
    allowed = λ following may. tt;
  }

  -- the line that was there is answered, and the next one is there
  pub next_turn : {s s' s'' : S} {k k' k'' : K} {c c' c'' : C} {asked asked' asked'' : List Read → Type 0} {owed owed' owed'' : Owed}
      {start state after : State} {next next' : Got} {text text' : List ℕ}
      → IsWider p → ((xs ys : List Read) → asked xs → asked' ys → asked'' (xs ++ ys))
      → HasLine next → p.quits (got_line next text) ≡ false
      → Turned p (Moves left taken given count last s s' k k' c c') asked owed owed' start state next text
      → Served p (Moves left taken given count last s' s'' k' k'' c' c'') asked' owed' owed'' state after (got_line next text) next' text'
      → Turned p (Moves left taken given count last s s'' k k'' c c'') asked'' owed owed'' start after next' text'
  unfolding turn_of
  next_turn {asked'' = asked''} {owed = owed} {owed' = owed'} {owed'' = owed''} {start = start} {state = state} {after = after} {next = next} {next' = next'} {text = text} {text' = text'} wider joins has goes_on so sv =
      let u = turn_of (got_line next text) sv.events after in let us = so.turns in let then = got_lines next' text' in
      let line = got_line next text in
      record {
        turns = us ++ u ∷ [];
        after_is = after_more start us u;
        went = moves_at (moves_more so.went sv.went) (lines_since us u next text has refl then)
            (flat_more (λ t. written p.dialect t.events) us u) (flat_more (λ t. readings t.events) us u);
        asks = subst asked'' (flat_more (λ t. opened t.events) us u) (joins (reads_in us) (opened sv.events) so.asks sv.asks);
        spends = subst (λ (n : ℕ). Spends owed owed'' n)
            (sym (bound_more p 0 start us u ∙ ap (λ (s : State). bound_in p 0 start us + p.bound s line) so.after_is))
            (spends_more owed owed' owed'' (bound_in p 0 start us) (p.bound state line) so.spends sv.spends);
        allowed = λ following may. turns_more p owed 0 start us u (then ++ following)
            (subst (λ (lines : List Line). Turns p owed 0 start us (lines ++ (heard sv.events ++ (then ++ following)))) (line_taken next text has)
            (so.allowed (heard sv.events ++ (then ++ following)) (line_followed next has _)))
            goes_on
            (subst (λ (s : State). p.answers (Lacks owed (bound_in p 0 start us + p.bound s line)) s u (then ++ following)) (sym so.after_is)
            (wider (Lacks owed' (p.bound state line)) (Lacks owed (bound_in p 0 start us + p.bound state line))
            (λ few. lacks_before owed owed' (bound_in p 0 start us) (p.bound state line) so.spends few)
            state u (then ++ following) (sv.answers following may)));
      }
