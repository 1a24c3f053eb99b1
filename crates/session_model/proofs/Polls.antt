-- Enough polls leave no cut.
use Rattle.std.proofs.Common.{ℕ, ◌+◌, ◌≤◌, List, [], ◌∷◌, ◌++◌, Option, arith}
use Rattle.io_ports.specs.Files.{Contents, Read}
use Rattle.io_ports.specs.Lines.{Line}
use Rattle.io_ports.specs.Source.{Owed, Untold, Endless, Polls}
use Rattle.session_model.specs.Laws.{IsWider}
use Rattle.io_ports.specs.Owing.{Lacks, Covers}
use Rattle.session_model.specs.Turns.{Protocol, Turn, Turns, Session, bound_in, lines_in}

≤-trans : (a b c : ℕ) → a ≤ b → b ≤ c → a ≤ c
≤-trans a b c h k = omega arith

-- no fewer polls are owed than are covered
lacks_none : (owed : Owed) (n total : ℕ) → Covers owed total → n ≤ total → Lacks owed n → ⊥
lacks_none Untold n total covers few lacks = covers
lacks_none Endless n total covers few lacks = lacks
lacks_none (Polls polls) n total covers few lacks = absurd (omega arith)

module _ {S : Type 0} (p : Protocol S) where
  -- the sum is no less than what it begins with
  bound_in-grows : (used : ℕ) (state : S) (turns : List (Turn S)) → used ≤ bound_in p used state turns
  bound_in-grows used state [] = omega arith
  bound_in-grows used state (turn ∷ turns) =
      ≤-trans used (used + p.bound state turn.line) (bound_in p (used + p.bound state turn.line) turn.after turns)
      (omega arith) (bound_in-grows (used + p.bound state turn.line) turn.after turns)

  pub turns_endless : IsWider p → (owed : Owed) (used : ℕ) (state : S) (turns : List (Turn S)) (following : List Line)
      → Covers owed (bound_in p used state turns) → Turns p owed used state turns following → Turns p Endless used state turns following
  turns_endless wider owed used state [] following covers allowed = tt
  turns_endless wider owed used state (turn ∷ turns) following covers allowed = (
    allowed.0,
    wider (Lacks owed (used + p.bound state turn.line)) ⊥
        (lacks_none owed (used + p.bound state turn.line) (bound_in p (used + p.bound state turn.line) turn.after turns) covers
        (bound_in-grows (used + p.bound state turn.line) turn.after turns))
        state turn (lines_in turns ++ following) allowed.1,
    turns_endless wider owed (used + p.bound state turn.line) turn.after turns following covers allowed.2,
  )

  pub session_endless : IsWider p → (owed : Owed) (state : S) (files : Option Contents) (reads : List Read) (lines : List Line) (taken output : List ℕ)
      (session : Session S p owed state files reads lines taken output) → Covers owed (bound_in p 0 state session.turns)
      → Session S p Endless state files reads lines taken output
  session_endless wider owed state files reads lines taken output session covers = record {
    turns = session.turns;
    rest = session.rest;
    lines_are = session.lines_are;
    over = session.over;
    allowed = turns_endless wider owed 0 state session.turns session.rest covers session.allowed;
    reads_are = session.reads_are;
    found = session.found;
    readings_are = session.readings_are;
    output_is = session.output_is;
  }
