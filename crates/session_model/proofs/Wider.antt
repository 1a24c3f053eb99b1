-- Both protocols allow more where a search may be interrupted more often.
use Rattle.std.proofs.Common.{ℕ, List, [], ◌∷◌, Option, Some, None, Bool, true, false, length}
use Rattle.io_ports.specs.declared.dialect.Dialect.{Dialect}
use Rattle.io_ports.specs.Lines.{Line}
use Rattle.rules_model.specs.declared.moves.Move.{Move}
use Rattle.game_play.specs.Played.{legal_in, story}
use Rattle.io_ports.specs.declared.dialect.Dialect.TheVariants.{Uci}
use Rattle.evaluation.specs.Bounds.{solve_bound}
use Rattle.watching.specs.Events.{readings}
use Rattle.session_model.specs.Mates.{mover}
use Rattle.session_model.specs.CecpSession as CecpSession
use Rattle.session_model.specs.CecpSession.{cecp}
use Rattle.session_model.specs.CecpState as CecpState
use Rattle.session_model.specs.Laws.{IsWider}
use Rattle.session_model.specs.Thinking.{Task, Report, Cause, Interrupted, OutOfNodes, OutOfTime, MayCut, Ending, Whole, InSearch, InSolve, MayEnd, Deepens}
use Rattle.session_model.specs.Turns.{Turn}
use Rattle.session_model.specs.UciGo.{Go, last_mate, share_of, time_for}
use Rattle.session_model.specs.UciLines as line
use Rattle.session_model.specs.UciLines.{Command, command_of}
use Rattle.session_model.specs.UciSession as UciSession
use Rattle.session_model.specs.UciSession.{uci, Shown, Unsettled, Stopped, NoMate}
use Rattle.session_model.specs.UciState as UciState

module _ (A B : Type 0) (f : A → B) where
  may_cut_wider : (dialect : Dialect) (share time : Option ℕ) (bound : ℕ) (taken : List ℕ) (following : List Line) (cause : Cause)
      → MayCut dialect A share time bound taken following cause → MayCut dialect B share time bound taken following cause
  may_cut_wider dialect share time bound taken following Interrupted h = (f h.0, h.1)
  may_cut_wider dialect share time bound taken following OutOfNodes h = h
  may_cut_wider dialect share time bound taken following OutOfTime h = h

  may_end_wider : (dialect : Dialect) (t : Task) (done : ℕ) (taken : List ℕ) (following : List Line) (ending : Ending)
      → MayEnd dialect A t done taken following ending → MayEnd dialect B t done taken following ending
  may_end_wider dialect t done taken following Whole h = h
  may_end_wider dialect t done taken following (InSearch cause) h =
      (h.0, may_cut_wider dialect t.share t.time _ taken following cause h.1)
  may_end_wider dialect t done taken following (InSolve report n cause) h =
      (h.0, h.1, may_cut_wider dialect t.share t.time _ taken following cause h.2)

  pub deepens_wider : (dialect : Dialect) (t : Task) (reports : List Report) (ending : Ending) (taken : List ℕ) (following : List Line)
      → Deepens dialect A t reports ending taken following → Deepens dialect B t reports ending taken following
  deepens_wider dialect t reports ending taken following h = record {
    valued = h.valued;
    ended = may_end_wider dialect t (length reports) taken following ending h.ended;
  }

  -- ---- UCI

  searches_wider : (state : UciState.State) (go : Go) (t : Task) (first : Move) (turn : Turn UciState.State) (following : List Line)
      (texts : List (List ℕ)) → UciSession.Searches A state go t first turn following texts
      → UciSession.Searches B state go t first turn following texts
  searches_wider state go t first turn following texts h = record {
    reports = h.reports;
    ending = h.ending;
    deepens = deepens_wider _ t h.reports h.ending _ following h.deepens;
    concludes = h.concludes;
  }

  mate_wider : (state : UciState.State) (go : Go) (last : ℕ) (first : Move) (turn : Turn UciState.State) (following : List Line)
      (answer : UciSession.MateAnswer) → UciSession.AnswersMate A state go last first turn following answer
      → UciSession.AnswersMate B state go last first turn following answer
  mate_wider state go last first turn following (Shown n s best) h = h
  mate_wider state go last first turn following (Unsettled n e) h =
      (h.0, h.1, searches_wider state go _ first turn following _ h.2)
  mate_wider state go last first turn following (Stopped n cause) h = (
    h.0,
    may_cut_wider Uci (share_of go state.threads) (time_for go (mover state.game))
        (solve_bound state.game.rules n (story state.game)) (readings turn.events) following cause h.1,
    h.2,
  )
  mate_wider state go last first turn following NoMate h = (h.0, searches_wider state go _ first turn following _ h.1)

  goes_wider : (perft mate : Option ℕ) (legal : List Move) (state : UciState.State) (go : Go) (turn : Turn UciState.State)
      (following : List Line) → UciSession.GoesBy perft mate legal A state go turn following
      → UciSession.GoesBy perft mate legal B state go turn following
  goes_wider (Some plies) mate legal state go turn following h = h
  goes_wider None mate [] state go turn following h = h
  goes_wider None (Some n) (first ∷ legal) state go turn following h =
      (h.0, mate_wider state go (last_mate n) first turn following h.0 h.1)
  goes_wider None None (first ∷ legal) state go turn following h = searches_wider state go _ _ turn following [] h

  answers_wider : (state : UciState.State) (turn : Turn UciState.State) (following : List Line) (command : Command)
      → UciSession.Answers A state turn following command → UciSession.Answers B state turn following command
  answers_wider state turn following (line.Go go) h = goes_wider go.perft go.mate (legal_in state.game) state go turn following h
  answers_wider state turn following command h = h

  -- ---- CECP

  thinks_wider : (thinking : Bool) (moves : List Move) (answer : CecpState.Answer) (turn : Turn CecpState.State) (following : List Line)
      → CecpSession.ThinksFrom thinking moves A answer turn following → CecpSession.ThinksFrom thinking moves B answer turn following
  thinks_wider true (first ∷ moves) answer turn following h = record {
    before = h.before;
    reports = h.reports;
    ending = h.ending;
    unstopped = h.unstopped;
    deepens = deepens_wider _ _ h.reports h.ending _ following h.deepens;
    posts = h.posts;
    concludes = h.concludes;
  }
  thinks_wider true [] answer turn following h = h
  thinks_wider false moves answer turn following h = h

pub uci_is_wider : IsWider uci
uci_is_wider A B f state turn following h = answers_wider A B f state turn following (command_of turn.line) h

pub cecp_is_wider : IsWider cecp
cecp_is_wider A B f state turn following h =
    thinks_wider A B f (CecpState.thinks (CecpSession.answer_of state turn.line).state)
    (legal_in (CecpSession.answer_of state turn.line).state.game) (CecpSession.answer_of state turn.line) turn following h
