-- What stands just at a limit, what a search or a game forgets, and what a fault keeps.
use Rattle.std.proofs.Common.{◌≡◌, ℕ, ◌<◌, List, [], ◌∷◌, Some, None, Err, refl, ap, sym, subst, arith, inl}
use Rattle.std.specs.Prelude.{Option}
use Rattle.foundation.specs.Member.{Member}
use Rattle.io_ports.specs.declared.dialect.Dialect.{Dialect}
use Rattle.io_ports.specs.declared.dialect.Dialect.TheVariants.{Uci}
use Rattle.io_ports.specs.Lines.{Line}
use Rattle.io_ports.specs.Owing.{Lacks}
use Rattle.io_ports.specs.Source.{Endless, Polls}
use Rattle.rules_model.specs.declared.board.Side.{Side}
use Rattle.rules_model.specs.declared.moves.Move.{Move}
use Rattle.game_play.specs.Played.{Played}
use Rattle.strategy.specs.declared.nodes.Node.{Node}
use Rattle.strategy.specs.declared.nodes.Strategy.{Strategy}
use Rattle.watching.specs.Events.{Says}
use Rattle.session_model.specs.Mates.{IsShown}
use Rattle.session_model.specs.Thinking.{Task, Report, Cause, Interrupted, OutOfNodes, OutOfTime, MayCut, MayEnd, InSearch, InSolve, IsReport, IsShort}
use Rattle.session_model.specs.Turns.{Turn}
use Rattle.session_model.specs.UciGo.{Go}
use Rattle.session_model.specs.UciSession.{GoesBy, Sets, task_after_mate}
use Rattle.session_model.specs.UciState.{State, with_game}
use Rattle.session_model.specs.UciTexts.{error_line, perft_line}

-- ---- polls

-- one less than the bound may interrupt, the bound may not
one_less : Lacks (Polls 4) 5
one_less = omega arith

just_enough : Lacks (Polls 5) 5 → ⊥
just_enough h = absurd (omega arith)

-- so a line that stops a search cuts none that is covered
covered : (bound : ℕ) (dialect : Dialect) (share time : Option ℕ) (upto : ℕ) (taken : List ℕ) (following : List Line)
    → MayCut dialect (Lacks (Polls bound) bound) share time upto taken following Interrupted → ⊥
covered bound dialect share time upto taken following h = let few : bound < bound = h.0 in absurd (omega arith)

never : (dialect : Dialect) (share time : Option ℕ) (upto bound : ℕ) (taken : List ℕ) (following : List Line)
    → MayCut dialect (Lacks Endless bound) share time upto taken following Interrupted → ⊥
never dialect share time upto bound taken following h = h.0

-- ---- shares

share_below : IsShort (Some 4) 5
share_below = omega arith

share_enough : IsShort (Some 5) 5 → ⊥
share_enough h = absurd (omega arith)

-- ---- depths

module _ (A : Type 0) (dialect : Dialect) (t : Task) (taken : List ℕ) (following : List Line) where
  -- after all depths nothing is left to cut, neither a search nor a solve
  no_search_left : (cause : Cause) → MayEnd dialect A t t.depths taken following (InSearch cause) → ⊥
  no_search_left cause h = let less : t.depths < t.depths = h.0 in absurd (omega arith)

  no_solve_left : (report : Report) (n : ℕ) (cause : Cause) → MayEnd dialect A t t.depths taken following (InSolve report n cause) → ⊥
  no_solve_left report n cause h = let less : t.depths < t.depths = h.0 in absurd (omega arith)

-- depth 1 after `go mate` is cut by neither nodes nor time, whatever the line set
module _ (A : Type 0) (state : State) (done : ℕ) (taken : List ℕ) (following : List Line) where
  no_share_after_mate : MayEnd Uci A (task_after_mate state) done taken following (InSearch OutOfNodes) → ⊥
  no_share_after_mate h = h.1

  no_time_after_mate : MayEnd Uci A (task_after_mate state) done taken following (InSearch OutOfTime) → ⊥
  no_time_after_mate h = h.1

  no_share_in_its_solve : (report : Report) (n : ℕ) → MayEnd Uci A (task_after_mate state) done taken following (InSolve report n OutOfNodes) → ⊥
  no_share_in_its_solve report n h = h.2

  one_depth_after_mate : (task_after_mate state).depths ≡ 1
  one_depth_after_mate = refl

-- ---- numbers that are printed

-- nodes of more than 64 bits are no report
too_many_nodes : (t : Task) (depth : ℕ) (report : Report) → IsReport t depth report → report.nodes ≡ 18446744073709551616 → ⊥
too_many_nodes t depth report h is = let few = h.counted in absurd (omega (arith, is, few))

-- a node of more than 16 bits of rank is not shown
too_high : (g : Played) (n : ℕ) (side : Side) (s : Strategy) (v : Node) (vs : List Node) → IsShown g n side s → s.nodes ≡ v ∷ vs → v.rank ≡ 70000 → ⊥
too_high g n side s v vs h are is = let low = h.ranked v (subst (λ nodes. Member v nodes) (sym are) (inl refl)) in absurd (omega (arith, is, low))

-- ---- what is forgotten, and what is kept

-- a new game forgets the mate
new_game_forgets : (state : State) (g : Played) → (with_game state g).kept ≡ None
new_game_forgets state g = refl

-- `go perft` forgets it, too
perft_forgets : (plies : ℕ) (mate : Option ℕ) (legal : List Move) (state : State) (go : Go) (turn : Turn State) (following : List Line)
    → GoesBy (Some plies) mate legal ⊥ state go turn following → turn.after.kept ≡ None
perft_forgets plies mate legal state go turn following h = ap (λ after. after.kept) h.after_is

-- near miss: it does not keep the state as it was, where a mate is kept
perft_keeps_no_mate : (plies : ℕ) (mate : Option ℕ) (legal : List Move) (state : State) (go : Go) (line : Line) (following : List Line)
    → GoesBy (Some plies) mate legal ⊥ state go (record { line = line; events = Says (perft_line plies state.game) ∷ []; after = state }) following
    → state.kept ≡ None
perft_keeps_no_mate plies mate legal state go line following h = ap (λ after. after.kept) h.after_is

-- a fault keeps the whole state, the mate included, and says so
fault_keeps : (state : State) (turn : Turn State) (fault : List ℕ) → Sets turn state [] (Err fault)
    → (turn.after ≡ state) × (turn.events ≡ Says (error_line fault) ∷ [])
fault_keeps state turn fault h = (h.after_is, h.events_are)
