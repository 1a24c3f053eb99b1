-- A CECP thinking: what it posts, where it ends without a move, and the names of the variants.
use Rattle.std.proofs.Common.{◌≡◌, ℕ, List, [], ◌∷◌, ◌++◌, length, Some, None, Ok, Err, true, false, pos, refl, ap, arith, length-append}
use Rattle.std.specs.Prelude.{Option, codes}
use Rattle.std.specs.Fmt.{digits}
use Rattle.foundation.specs.Numbers.{are_digits, value_after}
use Rattle.io_ports.specs.declared.dialect.Dialect.TheVariants.{Cecp}
use Rattle.io_ports.specs.Lines.{Line, Text}
use Rattle.rules_model.specs.declared.moves.Move.{Move}
use Rattle.rules_model.specs.declared.moves.Move.TheVariants.{Go}
use Rattle.rules_model.specs.declared.moves.Promo.TheVariants.{Stays}
use Rattle.rules_model.specs.declared.rules.Rules.{Rules}
use Rattle.rules_model.specs.MoveText.{text_of}
use Rattle.rules_model.specs.Squares.{square_on}
use Rattle.variant_model.specs.declared.fault.SectionFault.TheVariants.{RefusedParent}
use Rattle.variant_rules.specs.Entries.{Named}
use Rattle.watching.specs.Events.{Event, Hears, Says, Reads, readings}
use Rattle.session_model.specs.CecpLines.{command_of}
use Rattle.session_model.specs.CecpSession.{Concludes, Posts, ThinksFrom, is_moveless, task_of}
use Rattle.session_model.specs.CecpState.{State, names_text, silent}
use Rattle.session_model.specs.Events.{after_reading, clocked}
use Rattle.session_model.specs.Numbers.{number_read}
use Rattle.session_model.specs.Thinking.{Report, Points, Ending, Whole, InSearch, InSolve, Interrupted, OutOfNodes, OutOfTime, MayEnd, last_best, reported}
use Rattle.session_model.specs.Turns.{Turn}

unfoldable thinking_opened : Unit {0}
unfolding are_digits value_after number_read command_of clocked after_reading digits text_of
thinking_opened = tt

-- ---- where it ends without a move

abbrev force : List Line
force = Text (codes "force") ∷ []

abbrev ping : List Line
ping = Text (codes "ping 1") ∷ []

stopped_by_force : is_moveless (InSearch Interrupted) force ≡ true
unfolding thinking_opened
stopped_by_force = refl

stopped_by_ping : is_moveless (InSearch Interrupted) ping ≡ false
unfolding thinking_opened
stopped_by_ping = refl

stopped_by_the_end : is_moveless (InSearch Interrupted) [] ≡ false
stopped_by_the_end = refl

-- the deadline came first: `force` is read after the move
out_of_time : is_moveless (InSearch OutOfTime) force ≡ false
out_of_time = refl

whole_before_force : is_moveless Whole force ≡ false
whole_before_force = refl

module _ (report : Report) where
  solve_stopped_by_force : is_moveless (InSolve report 1 Interrupted) force ≡ true
  unfolding thinking_opened
  solve_stopped_by_force = refl

  solve_stopped_by_ping : is_moveless (InSolve report 1 Interrupted) ping ≡ false
  unfolding thinking_opened
  solve_stopped_by_ping = refl

-- ---- what it posts

abbrev up : Move
up = Go (square_on 6 5) (square_on 6 6) Stays None

abbrev report_at : ℕ → Report
report_at clock = record { score = Points (pos 12); best = up; unsettled = None; nodes = 5; clock = clock }

-- TIME is 23 centiseconds, from the first reading to the one before the line
posted : Posts true (Reads 1000 ∷ Reads 1239 ∷ Says (codes "1 12 23 5 g6g7\n") ∷ []) (report_at 1239 ∷ [])
unfolding thinking_opened
posted = (refl, refl)

-- a line that is heard before that reading takes nothing from it
posted_after_a_line : Posts true (Reads 1000 ∷ Hears (Text []) ∷ Reads 1239 ∷ Says (codes "1 12 23 5 g6g7\n") ∷ []) (report_at 1239 ∷ [])
unfolding thinking_opened
posted_after_a_line = (refl, refl)

-- two depths, each after a reading of its own
posted_twice : Posts true (Reads 1000 ∷ Reads 1239 ∷ Says (codes "1 12 23 5 g6g7\n") ∷ Reads 1500 ∷ Says (codes "2 12 50 5 g6g7\n") ∷ []) (report_at 1239 ∷ report_at 1500 ∷ [])
unfolding thinking_opened
posted_twice = (refl, refl)

-- near miss: the first reading is the time of no line
posted_by_the_first : (text : List ℕ) (report : Report) → Posts true (Reads 1000 ∷ Says text ∷ []) (report ∷ []) → ⊥
unfolding thinking_opened
posted_by_the_first text report h = let wrong = h.1 in cc

abbrev first_clock : List (Option ℕ) → ℕ
first_clock [] = 0
first_clock (None ∷ more) = 0
first_clock (Some reading ∷ more) = reading

-- near miss: an earlier reading is not the time of the line
posted_early : clocked None (Reads 1000 ∷ Reads 1239 ∷ Says [] ∷ []) ≡ Some 1000 ∷ [] → ⊥
unfolding thinking_opened
posted_early h = let wrong : 1239 ≡ 1000 = ap first_clock h in absurd (omega (arith, wrong))

-- near miss: a reading from before a line that was heard while the depth was searched
read_too_soon : clocked None (Reads 1000 ∷ Reads 1239 ∷ Hears (Text []) ∷ Says [] ∷ []) ≡ Some 1239 ∷ [] → ⊥
unfolding thinking_opened
read_too_soon h = let wrong : 0 ≡ 1239 = ap first_clock h in absurd (omega (arith, wrong))

-- near miss: two lines after one reading, whatever the reports are
two_at_once : (one two : List ℕ) (first second : Report) → Posts true (Reads 1000 ∷ Says one ∷ Says two ∷ []) (first ∷ second ∷ []) → ⊥
unfolding thinking_opened
two_at_once one two first second h = let wrong = h.1 in cc

-- without thinking output nothing is written
silent_thinking : Posts false (Reads 1000 ∷ Reads 1239 ∷ []) (report_at 1239 ∷ [])
silent_thinking = refl

-- near miss
not_silent : (text : List ℕ) → Posts false (Reads 1000 ∷ Says text ∷ []) (report_at 1000 ∷ []) → ⊥
not_silent text h = cc

-- ---- the turn

abbrev first_of : Event → List Event → Event
first_of other [] = other
first_of other (event ∷ events) = event

abbrev turn_of : State → List Event → Turn State
turn_of state events = record { line = Text (codes "go"); events = events; after = state }

abbrev quiet : State → State
quiet state = record state { posts = false; sd = Some 3; st = None; level = None }

-- cut by `force` before the first depth: no move
given_up : (state : State) (first : Move) (moves : List Move)
    → ThinksFrom true (first ∷ moves) (Unit {0}) (silent (quiet state)) (turn_of (quiet state) (Reads 1000 ∷ [])) force
unfolding thinking_opened
given_up state first moves = record {
  before = Reads 1000 ∷ [];
  reports = [];
  ending = InSearch Interrupted;
  unstopped = (tt, tt);
  deepens = record { valued = tt; ended = (omega arith, (tt, refl)) };
  posts = refl;
  concludes = (refl, refl);
}

-- near miss: where nothing may interrupt it, a turn without a move is no thinking
one_event : (event : Event) (before : List Event) (text : List ℕ) → event ∷ [] ≡ before ++ Says text ∷ [] → event ≡ Says text
one_event event [] text h = ap (λ events. first_of event events) h
one_event event (other ∷ before) text h =
    let count = ap length h in let more = length-append before (Says text ∷ []) in absurd (omega (arith, count, more))

not_said : (reading : ℕ) (before : List Event) (text : List ℕ) → Reads reading ∷ [] ≡ before ++ Says text ∷ [] → ⊥
not_said reading before text h = let wrong = one_event (Reads reading) before text h in cc

without_a_move : (state : State) (first : Move) (reports : List Report) (ending : Ending) (before : List Event)
    → MayEnd Cecp ⊥ (task_of (quiet state)) (length reports) (readings before) force ending
    → Concludes (is_moveless ending force) (turn_of (quiet state) (Reads 1000 ∷ [])) before (quiet state) (last_best first (reported reports ending)) → ⊥
without_a_move state first reports Whole before ended h = not_said 1000 before _ h.0
without_a_move state first reports (InSearch Interrupted) before ended h = ended.1.0
without_a_move state first reports (InSearch OutOfNodes) before ended h = ended.1
without_a_move state first reports (InSearch OutOfTime) before ended h = not_said 1000 before _ h.0
without_a_move state first reports (InSolve report n Interrupted) before ended h = ended.2.0
without_a_move state first reports (InSolve report n OutOfNodes) before ended h = ended.2
without_a_move state first reports (InSolve report n OutOfTime) before ended h = not_said 1000 before _ h.0

not_given_up : (state : State) (first : Move) (moves : List Move)
    → ThinksFrom true (first ∷ moves) ⊥ (silent (quiet state)) (turn_of (quiet state) (Reads 1000 ∷ [])) force → ⊥
not_given_up state first moves h = without_a_move state first h.reports h.ending h.before h.deepens.ended h.concludes

-- ---- the names of variants

abbrev named : List ℕ → Rules → Named
named name rules = record { name = name; entry = Ok rules }

module _ (rules : Rules) where
  -- chess is `normal`
  two_names : names_text (named (codes "chess") rules ∷ named (codes "losalamos") rules ∷ []) ≡ codes "normal,losalamos"
  two_names = refl

  -- near miss: a variant that is refused has no name there
  refused_name : names_text (named (codes "chess") rules ∷ record { name = codes "losalamos"; entry = Err RefusedParent } ∷ []) ≡ codes "normal"
  refused_name = refl
