-- What `go` asks of a game, as the code keeps it while it searches.
use Rattle.std.specs.Prelude.{◌≡◌, ℕ, ◌*◌, ◌-◌, ◌≤◌, Bool, true, false, List, [], ◌∷◌, Option, Some, None}
use Rattle.std.specs.Borrow.{Bor}
use Rattle.std.specs.List.{filter}
use Rattle.std.specs.Option.{option_copied, option_map}
use Rattle.foundation.specs.Cuts.{is_blank, parts_after}
use Rattle.game_play.specs.Played.{Played, legal_in}
use Rattle.game_text.specs.Playing.{is_word}
use Rattle.rules_model.specs.declared.moves.Move.{Move}
use Rattle.rules_model.specs.declared.rules.Rules.{Rules}
use Rattle.rules_model.specs.Sound.{is_sound}
use Rattle.session_model.specs.declared.limits.TheConstants.{MOST_MATE}
use Rattle.session_model.specs.Mates.{mover, position_at}
use Rattle.session_model.specs.Thinking.{Task, Mates}
use Rattle.session_model.specs.UciSession.{MateAnswer, Shown, Unsettled, Stopped, NoMate}
use Rattle.session_model.specs.UciGo.{Go, is_held, last_depth, last_mate, roots_of, share_of, time_for}
use Rattle.session_model.specs.UciState.{State}
use Rattle.session_model.specs.UciTexts.{depth_line, no_best_line, no_mate_line, perft_line, stopped_line, unsettled_line}
use Rattle.uci_front.specs.declared.plan.GoPlan.{GoPlan}

-- the words of the text after a command word
abbrev pub words_said : Option (Bor (List ℕ)) → List (List ℕ)
words_said rest = filter is_word (parts_after is_blank (option_copied rest))

-- what is said at once, by the plies, the legal moves, and whether a best move is held back
abbrev pub SaidBy : Played → Option ℕ → List Move → Bool → Option (List ℕ) → Type 0
SaidBy g (Some plies) legal holds text = text ≡ Some (perft_line plies g)
SaidBy g None [] true text = text ≡ None
SaidBy g None [] false text = text ≡ Some no_best_line
SaidBy g None (m ∷ ms) holds text = text ≡ None

abbrev pub SaidAtOnce : Played → GoPlan → Option (List ℕ) → Type 0
SaidAtOnce g plan text = SaidBy g plan.perft plan.legal plan.holds text

-- where `perft` is asked, of 1 to 9 plies
abbrev pub ArePlies : Option ℕ → Type 0
ArePlies None = Unit {0}
ArePlies (Some plies) = (1 ≤ plies) × (plies ≤ 9)

-- the moves and limits are those that this `go` asks in this state
pub record IsPlan (state : State) (go : Go) (plan : GoPlan) : Type 0 where
  pub legal_is : plan.legal ≡ legal_in state.game
  pub roots_are : plan.roots.items ≡ roots_of go (legal_in state.game)
  pub depths_is : plan.depths ≡ last_depth go
  pub mate_is : plan.mate ≡ option_map last_mate go.mate
  pub perft_is : plan.perft ≡ go.perft
  pub plies : ArePlies plan.perft
  pub share_is : plan.share ≡ share_of go state.threads
  pub time_is : plan.time ≡ time_for go (mover state.game)
  pub held_is : plan.holds ≡ is_held go (mover state.game)

-- it is what some `go` asks in this state
abbrev pub IsAsked : State → GoPlan → Type 0
IsAsked state plan = (go : Go) × IsPlan state go plan

-- the first legal move
abbrev pub BeginsWith : List Move → Move → Type 0
BeginsWith legal first = (more : List Move) × (legal ≡ first ∷ more)

-- what is searched, one depth after another
abbrev pub plan_task : State → GoPlan → Task
plan_task state plan = record {
  game = state.game;
  roots = plan.roots.items;
  depths = plan.depths;
  share = plan.share;
  time = plan.time;
}

-- what is told of a mate that was looked for, up to so many moves
abbrev pub mate_said : Rules → ℕ → MateAnswer → List ℕ
mate_said rules last (Shown n s best) = depth_line (2 * n - 1) (Mates n s) best
mate_said rules last (Unsettled n e) = unsettled_line rules e
mate_said rules last (Stopped n cause) = stopped_line
mate_said rules last NoMate = no_mate_line last

-- the position that the line names is sound
abbrev pub IsSayable : Rules → MateAnswer → Type 0
IsSayable rules (Shown n s best) = (1 ≤ n) × (n ≤ MOST_MATE)
IsSayable rules (Unsettled n e) = is_sound rules (position_at e.repeat e.first) ≡ true
IsSayable rules (Stopped n cause) = Unit {0}
IsSayable rules NoMate = Unit {0}
