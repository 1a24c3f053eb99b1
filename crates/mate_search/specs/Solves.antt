-- What a whole solve answers, and what it did meanwhile.
use Rattle.std.specs.Prelude.{◌≡◌, ◌⊎◌, ◌↔◌, ℕ, List, Option, Some, None, false}
use Rattle.io_ports.specs.declared.dialect.Dialect.{Dialect}
use Rattle.io_ports.specs.declared.limits.Limits.{Limits}
use Rattle.io_ports.specs.declared.limits.Stopped.TheVariants as stopped
use Rattle.io_ports.specs.declared.ports.Ports.{Ports}
use Rattle.rules_model.specs.declared.board.Side.{Side}
use Rattle.forced_wins.specs.Wins.{wins}
use Rattle.game_play.specs.Played.{Played, story}
use Rattle.evaluation.specs.Bounds.{solve_bound}
use Rattle.mate_core.specs.declared.frame.Frame.{Frame}
use Rattle.watching.specs.declared.halt.Cut.{Cut}
use Rattle.watching.specs.Stopping.{IsStop}
use Rattle.watching.specs.Watched.{World, Moment, moment, Gone}
use Rattle.mate_shards.specs.Views.{ShardPass, ShardsView}
use Rattle.mate_showing.specs.Answers.{IsEvidence, IsFrameOf, IsShown}
use Rattle.mate_search.specs.Handed.{RootIsRefuted}
use Rattle.mate_search.specs.declared.answer.Mate.{Mate}
use Rattle.mate_showing.specs.declared.answer.Settled.{Settled}
use Rattle.mate_showing.specs.declared.answer.Settled.TheVariants as settled
use Rattle.mate_search.specs.declared.answer.Mate.TheVariants as mate

-- the game's frame for the side
pub record IsFrameFor (game : Played) (attacker : Side) (f : Frame) : Type 0 where
  pub frame : IsFrameOf game f
  pub attacker_is : f.attacker ≡ attacker

-- how many nodes the worker in the caller enters at most
abbrev pub bound_of : Played → ℕ → ℕ
bound_of game n = solve_bound game.rules n (story game)

-- the answer for a win of the game by the side within n moves is right, unless it is a cut
abbrev pub IsRightMate : Played → Side → ℕ → Mate → Type 0
IsRightMate game a n (mate.Shown s) = IsShown game.rules (story game) a n s
IsRightMate game a n mate.NoMate = wins game.rules n (story game) a ≡ false
IsRightMate game a n (mate.Unsettled x counters) = IsEvidence game.rules (story game) a n x counters
IsRightMate game a n (mate.Stopped why) = Unit {0}

-- it is shown, or there is no win, or the solve was cut
abbrev pub IsDecidedMate : Mate → Type 0
IsDecidedMate (mate.Shown s) = Unit {0}
IsDecidedMate mate.NoMate = Unit {0}
IsDecidedMate (mate.Unsettled x counters) = ⊥
IsDecidedMate (mate.Stopped why) = Unit {0}

-- it was not cut
abbrev pub IsUncut : Mate → Type 0
IsUncut (mate.Shown s) = Unit {0}
IsUncut mate.NoMate = Unit {0}
IsUncut (mate.Unsettled x counters) = Unit {0}
IsUncut (mate.Stopped why) = ⊥

-- what the shards alone answer: no win where the root's list has a fact that says so, and a cut elsewhere
pub record IsLookedUp (s : ShardsView) (passes : List ShardPass) (game : Played) (n : ℕ) (answer : Mate)
    : Type 0 where
  pub refuted : (answer ≡ mate.NoMate) ↔ RootIsRefuted s passes game n
  pub either : (answer ≡ mate.NoMate) ⊎ (answer ≡ mate.Stopped (stopped.Quota 0))

-- the answer of a solve that was not cut
abbrev pub mate_of : Settled → Mate
mate_of (settled.Shown s) = mate.Shown s
mate_of settled.NoMate = mate.NoMate
mate_of (settled.Unsettled x counters) = mate.Unsettled x counters

-- nothing, or this, cut the solve that answers so
abbrev pub IsAnswer : Option Cut → List ℕ → Mate → Type 0
IsAnswer None text (mate.Shown s) = Unit {0}
IsAnswer None text mate.NoMate = Unit {0}
IsAnswer None text (mate.Unsettled x counters) = Unit {0}
IsAnswer None text (mate.Stopped why) = ⊥
IsAnswer (Some why) text (mate.Shown s) = ⊥
IsAnswer (Some why) text mate.NoMate = ⊥
IsAnswer (Some why) text (mate.Unsettled x counters) = ⊥
IsAnswer (Some why) text (mate.Stopped stop) = IsStop why text stop

module _ {S K C : Type 0} (w : World S K C) where
  -- What a solve from a moment on took, wrote and read, and why it ended so; `entered` is how many nodes the worker in
  -- the caller entered.
  pub record Heard (dialect : Dialect) (limits : Limits) (a : Moment S K C) (source : S) (sink : K) (clock : C)
      (bound : ℕ) (answer : Mate) : Type 0 where
    pub entered : ℕ
    pub text : List ℕ
    pub why : Option Cut
    pub gone : Gone w dialect limits a (moment source sink clock entered) text bound why
    pub answers : IsAnswer why text answer

-- nothing was taken, written or read
pub record IsUnmoved {S K C G : Type 0} (ports ports' : Ports S K C G) : Type 0 where
  pub source_is : ports'.source.now ≡ ports.source.now
  pub sink_is : ports'.sink.now ≡ ports.sink.now
  pub clock_is : ports'.clock.now ≡ ports.clock.now
