-- What a search answers, and what it did meanwhile.
use Rattle.std.specs.Prelude.{◌≡◌, ℕ, ◌+◌, ◌≤◌, List, Option, Some, None}
use Rattle.rules_model.specs.declared.moves.Move.{Move}
use Rattle.io_ports.specs.declared.dialect.Dialect.{Dialect}
use Rattle.io_ports.specs.declared.limits.Limits.{Limits}
use Rattle.game_play.specs.Played.{Played, story}
use Rattle.evaluation.specs.Bounds.{search_bound}
use Rattle.watching.specs.declared.halt.Cut.{Cut}
use Rattle.watching.specs.Stopping.{IsStop}
use Rattle.watching.specs.Watched.{World, Moment, moment, Gone}
use Rattle.alpha_beta.specs.Bests.{IsBest}
use Rattle.alpha_beta.specs.declared.searching.Searched.{Searched}
use Rattle.alpha_beta.specs.declared.searching.Searched.TheVariants as searched

-- how many nodes a worker enters at most
abbrev pub bound_of : Played → ℕ → ℕ
bound_of game depth = search_bound game.rules depth (story game)

-- The greatest count of nodes of one worker: at least what the watch counted from one moment to another, and with one
-- worker that.
pub record IsCount (workers entered entered' nodes : ℕ) : Type 0 where
  pub least : entered' ≤ entered + nodes
  pub alone : workers ≡ 1 → entered' ≡ entered + nodes

-- Done: the value, a root move that attains it, and no more nodes than the bound
abbrev pub Finds : Played → ℕ → List Move → Searched → Type 0
Finds game depth roots (searched.Done value best nodes) =
    IsBest game depth roots value best × (nodes ≤ bound_of game depth)
Finds game depth roots (searched.Stopped why) = Unit {0}

-- nothing, or this, cut the search that answers so
abbrev pub IsAnswer : Option Cut → List ℕ → Searched → Type 0
IsAnswer None text (searched.Done value best nodes) = Unit {0}
IsAnswer None text (searched.Stopped why) = ⊥
IsAnswer (Some why) text (searched.Done value best nodes) = ⊥
IsAnswer (Some why) text (searched.Stopped stop) = IsStop why text stop

module _ {S K C : Type 0} (w : World S K C) where
  -- What a search from a moment on took, wrote and read, and why it ended so; `entered` is how many nodes the worker in
  -- the caller entered.
  pub record Heard (dialect : Dialect) (limits : Limits) (a : Moment S K C) (source : S) (sink : K) (clock : C)
      (bound : ℕ) (answer : Searched) : Type 0 where
    pub entered : ℕ
    pub text : List ℕ
    pub why : Option Cut
    pub gone : Gone w dialect limits a (moment source sink clock entered) text bound why
    pub answers : IsAnswer why text answer
