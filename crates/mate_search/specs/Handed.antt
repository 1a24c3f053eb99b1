-- Passes that are handed to a solve and handed back, and what they show of the root.
use Rattle.std.specs.Prelude.{◌≡◌, ℕ, List, Bool, false}
use Rattle.rules_model.specs.Repeats.{repeat_of}
use Rattle.forced_wins.specs.Wins.{is_in}
use Rattle.game_play.specs.Played.{Played, story}
use Rattle.mate_shards.specs.Answers.{SeeAnswer, SeeAnswerOrFull}
use Rattle.mate_shards.specs.Grown.{HaveGrown, HaveParts}
use Rattle.mate_shards.specs.Views.{ArePassesOf, ShardPass, ShardsView}

-- they are passes of the same shards, have seen as much or more, own what they owned, and have as many parts
pub record AreHandedBack (s : ShardsView) (before after : List ShardPass) : Type 0 where
  pub passes : ArePassesOf s after
  pub parts : (n : ℕ) → HaveParts n before → HaveParts n after
  pub grown : HaveGrown before after

-- the repeat of the game may stand once more without being a repetition
abbrev pub IsFree : ShardsView → Played → Type 0
IsFree s game = is_in s.frame.blocked (repeat_of (story game).last) ≡ false

-- where the root's repeat is free, its list has a fact that serves the root's query, or it is full
abbrev pub RootIsShared : ShardsView → List ShardPass → Played → ℕ → Type 0
RootIsShared s passes game n = IsFree s game
    → (wins : Bool) × SeeAnswerOrFull s passes wins (repeat_of (story game).last) (story game).last.counter n

-- the root's repeat is free, and its list has a fact by which it is not won
pub record RootIsRefuted (s : ShardsView) (passes : List ShardPass) (game : Played) (n : ℕ) : Type 0 where
  pub free : IsFree s game
  pub refuted : SeeAnswer s passes false (repeat_of (story game).last) (story game).last.counter n
