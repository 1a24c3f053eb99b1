-- What is proved of forced wins by the rules of play, law by law.
use Rattle.std.specs.Prelude.{◌≡◌, ◌⊎◌, ◌↔◌, ℕ, suc, ◌≤◌, List, Bool, true, false, not, ◌&&◌, ◌||◌, Option, Some, None}
use Rattle.std.specs.List.{list_any, list_all}
use Rattle.foundation.specs.Member.{Member}
use Rattle.rules_model.specs.declared.board.Position.{Position}
use Rattle.rules_model.specs.declared.board.Repeat.{Repeat}
use Rattle.rules_model.specs.declared.board.Side.{Side}
use Rattle.rules_model.specs.declared.moves.Cause.{Cause}
use Rattle.rules_model.specs.declared.moves.Move.{Move}
use Rattle.rules_model.specs.declared.moves.Outcome.TheVariants.{Ongoing, Won, Drawn}
use Rattle.rules_model.specs.declared.rules.Rules.{Rules}
use Rattle.rules_model.specs.Repeats.{repeat_of}
use Rattle.rules_model.specs.Sides.{same_side}
use Rattle.rules_model.specs.Next.{next}
use Rattle.rules_model.specs.Legal.{legal, own_end}
use Rattle.rules_model.specs.Games.{Story, played, story_of, IsGame, result, is_run_out}
use Rattle.forced_wins.specs.declared.fact.Fact.{Fact}
use Rattle.forced_wins.specs.Facts.{IsTrueFact, Derives, IsGrounded}
use Rattle.forced_wins.specs.Games as AnyGame
use Rattle.forced_wins.specs.Lines as AnyLines
use Rattle.forced_wins.specs.Strategies.{IsGood, HasGood, SoundGood, IsUnsettled}
use Rattle.forced_wins.specs.Tables as Tables
use Rattle.forced_wins.specs.Tables.{Accessors}
use Rattle.forced_wins.specs.Views.{won_by, is_repetition, seen_by, as_any}
use Rattle.forced_wins.specs.Wins.{wins, is_in, blocked, near_end, near, near_root, IsInLimit}

-- ---- turns

-- the game is ongoing, and `a` is to move, or the other side is
pub record IsAttack (rules : Rules) (g : Story) (a : Side) : Type 0 where
  pub ongoing : result rules g ≡ Ongoing
  pub turn : same_side g.last.side a ≡ true

pub record IsDefence (rules : Rules) (g : Story) (a : Side) : Type 0 where
  pub ongoing : result rules g ≡ Ongoing
  pub turn : same_side g.last.side a ≡ false

-- the position without its history is ongoing, and `a` is to move, or the other side is
pub record IsNearAttack (rules : Rules) (barred : List Repeat) (p : Position) (a : Side) : Type 0 where
  pub ongoing : near_end rules barred a p ≡ None
  pub turn : same_side p.side a ≡ true

pub record IsNearDefence (rules : Rules) (barred : List Repeat) (p : Position) (a : Side) : Type 0 where
  pub ongoing : near_end rules barred a p ≡ None
  pub turn : same_side p.side a ≡ false

-- some legal move of the position passes, and each does
abbrev pub some_legal : Rules → Position → (Move → Bool) → Bool
some_legal rules p test = list_any test (legal rules (repeat_of p))

abbrev pub each_legal : Rules → Position → (Move → Bool) → Bool
each_legal rules p test = list_all test (legal rules (repeat_of p))

-- ---- wins

-- `a` wins the game by n moves after the move
abbrev pub wins_after : Rules → ℕ → Story → Side → Move → Bool
wins_after rules n g a m = wins rules n (played rules g m) a

-- an ended game is won by a win of the attacker that is no repetition; without a move of its own it wins no ongoing
-- game where it is to move; else it needs some legal move; and each legal move of the other side must leave the game
-- won
pub record WinSentences (rules : Rules) (n : ℕ) (g : Story) (a : Side) : Type 0 where
  pub won : (s : Side) (c : Cause) → result rules g ≡ Won s c →
      wins rules n g a ≡ (same_side s a && not (is_repetition c))
  pub drawn : (c : Cause) → result rules g ≡ Drawn c → wins rules n g a ≡ false
  pub no_move : IsAttack rules g a → wins rules 0 g a ≡ false
  pub attack : IsAttack rules g a → wins rules (suc n) g a ≡ some_legal rules g.last (wins_after rules n g a)
  pub defence : IsDefence rules g a → wins rules n g a ≡ each_legal rules g.last (wins_after rules n g a)

-- ---- near wins

-- how the position ends by itself: None where it does not, else whether `a` has won
abbrev pub own_win : Rules → Position → Side → Option Bool
own_win rules p a = won_by a (own_end rules (repeat_of p))

-- its repeat is barred, or its counter has run out
abbrev pub is_cut_off : Rules → List Repeat → Position → Bool
is_cut_off rules barred p = is_in barred (repeat_of p) || is_run_out rules p.counter

-- `a` wins the position by n moves after the move, where the repeats are barred
abbrev pub near_after : Rules → ℕ → Position → List Repeat → Side → Move → Bool
near_after rules n p barred a m = near rules n (next rules p m) barred a

-- an end by itself decides; else a position that is cut off is lost; else the moves decide, as for wins
pub record NearSentences (rules : Rules) (n : ℕ) (p : Position) (b : List Repeat) (a : Side) : Type 0 where
  pub ended : (won : Bool) → own_win rules p a ≡ Some won → near rules n p b a ≡ won
  pub cut_off : own_win rules p a ≡ None → is_cut_off rules b p ≡ true → near rules n p b a ≡ false
  pub ongoing : own_win rules p a ≡ None → is_cut_off rules b p ≡ false → near_end rules b a p ≡ None
  pub no_move : IsNearAttack rules b p a → near rules 0 p b a ≡ false
  pub attack : IsNearAttack rules b p a → near rules (suc n) p b a ≡ some_legal rules p (near_after rules n p b a)
  pub defence : IsNearDefence rules b p a → near rules n p b a ≡ each_legal rules p (near_after rules n p b a)

-- the same after the first move of a game, where the repeats that the game has used up are barred
abbrev pub near_after_root : Rules → ℕ → Story → Side → Move → Bool
near_after_root rules n g a = near_after rules n g.last (blocked rules g) a

-- the result of an ended game decides; else what follows the first move is looked at without history. A root whose
-- repeat is not barred is looked at as any other position, whether the game has ended or not.
pub record RootSentences (rules : Rules) (n : ℕ) (g : Story) (a : Side) : Type 0 where
  pub ended : (won : Bool) → won_by a (result rules g) ≡ Some won → near_root rules n g a ≡ won
  pub no_move : IsAttack rules g a → near_root rules 0 g a ≡ false
  pub attack : IsAttack rules g a → near_root rules (suc n) g a ≡ some_legal rules g.last (near_after_root rules n g a)
  pub defence : IsDefence rules g a → near_root rules n g a ≡ each_legal rules g.last (near_after_root rules n g a)
  pub unbarred : is_in (blocked rules g) (repeat_of g.last) ≡ false →
      near_root rules n g a ≡ near rules n g.last (blocked rules g) a

-- a win is a near win, and where the counter cannot run out the two are equal
pub record WinsAreNear (rules : Rules) (n : ℕ) (g : Story) (a : Side) : Type 0 where
  pub always : wins rules n g a ≡ true → near_root rules n g a ≡ true
  pub in_limit : IsInLimit rules n g → wins rules n g a ≡ near_root rules n g a

-- what is won within k moves is won within n
pub record WinsGrow (rules : Rules) (a : Side) (k n : ℕ) : Type 0 where
  pub wins : (g : Story) → wins rules k g a ≡ true → wins rules n g a ≡ true
  pub near_roots : (g : Story) → near_root rules k g a ≡ true → near_root rules n g a ≡ true
  pub near_wins : (p : Position) (b : List Repeat) → near rules k p b a ≡ true → near rules n p b a ≡ true

-- q has the repeat of p, at its counter or a lower one
pub record IsLower (p q : Position) : Type 0 where
  pub repeat : repeat_of q ≡ repeat_of p
  pub counter : q.counter ≤ p.counter

-- ---- facts

abbrev pub AreTrueFacts : Rules → List Repeat → Side → List Fact → Type 0
AreTrueFacts rules barred a known = (k : Fact) → Member k known → IsTrueFact rules barred a k

-- what derives from the known facts is true, and so is a fact that is grounded on them
pub record TruthFollows (rules : Rules) (b : List Repeat) (a : Side) (known : List Fact) : Type 0 where
  pub derived : (p : Position) (f : Fact) → Derives rules b a known p f → IsTrueFact rules b a f
  pub grounded : (f : Fact) → IsGrounded rules b a known f → IsTrueFact rules b a f

-- each of the repeats is one of the others
abbrev pub AreAmong : List Repeat → List Repeat → Type 0
AreAmong xs ys = (x : Repeat) → is_in xs x ≡ true → is_in ys x ≡ true

-- when the barred repeats change, wins stay true where all that are barred now were before, and refutations where all
-- that were barred still are
pub record TruthIsKept (rules : Rules) (a : Side) (old new : List Repeat) (f : Fact) : Type 0 where
  pub wins : f.wins ≡ true → AreAmong new old → IsTrueFact rules old a f → IsTrueFact rules new a f
  pub refutes : f.wins ≡ false → AreAmong old new → IsTrueFact rules old a f → IsTrueFact rules new a f

-- ---- strategies

abbrev pub GoodStrategiesWin : {N E : Type 0} → Rules → Accessors Position Move N E → Type 0
GoodStrategiesWin {N = N} rules tb =
    (g : Story) (a : Side) (n : ℕ) (of : Side) (nodes : List N) →
    IsGood rules tb g a n of nodes → wins rules n g a ≡ true

-- the game is one from a sound start by legal moves
pub record WasPlayed (rules : Rules) (g : Story) : Type 0 where
  pub start : Position
  pub moves : List Move
  pub game : IsGame rules start moves
  pub is : story_of rules start moves ≡ g

-- inside the limit a good strategy exists exactly where the game is won, and a near win has one or is unsettled
pub record HasStrategies (rules : Rules) (n : ℕ) (g : Story) (a : Side) : Type 0 where
  pub in_limit : IsInLimit rules n g → HasGood rules n g a ↔ (wins rules n g a ≡ true)
  pub settled : near_root rules n g a ≡ true → HasGood rules n g a ⊎ IsUnsettled rules n g a

-- and it can be written with sound positions alone, each with the number 1 and a counter of at most 9,999
pub record HasSoundStrategies (rules : Rules) (n : ℕ) (g : Story) (a : Side) : Type 0 where
  pub in_limit : IsInLimit rules n g → wins rules n g a ≡ true → SoundGood rules n g a
  pub settled : near_root rules n g a ≡ true → SoundGood rules n g a ⊎ IsUnsettled rules n g a

-- ---- the rules as any game

-- what the rules of play meet as `a` sees them
pub record IsAnyGame (rules : Rules) (a : Side) : Type 0 where
  pub laws : AnyGame.GameLaws Position Repeat Move (seen_by rules a)
  pub table_laws : AnyGame.TableLaws Position Repeat Move (seen_by rules a)
  pub played : (g : Story) → WasPlayed rules g → AnyGame.IsPlayed (seen_by rules a) (as_any g)

-- the definitions by the rules are those of any game, except that with a fold of 1 more is blocked there
pub record MeansTheSame (rules : Rules) (n : ℕ) (g : Story) (a : Side) : Type 0 where
  pub wins : wins rules n g a ≡ AnyGame.wins (seen_by rules a) n (as_any g)
  pub near_root : near_root rules n g a ≡ AnyGame.near_root (seen_by rules a) n (as_any g)
  pub near : (p : Position) (b : List Repeat) → near rules n p b a ≡ AnyGame.near (seen_by rules a) (is_in b) n p
  pub blocked : (x : Repeat) → (rules.n_fold ≡ 1 → ⊥) →
      is_in (blocked rules g) x ≡ AnyGame.blocked (seen_by rules a) (as_any g) x
  pub unsettled : AnyLines.IsUnsettled Position Repeat Move (seen_by rules a) n (as_any g) → IsUnsettled rules n g a

-- a good strategy of the game as its attacker sees it is one by the rules
abbrev pub GoodIsGood : {N E : Type 0} → Rules → Accessors Position Move N E → Type 0
GoodIsGood {N = N} rules tb =
    (g : Story) (a : Side) (n : ℕ) (nodes : List N) →
    Tables.IsGood (seen_by rules a) tb true nodes (as_any g) n → IsGood rules tb g a n a nodes
