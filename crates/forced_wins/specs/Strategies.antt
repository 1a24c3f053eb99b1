-- Good strategies by the rules of play, and the lines and evidence of a win that stays unsettled.
use Rattle.std.specs.Prelude.{◌≡◌, ◌⊎◌, ℕ, ◌+◌, ◌-◌, ◌*◌, ◌<◌, ◌≤◌, List, [], ◌∷◌, length, true, slice_get, if◌then◌else◌, Some}
use Rattle.foundation.specs.Member.{Member}
use Rattle.rules_model.specs.declared.board.Position.{Position}
use Rattle.rules_model.specs.declared.board.Repeat.{Repeat}
use Rattle.rules_model.specs.declared.board.Side.{Side}
use Rattle.rules_model.specs.declared.moves.Move.{Move}
use Rattle.rules_model.specs.declared.rules.Rules.{Rules}
use Rattle.rules_model.specs.Repeats.{repeat_of}
use Rattle.rules_model.specs.Sides.{same_side}
use Rattle.rules_model.specs.Next.{next}
use Rattle.rules_model.specs.Legal.{legal}
use Rattle.rules_model.specs.Games.{Story, history, times}
use Rattle.rules_model.specs.Sound.{is_sound}
use Rattle.forced_wins.specs.PlainTables.{Node, plain}
use Rattle.forced_wins.specs.Tables as Tables
use Rattle.forced_wins.specs.Tables.{Accessors, Verdict, Wins}
use Rattle.forced_wins.specs.Views.{seen_by, as_any}
use Rattle.forced_wins.specs.Wins.{near, near_root, blocked}

-- the verdict on the nodes of a strategy of the attacker `of`, for a win of the game by `a` within n moves
abbrev pub verdict : {N E : Type 0} →
    Rules → Accessors Position Move N E → Story → Side → ℕ → Side → List N → Verdict Move
verdict rules tb g a n of nodes = Tables.verdict (seen_by rules a) tb (same_side of a) nodes (as_any g) n

-- the strategy is good: no fault stands in it
abbrev pub IsGood : {N E : Type 0} → Rules → Accessors Position Move N E → Story → Side → ℕ → Side → List N → Type 0
IsGood rules tb g a n of nodes = verdict rules tb g a n of nodes ≡ Wins

-- the attacker has one, of plain nodes
abbrev pub HasGood : Rules → ℕ → Story → Side → Type 0
HasGood rules n g a = (nodes : List (Node Position Move)) × IsGood rules plain g a n a nodes

-- a position as strategies have it: sound, with the number 1
pub record IsWritten (rules : Rules) (p : Position) : Type 0 where
  pub sound : is_sound rules p ≡ true
  pub number : p.number ≡ 1
  pub counter : p.counter ≤ 9999

-- a good strategy of the attacker, with such positions alone
pub record SoundGood (rules : Rules) (n : ℕ) (g : Story) (a : Side) : Type 0 where
  pub nodes : List (Node Position Move)
  pub good : IsGood rules plain g a n a nodes
  pub written : (v : Node Position Move) → Member v nodes → IsWritten rules v.position

-- ---- lines

-- how many of n moves the attacker has left after a move from p
abbrev pub moves_left : ℕ → Position → Side → ℕ
moves_left n p a = if same_side p.side a then n - 1 else n

-- the moves are legal in turn, the attacker makes at most n of them, and each position after p is won by the moves left
abbrev pub IsWonAlong : Rules → List Repeat → Side → ℕ → Position → List Move → Type 0
IsWonAlong rules barred a n p [] = Unit {0}
IsWonAlong rules barred a n p (m ∷ ms) =
    Member m (legal rules (repeat_of p))
    × (same_side p.side a ≡ true → 0 < n)
    × (near rules (moves_left n p a) (next rules p m) barred a ≡ true)
    × IsWonAlong rules barred a (moves_left n p a) (next rules p m) ms

-- the position after the moves
abbrev pub behind : Rules → Position → List Move → Position
behind rules p [] = p
behind rules p (m ∷ ms) = behind rules (next rules p m) ms

-- at most 2n + 1 legal moves lead from the game to the repeat at the counter, by positions that are still won
pub record OnWin (rules : Rules) (n : ℕ) (g : Story) (a : Side) (r : Repeat) (c : ℕ) : Type 0 where
  pub line : List Move
  pub short : length line ≤ 2 * n + 1
  pub won : IsWonAlong rules (blocked rules g) a n g.last line
  pub repeat : repeat_of (behind rules g.last line) ≡ r
  pub counter : (behind rules g.last line).counter ≡ c

-- the root's own repeat stands twice
abbrev pub StandsAgain : Story → Repeat → List ℕ → Type 0
StandsAgain g x counters = (x ≡ repeat_of g.last) × (2 ≤ length counters)

-- another stands so often that a table of them all has too many
abbrev pub StandsTooOften : Rules → Story → Repeat → List ℕ → Type 0
StandsTooOften rules g x counters =
    (x ≡ repeat_of g.last → ⊥) × (0 < rules.n_fold) × (rules.n_fold ≤ length counters + times x (history g))

-- what keeps a near win from having a good strategy near the move-count limit: one repeat at different counters, on
-- winning lines
pub record IsUnsettled (rules : Rules) (n : ℕ) (g : Story) (a : Side) : Type 0 where
  pub near_win : near_root rules n g a ≡ true
  pub counted : 0 < rules.n_move
  pub close : 2 * rules.n_move ≤ g.last.counter + 2 * n
  pub repeat : Repeat
  pub counters : List ℕ
  pub differ : (i j c : ℕ) → slice_get counters i ≡ Some c → slice_get counters j ≡ Some c → i ≡ j
  pub on_lines : (c : ℕ) → Member c counters → OnWin rules n g a repeat c
  pub many : StandsAgain g repeat counters ⊎ StandsTooOften rules g repeat counters
