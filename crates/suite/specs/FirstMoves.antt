-- The first moves by which the side that is to move wins a game, each within how many moves; or why the game is not
-- asked.
use Rattle.std.specs.Prelude.{ℕ, suc, ◌-◌, List, [], ◌∷◌, length, nat_lt, not, Option, Some, None, Result, Ok, Err, codes, if◌then◌else◌}
use Rattle.std.specs.List.{flat_map}
use Rattle.std.specs.Option.{option_map}
use Rattle.foundation.specs.Count.{first_below}
use Rattle.rules_model.specs.declared.moves.Move.{Move}
use Rattle.rules_model.specs.declared.rules.Rules.{Rules}
use Rattle.rules_model.specs.Ends.{is_ongoing}
use Rattle.rules_model.specs.Games.{Story, played, result}
use Rattle.game_play.specs.Played.{Played, legal_in, story}
use Rattle.game_play.specs.declared.game.TheConstants.{MOST_PLIES}
use Rattle.mate_search.specs.Least.{is_counted}
use Rattle.suite.specs.declared.keys_fault.KeysFault.{KeysFault}
use Rattle.suite.specs.declared.keys_fault.KeysFault.TheVariants.{NearCount, Ended, TooLong}
use Rattle.suite.specs.declared.first_moves.Key.{Key}
use Rattle.suite.specs.Winning.{side_wins}

-- the least number of moves from 1 to n within which the side that is to move wins with this move, the move among them:
-- one more than the least number within which it wins the game after the move
abbrev pub moves_by : Rules → ℕ → Story → Move → Option ℕ
moves_by rules n g m = option_map suc (first_below (side_wins rules (played rules g m) g.last.side) n)

-- the move with its number, where it wins
abbrev pub key_by : Move → Option ℕ → List Key
key_by m None = []
key_by m (Some k) = record { chosen = m; moves = k } ∷ []

-- those of moves, in their order
abbrev pub keys_among : Rules → ℕ → Story → List Move → List Key
keys_among rules n g ms = flat_map (λ m. key_by m (moves_by rules n g m)) ms

-- the most plies of a game after which a move and a reply can be kept
abbrev pub most_plies : ℕ
most_plies = MOST_PLIES - 2

-- why a game is not asked: it is not ongoing, or else the move-count rule could end it within n moves, or else it is
-- too long
unfoldable pub fault_of : ℕ → Played → Option KeysFault
fault_of n g =
    if not (is_ongoing (result g.rules (story g))) then Some Ended else
    if is_counted g.rules n (story g).last then Some NearCount else
    if nat_lt most_plies (length g.moves) then Some TooLong else None

abbrev pub unless_fault : Option KeysFault → List Key → Result (List Key) KeysFault
unless_fault None keys = Ok keys
unless_fault (Some fault) keys = Err fault

-- the legal moves by which the side that is to move wins within n moves, in the order of their texts; or why the game
-- is not asked
abbrev pub mate_keys : ℕ → Played → Result (List Key) KeysFault
mate_keys n g = unless_fault (fault_of n g) (keys_among g.rules n (story g) (legal_in g))

-- the type's name, the fault's number and its name
abbrev pub keys_fault_text : KeysFault → List ℕ
keys_fault_text NearCount = codes "KeysFault 1 NearCount"
keys_fault_text Ended = codes "KeysFault 2 Ended"
keys_fault_text TooLong = codes "KeysFault 3 TooLong"
