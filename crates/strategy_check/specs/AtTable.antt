-- The rows of the verdict at a table: the game, its attacker and the nodes of a strategy.
use Rattle.std.specs.Prelude.{◌≡◌, ℕ, Bool, true, Option, List}
use Rattle.rules_model.specs.declared.board.Position.{Position}
use Rattle.rules_model.specs.declared.moves.Move.{Move}
use Rattle.rules_model.specs.Games as Games
use Rattle.rules_model.specs.Legal as Legal
use Rattle.rules_model.specs.Repeats.{repeat_of}
use Rattle.rules_model.specs.Sound.{is_sound}
use Rattle.forced_wins.specs.Games as AnyGame
use Rattle.forced_wins.specs.Tables.{Verdict}
use Rattle.forced_wins.specs.Views as Views
use Rattle.game_play.specs.Played.{story}
use Rattle.strategy.specs.declared.nodes.Edge.{Edge}
use Rattle.strategy.specs.declared.nodes.Node.{Node}
use Rattle.strategy_check.specs.declared.places.Places.{Places}
use Rattle.strategy_check.specs.declared.table.Table.{Table}
use Rattle.strategy_check.specs.Buckets as Buckets
use Rattle.strategy_check.specs.Rows as Rows
use Rattle.strategy_check.specs.Steps as Steps

-- the position is sound for the rules of the game
abbrev pub IsSound : Table → Position → Type 0
IsSound t p = is_sound t.game.now.rules p ≡ true

-- the places are those of the table's nodes, by the key for its rules
pub record IsIndex (t : Table) (places : Places) : Type 0 where
  pub key : places.by ≡ Buckets.key_for t.game.now.rules.n_fold
  pub index : Buckets.IsIndex places.by t.nodes.now places.buckets.items

abbrev pub legal : Table → Position → List Move
legal t p = Legal.legal t.game.now.rules (repeat_of p)

-- ---- ends

abbrev pub own_end : Table → Position → Option Bool
own_end t p = Views.won_by t.attacker (Legal.own_end t.game.now.rules (repeat_of p))

abbrev pub run_out : Table → ℕ → Bool
run_out t counter = AnyGame.run_out (Views.seen_by t.game.now.rules t.attacker) counter

abbrev pub is_repeated : Table → Bool
is_repeated t = Games.is_repeated t.game.now.rules (story t.game.now)

abbrev pub is_cut : Table → Bool
is_cut t = Rows.is_cut t.game.now.rules t.attacker (story t.game.now)

abbrev pub node_end : Table → Node → Option Bool
node_end t v = Rows.node_end t.game.now.rules t.attacker v

abbrev pub not_won : Table → ℕ → Node → Bool
not_won t i v = Rows.not_won t.game.now.rules t.attacker (story t.game.now) i v

-- ---- edges

abbrev pub step : Table → Node → Edge → Option Bool
step t v e = Steps.step t.game.now.rules t.attacker t.nodes.now v e

abbrev pub steps : Table → Node → Option Bool
steps t v = Steps.steps t.game.now.rules t.attacker t.nodes.now v v.edges

abbrev pub wrong_move : Table → Node → Bool
wrong_move t v = Rows.wrong_move t.game.now.rules t.attacker t.nodes.now v

abbrev pub missing_reply : Table → Node → Option Move
missing_reply t v = Rows.missing_reply t.game.now.rules t.attacker v

abbrev pub bad_rank : Table → Node → Bool
bad_rank t v = Rows.bad_rank t.game.now.rules t.attacker t.nodes.now v

abbrev pub bad_counter : Table → Node → Bool
bad_counter t v = Rows.bad_counter t.game.now.rules t.attacker t.nodes.now v

-- ---- repeats

abbrev pub is_root_again : Table → Node → Bool
is_root_again t v = Rows.is_root_again t.game.now.rules t.attacker t.nodes.now v

abbrev pub stands_often : Table → Node → Bool
stands_often t v = Rows.stands_often t.game.now.rules t.attacker t.nodes.now (story t.game.now) v

abbrev pub repeats : Table → ℕ → Node → Bool
repeats t i v = Rows.repeats_at t.game.now.rules t.attacker t.nodes.now (story t.game.now) i v

-- ---- all together

abbrev pub root_fits : Table → ℕ → Bool
root_fits t n = Rows.root_fits t.game.now.rules t.attacker t.nodes.now (story t.game.now) n

abbrev pub node_verdict : Table → ℕ → Node → Verdict Move
node_verdict t i v = Rows.node_verdict t.game.now.rules t.attacker t.nodes.now (story t.game.now) i v

-- of the nodes from the place i on
abbrev pub nodes_verdict : Table → ℕ → List Node → Verdict Move
nodes_verdict t i vs = Rows.nodes_verdict t.game.now.rules t.attacker t.nodes.now (story t.game.now) i vs
