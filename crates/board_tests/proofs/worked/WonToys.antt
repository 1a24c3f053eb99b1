-- The toy game, computed.
use Rattle.std.proofs.Common.{◌≡◌, ℕ, ◌==◌, [], Bool, true, false, not, ◌&&◌, refl, ap, arith}
use Rattle.std.specs.Bool.{Decides}
use Rattle.std.proofs.lemmas.Bool.Decides.{Decides-eqb}
use Rattle.foundation.specs.Tests.{same_bool}
use Rattle.forced_wins.specs.Contests.{replies, attacks_by, forced}
use Rattle.forced_wins.specs.Games.{GameLaws, times, run_out, repeated, blocked, wins, near_root}
use Rattle.forced_wins.specs.PlainTables.{plain}
use Rattle.forced_wins.specs.Tables.{Wins, Root, WrongMove, MissingReply, BadRank, BadCounter, Repeats, NotWon, nodes_of, root_fits, wrong_move, missing_reply, bad_rank, bad_counter, repeats_at, not_won, node_verdict, nodes_verdict, verdict}
use Rattle.forced_wins.specs.Toy.{Spot, Place, roads, toy, from, good_table, wrong_move_table, missing_reply_table, bad_rank_table, bad_counter_table, repeats_table, not_won_table, over_seven_table, seven_stood}

-- ---- a win in two

two_moves : wins (toy 0 0) 2 (from 0 0) ≡ true
unfolding forced attacks_by replies repeated run_out times
two_moves = refl

not_one : wins (toy 0 0) 1 (from 0 0) ≡ false
unfolding forced attacks_by replies repeated run_out times
not_one = refl

-- ---- a stalemate trap: from spot 5 no number of moves wins

trapped : wins (toy 0 0) 3 (from 5 0) ≡ false
unfolding forced attacks_by replies repeated run_out times
trapped = refl

-- ---- a repetition that spoils a win: spot 7 would stand for the second time

twice_allowed : wins (toy 3 0) 2 seven_stood ≡ true
unfolding forced attacks_by replies repeated run_out times
twice_allowed = refl

spoilt : wins (toy 2 0) 2 seven_stood ≡ false
unfolding forced attacks_by replies repeated run_out times
spoilt = refl

-- and no near win, since the spot is barred
near_spoilt : near_root (toy 2 0) 2 seven_stood ≡ false
unfolding near_root forced attacks_by replies repeated run_out times blocked
near_spoilt = refl

-- ---- a counter that runs out: the mate at the limit counts, a ply later it is too late

in_time : wins (toy 0 3) 2 (from 0 0) ≡ true
unfolding forced attacks_by replies repeated run_out times
in_time = refl

too_late : wins (toy 0 3) 2 (from 0 1) ≡ false
unfolding forced attacks_by replies repeated run_out times
too_late = refl

-- ---- a good table

good : verdict (toy 0 0) plain true good_table (from 0 0) 2 ≡ Wins
unfolding verdict root_fits nodes_verdict node_verdict wrong_move missing_reply bad_rank bad_counter repeats_at not_won nodes_of repeated run_out times
good = refl

-- also where each spot may stand once more, and where the counter just suffices
good_counted : verdict (toy 2 3) plain true good_table (from 0 0) 2 ≡ Wins
unfolding verdict root_fits nodes_verdict node_verdict wrong_move missing_reply bad_rank bad_counter repeats_at not_won nodes_of repeated run_out times
good_counted = refl

-- ---- tables with one fault each. Where the game is not won, beside it, the law would be false without the verdict.

escaped : wins (toy 0 0) 2 (from 10 0) ≡ false
unfolding forced attacks_by replies repeated run_out times
escaped = refl

other_attacker : verdict (toy 0 0) plain false good_table (from 0 0) 2 ≡ Root
unfolding verdict root_fits nodes_verdict node_verdict wrong_move missing_reply bad_rank bad_counter repeats_at not_won nodes_of repeated run_out times
other_attacker = refl

too_few_moves : verdict (toy 0 0) plain true good_table (from 0 0) 1 ≡ Root
unfolding verdict root_fits nodes_verdict node_verdict wrong_move missing_reply bad_rank bad_counter repeats_at not_won nodes_of repeated run_out times
too_few_moves = refl

counter_above_root : verdict (toy 0 0) plain true good_table (from 0 1) 2 ≡ Root
unfolding verdict root_fits nodes_verdict node_verdict wrong_move missing_reply bad_rank bad_counter repeats_at not_won nodes_of repeated run_out times
counter_above_root = refl

no_node : verdict (toy 0 0) plain true [] (from 0 0) 2 ≡ Root
unfolding verdict root_fits nodes_verdict node_verdict wrong_move missing_reply bad_rank bad_counter repeats_at not_won nodes_of repeated run_out times
no_node = refl

illegal : verdict (toy 0 0) plain true wrong_move_table (from 5 0) 1 ≡ WrongMove 0
unfolding verdict root_fits nodes_verdict node_verdict wrong_move missing_reply bad_rank bad_counter repeats_at not_won nodes_of repeated run_out times
illegal = refl

unanswered : verdict (toy 0 0) plain true missing_reply_table (from 10 0) 2 ≡ MissingReply 1 14
unfolding verdict root_fits nodes_verdict node_verdict wrong_move missing_reply bad_rank bad_counter repeats_at not_won nodes_of repeated run_out times
unanswered = refl

equal_rank : verdict (toy 0 0) plain true bad_rank_table (from 0 0) 1 ≡ BadRank 0
unfolding verdict root_fits nodes_verdict node_verdict wrong_move missing_reply bad_rank bad_counter repeats_at not_won nodes_of repeated run_out times
equal_rank = refl

low_counter : verdict (toy 0 3) plain true bad_counter_table (from 0 1) 2 ≡ BadCounter 0
unfolding verdict root_fits nodes_verdict node_verdict wrong_move missing_reply bad_rank bad_counter repeats_at not_won nodes_of repeated run_out times
low_counter = refl

-- this one is of a won game: two nodes for one place
two_nodes : verdict (toy 0 0) plain true repeats_table (from 0 0) 2 ≡ Repeats 5
unfolding verdict root_fits nodes_verdict node_verdict wrong_move missing_reply bad_rank bad_counter repeats_at not_won nodes_of repeated run_out times
two_nodes = refl

-- the history of the game counts
history_counts : verdict (toy 2 0) plain true over_seven_table seven_stood 2 ≡ Repeats 1
unfolding verdict root_fits nodes_verdict node_verdict wrong_move missing_reply bad_rank bad_counter repeats_at not_won nodes_of repeated run_out times
history_counts = refl

history_suffices : verdict (toy 3 0) plain true over_seven_table seven_stood 2 ≡ Wins
unfolding verdict root_fits nodes_verdict node_verdict wrong_move missing_reply bad_rank bad_counter repeats_at not_won nodes_of repeated run_out times
history_suffices = refl

stalemate : verdict (toy 0 0) plain true not_won_table (from 5 0) 1 ≡ NotWon 1
unfolding verdict root_fits nodes_verdict node_verdict wrong_move missing_reply bad_rank bad_counter repeats_at not_won nodes_of repeated run_out times
stalemate = refl

-- the counter is used up at spot 3, so no edge may leave it
run_down : verdict (toy 0 2) plain true good_table (from 0 0) 2 ≡ WrongMove 2
unfolding verdict root_fits nodes_verdict node_verdict wrong_move missing_reply bad_rank bad_counter repeats_at not_won nodes_of repeated run_out times
run_down = refl

-- ---- the toy meets the laws

spot_decides : (a b : Spot) → Decides (same_bool a.attacking b.attacking && (a.number == b.number)) (a ≡ b)
spot_decides a b = (λ e. to a.attacking b.attacking a.number b.number e, λ e. from_same a.attacking b.attacking a.number b.number (ap (λ (s : Spot). s.attacking) e) (ap (λ (s : Spot). s.number) e))
  where
    to : (x y : Bool) (m n : ℕ) → (same_bool x y && (m == n)) ≡ true → ◌≡◌ {A = Spot} (record { attacking = x; number = m }) (record { attacking = y; number = n })
    to true true m n e = ap {B = Spot} (λ k. record { attacking = true; number = k }) ((Decides-eqb m n).0 e)
    to true false m n e = cc
    to false true m n e = cc
    to false false m n e = ap {B = Spot} (λ k. record { attacking = false; number = k }) ((Decides-eqb m n).0 e)

    from_same : (x y : Bool) (m n : ℕ) → x ≡ y → m ≡ n → (same_bool x y && (m == n)) ≡ true
    from_same true true m n e f = (Decides-eqb m n).1 f
    from_same true false m n e f = cc
    from_same false true m n e f = cc
    from_same false false m n e f = (Decides-eqb m n).1 f

abbrev after : ℕ → Spot → Spot
after m s = record { attacking = not s.attacking; number = m }

toy-laws : (fold limit : ℕ) → GameLaws Place Spot ℕ (toy fold limit)
toy-laws fold limit = record {
  decides = spot_decides;
  decides_move = Decides-eqb;
  same_own = λ p q e. ap (λ (s : Spot). (toy fold limit).own (record { spot = s; counter = 0 })) e;
  same_turn = λ p q e. ap (λ (s : Spot). s.attacking) e;
  same_legal = λ p q e. ap roads e;
  same_next = λ p q m e. ap (after m) e;
  turns = λ p m. refl;
  lower = λ p q m e h. omega arith;
  rises = λ p m. omega arith;
}
