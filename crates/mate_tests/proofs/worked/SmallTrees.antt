-- The numbers of a tree of five nodes: the attacker has two moves at the root, and the other side two replies to the first.
use Rattle.std.proofs.Common.{◌≡◌, ℕ, List, [], ◌∷◌, Bool, true, false, None, Some, refl}
use Rattle.rules_model.specs.declared.board.Position.{Position}
use Rattle.forced_wins.specs.Wins.{near_end}
use Rattle.mate_core.specs.declared.frame.Frame.{Frame}
use Rattle.pn_search.specs.declared.node.Node.{Node}
use Rattle.pn_search.specs.declared.node.State.{State}
use Rattle.pn_search.specs.declared.node.State.TheVariants.{Open, Won, Lost, Inner}
use Rattle.pn_search.specs.declared.numbers.Pair.{Pair}
use Rattle.pn_search.specs.Meaning.{won_pair, lost_pair}
use Rattle.pn_search.specs.Numbers.{plus, sum_of, least_of, inner_pair, open_pair, pair_at, pairs_from, pairs_of}
use Rattle.pn_search.specs.Trees.{best_child_at, descend, end_at, expanded_with, is_settled, most_proving, new_tree, spot_at, state_by}

abbrev pair : ℕ → ℕ → Pair
pair p d = record { proof = p; disproof = d }

abbrev node : ℕ → Bool → State → Node
node parent attacking state = record { parent = parent; chosen = None; left = 1; attacking = attacking; state = state }

-- the states of the second move and of the two replies to the first
abbrev tree : State → State → State → List Node
tree second a b =
    node 0 true (Inner 1 2) ∷ node 0 false (Inner 3 2) ∷ node 0 false second ∷ node 1 true a ∷ node 1 true b ∷ []

-- the attacker needs one of his moves, and the other side has to be refuted in both of its own
open_leaves : pairs_of (tree Open Open Open) ≡ pair 1 2 ∷ pair 2 1 ∷ pair 1 1 ∷ pair 1 1 ∷ pair 1 1 ∷ []
unfolding pairs_of pairs_from inner_pair sum_of plus least_of
open_leaves = refl

second_move_is_lost : pairs_of (tree Lost Open Open) ≡ pair 2 1 ∷ pair 2 1 ∷ lost_pair ∷ pair 1 1 ∷ pair 1 1 ∷ []
unfolding pairs_of pairs_from inner_pair sum_of plus least_of
second_move_is_lost = refl

one_reply_is_won : pairs_of (tree Lost Won Open) ≡ pair 1 1 ∷ pair 1 1 ∷ lost_pair ∷ won_pair ∷ pair 1 1 ∷ []
unfolding pairs_of pairs_from inner_pair sum_of plus least_of
one_reply_is_won = refl

both_replies_are_won : pair_at (pairs_of (tree Lost Won Won)) 0 ≡ won_pair
unfolding pairs_of pairs_from inner_pair sum_of plus least_of
both_replies_are_won = refl

one_reply_is_lost : pair_at (pairs_of (tree Lost Won Lost)) 0 ≡ lost_pair
unfolding pairs_of pairs_from inner_pair sum_of plus least_of
one_reply_is_lost = refl

second_move_is_won : pair_at (pairs_of (tree Won Open Lost)) 0 ≡ won_pair
unfolding pairs_of pairs_from inner_pair sum_of plus least_of
second_move_is_won = refl

-- ---- the way down

best_move : best_child_at (tree Open Open Open) (pairs_of (tree Open Open Open)) 0 ≡ Some 2
unfolding pairs_of pairs_from inner_pair sum_of plus least_of
best_move = refl

other_best_move : best_child_at (tree Lost Open Open) (pairs_of (tree Lost Open Open)) 0 ≡ Some 1
unfolding pairs_of pairs_from inner_pair sum_of plus least_of
other_best_move = refl

-- of equal replies the first
best_reply : best_child_at (tree Lost Open Open) (pairs_of (tree Lost Open Open)) 1 ≡ Some 3
unfolding pairs_of pairs_from inner_pair sum_of plus least_of
best_reply = refl

best_reply_left : best_child_at (tree Lost Won Open) (pairs_of (tree Lost Won Open)) 1 ≡ Some 4
unfolding pairs_of pairs_from inner_pair sum_of plus least_of
best_reply_left = refl

no_child_of_a_leaf : best_child_at (tree Lost Won Open) (pairs_of (tree Lost Won Open)) 4 ≡ None
unfolding pairs_of pairs_from inner_pair sum_of plus least_of
no_child_of_a_leaf = refl

-- ---- expansions

won_by_its_end : state_by (Some true) true 3 ≡ Some Won
won_by_its_end = refl

lost_without_a_move_left : state_by None true 0 ≡ Some Lost
lost_without_a_move_left = refl

opened_with_a_move_left : state_by None true 1 ≡ None
opened_with_a_move_left = refl

opened_for_the_other_side : state_by None false 0 ≡ None
opened_for_the_other_side = refl

closed_leaf : expanded_with (tree Open Open Open) 2 (node 0 false Open) (Some Lost) [] ≡ tree Lost Open Open
closed_leaf = refl

opened_leaf : expanded_with (node 0 true Open ∷ []) 0 (node 0 true Open) None (node 0 false Open ∷ node 0 false Open ∷ []) ≡ node 0 true (Inner 1 2) ∷ node 0 false Open ∷ node 0 false Open ∷ []
opened_leaf = refl

module _ (f : Frame) (root : Position) (n : ℕ) where
  -- the root's repeat is not looked up, that of any other node is
  root_end : end_at f 0 root ≡ near_end f.rules [] f.attacker root
  unfolding end_at
  root_end = refl

  other_end : end_at f 1 root ≡ near_end f.rules f.blocked f.attacker root
  unfolding end_at
  other_end = refl

  new_pairs : pairs_of (new_tree f root n).nodes ≡ open_pair ∷ []
  unfolding new_tree pairs_of pairs_from
  new_pairs = refl

  new_is_open : is_settled (new_tree f root n) ≡ false
  unfolding new_tree is_settled pairs_of pairs_from
  new_is_open = refl

  first_leaf : most_proving (new_tree f root n) ≡ spot_at 0 root
  unfolding new_tree most_proving descend pairs_of pairs_from
  first_leaf = refl
