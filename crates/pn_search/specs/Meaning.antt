-- What the root's pair says.
use Rattle.std.specs.Prelude.{◌≡◌, ℕ, Bool, true, false, if◌then◌else◌}
use Rattle.rules_model.specs.declared.board.Position.{Position}
use Rattle.rules_model.specs.Sides.{same_side}
use Rattle.forced_wins.specs.Wins.{near_attack, near_defence}
use Rattle.mate_core.specs.declared.frame.Frame.{Frame}
use Rattle.pn_search.specs.declared.numbers.Pair.{Pair}
use Rattle.pn_search.specs.Numbers.{infinite, pair_at, pairs_of}
use Rattle.pn_search.specs.Trees.{ProofTree}

abbrev pub won_pair : Pair
won_pair = record { proof = 0; disproof = infinite }

abbrev pub lost_pair : Pair
lost_pair = record { proof = infinite; disproof = 0 }

abbrev pub root_pair : ProofTree → Pair
root_pair t = pair_at (pairs_of t.nodes) 0

-- after the moves of the root the attacker wins within n of his moves, the positions being looked at without their
-- history
abbrev pub moves_win : Frame → ℕ → Position → Bool
moves_win f n p =
    if same_side p.side f.attacker then near_attack f.rules n p f.blocked f.attacker else
    near_defence f.rules n p f.blocked f.attacker

-- the moves of the root win where it is proved, and do not where it is disproved
pub record PairDecides (t : ProofTree) : Type 0 where
  pub won : root_pair t ≡ won_pair → moves_win t.frame t.moves t.root ≡ true
  pub lost : root_pair t ≡ lost_pair → moves_win t.frame t.moves t.root ≡ false
  -- one infinite number says which of the two it is
  pub proved : (root_pair t).disproof ≡ infinite → root_pair t ≡ won_pair
  pub disproved : (root_pair t).proof ≡ infinite → root_pair t ≡ lost_pair
