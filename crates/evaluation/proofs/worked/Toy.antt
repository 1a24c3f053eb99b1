-- The values of a toy game: a pile of stones, from which a move takes one, two or three; who cannot move has lost, and taking three is a capture.
use Rattle.std.proofs.Common.{◌≡◌, ℕ, ◌-◌, ◌%◌, List, [], ◌∷◌, Some, None, pos, negsuc, neg_ℤ, refl, take, filter, ◌==◌, if◌then◌else◌}
use Rattle.std.specs.Prelude.{min}
use Rattle.evaluation.specs.Values.{Play, greatest, quiet, value, root_score, root_value, tree, worst}

abbrev pile_moves : ℕ → List ℕ
pile_moves pile = take (min pile 3) (1 ∷ 2 ∷ 3 ∷ [])

abbrev pile_game : Play ℕ ℕ
pile_game = record {
  ended = λ pile ply. if pile == 0 then Some (neg_ℤ (pos (32000 - ply))) else None;
  eval = λ pile. pos (pile % 4);
  moves = pile_moves;
  captures = λ pile. filter (λ m. m == 3) (pile_moves pile);
  after = λ pile m. pile - m;
}

unfoldable values_opened : Unit {0}
unfolding greatest quiet value root_score root_value tree
values_opened = tt

-- one stone: the mover takes it, and the other side has lost one ply from the root
one_stone : root_value pile_game 1 1 (pile_moves 1) ≡ pos 31999
unfolding values_opened
one_stone = refl

-- four stones: whatever is taken, the other side wins two plies from the root
four_stones : root_value pile_game 2 4 (pile_moves 4) ≡ negsuc 31997
unfolding values_opened
four_stones = refl

-- a depth less sees the loss too, since taking three is a capture
four_stones_quiet : root_value pile_game 1 4 (3 ∷ []) ≡ negsuc 0
unfolding values_opened
four_stones_quiet = refl

-- over a part of the root moves
part : root_value pile_game 1 3 (1 ∷ []) ≡ negsuc 1
unfolding values_opened
part = refl

all : root_value pile_game 1 3 (pile_moves 3) ≡ pos 31999
unfolding values_opened
all = refl

attains : root_score pile_game 1 3 3 ≡ pos 31999
unfolding values_opened
attains = refl

attains_not : root_score pile_game 1 3 1 ≡ negsuc 1
unfolding values_opened
attains_not = refl

-- no root move
no_root : root_value pile_game 1 3 [] ≡ worst
unfolding values_opened
no_root = refl

-- the capture of three stones is seen behind the last ply: its end is two plies from the root
capture_seen : root_value pile_game 1 5 (2 ∷ []) ≡ negsuc 31997
unfolding values_opened
capture_seen = refl

-- lines from three stones of at most two moves: none, three of one, three of two
lines : tree pile_game 2 3 ≡ 7
unfolding values_opened
lines = refl
