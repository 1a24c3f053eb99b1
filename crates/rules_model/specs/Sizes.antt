-- The form that values of a position's type have: lists of the definitions may have any length, and numbers of them no
-- bound.
use Rattle.std.specs.Prelude.{◌≡◌, true, nat_lt, Bool, ◌&&◌, ◌==◌, length}
use Rattle.std.specs.List.{list_all}
use Rattle.rules_model.specs.declared.board.Repeat.{Repeat}

-- the lists have the lengths of the fields, and a side's gates are a number of 16 bits
pub record HasSizes (r : Repeat) : Type 0 where
  pub cells : length r.cells ≡ 120
  pub hands : length r.hands ≡ 2
  pub each_hand : list_all (λ hand. length hand == 26) r.hands ≡ true
  pub gates : length r.gates ≡ 2
  pub each_gate : list_all (λ gates. nat_lt gates 65536) r.gates ≡ true
  pub rights : length r.rights ≡ 2
  pub each_right : list_all (λ rights. length rights == 2) r.rights ≡ true
  pub checks : length r.checks ≡ 2

-- the test of it
unfoldable pub has_sizes : Repeat → Bool
has_sizes r =
    (length r.cells == 120) && (length r.hands == 2) && list_all (λ hand. length hand == 26) r.hands
    && (length r.gates == 2)
    && list_all (λ gates. nat_lt gates 65536) r.gates && (length r.rights == 2)
    && list_all (λ rights. length rights == 2) r.rights && (length r.checks == 2)
