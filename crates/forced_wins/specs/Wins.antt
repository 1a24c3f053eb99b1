-- Forced wins by the rules of play: with the history of the game, and near wins without.
use Rattle.std.specs.Prelude.{◌≡◌, ◌⊎◌, ℕ, zero, suc, ◌+◌, ◌*◌, ◌<◌, List, [], ◌∷◌, map, nat_le, Bool, false, not, ◌||◌, ◌==◌, Option, if◌then◌else◌}
use Rattle.std.specs.List.{list_any, list_all, filter}
use Rattle.rules_model.specs.declared.board.Position.{Position}
use Rattle.rules_model.specs.declared.board.Repeat.{Repeat}
use Rattle.rules_model.specs.declared.board.Side.{Side}
use Rattle.rules_model.specs.declared.moves.Move.{Move}
use Rattle.rules_model.specs.declared.rules.Rules.{Rules}
use Rattle.rules_model.specs.Repeats.{repeat_of}
use Rattle.rules_model.specs.Sides.{same_side}
use Rattle.rules_model.specs.Next.{next}
use Rattle.rules_model.specs.Legal.{legal, own_end}
use Rattle.rules_model.specs.Games.{Story, history, played, same_repeat, times, is_run_out, result}
use Rattle.forced_wins.specs.Contests.{Contest, decided, forced}
use Rattle.forced_wins.specs.Games.{lost_if, or_end}
use Rattle.forced_wins.specs.Views.{won_by}

-- ---- wins

-- games as the side that attacks sees them
abbrev pub games : Rules → Side → Contest Story Move
games rules a = record {
  end = λ g. won_by a (result rules g);
  attacking = λ g. same_side g.last.side a;
  moves = λ g. legal rules (repeat_of g.last);
  after = played rules;
}

-- `a` wins the game by n moves of its own, against every legal defence
abbrev pub wins : Rules → ℕ → Story → Side → Bool
wins rules n g a = forced (games rules a) n g

-- ---- near wins

-- the elements, each once, in the order of their first places
unfoldable pub each_once : List Repeat → List Repeat
each_once [] = []
each_once (x ∷ xs) = x ∷ filter (λ y. not (same_repeat y x)) (each_once xs)

-- the repeats of the game whose count plus 1 is at least the fold
unfoldable pub blocked : Rules → Story → List Repeat
blocked rules g =
    if rules.n_fold == 0 then [] else
    filter (λ x. nat_le rules.n_fold (times x (history g) + 1)) (each_once (map repeat_of (history g)))

abbrev pub is_in : List Repeat → Repeat → Bool
is_in barred x = list_any (same_repeat x) barred

-- how a position without history is ended: by an early end or without a legal move; else its repeat is barred or its
-- counter has run out, and it is lost to the attacker
unfoldable pub near_end : Rules → List Repeat → Side → Position → Option Bool
near_end rules barred a p =
    or_end (won_by a (own_end rules (repeat_of p))) (lost_if (is_in barred (repeat_of p) || is_run_out rules p.counter))

abbrev pub positions : Rules → List Repeat → Side → Contest Position Move
positions rules barred a = record {
  end = near_end rules barred a;
  attacking = λ p. same_side p.side a;
  moves = λ p. legal rules (repeat_of p);
  after = next rules;
}

-- `a` wins from the position by n moves of its own
abbrev pub near : Rules → ℕ → Position → List Repeat → Side → Bool
near rules n p barred a = forced (positions rules barred a) n p

abbrev pub near_attack : Rules → ℕ → Position → List Repeat → Side → Bool
near_attack rules zero p barred a = false
near_attack rules (suc n) p barred a =
    list_any (λ m. near rules n (next rules p m) barred a) (legal rules (repeat_of p))

abbrev pub near_defence : Rules → ℕ → Position → List Repeat → Side → Bool
near_defence rules n p barred a = list_all (λ m. near rules n (next rules p m) barred a) (legal rules (repeat_of p))

-- the game itself is looked at with its history, so the root is not looked up among the blocked repeats
unfoldable pub near_root : Rules → ℕ → Story → Side → Bool
near_root rules n g a =
    decided (won_by a (result rules g))
    (if same_side g.last.side a then near_attack rules n g.last (blocked rules g) a else
    near_defence rules n g.last (blocked rules g) a)

-- the counter cannot run out within n moves of the attacker
abbrev pub IsInLimit : Rules → ℕ → Story → Type 0
IsInLimit rules n g = (rules.n_move ≡ 0) ⊎ (g.last.counter + 2 * n < 2 * rules.n_move)
