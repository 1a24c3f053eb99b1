-- Which facts a change of the frame keeps.
use Rattle.std.specs.Prelude.{◌≡◌, List, [], Bool, if◌then◌else◌}
use Rattle.std.specs.List.{list_all, filter}
use Rattle.rules_model.specs.declared.board.Repeat.{Repeat}
use Rattle.forced_wins.specs.declared.fact.Fact.{Fact}
use Rattle.forced_wins.specs.Wins.{is_in}
use Rattle.mate_core.specs.declared.frame.Frame.{Frame}

-- each of the first repeats is among the second
abbrev pub are_in : List Repeat → List Repeat → Bool
are_in xs ys = list_all (is_in ys) xs

-- A win stays true where no position is newly blocked, a refutation where none is freed.
abbrev pub stays : List Repeat → List Repeat → Fact → Bool
stays old new f = if f.wins then are_in new old else are_in old new

-- the facts that are kept, in their order: none where the rules or the attacker change
pub record IsKept (old new : Frame) (before after : List Fact) : Type 0 where
  pub same : old.rules ≡ new.rules → old.attacker ≡ new.attacker → after ≡ filter (stays old.blocked new.blocked) before
  pub other : (old.rules ≡ new.rules → old.attacker ≡ new.attacker → ⊥) → after ≡ []
