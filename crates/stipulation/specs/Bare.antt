-- Stipulations of positions by themselves, whatever came before: no repetition and no move count ends a game.
use Rattle.std.specs.Prelude.{◌≡◌, ℕ, nat_le, Bool, ◌||◌, if◌then◌else◌, List}
use Rattle.std.specs.List.{All}
use Rattle.rules_model.specs.declared.board.Repeat.{Repeat}
use Rattle.rules_model.specs.declared.board.Side.{Side}
use Rattle.rules_model.specs.declared.moves.Move.{Move}
use Rattle.rules_model.specs.declared.rules.Rules.{Rules}
use Rattle.rules_model.specs.Legal.{legal, own_end}
use Rattle.rules_model.specs.Next.{next_repeat}
use Rattle.rules_model.specs.Sides.{other, same_side}
use Rattle.forced_wins.specs.Contests.{Contest, within}
use Rattle.game_play.specs.Played.{story}
use Rattle.legality.specs.Stance.{Stance}
use Rattle.stipulation.specs.declared.reach_facts.Fact.{Fact}
use Rattle.stipulation.specs.declared.task.Task.{Task}
use Rattle.stipulation.specs.Stipulations.{mated_by}

abbrev pub bare_games : Bool → Rules → Side → Contest Repeat Move
bare_games help rules a = record {
  end = λ r. mated_by (other a) (own_end rules r);
  attacking = λ r. help || same_side r.side a;
  moves = legal rules;
  after = next_repeat rules;
}

-- what a task aims at
abbrev pub bare : Task → Contest Repeat Move
bare t = bare_games t.help t.game.now.rules (story t.game.now).last.side

-- it is reached from the position within so many plies
unfoldable pub reaches : Task → ℕ → Repeat → Bool
reaches t plies r = within (bare t) plies r

-- the position is by the task's rules
abbrev pub IsOf : Task → Stance → Type 0
IsOf t s = s.rules ≡ t.game.now.rules

-- it says what is reached within so many plies, too
abbrev pub tells : Fact → ℕ → Bool
tells f plies = if f.reached then nat_le f.plies plies else nat_le plies f.plies

abbrev pub IsTrueFact : Task → Fact → Type 0
IsTrueFact t f = reaches t f.plies f.position ≡ f.reached

abbrev pub HoldTruth : Task → List Fact → Type 0
HoldTruth t facts = All (IsTrueFact t) facts
