use Rattle.std.proofs.Common.{◌≡◌, ℕ, ◌||◌, ◌==◌, Option, ap, sym, subst, ◌∙◌}
use Rattle.rules_model.specs.declared.board.Square.{Square}
use Rattle.square_set.specs.Members.{has}
use Rattle.board_sets.specs.Written.{is_left}
use Rattle.board_sets.proofs.WriteLaws.{entered, left_too}
use Rattle.board_sets.proofs.sets.squares_of.Goals as goal

pub returns-in-None : goal.returns-in-None
returns-in-None c = λ s. entered _ _ c.with-entered.ensures s ∙ ap (λ (left : Option Square). (s == c.args.put.at.0) || is_left left s) (sym c.in-None.is)

pub returns-in-Some : goal.returns-in-Some
returns-in-Some c = λ s. left_too _ _ _ _ c.with-entered.ensures c.with.ensures s ∙ ap (λ (left : Option Square). (s == c.args.put.at.0) || is_left left s) (sym c.in-Some.is)
