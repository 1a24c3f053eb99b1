use Rattle.rules_model.specs.Squares.{cell_at}
use Rattle.special_moves.proofs.SetLemmas.{free_is, on_board}
use Rattle.special_moves.proofs.shifted.free.Goals as goal

pub returns : goal.returns
returns c = λ rules side cells are t. free_is t _ _ _ (cell_at cells t) (c.minus.ensures t) (on_board t) (c.occupied.ensures rules side cells are t)
