-- Rules by which the attacker's last move wins by what it does itself, and by no reply to it.
use Rattle.std.specs.Prelude.{Bool, true, false, not, ◌&&◌, Option, Some, None, is_some}
use Rattle.rules_model.specs.declared.moves.Value.{Value}
use Rattle.rules_model.specs.declared.moves.Value.TheVariants.{Win, Loss, Draw}
use Rattle.rules_model.specs.declared.rules.Rules.{Rules}

abbrev pub is_win : Value → Bool
is_win Win = true
is_win Loss = false
is_win Draw = false

abbrev pub is_loss : Value → Bool
is_loss Win = false
is_loss Loss = true
is_loss Draw = false

-- the end is a win
abbrev pub is_won : Option Bool → Bool
is_won None = false
is_won (Some won) = won

-- no side wins by having no move or by extinction: what a side does never makes the other one win
unfoldable pub only_movers_win : Rules → Bool
only_movers_win rules = not (is_some rules.extinction) && (not (is_win rules.checkmate) && not (is_win rules.stalemate))

-- nor does a move win that does not attack the king: there is no flag, and stalemate is no loss
unfoldable pub only_checks_win : Rules → Bool
only_checks_win rules = only_movers_win rules && (not (is_some rules.flag_kind) && not (is_loss rules.stalemate))
