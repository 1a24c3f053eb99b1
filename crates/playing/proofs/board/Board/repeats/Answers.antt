use Rattle.std.proofs.Common.{sym, ◌∙◌}
use Rattle.position_key.proofs.KeyLaws.{unequal_keys}
use Rattle.playing.proofs.board.Board.repeats.Goals as goal

pub returns-then-key : goal.returns-then-key
returns-then-key c = sym (unequal_keys _ _ (λ e. c.if-key.true (c.key.ensures ∙ e ∙ sym c.requires)))
