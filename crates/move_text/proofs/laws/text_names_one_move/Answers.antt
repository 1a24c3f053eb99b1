use Rattle.std.proofs.Common.{sym, ◌∙◌}
use Rattle.move_text.proofs.CastleLaws.{the_move}
use Rattle.move_text.proofs.ReadLaws.{names-read}
use Rattle.move_text.proofs.laws.text_names_one_move.Goals as goal

pub returns : goal.returns
returns c = record { one = λ rules p text m n fit sound a b. the_move (sym (names-read rules p text m fit sound a) ∙ names-read rules p text n fit sound b) }
