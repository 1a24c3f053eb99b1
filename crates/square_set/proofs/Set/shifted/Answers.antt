use Rattle.std.proofs.Common.{ap, sym, ◌∙◌}
use Rattle.square_set.specs.Members as Members
use Rattle.square_set.proofs.BitLaws.{bit-up, bit-down}
use Rattle.square_set.proofs.Set.shifted.Goals as goal

pub returns-in-Up : goal.returns-in-Up
returns-in-Up c = λ t l. bit-up c.args.self.0 c.in-Up.by t l ∙ ap (λ shift. Members.is_led shift c.args.self t) (sym c.in-Up.is)

pub returns-in-Down : goal.returns-in-Down
returns-in-Down c = λ t l. bit-down c.args.self.0 c.in-Down.by t ∙ ap (λ shift. Members.is_led shift c.args.self t) (sym c.in-Down.is)
