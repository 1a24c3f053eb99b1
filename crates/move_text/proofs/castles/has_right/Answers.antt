use Rattle.std.proofs.Common.{◌≡◌, true, sym, ◌∙◌}
use Rattle.rules_model.specs.Castling.{castling_on}
use Rattle.rules_model.specs.Repeats.{repeat_of}
use Rattle.move_text.proofs.CastleLaws.{castles_on, when_true}
use Rattle.move_text.proofs.ReadLaws.{sound_repeat}
use Rattle.move_text.proofs.castles.has_right.Goals as goal

pub returns-clause-on : goal.returns-clause-on
returns-clause-on c =
    when_true c.holds_right.result (castling_on c.args.rules.now ≡ true)
    (λ held. castles_on c.args.rules.now (repeat_of c.args.p.now) c.args.wing (sound_repeat c.args.rules.now c.args.p.now c.requires.sound) (sym c.holds_right.ensures ∙ held))
