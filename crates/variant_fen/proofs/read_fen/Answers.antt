use Rattle.std.proofs.Common.{◌≡◌, true, Ok, sym, ap, ◌∙◌}
use Rattle.std.specs.Result.{IfOk}
use Rattle.std.proofs.lemmas.Result.{err_from_is_err_and}
use Rattle.rules_model.specs.Sound.{is_sound}
use Rattle.fen_model.specs.Reading.{fen_of}
use Rattle.fen_model.proofs.SoundLaws.{text_sound}
use Rattle.variant_fen.proofs.SaidLaws.{fen_fault, fen_fields, if_said}
use Rattle.variant_fen.proofs.read_fen.Goals as goal

pub returns-in_err-read_fields-clause-answer : goal.returns-in_err-read_fields-clause-answer
returns-in_err-read_fields-clause-answer c =
    let p = err_from_is_err_and c.from_residual.result c.from_residual.ensures.1 in
    rw (p.1, p.2) (sym (fen_fault c.args.rules.now c.args.text.now _ c.in_err-read_fields.ensures))

pub returns-clause-answer : goal.returns-clause-answer
returns-clause-answer c = c.read_position.ensures ∙ sym (fen_fields c.args.rules.now c.args.text.now _ c.in_ok-read_fields.ensures)

pub returns-clause-sound : goal.returns-clause-sound
returns-clause-sound c =
    if_said c.args.rules.now c.args.text.now c.read_position.result (c.read_position.ensures ∙ sym (fen_fields c.args.rules.now c.args.text.now _ c.in_ok-read_fields.ensures))
    (λ p said. text_sound c.args.rules.now c.args.text.now p c.requires said)
