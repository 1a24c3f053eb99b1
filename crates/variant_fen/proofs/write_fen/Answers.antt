use Rattle.std.proofs.Common.{◌≡◌, ◌++◌, sym, ap, ◌∙◌, subst}
use Rattle.fen_model.specs.Printing.{count_texts, fen_text, pocket_text, state_texts}
use Rattle.fen_model.specs.Reading.{Fen}
use Rattle.fen_model.proofs.GivesBack.{gives-back}
use Rattle.fen_model.proofs.SoundParts.{parts}
use Rattle.variant_fen.proofs.PushLemmas.{fen_pushed}
use Rattle.variant_fen.proofs.write_fen.Goals as goal

pub returns-clause-text : goal.returns-clause-text
returns-clause-text c = fen_pushed c.args.rules.now c.args.p.now _ _ _ c.new-text.ensures.items c.in_ok-push_board.ensures c.in_ok-push_fields.ensures

pub returns-clause-back : goal.returns-clause-back
returns-clause-back c =
    let text = fen_pushed c.args.rules.now c.args.p.now _ _ _ c.new-text.ensures.items c.in_ok-push_board.ensures c.in_ok-push_fields.ensures in
    subst (λ t. Fen c.args.rules.now t c.args.p.now) (sym text) (gives-back c.args.rules.now c.args.p.now c.requires.fit (parts c.args.rules.now c.args.p.now c.requires.sound))
