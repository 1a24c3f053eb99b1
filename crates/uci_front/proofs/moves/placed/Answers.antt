use Rattle.std.proofs.Common.{◌≡◌, ◌∙◌, ap, sym}
use Rattle.std.specs.Prelude.{Ok}
use Rattle.fen_model.specs.Reading.{fen_of}
use Rattle.rules_model.specs.declared.rules.Rules.{Rules}
use Rattle.uci_lines.specs.View.{texts}
use Rattle.uci_front.proofs.MoveLemmas.{fen_placed, start_placed}
use Rattle.uci_front.proofs.moves.placed.Goals as goal

pub returns-in-Startpos-clause-leads : goal.returns-in-Startpos-clause-leads
returns-in-Startpos-clause-leads c = λ state same.
    let leads = rw c.rules-rules.ensures at c.game_of.ensures.leads state in
    rw c.in-Startpos.is (start_placed state c.args.old.now.rules (texts c.in-Startpos.words.now) c.game_of.result same leads)

pub returns-in-Ok-clause-leads : goal.returns-in-Ok-clause-leads
returns-in-Ok-clause-leads c = λ state same.
    let is : fen_of c.args.old.now.rules c.in-Fen.text ≡ Ok c.in-Ok.start =
    ap (fen_of c.args.old.now.rules) (sym (c.as_slice.ensures.value ∙ c.text.view_is))
    ∙ ap (λ (rules : Rules). fen_of rules c.as_slice.result.now) (sym c.rules-rules.ensures)
    ∙ sym c.in-Ok.ensures.answer in
    rw c.in-Fen.is (fen_placed state c.args.old.now.rules c.in-Fen.text (texts c.in-Fen.words.now) c.in-Ok.start c.game_of-in-Ok.result same is (c.game_of-in-Ok.ensures.leads state))
