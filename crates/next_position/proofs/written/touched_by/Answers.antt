use Rattle.std.proofs.Common.{sym, ◌∙◌, ap}
use Rattle.std.proofs.lemmas.Bool.{OnFalse_from}
use Rattle.rules_model.specs.declared.board.Cell.{Cell}
use Rattle.next_position.specs.Changed.{changes_hands}
use Rattle.next_position.proofs.TouchedLemmas.{kept-hands}
use Rattle.next_position.proofs.written.touched_by.Goals as goal

pub returns-clause-hands : goal.returns-clause-hands
returns-clause-hands c =
    OnFalse_from c.changes_hands.result _
    (λ e. kept-hands _ _ _ (ap (λ taken. changes_hands c.args.rules.now taken c.args.m.now) (sym c.requires.taken) ∙ sym c.changes_hands.ensures ∙ e))
