use Rattle.std.proofs.Common.{◌≡◌, ◌++◌, true, sym, ap, subst, ◌∙◌}
use Rattle.std.specs.Prelude.{List}
use Rattle.rules_model.specs.declared.board.Position.{Position}
use Rattle.rules_model.specs.declared.moves.Move.{Move}
use Rattle.rules_model.specs.declared.rules.Rules.{Rules}
use Rattle.rules_model.specs.Fit.{IsFit}
use Rattle.rules_model.specs.Sound.{is_sound}
use Rattle.strategy.specs.Writing.{ended_line, ended_lines}
use Rattle.proof_text.specs.Writing.{history_texts, start_line}
use Rattle.proof_text.proofs.WriteLemmas.{line-lines}
use Rattle.proof_text.proofs.writing.push_game.Goals as goal

pub push_start-requires-clause-fit : goal.push_start-requires-clause-fit
push_start-requires-clause-fit c = subst IsFit (sym c.rules.ensures) c.prove_played.ensures.fit

pub push_start-requires-clause-sound : goal.push_start-requires-clause-sound
push_start-requires-clause-sound c =
    subst (λ (r : Rules). is_sound r c.start_of.result.now ≡ true) (sym c.rules.ensures) c.start_of.ensures.sound

pub returns : goal.returns
returns c =
    let g = c.args.game.now in
    let old = c.args.text.now.items in
    let mid = c.push_start.new.text.items in
    line-lines (start_line g.rules g.start) (history_texts g.moves) old mid c.push_history.new.text.items
    (c.in_ok-push_start.ensures
    ∙ ap (λ (r : Rules). old ++ ended_line (start_line r c.start_of.result.now)) c.rules.ensures
    ∙ ap (λ (p : Position). old ++ ended_line (start_line g.rules p)) c.start_of.ensures.is)
    (c.in_ok-push_history.ensures ∙ ap (λ (ms : List Move). mid ++ ended_lines (history_texts ms)) c.moves.ensures)
