use Rattle.std.proofs.Common.{◌++◌, sym, ap, subst, ◌∙◌}
use Rattle.rules_model.specs.declared.rules.Rules.{Rules}
use Rattle.rules_model.specs.Fit.{IsFit}
use Rattle.strategy.specs.Reading.{AreSound}
use Rattle.strategy.specs.Writing.{ended_lines}
use Rattle.io_ports.specs.Lines.{lines_of}
use Rattle.proof_text.specs.Reading.{proof_of}
use Rattle.proof_text.specs.Writing.{body_texts}
use Rattle.proof_text.proofs.WriteLemmas.{proof-pushed}
use Rattle.proof_text.proofs.writing.write_proof.Goals as goal

pub push_body-requires-clause-fit : goal.push_body-requires-clause-fit
push_body-requires-clause-fit c = subst IsFit (sym c.rules.ensures) c.prove_played.ensures.fit

pub push_body-requires-clause-sound : goal.push_body-requires-clause-sound
push_body-requires-clause-sound c =
    subst (λ (r : Rules). AreSound r c.args.strategy.now.nodes) (sym c.rules.ensures) c.requires.sound

pub returns-clause-is : goal.returns-clause-is
returns-clause-is c =
    let s = c.args.strategy.now in
    let rest =
    c.in_ok-push_body.ensures
    ∙ ap (λ (r : Rules). c.push_goal.new.text.items ++ ended_lines (body_texts r s)) c.rules.ensures in
    proof-pushed c.args.sections.now c.args.section c.args.game.now c.args.n s _ _ _ _ _ _ c.new-text.ensures.items
    c.in_ok-push_line.ensures c.in_ok-push_section.ensures c.in_ok-push_game.ensures c.in_ok-push_goal.ensures rest

pub returns-clause-back : goal.returns-clause-back
returns-clause-back c = λ files readable.
    ap (λ text. proof_of (lines_of text)) (returns-clause-is c)
    ∙ c.written_proofs_are_read_back.ensures c.args.sections.now c.args.section c.args.game.now c.args.n
    c.args.strategy.now files c.requires.accepted c.prove_played.ensures c.requires.some c.requires.few
    c.requires.sound readable c.prove_nodes_fit.ensures
