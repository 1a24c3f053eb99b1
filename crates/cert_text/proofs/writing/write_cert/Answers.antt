use Rattle.std.proofs.Common.{◌≡◌, ◌++◌, ℕ, List, Ok, ap, map, subst, sym, ◌∙◌}
use Rattle.game_play.specs.Played.{story}
use Rattle.io_ports.specs.Lines.{lines_of}
use Rattle.strategy.specs.Writing.{ended_line, ended_lines}
use Rattle.stipulation.specs.declared.cert.Step.{Step}
use Rattle.cert_text.specs.Reading.{cert_of}
use Rattle.cert_text.specs.Writing.{step_text, title_text}
use Rattle.cert_text.proofs.BackLaws.{cert-back}
use Rattle.cert_text.proofs.WriteLemmas.{cert-pushed}
use Rattle.cert_text.proofs.writing.write_cert.Goals as goal

pub returns-clause-text : goal.returns-clause-text
returns-clause-text c =
    let items : c.as_slice-items.result.now ≡ c.args.cert.now.steps = cc (c.as_slice-items.ensures.value, c.steps.view_is) in
    cert-pushed c.args.help c.args.cert.now.steps _ _ _ _ c.new-text.ensures.items
    (c.in_ok-push_title.ensures ∙ ap (λ (ss : List Step). c.new-text.result.items ++ ended_line (title_text c.args.help ss)) items)
    (c.in_ok-push_steps.ensures ∙ ap (λ (ss : List Step). c.push_title.new.text.items ++ ended_lines (map step_text ss)) items)
    c.in_ok-push_line.ensures

pub returns-clause-back : goal.returns-clause-back
returns-clause-back c =
    let items : c.as_slice-items.result.now ≡ c.args.cert.now.steps = cc (c.as_slice-items.ensures.value, c.steps.view_is) in
    let text = cert-pushed c.args.help c.args.cert.now.steps _ _ _ _ c.new-text.ensures.items
    (c.in_ok-push_title.ensures ∙ ap (λ (ss : List Step). c.new-text.result.items ++ ended_line (title_text c.args.help ss)) items)
    (c.in_ok-push_steps.ensures ∙ ap (λ (ss : List Step). c.push_title.new.text.items ++ ended_lines (map step_text ss)) items)
    c.in_ok-push_line.ensures in
    λ g n holds. subst (λ (t : List ℕ). cert_of g.rules (story g) (lines_of t) ≡ Ok c.args.cert.now) (sym text) (cert-back g n c.args.help c.args.cert.now.steps holds)
