use Rattle.std.proofs.Common.{◌≡◌, ◌∙◌, ap, sym}
use Rattle.io_ports.proofs.Asked.{reads_none}
use Rattle.io_ports.specs.Trace.{Reads}
use Rattle.session_model.specs.UciGo.{go_of}
use Rattle.session_model.specs.UciLines as UciLines
use Rattle.session_model.specs.UciLines.{command_of}
use Rattle.session_model.proofs.Lawful.{uci_is_lawful}
use Rattle.session_model.specs.Lines.{got_line}
use Rattle.uci_lines.specs.View.{command_with, line_got}
use Rattle.session_model.specs.UciSession.{uci}
use Rattle.uci_front.specs.PlanView.{words_said}
use Rattle.uci_front.proofs.AnswerLemmas.{line_is, served_plainly, served_unread, unserved_plainly, unserved_read, unserved_unread}
use Rattle.uci_front.proofs.GoLemmas.{if_told, if_untold, if_ok}
use Rattle.uci_front.proofs.HeldLemmas.{on_err}
use Rattle.uci_front.proofs.Unanswered.{unserved_quiet}
use Rattle.uci_front.proofs.answering.answer.Goals as goal

pub returns-in_err-plan-in-Go-clause-unserved : goal.returns-in_err-plan-in-Go-clause-unserved
returns-in_err-plan-in-Go-clause-unserved g c =
    let asked = Reads g.F.Files.contents g.F.Files.faults c.args.files.now c.args.files.now in
    on_err c.from_residual.result
    (unserved_quiet uci uci_is_lawful.output c.args.source.now c.args.sink.now c.args.clock.now asked _ c.args.session.now _ c.requires.goes_on (reads_none c.args.files.now))

pub returns-in_ok-plan-in-Go-clause-served : goal.returns-in_ok-plan-in-Go-clause-served
returns-in_ok-plan-in-Go-clause-served g c =
    let is : command_with c.read_line-kind.result.0 (words_said c.read_line-kind.result.1) ≡ command_of (got_line c.args.next c.args.line.now) =
    c.read_line-kind.ensures ∙ ap (λ t. command_of (line_got c.args.next t)) c.text.ensures.bytes ∙ ap command_of (line_is c.args.next c.args.line.now) in
    let asks : command_of (got_line c.args.next c.args.line.now) ≡ UciLines.Go (go_of (words_said c.read_line-kind.result.1)) =
    sym is ∙ ap (λ k. command_with k (words_said c.read_line-kind.result.1)) c.in-Go.is in
    let asked = Reads g.F.Files.contents g.F.Files.faults c.args.files.now c.args.files.now in
    if_ok c.answer_go.result _ _ c.answer_go.ensures.served
    (λ next served. served_unread asked (reads_none c.args.files.now) (served (got_line c.args.next c.args.line.now) (go_of (words_said c.read_line-kind.result.1)) asks c.in_ok-plan-in-Go.ensures))

pub returns-in_ok-plan-in-Go-clause-unserved : goal.returns-in_ok-plan-in-Go-clause-unserved
returns-in_ok-plan-in-Go-clause-unserved g c =
    let is : command_with c.read_line-kind.result.0 (words_said c.read_line-kind.result.1) ≡ command_of (got_line c.args.next c.args.line.now) =
    c.read_line-kind.ensures ∙ ap (λ t. command_of (line_got c.args.next t)) c.text.ensures.bytes ∙ ap command_of (line_is c.args.next c.args.line.now) in
    let asks : command_of (got_line c.args.next c.args.line.now) ≡ UciLines.Go (go_of (words_said c.read_line-kind.result.1)) =
    sym is ∙ ap (λ k. command_with k (words_said c.read_line-kind.result.1)) c.in-Go.is in
    let asked = Reads g.F.Files.contents g.F.Files.faults c.args.files.now c.args.files.now in
    if_untold c.answer_go.result c.answer_go.ensures.unserved c.answer_go.ensures.unserved
    (λ unserved _. unserved_unread asked (reads_none c.args.files.now) (unserved _ (got_line c.args.next c.args.line.now) (go_of (words_said c.read_line-kind.result.1)) asks c.in_ok-plan-in-Go.ensures))

pub returns-in_err-text-in_default-clause-unserved : goal.returns-in_err-text-in_default-clause-unserved
returns-in_err-text-in_default-clause-unserved g c =
    let is : command_with c.read_line-kind.result.0 (words_said c.read_line-kind.result.1) ≡ command_of (got_line c.args.next c.args.line.now) =
    c.read_line-kind.ensures ∙ ap (λ t. command_of (line_got c.args.next t)) c.text.ensures.bytes ∙ ap command_of (line_is c.args.next c.args.line.now) in
    let looked = c.in_err-text-in_default.ensures in
    on_err c.from_residual-in_err-text-in_default.result
    (unserved_read c.args.source.now c.args.sink.now c.args.clock.now (Reads g.F.Files.contents g.F.Files.faults c.args.files.now c.answer_plain.new.files) _ c.args.session.now _ _ looked.reads is c.requires.goes_on looked.asks looked.holds)

pub returns-in_ok-text-in_default-clause-served : goal.returns-in_ok-text-in_default-clause-served
returns-in_ok-text-in_default-clause-served g c =
    let is : command_with c.read_line-kind.result.0 (words_said c.read_line-kind.result.1) ≡ command_of (got_line c.args.next c.args.line.now) =
    c.read_line-kind.ensures ∙ ap (λ t. command_of (line_got c.args.next t)) c.text.ensures.bytes ∙ ap command_of (line_is c.args.next c.args.line.now) in
    let looked = c.in_ok-text-in_default.ensures in
    if_told c.tell.result _ _ c.tell.ensures.said c.tell.ensures.takes (λ next wrote takes.
    served_plainly c.args.clock.now (Reads g.F.Files.contents g.F.Files.faults c.args.files.now c.answer_plain.new.files) looked.reads c.in_ok-text-in_default.text _ is looked.holds looked.asks
    (rw c.bytes_of.ensures at wrote) takes c.tell.ensures.owed)

pub returns-in_ok-text-in_default-clause-unserved : goal.returns-in_ok-text-in_default-clause-unserved
returns-in_ok-text-in_default-clause-unserved g c =
    let is : command_with c.read_line-kind.result.0 (words_said c.read_line-kind.result.1) ≡ command_of (got_line c.args.next c.args.line.now) =
    c.read_line-kind.ensures ∙ ap (λ t. command_of (line_got c.args.next t)) c.text.ensures.bytes ∙ ap command_of (line_is c.args.next c.args.line.now) in
    let looked = c.in_ok-text-in_default.ensures in
    if_untold c.tell.result c.tell.ensures.part c.tell.ensures.still (λ wrote still.
    rw still (unserved_plainly c.args.source.now c.args.clock.now (Reads g.F.Files.contents g.F.Files.faults c.args.files.now c.answer_plain.new.files) _ looked.reads c.in_ok-text-in_default.text c.answer_plain.new.session _ is looked.holds looked.asks
    (rw c.bytes_of.ensures at wrote)))
