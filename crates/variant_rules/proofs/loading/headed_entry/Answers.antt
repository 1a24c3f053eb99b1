use Rattle.std.proofs.Common.{◌≡◌, sym, ap, ◌∙◌, subst}
use Rattle.std.proofs.lemmas.Result.{IfOk-weaker}
use Rattle.rules_model.specs.declared.rules.Rules.{Rules}
use Rattle.rules_model.specs.Fit.{IsFit}
use Rattle.fen_model.specs.Reading.{fen_of}
use Rattle.variant_ini.specs.Section.{section_at}
use Rattle.variant_model.specs.Entry as section
use Rattle.variant_model.specs.Made.{no_position, resolved, start_text}
use Rattle.variant_rules.specs.Said.{resolved_at}
use Rattle.variant_rules.proofs.FitLaws.{faultless_fits}
use Rattle.variant_rules.proofs.EntryLemmas.{by_own, by_rules, by_start, faultless}
use Rattle.variant_rules.proofs.loading.headed_entry.Goals as goal

pub returns-in-Some : goal.returns-in-Some
returns-in-Some c =
    by_own c.args.sections.now c.args.place c.in-Some.fault (sym c.requires.headed) (sym c.in-Some.is ∙ c.in_ok-fault.ensures ∙ ap (λ ss. section.own_fault (section_at ss c.args.place).lines) c.sections.ensures)

pub returns-in-Some-2 : goal.returns-in-Some-2
returns-in-Some-2 c =
    by_rules c.args.sections.now c.args.place c.in-Some-2.fault (sym c.requires.headed) (sym c.in_default.is ∙ c.in_ok-fault.ensures ∙ ap (λ ss. section.own_fault (section_at ss c.args.place).lines) c.sections.ensures)
    (sym c.in-Some-2.is ∙ c.in_ok-fault-2.ensures ∙ ap (λ at. section.rules_fault (resolved_at at)) c.new-section.ensures)

pub started-requires : goal.started-requires
started-requires c =
    let made : c.in_ok-rules.rules ≡ section.bare_rules (resolved c.args.sections.now c.args.place) =
    c.in_ok-rules.ensures ∙ ap (λ at. section.bare_rules (resolved_at at)) c.new-section.ensures in
    subst IsFit (sym made)
    (faultless_fits c.args.sections.now c.args.place no_position
    (faultless c.args.sections.now c.args.place (sym c.requires.headed) (sym c.in_default.is ∙ c.in_ok-fault.ensures ∙ ap (λ ss. section.own_fault (section_at ss c.args.place).lines) c.sections.ensures)
    (sym c.in_default-2.is ∙ c.in_ok-fault-2.ensures ∙ ap (λ at. section.rules_fault (resolved_at at)) c.new-section.ensures)))

pub returns : goal.returns
returns c =
    let made : c.in_ok-rules.rules ≡ section.bare_rules (resolved c.args.sections.now c.args.place) =
    c.in_ok-rules.ensures ∙ ap (λ at. section.bare_rules (resolved_at at)) c.new-section.ensures in
    let text : c.start_text.result.now ≡ start_text (resolved c.args.sections.now c.args.place) =
    c.start_text.ensures ∙ ap (λ at. start_text (resolved_at at)) c.new-section.ensures in
    IfOk-weaker c.started.result _ _
    (λ entry is.
    is
    ∙ ap (λ (rules : Rules). section.started_by rules (fen_of rules c.start_text.result.now)) made
    ∙ ap (λ text. section.started_by (section.bare_rules (resolved c.args.sections.now c.args.place)) (fen_of (section.bare_rules (resolved c.args.sections.now c.args.place)) text)) text
    ∙ by_start c.args.sections.now c.args.place (sym c.requires.headed) (sym c.in_default.is ∙ c.in_ok-fault.ensures ∙ ap (λ ss. section.own_fault (section_at ss c.args.place).lines) c.sections.ensures)
    (sym c.in_default-2.is ∙ c.in_ok-fault-2.ensures ∙ ap (λ at. section.rules_fault (resolved_at at)) c.new-section.ensures))
    c.started.ensures
