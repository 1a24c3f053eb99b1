use Rattle.std.proofs.Common.{◌≡◌, ◌++◌, List, None, Ok, length, subst, sym, ℕ}
use Rattle.rules_model.specs.declared.rules.Rules.{Rules}
use Rattle.variant_ini.specs.Reading.{fault_of, sections_in}
use Rattle.variant_model.specs.Entry.{entry}
use Rattle.proof_text.specs.Writing.{section_text}
use Rattle.one_shots.specs.RulesTold.{below_header}
use Rattle.one_shots.proofs.RulesLemmas.{told_parts}
use Rattle.one_shots.proofs.laws.printed_rules_are_read_back.Goals as goal

pub returns-clause-faultless : goal.returns-clause-faultless
returns-clause-faultless c = λ sections variant name text files says is short.
    let (rules, place, found_is, place_is, accepted, text_is) = told_parts sections variant text says in
    subst (λ (t : List ℕ). fault_of (below_header name t) ≡ None) (sym text_is)
    (c.told_rules_are_read_back.ensures.faultless sections place name rules files accepted is (short place place_is))

pub returns-clause-rules : goal.returns-clause-rules
returns-clause-rules c = λ sections earlier variant name text rules files found_as says is none.
    let (told, place, found_is, place_is, accepted, text_is) = told_parts sections variant text says in
    let same : told ≡ rules = cc in
    subst (λ (t : List ℕ). entry (earlier ++ sections_in (below_header name t)) (length earlier) ≡ Ok rules) (sym text_is)
    (subst (λ (r : Rules). entry (earlier ++ sections_in (below_header name (section_text sections place))) (length earlier) ≡ Ok r) same
    (c.told_rules_are_read_back.ensures.rules sections earlier place name told files accepted is none))
