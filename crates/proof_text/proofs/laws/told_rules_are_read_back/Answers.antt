use Rattle.std.proofs.Common.{◌≡◌, ◌++◌, Ok, List, length, subst, sym}
use Rattle.variant_ini.specs.Section.{Section}
use Rattle.variant_model.specs.Entry.{entry}
use Rattle.variant_model.specs.Told.{told}
use Rattle.proof_text.specs.Writing.{section_text}
use Rattle.proof_text.proofs.FileOfRulesLemmas.{file-faultless, file-section, told-said}
use Rattle.proof_text.proofs.LaterSectionLemmas.{later-entry}
use Rattle.proof_text.proofs.laws.told_rules_are_read_back.Goals as goal

pub returns-clause-faultless : goal.returns-clause-faultless
unfolding section_text
returns-clause-faultless c = λ sections place name rules files accepted is short.
    let lines = c.told_lines_are_lines_of_files.ensures sections place files in
    let no_return = c.told_values_end_in_no_return.ensures sections place rules accepted in
    file-faultless name is (told sections place) (told-said sections place lines no_return)
    (c.told_sections_have_the_same_rules.ensures.few sections place) short

pub returns-clause-section : goal.returns-clause-section
unfolding section_text
returns-clause-section c = λ sections place name rules files accepted is.
    let lines = c.told_lines_are_lines_of_files.ensures sections place files in
    let no_return = c.told_values_end_in_no_return.ensures sections place rules accepted in
    file-section name is (told sections place) (told-said sections place lines no_return)

pub returns-clause-rules : goal.returns-clause-rules
returns-clause-rules c = λ sections earlier place name rules files accepted is none.
    let one = returns-clause-section c sections place name rules files accepted is in
    let same = c.told_sections_have_the_same_rules.ensures.same sections place name rules accepted in
    subst (λ (ss : List Section). entry (earlier ++ ss) (length earlier) ≡ Ok rules) (sym one)
    (later-entry earlier name _ none rules same)
