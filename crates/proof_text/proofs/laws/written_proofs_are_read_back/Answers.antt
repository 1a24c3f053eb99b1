use Rattle.std.specs.Prelude.{codes}
use Rattle.proof_text.specs.Reading.{rules_of}
use Rattle.proof_text.proofs.FileBackLemmas.{told-back}
use Rattle.proof_text.proofs.ProofBackLemmas.{proof-back}
use Rattle.proof_text.proofs.laws.written_proofs_are_read_back.Goals as goal

pub returns : goal.returns
unfolding rules_of
returns c = λ sections place g n s files accepted played least most sound readable few.
    let laws = c.told_sections_have_the_same_rules.ensures in
    let lines = c.told_lines_are_lines_of_files.ensures sections place files in
    let no_return = c.told_values_end_in_no_return.ensures sections place g.rules accepted in
    proof-back g n s
    (record { played = played; least = least; most = most; sound = sound; readable = readable; few = few })
    sections place (told-back sections place lines no_return)
    (laws.some sections place g.rules accepted)
    (laws.few sections place)
    (laws.same sections place (codes "proof") g.rules accepted)
