use Rattle.variant_rules.specs.View.{found_view}
use Rattle.one_shots.proofs.GenerateLemmas.{generate_says}
use Rattle.one_shots.proofs.generating.generate.Goals as goal

pub returns-clause-answers : goal.returns-clause-answers
returns-clause-answers g c =
    generate_says c.args.sections.now c.args.name.now c.args.number c.args.plies c.generate_in.result (found_view c.find.result)
    (rw (c.as_bytes.ensures.value, c.in_ok-variants.ensures) at c.find.ensures.is) c.generate_in.ensures.answers
