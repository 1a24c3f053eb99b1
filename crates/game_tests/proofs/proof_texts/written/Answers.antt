use Rattle.std.proofs.Common.{Ok, sym, ap, ◌∙◌}
use Rattle.variant_rules.specs.View.{lent}
use Rattle.proof_text.proofs.EntryLemmas.{entry-found, found-within}
use Rattle.game_tests.proofs.proof_texts.written.Goals as goal

pub write_proof-requires-clause-section : goal.write_proof-requires-clause-section
write_proof-requires-clause-section c =
    found-within _ c.args.row.now.place c.in_ok-variants.variants c.entry.result c.in_ok-variants.ensures c.entry.ensures.is

pub write_proof-requires-clause-accepted : goal.write_proof-requires-clause-accepted
write_proof-requires-clause-accepted c =
    sym (entry-found _ c.args.row.now.place c.in_ok-variants.variants c.entry.result c.in_ok-variants.ensures c.entry.ensures.is)
    ∙ ap lent c.in-Ok.is
    ∙ ap Ok (sym c.in_ok-game.ensures)
