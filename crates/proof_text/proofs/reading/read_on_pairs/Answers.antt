use Rattle.std.proofs.Common.{subst}
use Rattle.std.specs.Prelude.{Result}
use Rattle.rules_model.specs.declared.rules.Rules.{Rules}
use Rattle.variant_model.specs.declared.fault.SectionFault.{SectionFault}
use Rattle.proof_text.specs.Reading.{with_rules}
use Rattle.proof_text.specs.TakingView.{Hears, SaysProof}
use Rattle.proof_text.proofs.EntryLemmas.{entry-first, entry-there}
use Rattle.proof_text.proofs.reading.read_on_pairs.Goals as goal

pub entry-requires : goal.entry-requires
entry-requires g c = entry-there c.args.pairs.now c.in_ok-variants.variants c.in_ok-variants.ensures

pub returns-clause-heard : goal.returns-clause-heard
returns-clause-heard g c =
    subst (λ (r : Result Rules SectionFault). Hears (g.S.Source.left c.args.source.now) (g.S.Source.left c.read_on_entry.new.source) (with_rules c.args.number r) (λ said. SaysProof said c.read_on_entry.result))
    (entry-first c.args.pairs.now c.in_ok-variants.variants c.entry.result c.in_ok-variants.ensures c.entry.ensures.is) c.read_on_entry.ensures.heard
