use Rattle.proof_text.proofs.WriteLemmas.{rules-pushed}
use Rattle.proof_text.proofs.writing.push_rules.Goals as goal

pub returns : goal.returns
returns c =
    rules-pushed c.args.pairs.now c.args.text.now.items c.push_counted.new.text.items c.push_pairs.new.text.items
    c.in_ok-push_counted.ensures c.in_ok-push_pairs.ensures
