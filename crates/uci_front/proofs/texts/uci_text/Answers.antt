use Rattle.std.proofs.Common.{rules}
use Rattle.uci_front.proofs.TextLemmas.{introduced}
use Rattle.uci_front.proofs.texts.uci_text.Goals as goal

pub returns : goal.returns
returns c = λ sections is.
    introduced c.args.variants.now sections c.in_ok-items.items.items c.push_options.new.text.items c.push_choices.new.text.items _ is (search rules)
    c.in_ok-push_options.ensures c.in_ok-push_choices.ensures c.in_ok-extend_from_slice.ensures.items
