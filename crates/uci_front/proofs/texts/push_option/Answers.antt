use Rattle.uci_front.proofs.TextLemmas.{option_said}
use Rattle.uci_front.proofs.texts.push_option.Goals as goal

pub returns : goal.returns
returns c =
    option_said c.extend_from_slice-3.result c.args.text.now.items _ _ c.extend_from_slice-3.new.self.items c.args.name.now c.args.values.now
    c.in_ok-extend_from_slice.ensures.items c.in_ok-extend_from_slice-2.ensures.items c.extend_from_slice-3.ensures.items
