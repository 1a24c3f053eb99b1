use Rattle.std.proofs.Common.{sym, ◌∙◌}
use Rattle.legality.proofs.PinLaws.{no_evasion_is_not_safe, not_safe_not_sane, plain_sane}
use Rattle.legality.proofs.pin_info.PinInfo.is_sane.Goals as goal

pub returns-else-asks_more : goal.returns-else-asks_more
returns-else-asks_more c = c.is_safe.ensures ∙ sym (plain_sane _ _ _ (sym c.asks_more.ensures ∙ c.if-asks_more.false))

pub returns-then-is_no_evasion : goal.returns-then-is_no_evasion
returns-then-is_no_evasion c =
    let now = c.args.self.now in
    let unsafe = no_evasion_is_not_safe _ _ _ _ _ _ now.go_without_evading now.drop_without_evading now.gate_without_evading c.args.m.now c.requires (sym c.is_no_evasion.ensures ∙ c.if-is_no_evasion.true) in
    sym (not_safe_not_sane _ _ _ unsafe)
