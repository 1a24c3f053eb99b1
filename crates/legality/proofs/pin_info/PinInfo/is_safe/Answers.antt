use Rattle.std.proofs.Common.{sym, ◌∙◌}
use Rattle.legality.proofs.PinLaws.{free_drop_is_safe, free_is_safe}
use Rattle.legality.proofs.pin_info.PinInfo.is_safe.Goals as goal

pub returns-then-is_free_go : goal.returns-then-is_free_go
returns-then-is_free_go c = sym (free_is_safe _ _ _ _ _ c.args.self.now.go_freely c.requires (sym c.is_free_go.ensures ∙ c.if-is_free_go.true))

pub returns-then-is_free_drop : goal.returns-then-is_free_drop
returns-then-is_free_drop c =
    sym (free_drop_is_safe _ _ _ _ c.args.self.now.drop_freely c.requires (sym c.is_free_drop.ensures ∙ c.if-is_free_drop.true))
