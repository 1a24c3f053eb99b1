use Rattle.std.proofs.Common.{not, ap, ◌∙◌}
use Rattle.rules_model.specs.Attacks.{king_attacked}
use Rattle.rules_model.specs.Legal.{is_safe}
use Rattle.rules_model.specs.Next.{next_repeat}
use Rattle.legality.proofs.pin_info.PinInfo.is_safe_on.Goals as goal

pub returns : goal.returns
unfolding is_safe next_repeat
returns c =
    let rules = c.args.self.now.tables.now in
    let side = c.args.self.now.p.now.side in
    ap (λ b. not b) (c.king_attacked_on.ensures ∙ ap (λ cells. king_attacked rules cells side) c.requires.after)
