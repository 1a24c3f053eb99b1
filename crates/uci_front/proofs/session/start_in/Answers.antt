use Rattle.std.proofs.Common.{◌≡◌, ◌∙◌, ap, sym}
use Rattle.std.specs.Prelude.{Some, Ok}
use Rattle.variant_rules.specs.Entries.{entries, found}
use Rattle.uci_front.proofs.SessionLemmas.{starts_at}
use Rattle.uci_front.proofs.session.start_in.Goals as goal

pub returns-in_ok-game-in-Rules : goal.returns-in_ok-game-in-Rules
returns-in_ok-game-in-Rules c =
    let is : found (entries c.args.sections.now) c.args.name.now ≡ Some (Ok c.in-Rules.rules.now) =
    ap (λ variants. found variants c.args.name.now) (sym c.requires.judged) ∙ sym c.in-Rules.ensures.is in
    starts_at c.args.sections.now c.args.name.now c.unwrap_or-place.result c.in_ok-game-in-Rules.game c.in-Rules.rules.now c.place_of.result is c.place_of.ensures c.unwrap_or-place.ensures c.in_ok-game-in-Rules.ensures
