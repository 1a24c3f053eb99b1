use Rattle.std.proofs.Common.{◌≡◌, true, sym, ◌∙◌}
use Rattle.move_tables.specs.Lines.{by_spot}
use Rattle.pins.proofs.evasion.kind_way.Goals as goal

pub returns-then-has : goal.returns-then-has
returns-then-has c = λ now board is agree.
    let reached : by_spot c.spot-spot.result.now c.args.occupied c.args.king.0 ≡ true = sym (c.reach.ensures c.args.king.0) ∙ sym c.has.ensures ∙ c.if-has.true in
    sym (c.spot-spot.ensures now board is c.args.king.0) ∙ sym (c.spot_way.ensures c.args.occupied now agree) ∙ reached
