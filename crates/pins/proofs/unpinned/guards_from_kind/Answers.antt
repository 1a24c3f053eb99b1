use Rattle.std.proofs.Common.{sym, ◌∙◌}
use Rattle.move_tables.specs.declared.mode.Mode.TheVariants.{Take}
use Rattle.move_tables.proofs.ReachLaws.{no_kind}
use Rattle.pins.proofs.unpinned.guards_from_kind.Goals as goal

pub returns-then-kind-ge26 : goal.returns-then-kind-ge26
returns-then-kind-ge26 c = λ leave to moved board l out gone is.
    no_kind c.args.tables.now board c.args.by c.args.kind (record { 0 = c.args.from }) Take c.args.king.0 c.rules-rules.ensures.fit c.if-kind-ge26.true

pub returns : goal.returns
returns c = λ leave to moved board l out gone is. sym (c.spot.ensures moved board is c.args.king.0) ∙ c.guards.ensures leave to moved l out gone
