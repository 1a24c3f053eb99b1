use Rattle.std.proofs.Common.{sym}
use Rattle.attack_tables.proofs.tables.Tables.flag_region.Goals as goal

pub returns : goal.returns
returns c = rw (sym c.self.view_is) (c.of.ensures _ c.self.invariant.6)
