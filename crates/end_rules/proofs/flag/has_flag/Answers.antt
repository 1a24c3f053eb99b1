use Rattle.std.proofs.Common.{sym}
use Rattle.end_rules.proofs.EarlyLaws.{no_flag}
use Rattle.end_rules.proofs.flag.has_flag.Goals as goal

pub returns-in-None : goal.returns-in-None
returns-in-None c = sym (no_flag _ _ _ c.in-None.is)
