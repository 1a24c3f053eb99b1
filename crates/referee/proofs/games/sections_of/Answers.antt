use Rattle.std.proofs.Common.{[], Some, None, refl}
use Rattle.std.specs.Option.{option_copied}
use Rattle.referee.proofs.GameLemmas.{given_so}
use Rattle.referee.proofs.ReplyLemmas.{tells_reads}
use Rattle.referee.proofs.games.sections_of.Goals as goal

pub returns-in-None : goal.returns-in-None
returns-in-None c = given_so (option_copied c.args.file) None _ _ (rw c.in-None.is refl) (tells_reads _ (option_copied c.args.file) _ _ refl) c.sections_with.ensures.has

pub returns-in-Some : goal.returns-in-Some
returns-in-Some c = given_so (option_copied c.args.file) (Some []) _ _ (rw c.in-Some.is refl) (tells_reads _ (option_copied c.args.file) _ _ refl) c.sections_with-in-Some.ensures.has
