use Rattle.std.proofs.Common.{arith}
use Rattle.game_text.proofs.HeardLemmas.{heard_nothing}
use Rattle.one_shots.proofs.answers.searched_text.Goals as goal

pub generate-requires : goal.generate-requires
generate-requires g c = (c.type_bounds.sync-R, rw c.in-Generate.is at c.requires.plies)

pub returns-in-Generate-clause-heard : goal.returns-in-Generate-clause-heard
returns-in-Generate-clause-heard g c = rw c.in-Generate.is (heard_nothing _ _ _ (λ lines. c.generate.ensures.answers))

pub returns-in-Generate-clause-cause : goal.returns-in-Generate-clause-cause
returns-in-Generate-clause-cause g c = record { later = omega arith; failed = λ unheard. absurd (c.generate.ensures.reads_nothing unheard) }

pub returns-in-Suite-clause-heard : goal.returns-in-Suite-clause-heard
returns-in-Suite-clause-heard g c = rw c.in-Suite.is c.suite_text.ensures.heard

pub pn_mate_text-requires : goal.pn_mate_text-requires
pn_mate_text-requires g c = let moves = rw c.in-PnMate.is at c.requires.plies in record { least = moves.0; most = moves.1 }

pub returns-in-PnMate-clause-heard : goal.returns-in-PnMate-clause-heard
returns-in-PnMate-clause-heard g c = rw c.in-PnMate.is c.pn_mate_text.ensures.heard

pub keys_text-requires : goal.keys_text-requires
keys_text-requires g c = let moves = rw c.in-Keys.is at c.requires.plies in record { least = moves.0; most = moves.1 }

pub returns-in-Keys-clause-heard : goal.returns-in-Keys-clause-heard
returns-in-Keys-clause-heard g c = rw c.in-Keys.is c.keys_text.ensures.heard
