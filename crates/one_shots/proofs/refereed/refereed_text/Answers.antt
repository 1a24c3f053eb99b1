use Rattle.std.proofs.Common.{arith}
use Rattle.game_text.proofs.HeardLemmas.{heard_nothing}
use Rattle.one_shots.proofs.refereed.refereed_text.Goals as goal

pub perft-requires : goal.perft-requires
perft-requires g c = let plies = rw c.in-Perft.is at c.requires.plies in record { least = plies.0; most = plies.1 }

pub self_mate-requires : goal.self_mate-requires
self_mate-requires g c = let moves = rw c.in-SelfMate.is at c.requires.plies in record { least = moves.0; most = moves.1 }

pub help_mate-requires : goal.help_mate-requires
help_mate-requires g c = let moves = rw c.in-HelpMate.is at c.requires.plies in record { least = moves.0; most = moves.1 }

pub returns-in-Moves-clause-heard : goal.returns-in-Moves-clause-heard
returns-in-Moves-clause-heard g c = rw c.in-Moves.is c.moves.ensures.heard

pub returns-in-Status-clause-heard : goal.returns-in-Status-clause-heard
returns-in-Status-clause-heard g c = rw c.in-Status.is c.status.ensures.heard

pub returns-in-Checkers-clause-heard : goal.returns-in-Checkers-clause-heard
returns-in-Checkers-clause-heard g c = rw c.in-Checkers.is c.checkers_text.ensures.heard

pub returns-in-Perft-clause-heard : goal.returns-in-Perft-clause-heard
returns-in-Perft-clause-heard g c = rw c.in-Perft.is c.perft.ensures.heard

pub returns-in-Check-clause-heard : goal.returns-in-Check-clause-heard
returns-in-Check-clause-heard g c = rw c.in-Check.is c.check_text.ensures.heard

pub returns-in-SelfMate-clause-heard : goal.returns-in-SelfMate-clause-heard
returns-in-SelfMate-clause-heard g c = rw c.in-SelfMate.is c.self_mate.ensures.heard

pub returns-in-HelpMate-clause-heard : goal.returns-in-HelpMate-clause-heard
returns-in-HelpMate-clause-heard g c = rw c.in-HelpMate.is c.help_mate.ensures.heard

pub returns-in-CheckCert-clause-heard : goal.returns-in-CheckCert-clause-heard
returns-in-CheckCert-clause-heard g c = rw c.in-CheckCert.is c.cert_check_text.ensures.heard

pub returns-in-Variants-clause-heard : goal.returns-in-Variants-clause-heard
returns-in-Variants-clause-heard g c = rw c.in-Variants.is (heard_nothing _ _ _ (λ lines. c.variants.ensures.answers))

pub returns-in-Variants-clause-cause : goal.returns-in-Variants-clause-cause
returns-in-Variants-clause-cause g c = record { later = omega arith; failed = λ unheard. absurd (c.variants.ensures.reads_nothing unheard) }

pub returns-in-Reach-clause-heard : goal.returns-in-Reach-clause-heard
returns-in-Reach-clause-heard g c = rw c.in-Reach.is (heard_nothing _ _ _ (λ lines. c.reach.ensures.answers))

pub returns-in-Reach-clause-cause : goal.returns-in-Reach-clause-cause
returns-in-Reach-clause-cause g c = record { later = omega arith; failed = λ unheard. absurd (c.reach.ensures.reads_nothing unheard) }

pub returns-in-RulesOf-clause-heard : goal.returns-in-RulesOf-clause-heard
returns-in-RulesOf-clause-heard g c = rw c.in-RulesOf.is (heard_nothing _ _ _ (λ lines. c.rules_text.ensures.answers))

pub returns-in-RulesOf-clause-cause : goal.returns-in-RulesOf-clause-cause
returns-in-RulesOf-clause-cause g c = record { later = omega arith; failed = λ unheard. absurd (c.rules_text.ensures.reads_nothing unheard) }

pub returns-in-Help-clause-heard : goal.returns-in-Help-clause-heard
returns-in-Help-clause-heard g c = rw c.in-Help.is (heard_nothing _ _ _ (λ lines. c.help.ensures.answers))

pub returns-in-Help-clause-cause : goal.returns-in-Help-clause-cause
returns-in-Help-clause-cause g c = record { later = omega arith; failed = λ unheard. absurd (c.help.ensures.reads_nothing unheard) }

pub returns-in-Version-clause-heard : goal.returns-in-Version-clause-heard
returns-in-Version-clause-heard g c = rw c.in-Version.is (heard_nothing _ _ _ (λ lines. c.version.ensures.answers))

pub returns-in-Version-clause-cause : goal.returns-in-Version-clause-cause
returns-in-Version-clause-cause g c = record { later = omega arith; failed = λ unheard. absurd (c.version.ensures.reads_nothing unheard) }
