use Rattle.std.proofs.Common.{◌≡◌, ◌∙◌, sym, subst}
use Rattle.foundation.specs.Member.{Member}
use Rattle.checkers.specs.Checkers.{IsAscending}
use Rattle.checkers.proofs.CheckerLaws.{ascending, attack-listed, listed-attack, none-safe, safe-none}
use Rattle.checkers.proofs.attackers.checkers.Goals as goal

pub returns-clause-attack : goal.returns-clause-attack
returns-clause-attack c = λ s m. listed-attack c.args.rules.now c.args.p.now.cells c.args.p.now.side s (subst (Member s) c.in_ok-found.ensures m)

pub returns-clause-listed : goal.returns-clause-listed
returns-clause-listed c = λ s l is. subst (Member s) (sym c.in_ok-found.ensures) (attack-listed c.args.rules.now c.args.p.now.cells c.args.p.now.side s l is)

pub returns-clause-ascending : goal.returns-clause-ascending
returns-clause-ascending c = subst IsAscending (sym c.in_ok-found.ensures) (ascending c.args.rules.now c.args.p.now.cells c.args.p.now.side)

pub returns-clause-safe : goal.returns-clause-safe
returns-clause-safe c = (λ none. none-safe c.args.rules.now c.args.p.now.cells c.args.p.now.side (sym c.in_ok-found.ensures ∙ none), λ safe. c.in_ok-found.ensures ∙ safe-none c.args.rules.now c.args.p.now.cells c.args.p.now.side safe)
