use Rattle.std.proofs.Common.{◌≡◌, subst, rules}
use Rattle.foundation.specs.Member.{Lists, Member}
use Rattle.game_play.specs.Played.{story}
use Rattle.legality.specs.Stance.{Stance, legal_in}
use Rattle.mate_search.proofs.solve_memory.prepare.Goals as goal

pub returns-clause-roots : goal.returns-clause-roots
returns-clause-roots c =
    let board : c.new-board.result ≡ record { rules = c.args.game.now.rules; position = (story c.args.game.now).last } = search rules in
    subst (λ (b : Stance). Lists (λ m. Member m (legal_in b)) c.in_ok-roots.roots.items) board c.in_ok-roots.ensures
