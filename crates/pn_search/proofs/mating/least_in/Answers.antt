use Rattle.std.proofs.Common.{◌≡◌, ◌+◌, arith, sym, ◌∙◌, ap, subst}
use Rattle.forced_wins.specs.Wins.{wins}
use Rattle.game_play.specs.Played.{story}
use Rattle.mate_search.proofs.LeastLaws.{NoneBefore, least-found, least-none, none-more}
use Rattle.pn_search.proofs.mating.least_in.Goals as goal

pub returns-then-found : goal.returns-then-found
returns-then-found c =
    let s = story c.args.game.now in
    let side : c.args.frame.now.attacker ≡ s.last.side = c.requires.frame.attacker_is in
    sym (least-found c.args.game.now.rules s c.args.n c.loop-k.k (omega arith) (omega arith) c.loop-k.invariant
    (ap (wins c.args.game.now.rules c.loop-k.k s) (sym side) ∙ sym c.in_ok-found.ensures.won_is ∙ c.if-found.true))

pub loop-k-preserved : goal.loop-k-preserved
loop-k-preserved c =
    let s = story c.args.game.now in
    let side : c.args.frame.now.attacker ≡ s.last.side = c.requires.frame.attacker_is in
    none-more c.args.game.now.rules s c.loop-k.k (omega arith) c.loop-k.invariant
    (ap (wins c.args.game.now.rules c.loop-k.k s) (sym side) ∙ sym c.in_ok-found.ensures.won_is ∙ c.if-found.false)

pub returns : goal.returns
returns c =
    let end : c.loop-k.k ≡ c.args.n + 1 = omega arith in
    sym (least-none c.args.game.now.rules (story c.args.game.now) c.args.n (subst (λ m. NoneBefore c.args.game.now.rules (story c.args.game.now) m) end c.loop-k.invariant))
