use Rattle.std.proofs.Common.{◌≡◌, arith, subst, ◌+◌}
use Rattle.game_play.specs.Played.{story}
use Rattle.mate_search.proofs.LeastLaws.{limit-within}
use Rattle.mate_showing.specs.Tables.{nodes}
use Rattle.suite.proofs.LeastFor.{NoneBefore, found-none, found-win, none-first, none-more}
use Rattle.suite.proofs.winning.least_over.Goals as goal

pub loop-k-init : goal.loop-k-init
loop-k-init g c = record {
  none = none-first c.args.game.now.rules (story c.args.game.now) c.args.side;
  passes = c.requires.passes;
}

pub settled_within-handed_back-requires-clause-uncounted : goal.settled_within-handed_back-requires-clause-uncounted
settled_within-handed_back-requires-clause-uncounted g c =
    limit-within c.args.game.now.rules (story c.args.game.now) c.loop-k.k c.args.n (omega arith) c.requires.uncounted

pub returns-in-Ok-Some : goal.returns-in-Ok-Some
returns-in-Ok-Some g c =
    let settled = rw c.in-Ok-Some.is at c.settled_within-handed_back.ensures.settled in
    found-win c.args.game.now.rules (story c.args.game.now) c.args.side c.args.n c.loop-k.k c.in-Ok-Some.strategy
    (λ rules. c.good_strategies_win.ensures rules nodes) (omega arith) (omega arith) c.loop-k.invariant.none
    (rw c.in-Ok-Some.field-0-is at settled)

pub loop-k-preserved : goal.loop-k-preserved
loop-k-preserved g c =
    let settled = rw c.in-Ok-None.is at c.settled_within-handed_back.ensures.settled in
    record {
      none = none-more c.args.game.now.rules (story c.args.game.now) c.args.side c.loop-k.k (omega arith)
          c.loop-k.invariant.none (rw c.in-Ok-None.field-0-is at settled);
      passes = c.settled_within-handed_back.ensures.passes;
    }

pub returns : goal.returns
returns g c =
    let end : c.loop-k.k ≡ c.args.n + 1 = omega arith in
    found-none c.args.game.now.rules (story c.args.game.now) c.args.side c.args.n
    (subst (λ m. NoneBefore c.args.game.now.rules (story c.args.game.now) c.args.side m) end c.loop-k.invariant.none)
