use Rattle.std.proofs.Common.{ap, sym, ◌∙◌, arith}
use Rattle.rules_model.specs.Games.{times}
use Rattle.rules_model.specs.Repeats.{repeat_of}
use Rattle.game_play.proofs.StandingLemmas.{times-few, walk-starts, walk-falls, walk-goes-on, walk-finds, walk-ends}
use Rattle.game_play.proofs.standings.Standings.times.Goals as goal

pub loop-at-init : goal.loop-at-init
loop-at-init c =
    let i = c.self.inside in
    walk-starts i.positions.items (repeat_of c.args.p.now) i.keys.items i.counts.items i.heads.items i.before.items c.self.invariant c.args.key c.slot_of.result c.index-at.result.now c.requires.key c.slot_of.ensures.is c.index-at.ensures

pub returns-then-is_standing-clause-is : goal.returns-then-is_standing-clause-is
returns-then-is_standing-clause-is c =
    let i = c.self.inside in
    walk-finds i.positions.items (repeat_of c.args.p.now) i.keys.items i.counts.items i.heads.items i.before.items c.self.invariant c.loop-at.at c.loop-at.invariant c.loop-at-test.true c.index.result.now c.index.ensures
    (sym c.is_standing.ensures ∙ c.if-is_standing.true) c.index-then-is_standing.result.now c.index-then-is_standing.ensures
    ∙ ap (times (repeat_of c.args.p.now)) c.self.view_is

pub returns-then-is_standing-clause-few : goal.returns-then-is_standing-clause-few
returns-then-is_standing-clause-few c =
    let is = returns-then-is_standing-clause-is c in
    let few = times-few (repeat_of c.args.p.now) c.args.self.now in
    omega arith

pub loop-at-smaller : goal.loop-at-smaller
loop-at-smaller c =
    let i = c.self.inside in
    walk-falls i.positions.items (repeat_of c.args.p.now) i.keys.items i.counts.items i.heads.items i.before.items c.self.invariant c.loop-at.at c.loop-at.invariant c.loop-at-test.true c.index-at-in-loop-at.result.now c.index-at-in-loop-at.ensures

pub loop-at-preserved : goal.loop-at-preserved
loop-at-preserved c =
    let i = c.self.inside in
    walk-goes-on i.positions.items (repeat_of c.args.p.now) i.keys.items i.counts.items i.heads.items i.before.items c.self.invariant c.loop-at.at c.loop-at.invariant c.loop-at-test.true c.index.result.now c.index.ensures
    (sym c.is_standing.ensures ∙ c.if-is_standing.false) c.index-at-in-loop-at.result.now c.index-at-in-loop-at.ensures

pub returns-clause-is : goal.returns-clause-is
returns-clause-is c =
    walk-ends c.self.inside.positions.items (repeat_of c.args.p.now) c.loop-at.at c.loop-at.invariant (omega arith)
    ∙ ap (times (repeat_of c.args.p.now)) c.self.view_is
