use Rattle.std.proofs.Common.{◌≡◌, ◌-◌, Err, refl, ap, ◌∙◌, arith, rules}
use Rattle.mate_core.specs.declared.frame.Frame.{Frame}
use Rattle.mate_tree.proofs.WeightLaws.{leaves-lines}
use Rattle.mate_tree.specs.Weights.{forest}
use Rattle.mate_search.proofs.HandedLaws.{handed_more, handed_none}
use Rattle.mate_search.specs.Races.{tree_lines}
use Rattle.mate_search.proofs.tree_round.grow_tree.Goals as goal

pub returns-then-n-lt-LEAST_MOVES-clause-handed : goal.returns-then-n-lt-LEAST_MOVES-clause-handed
returns-then-n-lt-LEAST_MOVES-clause-handed g c = handed_none c.args.shards.now c.args.passes.now c.requires.passes

pub returns-then-n-lt-LEAST_MOVES-clause-gone : goal.returns-then-n-lt-LEAST_MOVES-clause-gone
returns-then-n-lt-LEAST_MOVES-clause-gone g c =
    g.met.W.Watch.wider _ _ 0 (tree_lines c.args.shards.now.frame c.args.n c.args.board.now.position) (g.met.W.Watch.none c.args.watch.now) (omega arith)

pub returns-in_err-roots-clause-handed : goal.returns-in_err-roots-clause-handed
returns-in_err-roots-clause-handed g c = handed_none c.args.shards.now c.args.passes.now c.requires.passes

pub returns-in_err-roots-clause-ended : goal.returns-in_err-roots-clause-ended
returns-in_err-roots-clause-ended g c why is =
    let most = tree_lines c.args.shards.now.frame c.args.n c.args.board.now.position in
    let memory = g.met.W.Watch.memory _ _ most (g.met.W.Watch.wider _ _ 0 most (g.met.W.Watch.none c.args.watch.now) (omega arith)) in
    search rules

pub loop-step-init : goal.loop-step-init
loop-step-init g c = record {
  facts = refl;
  handed = handed_none c.args.shards.now _ c.requires.passes;
  less = leaves-lines c.args.shards.now.frame c.args.board.now c.args.n c.in_ok-roots.roots.items c.requires.rules c.requires.some c.in_ok-roots.ensures;
  gone = g.met.W.Watch.wider _ _ 0 _ (g.met.W.Watch.none c.args.watch.now) (omega arith);
}

pub returns-then-is_empty-clause-gone : goal.returns-then-is_empty-clause-gone
returns-then-is_empty-clause-gone g c = g.met.W.Watch.wider _ _ _ _ c.loop-step.invariant.gone (omega arith)

pub returns-in_err-grown-clause-handed : goal.returns-in_err-grown-clause-handed
returns-in_err-grown-clause-handed g c = handed_more c.args.shards.now _ _ _ c.loop-step.invariant.handed c.grow_once.ensures.handed

pub returns-in_err-grown-clause-ended : goal.returns-in_err-grown-clause-ended
returns-in_err-grown-clause-ended g c why is =
    let old = c.loop-step.invariant in
    let n = c.args.n in
    let p = c.args.board.now.position in
    let before = ap (λ (f : Frame). forest f n p c.loop-step.roots.items) (old.facts ∙ c.requires.facts) in
    let less = old.less in
    let back : c.grow_once.result ≡ Err why = search rules in
    g.met.W.Watch.ends_wider _ _ _ (tree_lines c.args.shards.now.frame n p) why
    (g.met.W.Watch.ends _ _ _ _ _ why old.gone (c.grow_once.ensures.ended why back)) (omega (arith, before, less))

pub returns-then-is_some-clause-handed : goal.returns-then-is_some-clause-handed
returns-then-is_some-clause-handed g c = handed_more c.args.shards.now _ _ _ c.loop-step.invariant.handed c.in_ok-grown.ensures.handed

pub returns-then-is_some-clause-gone : goal.returns-then-is_some-clause-gone
returns-then-is_some-clause-gone g c =
    let old = c.loop-step.invariant in
    let n = c.args.n in
    let p = c.args.board.now.position in
    let before = ap (λ (f : Frame). forest f n p c.loop-step.roots.items) (old.facts ∙ c.requires.facts) in
    let less = old.less in
    let went = c.in_ok-grown.ensures.gone in
    let fewer = went.0 in
    g.met.W.Watch.wider _ _ _ (tree_lines c.args.shards.now.frame n p) (g.met.W.Watch.more _ _ _ _ _ old.gone went.1) (omega (arith, before, less, fewer))

pub loop-step-preserved : goal.loop-step-preserved
loop-step-preserved g c =
    let old = c.loop-step.invariant in
    let n = c.args.n in
    let p = c.args.board.now.position in
    let kept : c.loop-step.facts ≡ c.args.shards.now.frame = old.facts ∙ c.requires.facts in
    let before = ap (λ (f : Frame). forest f n p c.loop-step.roots.items) kept in
    let after = ap (λ (f : Frame). forest f n p c.grow_once.new.roots.items) kept in
    let less = old.less in
    let e = c.in_ok-grown.ensures in
    let fewer = e.gone.0 in
    record {
      facts = e.facts ∙ old.facts;
      handed = handed_more c.args.shards.now _ _ _ old.handed e.handed;
      less = omega (arith, before, after, less, fewer);
      gone = g.met.W.Watch.wider _ _ _ _ (g.met.W.Watch.more _ _ _ _ _ old.gone e.gone.1) (omega (arith, before, after, less, fewer));
    }

pub returns-clause-gone : goal.returns-clause-gone
returns-clause-gone g c = g.met.W.Watch.wider _ _ _ _ c.loop-step.invariant.gone (omega arith)
