use Rattle.std.proofs.Common.{◌+◌, ◌*◌, ◌≤◌, get_or, refl, sym, subst, ◌∙◌, arith}
use Rattle.std.specs.Prelude.{pos, negsuc}
use Rattle.std.specs.List.{All}
use Rattle.std.proofs.lemmas.List.{take_all}
use Rattle.std.proofs.lemmas.List.Elements.{Contains-get_or}
use Rattle.foundation.specs.Member.{Member}
use Rattle.foundation.proofs.Members.{member-contains}
use Rattle.game_line.specs.Lined.{legal_in, story_of_line}
use Rattle.evaluation.specs.Values.{greatest}
use Rattle.negamax.specs.RootFacts.{IsTrueFact, Settles, root_tree, score_of}
use Rattle.negamax.specs.Windows.{Bounds}
use Rattle.negamax.proofs.HaltLaws.{halted}
use Rattle.negamax.proofs.RootLaws.{chooses-next, chooses-none, greatest-more, greatest-none, no_move}
use Rattle.alpha_beta.specs.Workers.{most_nodes}
use Rattle.alpha_beta.proofs.RootLaws.{lines-more, lines-part}
use Rattle.alpha_beta.proofs.settling.settle_all.Goals as goal

pub loop-m-init : goal.loop-m-init
loop-m-init g c =
    let line = c.args.line.now in
    record {
      line = refl;
      within = c.requires.within;
      bounds = λ v h. subst (λ x. Bounds (negsuc 32001) (pos 32002) c.args.first.value x)
          (sym (greatest-none (score_of line.rules c.args.depth 0 (story_of_line line)) v c.args.moves.now)) h;
      chosen = chooses-none line.rules c.args.depth 0 (story_of_line line) (negsuc 32001) c.args.moves.now c.args.first;
      few = omega arith;
      count = refl;
      gone = g.met.W.Watch.wider _ _ _ _ (g.met.W.Watch.none c.args.watch.now) (omega arith);
    }

pub loop-m-preserved : goal.loop-m-preserved
loop-m-preserved g c =
    let rules = c.args.line.now.rules in
    let story = story_of_line c.args.line.now in
    let moves = c.args.moves.now in
    let i = c.loop-m.m-index in
    let m = get_or moves i no_move in
    let old = c.loop-m.invariant in
    let done = c.in_ok-best.ensures in
    let size = root_tree rules c.args.depth story in
    let went = subst (λ l. g.W.Watch.gone c.loop-m.watch c.settle.new.watch (2 * root_tree l.rules c.args.depth (story_of_line l) m)) old.line done.gone in
    let few = subst (λ l. most_nodes 0 c.settle.new.jobs ≤ most_nodes 0 c.loop-m.jobs + root_tree l.rules c.args.depth (story_of_line l) m) old.line done.few in
    let so_far = old.few in
    let settled = subst (λ l. Settles l.rules c.args.depth 0 (story_of_line l) (negsuc 32001) (pos 32002) m c.loop-m.best c.in_ok-best.best) old.line done.settles in
    let there : Member m moves = member-contains _ moves (Contains-get_or moves i no_move c.loop-m-test.true) in
    let more = lines-more rules c.args.depth story moves i no_move c.loop-m-test.true in
    record {
      line = done.kept ∙ old.line;
      within = settled.within;
      bounds = λ v h. subst (λ x. Bounds (negsuc 32001) (pos 32002) c.in_ok-best.best.value x)
          (sym (greatest-more (score_of rules c.args.depth 0 story) v moves i no_move c.loop-m-test.true)) (settled.bounds _ (old.bounds v h));
      chosen = chooses-next rules c.args.depth 0 story (negsuc 32001) moves c.args.first c.loop-m.best c.in_ok-best.best m there old.chosen settled.rises settled.chosen;
      few = omega (arith, few, so_far, more);
      count = done.count ∙ old.count;
      gone = g.met.W.Watch.wider _ _ _ _ (g.met.W.Watch.more _ _ _ _ (2 * size m) old.gone went) (omega (arith, more));
    }

pub returns-in_err-best-clause-ended : goal.returns-in_err-best-clause-ended
returns-in_err-best-clause-ended g c why is =
    let rules = c.args.line.now.rules in
    let story = story_of_line c.args.line.now in
    let moves = c.args.moves.now in
    let i = c.loop-m.m-index in
    let old = c.loop-m.invariant in
    let size = root_tree rules c.args.depth story in
    let back = halted c.settle.result c.from_residual.result _ why c.in_err-best.was c.from_residual.ensures.1 is in
    let end = subst (λ l. g.W.Watch.ended c.loop-m.watch c.settle.new.watch (2 * root_tree l.rules c.args.depth (story_of_line l) (get_or moves i no_move)) why) old.line
    (c.settle.ensures.ended why back) in
    let more = lines-more rules c.args.depth story moves i no_move c.loop-m-test.true in
    let most = lines-part rules c.args.depth story moves (i + 1) in
    g.met.W.Watch.ends_wider _ _ _ _ why (g.met.W.Watch.ends _ _ _ _ (2 * size (get_or moves i no_move)) why old.gone end) (omega (arith, more, most))

pub returns-clause-bounds : goal.returns-clause-bounds
returns-clause-bounds g c = λ v h.
    let line = c.args.line.now in
    subst (λ ms. Bounds (negsuc 32001) (pos 32002) c.loop-m.best.value (greatest v (score_of line.rules c.args.depth 0 (story_of_line line)) ms))
    (take_all c.loop-m.m-index c.args.moves.now (let end = c.loop-m-test.false in omega arith)) (c.loop-m.invariant.bounds v h)

pub returns-clause-within : goal.returns-clause-within
returns-clause-within g c = c.loop-m.invariant.within

pub returns-clause-chosen : goal.returns-clause-chosen
returns-clause-chosen g c = c.loop-m.invariant.chosen

pub returns-clause-few : goal.returns-clause-few
returns-clause-few g c =
    let line = c.args.line.now in
    let few = c.loop-m.invariant.few in
    let most = lines-part line.rules c.args.depth (story_of_line line) c.args.moves.now c.loop-m.m-index in
    omega (arith, few, most)

pub returns-clause-gone : goal.returns-clause-gone
returns-clause-gone g c =
    let line = c.args.line.now in
    let most = lines-part line.rules c.args.depth (story_of_line line) c.args.moves.now c.loop-m.m-index in
    g.met.W.Watch.wider _ _ _ _ c.loop-m.invariant.gone (omega (arith, most))

pub settle-requires-clause-legal : goal.settle-requires-clause-legal
settle-requires-clause-legal g c = λ κs holds.
    subst (λ l. Member (get_or c.args.moves.now c.loop-m.m-index no_move) (legal_in l)) (sym c.loop-m.invariant.line) (c.requires.legal c.loop-m.m-index no_move c.loop-m-test.true)

pub settle-requires-clause-within : goal.settle-requires-clause-within
settle-requires-clause-within g c = λ κs holds. c.loop-m.invariant.within

pub settle-requires-clause-known : goal.settle-requires-clause-known
settle-requires-clause-known g c = λ κs holds.
    subst (λ l. All (IsTrueFact l.rules c.args.depth 0 (story_of_line l)) c.args.facts.now) (sym c.loop-m.invariant.line) c.requires.known
