use Rattle.std.proofs.Common.{◌+◌, get_or, take, sum_by, refl, sym, subst, ◌∙◌, arith}
use Rattle.std.specs.List.{All}
use Rattle.std.proofs.lemmas.List.{take_all}
use Rattle.std.proofs.lemmas.List.Elements.{Contains-get_or}
use Rattle.std.proofs.lemmas.List.Sums.{sum_by_more, sum_by-take-le}
use Rattle.foundation.specs.Member.{Member}
use Rattle.foundation.proofs.Members.{member-contains}
use Rattle.game_line.specs.Lined.{legal_in, story_of_line}
use Rattle.evaluation.specs.Values.{greatest}
use Rattle.negamax.specs.RootFacts.{IsTrueFact, Settles, root_tree, score_of}
use Rattle.negamax.specs.Windows.{Bounds}
use Rattle.negamax.proofs.HaltLaws.{halted}
use Rattle.negamax.proofs.RootLaws.{chooses-next, chooses-none, greatest-more, greatest-none, no_move}
use Rattle.negamax.proofs.root.combine.Goals as goal

pub loop-m-init : goal.loop-m-init
loop-m-init g c =
    let line = c.args.line.now in
    record {
      line = refl;
      within = c.requires.within;
      bounds = λ v h. subst (λ x. Bounds c.args.window.alpha c.args.window.beta c.args.first.value x)
          (sym (greatest-none (score_of line.rules c.args.depth c.args.ply (story_of_line line)) v c.args.moves.now)) h;
      chosen = chooses-none line.rules c.args.depth c.args.ply (story_of_line line) c.args.window.alpha c.args.moves.now c.args.first;
      gone = g.met.W.Watch.wider _ _ _ _ (g.met.W.Watch.none c.args.watch.now) (omega arith);
    }

pub loop-m-preserved : goal.loop-m-preserved
loop-m-preserved g c =
    let rules = c.args.line.now.rules in
    let story = story_of_line c.args.line.now in
    let moves = c.args.moves.now in
    let i = c.loop-m.m-index in
    let m = get_or moves i no_move in
    let old = c.loop-m.invariant in
    let done = c.in_ok-best.ensures in
    let size = root_tree rules c.args.depth story in
    let went = subst (λ l. g.W.Watch.gone c.loop-m.watch c.settle.new.watch (root_tree l.rules c.args.depth (story_of_line l) m)) old.line done.gone in
    let settled = subst (λ l. Settles l.rules c.args.depth c.args.ply (story_of_line l) c.args.window.alpha c.args.window.beta m c.loop-m.best c.in_ok-best.best) old.line done.settles in
    let there : Member m moves = member-contains _ moves (Contains-get_or moves i no_move c.loop-m-test.true) in
    let more = sum_by_more size moves i no_move c.loop-m-test.true in
    record {
      line = done.kept ∙ old.line;
      within = settled.within;
      bounds = λ v h. subst (λ x. Bounds c.args.window.alpha c.args.window.beta c.in_ok-best.best.value x)
          (sym (greatest-more (score_of rules c.args.depth c.args.ply story) v moves i no_move c.loop-m-test.true)) (settled.bounds _ (old.bounds v h));
      chosen = chooses-next rules c.args.depth c.args.ply story c.args.window.alpha moves c.args.first c.loop-m.best c.in_ok-best.best m there old.chosen settled.rises settled.chosen;
      gone = g.met.W.Watch.wider _ _ _ _ (g.met.W.Watch.more _ _ _ (sum_by size (take i moves)) (size m) old.gone went) (omega (arith, more));
    }

pub returns-in_err-best-clause-ended : goal.returns-in_err-best-clause-ended
returns-in_err-best-clause-ended g c why is =
    let rules = c.args.line.now.rules in
    let story = story_of_line c.args.line.now in
    let moves = c.args.moves.now in
    let i = c.loop-m.m-index in
    let old = c.loop-m.invariant in
    let size = root_tree rules c.args.depth story in
    let back = halted c.settle.result c.from_residual.result _ why c.in_err-best.was c.from_residual.ensures.1 is in
    let end = subst (λ l. g.W.Watch.ended c.loop-m.watch c.settle.new.watch (root_tree l.rules c.args.depth (story_of_line l) (get_or moves i no_move)) why) old.line (c.settle.ensures.ended why back) in
    let more = sum_by_more size moves i no_move c.loop-m-test.true in
    let most = sum_by-take-le size moves (i + 1) in
    g.met.W.Watch.ends_wider _ _ _ _ why (g.met.W.Watch.ends _ _ _ (sum_by size (take i moves)) (size (get_or moves i no_move)) why old.gone end) (omega (arith, more, most))

pub returns-clause-bounds : goal.returns-clause-bounds
returns-clause-bounds g c = λ v h.
    let line = c.args.line.now in
    subst (λ ms. Bounds c.args.window.alpha c.args.window.beta c.loop-m.best.value (greatest v (score_of line.rules c.args.depth c.args.ply (story_of_line line)) ms))
    (take_all c.loop-m.m-index c.args.moves.now (let end = c.loop-m-test.false in omega arith)) (c.loop-m.invariant.bounds v h)

pub returns-clause-within : goal.returns-clause-within
returns-clause-within g c = c.loop-m.invariant.within

pub returns-clause-chosen : goal.returns-clause-chosen
returns-clause-chosen g c = c.loop-m.invariant.chosen

pub returns-clause-gone : goal.returns-clause-gone
returns-clause-gone g c =
    let size = root_tree c.args.line.now.rules c.args.depth (story_of_line c.args.line.now) in
    g.met.W.Watch.wider _ _ _ _ c.loop-m.invariant.gone (sum_by-take-le size c.args.moves.now c.loop-m.m-index)

pub settle-requires-clause-legal : goal.settle-requires-clause-legal
settle-requires-clause-legal g c =
    subst (λ l. Member (get_or c.args.moves.now c.loop-m.m-index no_move) (legal_in l)) (sym c.loop-m.invariant.line) (c.requires.legal c.loop-m.m-index no_move c.loop-m-test.true)

pub settle-requires-clause-within : goal.settle-requires-clause-within
settle-requires-clause-within g c = c.loop-m.invariant.within

pub settle-requires-clause-known : goal.settle-requires-clause-known
settle-requires-clause-known g c =
    subst (λ l. All (IsTrueFact l.rules c.args.depth c.args.ply (story_of_line l)) c.args.facts.now) (sym c.loop-m.invariant.line) c.requires.known
