use Rattle.std.proofs.Common.{List, length, get_or, ap, sym, ◌∙◌, subst, arith}
use Rattle.foundation.specs.Member.{Member}
use Rattle.rules_model.specs.declared.board.Position.{Position}
use Rattle.stipulation.specs.AtTask as At
use Rattle.stipulation.specs.Searches.{followed, IsFound}
use Rattle.stipulation.proofs.BareLaws.{bare-none}
use Rattle.stipulation.proofs.SearchLemmas.{listed-at, no_move, all-more}
use Rattle.stipulation.proofs.task.Task.+search.Goals as goal

pub choose-follow-requires : goal.choose-follow-requires
choose-follow-requires t c =
    let same = c.loop-m.invariant.line in
    let plies = ap length same in
    let legal = λ (ps : List Position). (At.games c.args.self.now).moves (At.at c.args.self.now ps) in (
      omega (arith, c.decreases),
      (
        c.loop-m.invariant.task ∙ c.requires.task,
        (
          subst (λ (ps : List Position). At.AreSound c.args.self.now ps) (sym same) c.requires.sound,
          (
            omega arith,
            subst (λ (ps : List Position). Member (get_or c.args.moves.now c.loop-m.m-index no_move) (legal ps)) (sym same)
                (c.requires.legal (get_or c.args.moves.now c.loop-m.m-index no_move) (listed-at c.args.moves.now c.loop-m.m-index no_move c.loop-m-test.true)),
          ),
        ),
      ),
    )

pub reply_to_all-follow-requires : goal.reply_to_all-follow-requires
reply_to_all-follow-requires t c =
    let same = c.loop-m.invariant.line in
    let plies = ap length same in
    let legal = λ (ps : List Position). (At.games c.args.self.now).moves (At.at c.args.self.now ps) in (
      omega (arith, c.decreases),
      (
        c.loop-m.invariant.task ∙ c.requires.task,
        (
          subst (λ (ps : List Position). At.AreSound c.args.self.now ps) (sym same) c.requires.sound,
          (
            omega arith,
            subst (λ (ps : List Position). Member (get_or c.args.moves.now c.loop-m.m-index no_move) (legal ps)) (sym same)
                (c.requires.legal (get_or c.args.moves.now c.loop-m.m-index no_move) (listed-at c.args.moves.now c.loop-m.m-index no_move c.loop-m-test.true)),
          ),
        ),
      ),
    )

pub reply_to_all-loop-m-preserved : goal.reply_to_all-loop-m-preserved
reply_to_all-loop-m-preserved t c =
    let s = c.args.self.now in
    let m = get_or c.args.moves.now c.loop-m.m-index no_move in
    let answered = subst (λ (ps : List Position). IsFound (followed (At.games s) c.args.plies (length ps) (At.at s ps) m) c.loop-m.steps c.follow.new.steps c.in_ok-follow.field-0)
    c.loop-m.invariant.line c.in_ok-follow.ensures.found in
    record {
      line = c.in_ok-follow.ensures.line ∙ c.loop-m.invariant.line;
      kept = c.loop-m.invariant.kept;
      task = c.in_ok-follow.ensures.task ∙ c.loop-m.invariant.task;
      done = all-more (followed (At.games s) c.args.plies (length c.args.line.now) (At.at s c.args.line.now)) c.args.moves.now c.loop-m.m-index no_move c.args.steps.now c.loop-m.steps c.follow.new.steps
          c.loop-m-test.true c.loop-m.invariant.done
          (subst (λ b. IsFound (followed (At.games s) c.args.plies (length c.args.line.now) (At.at s c.args.line.now) m) c.loop-m.steps c.follow.new.steps b) c.if-not-branch.false answered);
    }

pub search-returns-then-not-branch-clause-found : goal.search-returns-then-not-branch-clause-found
search-returns-then-not-branch-clause-found t c =
    bare-none c.args.self.now c.args.line.now c.args.plies c.args.steps.now (sym c.in_ok-may_reach.ensures.is ∙ c.if-not-branch.true)
