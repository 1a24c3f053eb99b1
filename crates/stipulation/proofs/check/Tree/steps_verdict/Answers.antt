use Rattle.std.proofs.Common.{◌+◌, List, length, drop, refl, ap, sym, ◌∙◌, subst, arith}
use Rattle.game_play.specs.Played.{story}
use Rattle.stipulation.specs.declared.cert.Step.{Step}
use Rattle.stipulation.specs.Verdicts.{plies_verdict}
use Rattle.stipulation.specs.AtTask as At
use Rattle.stipulation.proofs.CheckLemmas.{blank, earlier-more, plies-at, from-fault, from-later, from-end, none-sound, none-leads}
use Rattle.stipulation.proofs.check.Tree.steps_verdict.Goals as goal

pub loop-i-init : goal.loop-i-init
loop-i-init c =
    let t = c.args.self.now in
    let e = c.new-line.ensures in
    record {
      sound = none-sound t.task c.new-line.result e;
      before = none-leads t.task c.new-line.result e;
      plies = ap (λ n. plies_verdict 1 n t.steps.now) (ap length e) ∙ c.requires.plies;
      rest = refl;
    }

pub step_verdict-requires-clause-least : goal.step_verdict-requires-clause-least
step_verdict-requires-clause-least c =
    (plies-at c.loop-i.i (length c.loop-i.line) c.args.self.now.steps.now blank c.loop-i-test.true c.loop-i.invariant.plies).0

pub step_verdict-requires-clause-next : goal.step_verdict-requires-clause-next
step_verdict-requires-clause-next c =
    (plies-at c.loop-i.i (length c.loop-i.line) c.args.self.now.steps.now blank c.loop-i-test.true c.loop-i.invariant.plies).1

pub returns-in_default : goal.returns-in_default
returns-in_default c =
    let t = c.args.self.now in
    from-fault (At.games t.task) t.n (story t.task.game.now) t.steps.now c.loop-i.i blank c.in_ok-fault.fault c.loop-i-test.true c.in_ok-fault.ensures.verdict c.in_default.not-Holds
    ∙ c.loop-i.invariant.rest

pub loop-i-preserved : goal.loop-i-preserved
loop-i-preserved c =
    let t = c.args.self.now in
    let i = c.loop-i.i in
    let held = c.in-Holds.is in
    record {
      sound = c.in_ok-fault.ensures.sound;
      before = subst (λ (earlier : List Step). At.IsLineTo t.task earlier c.step_verdict.new.line) (sym (earlier-more t.steps.now i blank c.loop-i-test.true)) (c.in_ok-fault.ensures.line held);
      plies =
          ap (λ n. plies_verdict (i + 1 + 1) n (drop (i + 1) t.steps.now)) (c.in_ok-fault.ensures.long held)
          ∙ (plies-at i (length c.loop-i.line) t.steps.now blank c.loop-i-test.true c.loop-i.invariant.plies).2;
      rest =
          from-later (At.games t.task) t.n (story t.task.game.now) t.steps.now i blank c.in_ok-fault.fault c.loop-i-test.true c.in_ok-fault.ensures.verdict held
          ∙ c.loop-i.invariant.rest;
    }

pub returns : goal.returns
returns c =
    let t = c.args.self.now in
    sym (from-end (At.games t.task) t.n (story t.task.game.now) t.steps.now c.loop-i.i (omega arith)) ∙ c.loop-i.invariant.rest
