use Rattle.std.proofs.Common.{◌≡◌, ◌+◌, Err, get_or, rules, subst, arith}
use Rattle.std.proofs.lemmas.List.Elements.{All-push}
use Rattle.foundation.specs.Member.{Member}
use Rattle.game_line.specs.Lined.{legal_in, story_of_line}
use Rattle.io_ports.specs.declared.limits.SearchFault.TheVariants as fault
use Rattle.watching.specs.declared.halt.Halt.{Halt}
use Rattle.watching.specs.declared.halt.Halt.TheVariants as halt
use Rattle.negamax.proofs.RootLaws.{no_move}
use Rattle.alpha_beta.specs.Workers.{lines_after, lines_in}
use Rattle.alpha_beta.proofs.EnteredLaws.{entered-left, entered-took}
use Rattle.alpha_beta.proofs.RootLaws.{lines-more, lines-part}
use Rattle.alpha_beta.proofs.taking.take_free.Goals.{then-takes+in_ok-take, else-takes+in_ok-leave}
use Rattle.alpha_beta.proofs.taking.take_free.Goals as goal

pub loop-i-init : goal.loop-i-init
loop-i-init g c = record {
  line_is = c.requires.line;
  known = c.requires.known;
  legal = rw c.requires.none (λ k d lt. absurd (omega (arith, lt)));
  entered = rw c.requires.none (record { nodes = 0; went = g.met.W.Watch.none c.args.watch.now; fits = omega arith });
}

pub take-requires-clause-legal : goal.take-requires-clause-legal
take-requires-clause-legal g c = c.requires.plan.legal c.loop-i.i no_move c.loop-i-test.true

pub returns-in_err-take-clause-ended : goal.returns-in_err-take-clause-ended
returns-in_err-take-clause-ended g c why is =
    let plan = c.args.plan.now in let line = plan.line.now in let moves = plan.moves.now in
    let i = c.loop-i.i in let e = c.loop-i.invariant.entered in
    let back : c.take.result ≡ Err why = search rules in
    let fits = e.fits in
    let more = lines-more line.rules plan.depth (story_of_line line) moves i no_move c.loop-i-test.true in
    let most = lines-part line.rules plan.depth (story_of_line line) moves (i + 1) in
    g.met.W.Watch.ends_wider _ _ _ _ why (g.met.W.Watch.ends _ _ _ _ _ why e.went (c.take.ensures.ended why back)) (omega (arith, fits, more, most))

pub returns-in_err-leave-clause-ended : goal.returns-in_err-leave-clause-ended
returns-in_err-leave-clause-ended g c why is =
    let plan = c.args.plan.now in let line = plan.line.now in let moves = plan.moves.now in
    let i = c.loop-i.i in let e = c.loop-i.invariant.entered in
    let same : halt.Fault fault.Memory ≡ why = search rules in
    let fits = e.fits in
    let most = lines-part line.rules plan.depth (story_of_line line) moves i in
    subst (λ (w : Halt). g.W.Watch.ended c.args.watch.now c.loop-i.watch (lines_in plan) w) same
    (g.met.W.Watch.memory _ _ _ (g.met.W.Watch.wider _ _ _ _ e.went (omega (arith, fits, most))))

pub loop-i-preserved : goal.loop-i-preserved
loop-i-preserved g c =
    let plan = c.args.plan.now in let line = plan.line.now in let moves = plan.moves.now in
    let i = c.loop-i.i in let old = c.loop-i.invariant in
    let m = get_or moves i no_move in
    let more = lines-more line.rules plan.depth (story_of_line line) moves i no_move c.loop-i-test.true in
    elim c.if-takes.branch [
      | then-takes+in_ok-take w ↦
          record {
            line_is = rw w.line-is w.in_ok-take.ensures.kept;
            known = rw w.facts-is w.take.ensures.known;
            legal = rw w.others-is old.legal;
            entered = rw (w.watch-is, w.others-is) (entered-took g.W.Watch.gone _ _ _ _ _ _ g.met.W.Watch.more _ (lines_after plan m) old.entered w.in_ok-take.ensures.gone more);
          }
      | else-takes+in_ok-leave w ↦
          record {
            line_is = rw w.line-is old.line_is;
            known = rw w.facts-is old.known;
            legal = rw (w.others-is, w.in_ok-leave.ensures.ok) (All-push (λ o. Member o.chosen (legal_in line)) _ _ old.legal (c.requires.plan.legal i no_move c.loop-i-test.true));
            entered = rw (w.watch-is, w.others-is, w.in_ok-leave.ensures.ok) (entered-left g.W.Watch.gone _ _ _ _ _ _ _ old.entered more);
          }
    ]

pub returns-clause-gone : goal.returns-clause-gone
returns-clause-gone g c =
    let plan = c.args.plan.now in let line = plan.line.now in
    let e = c.loop-i.invariant.entered in
    let fits = e.fits in
    let most = lines-part line.rules plan.depth (story_of_line line) plan.moves.now c.loop-i.i in
    record { nodes = e.nodes; went = e.went; fits = omega (arith, fits, most) }
