use Rattle.std.proofs.Common.{◌≡◌, ◌+◌, Err, rules, arith}
use Rattle.std.proofs.lemmas.List.Sums.{sum_by_more, sum_by-take-le}
use Rattle.negamax.proofs.RootLaws.{no_move}
use Rattle.alpha_beta.specs.declared.taking.Other.{Other}
use Rattle.alpha_beta.specs.Workers.{lines_after}
use Rattle.alpha_beta.proofs.taking.take_unfinished.Goals.{then-takes+in_ok-repeat, else-takes}
use Rattle.alpha_beta.proofs.taking.take_unfinished.Goals as goal

-- what a read past the end of the list gives
abbrev no_other : Other
no_other = record { place = 0; chosen = no_move }

pub repeat-requires-clause-legal : goal.repeat-requires-clause-legal
repeat-requires-clause-legal g c = c.requires.legal c.loop-other.other-index no_other c.loop-other-test.true

pub returns-in_err-repeat-clause-ended : goal.returns-in_err-repeat-clause-ended
returns-in_err-repeat-clause-ended g c why is =
    let size = λ (o : Other). lines_after c.args.plan.now o.chosen in
    let i = c.loop-other.other-index in
    let back : c.repeat.result ≡ Err why = search rules in
    let more = sum_by_more size c.args.others.now i no_other c.loop-other-test.true in
    let most = sum_by-take-le size c.args.others.now (i + 1) in
    g.met.W.Watch.ends_wider _ _ _ _ why (g.met.W.Watch.ends _ _ _ _ _ why c.loop-other.invariant.gone (c.repeat.ensures.ended why back)) (omega (arith, more, most))

pub loop-other-preserved : goal.loop-other-preserved
loop-other-preserved g c =
    let size = λ (o : Other). lines_after c.args.plan.now o.chosen in
    let i = c.loop-other.other-index in let old = c.loop-other.invariant in
    let more = sum_by_more size c.args.others.now i no_other c.loop-other-test.true in
    elim c.if-takes.branch [
      | then-takes+in_ok-repeat w ↦
          record {
            line_is = rw w.line-is w.in_ok-repeat.ensures.kept;
            known = rw w.facts-is w.repeat.ensures.known;
            gone = rw w.watch-is (g.met.W.Watch.wider _ _ _ _ (g.met.W.Watch.more _ _ _ _ _ old.gone w.in_ok-repeat.ensures.gone) (omega (arith, more)));
          }
      | else-takes w ↦
          record {
            line_is = rw w.line-is old.line_is;
            known = rw w.facts-is old.known;
            gone = rw w.watch-is (g.met.W.Watch.wider _ _ _ _ old.gone (omega (arith, more)));
          }
    ]

pub returns-clause-gone : goal.returns-clause-gone
returns-clause-gone g c =
    g.met.W.Watch.wider _ _ _ _ c.loop-other.invariant.gone (sum_by-take-le (λ (o : Other). lines_after c.args.plan.now o.chosen) c.args.others.now c.loop-other.other-index)
