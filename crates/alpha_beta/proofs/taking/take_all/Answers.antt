use Rattle.std.proofs.Common.{◌≡◌, ◌+◌, ◌≤◌, Err, rules, subst, sum_by, sym}
use Rattle.std.specs.List.{All}
use Rattle.foundation.specs.Member.{Member}
use Rattle.game_line.specs.Lined.{legal_in}
use Rattle.watching.specs.LookLaws.{on_ok_of}
use Rattle.alpha_beta.specs.Workers.{lines_after, lines_in}
use Rattle.alpha_beta.proofs.taking.take_all.Goals as goal

pub take_unfinished-requires-clause-legal : goal.take_unfinished-requires-clause-legal
take_unfinished-requires-clause-legal g c =
    subst (λ os. All (λ o. Member o.chosen (legal_in c.args.plan.now.line.now)) os) (sym c.as_slice.ensures.value) c.in_ok-take_free.ensures.legal

pub returns-in_err-take_free-clause-ended : goal.returns-in_err-take_free-clause-ended
returns-in_err-take_free-clause-ended g c why is =
    let back : c.take_free.result ≡ Err why = search rules in
    c.take_free.ensures.ended why back

pub returns-clause-gone : goal.returns-clause-gone
returns-clause-gone g c =
    let e = c.in_ok-take_free.ensures.gone in
    let fits = subst (λ os. e.nodes + sum_by (λ o. lines_after c.args.plan.now o.chosen) os ≤ lines_in c.args.plan.now) (sym c.as_slice.ensures.value) e.fits in
    on_ok_of c.take_unfinished.result c.take_unfinished.ensures.gone (λ gone. g.met.W.Watch.wider _ _ _ _ (g.met.W.Watch.more _ _ _ _ _ e.went gone) fits)

pub returns-clause-ended : goal.returns-clause-ended
returns-clause-ended g c why is =
    let e = c.in_ok-take_free.ensures.gone in
    let fits = subst (λ os. e.nodes + sum_by (λ o. lines_after c.args.plan.now o.chosen) os ≤ lines_in c.args.plan.now) (sym c.as_slice.ensures.value) e.fits in
    g.met.W.Watch.ends_wider _ _ _ _ why (g.met.W.Watch.ends _ _ _ _ _ why e.went (c.take_unfinished.ensures.ended why is)) fits
