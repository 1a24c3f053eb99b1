use Rattle.std.proofs.Common.{◌≡◌, ℕ, ◌+◌, ◌*◌, true, Err, refl, ap, sym, ◌∙◌, subst, arith, rules}
use Rattle.rules_model.specs.declared.rules.Rules.{Rules}
use Rattle.forced_wins.specs.Wins.{is_in, near_root}
use Rattle.game_play.specs.Played.{story}
use Rattle.mate_core.specs.declared.frame.Frame.{Frame}
use Rattle.mate_settle.specs.Lines.{lines_within, seen_in}
use Rattle.strategy.specs.declared.nodes.Strategy.{Strategy}
use Rattle.mate_showing.specs.declared.answer.Settled.TheVariants.{Shown}
use Rattle.mate_showing.specs.Answers.{IsFrameOf, IsRight, IsShown}
use Rattle.mate_showing.specs.Counts.{IsTabledIn}
use Rattle.mate_showing.specs.Tabled.{IsKept}
use Rattle.mate_showing.specs.Tables.{IsNext, Stands}
use Rattle.mate_showing.proofs.Root.{inside-shown, walk-lines}
use Rattle.mate_showing.proofs.solving.show.Goals as goal

pub plan_of-plan-requires-clause-frame : goal.plan_of-plan-requires-clause-frame
plan_of-plan-requires-clause-frame g c = subst (IsFrameOf c.args.game.now) (sym c.frame-frame.ensures) c.requires.frame

pub plan_of-plan-requires-clause-won : goal.plan_of-plan-requires-clause-won
plan_of-plan-requires-clause-won g c =
    subst (λ (x : Frame). near_root x.rules c.args.n (story c.args.game.now) x.attacker ≡ true) (sym c.frame-frame.ensures) c.requires.won

pub tabulate-requires-clause-next : goal.tabulate-requires-clause-next
tabulate-requires-clause-next g c =
    let plan = c.plan_of-plan.result in
    subst (λ (x : Frame). IsNext (seen_in x) (is_in x.blocked) plan plan.whole c.args.board.now.position) c.frame-frame.ensures c.plan_of-plan.ensures.next

pub returns-in_err-nodes-clause-ended : goal.returns-in_err-nodes-clause-ended
returns-in_err-nodes-clause-ended g c why is =
    let walk = walk-lines c.args.facts.now c.args.facts.now c.plan_of-plan.result.whole c.args.n c.args.board.now.position c.args.board.now.position refl c.plan_of-plan.ensures.whole refl in
    let back : c.tabulate.result ≡ Err why = search rules in
    g.met.W.Watch.ends_wider _ _ _ _ why (c.tabulate.ensures.ended why back) (omega arith)

pub judge-requires-clause-tabled : goal.judge-requires-clause-tabled
judge-requires-clause-tabled g c =
    let plan = c.plan_of-plan.result in
    let s = c.in_ok-nodes.nodes.items in
    let same = sym c.frame-frame.ensures in
    c.plan_of-plan.ensures.tabled s (subst (λ (x : Frame). IsKept x plan s) same c.in_ok-nodes.ensures.kept)
    (subst (λ (x : Frame). (i : ℕ) × Stands (seen_in x) plan.exact s c.args.board.now.position plan.whole i) same c.in_ok-nodes.ensures.stands)

pub returns-in_err-answer-clause-ended : goal.returns-in_err-answer-clause-ended
returns-in_err-answer-clause-ended g c why is =
    let walk = walk-lines c.args.facts.now c.args.facts.now c.plan_of-plan.result.whole c.args.n c.args.board.now.position c.args.board.now.position refl c.plan_of-plan.ensures.whole refl in
    let memory = g.met.W.Watch.memory _ _ _ (g.met.W.Watch.wider _ _ _ ((c.args.n + 1) * lines_within (seen_in c.args.facts.now) c.args.n c.args.board.now.position) c.in_ok-nodes.ensures.gone (omega arith)) in
    search rules

pub returns-then-plan-clause-gone : goal.returns-then-plan-clause-gone
returns-then-plan-clause-gone g c =
    let walk = walk-lines c.args.facts.now c.args.facts.now c.plan_of-plan.result.whole c.args.n c.args.board.now.position c.args.board.now.position refl c.plan_of-plan.ensures.whole refl in
    g.met.W.Watch.wider _ _ _ _ c.in_ok-nodes.ensures.gone (omega arith)

pub returns-clause-gone : goal.returns-clause-gone
returns-clause-gone g c =
    let walk = walk-lines c.args.facts.now c.args.facts.now c.plan_of-plan.result.whole c.args.n c.args.board.now.position c.args.board.now.position refl c.plan_of-plan.ensures.whole refl in
    g.met.W.Watch.wider _ _ _ _ c.in_ok-nodes.ensures.gone (omega arith)

pub returns-clause-right : goal.returns-clause-right
returns-clause-right g c =
    let f = c.args.facts.now in
    let game = story c.args.game.now in
    let p = c.args.board.now.position in
    let plan = c.plan_of-plan.result in
    let s = c.in_ok-nodes.nodes.items in
    let found : Strategy = record { attacker = f.attacker; nodes = s } in
    let is : c.shown.result ≡ Shown found = c.shown.ensures ∙ ap (λ (x : Frame). Shown (record { attacker = x.attacker; nodes = s })) c.frame-frame.ensures in
    let tables = subst (λ (x : Frame). IsKept x plan s → ((i : ℕ) × Stands (seen_in x) plan.exact s p plan.whole i) → IsTabledIn game x plan s) c.frame-frame.ensures (c.plan_of-plan.ensures.tabled s) in
    let table = tables c.in_ok-nodes.ensures.kept c.in_ok-nodes.ensures.stands in
    subst (IsRight c.args.game.now.rules game f.attacker c.args.n) (sym is)
    (subst (λ (x : Rules). IsShown x game f.attacker c.args.n found) c.requires.frame.rules
    (subst (λ k. IsShown f.rules game f.attacker k found) c.plan_of-plan.ensures.whole (inside-shown f game plan s table c.in_ok-nodes.ensures.kept c.if-plan.false)))
