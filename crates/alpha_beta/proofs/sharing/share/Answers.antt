use Rattle.std.proofs.Common.{◌≡◌, ◌+◌, ◌≤◌, ◌∙◌, Err, IfOk, OnOk, length, rules, subst, sym, arith}
use Rattle.std.specs.Prelude.{ℤ, ◌≤ℤ◌}
use Rattle.std.specs.List.{All}
use Rattle.std.proofs.lemmas.Int.{ints}
use Rattle.foundation.specs.Member.{Member}
use Rattle.game_line.specs.Lined.{legal_in, story_of_line}
use Rattle.evaluation.specs.Values.{greatest}
use Rattle.evaluation.proofs.Greatest.{greatest-floor}
use Rattle.watching.specs.LookLaws.{on_ok_of}
use Rattle.negamax.specs.declared.facts.Best.{Best}
use Rattle.negamax.specs.RootFacts.{Chooses, IsTrueFact, score_of}
use Rattle.negamax.specs.Windows.{Bounds}
use Rattle.negamax.proofs.RootLaws.{chooses-none}
use Rattle.negamax.proofs.WindowLaws.{cut}
use Rattle.alpha_beta.specs.Roots.{root_lines}
use Rattle.alpha_beta.proofs.SearchLaws.{on_ok_any}
use Rattle.alpha_beta.proofs.sharing.share.Goals as goal

pub returns-then-first-window-clause-bounds : goal.returns-then-first-window-clause-bounds
returns-then-first-window-clause-bounds g c = λ v h.
    let line = c.args.line.now in
    let l = c.requires.within.least in let u = c.requires.within.most in
    let test = c.if-first-window.true in
    let high : c.args.window.beta ≤ℤ c.args.first.value = grind (arith, ints, test) in
    cut c.args.window.alpha c.args.window.beta c.args.first.value v _ c.args.window.wide high h
    (greatest-floor (score_of line.rules c.args.depth c.args.ply (story_of_line line)) v c.args.moves.now)

pub returns-then-first-window-clause-chosen : goal.returns-then-first-window-clause-chosen
returns-then-first-window-clause-chosen g c =
    let line = c.args.line.now in
    chooses-none line.rules c.args.depth c.args.ply (story_of_line line) c.args.window.alpha c.args.moves.now c.args.first

pub returns-then-first-window-clause-gone : goal.returns-then-first-window-clause-gone
returns-then-first-window-clause-gone g c = g.met.W.Watch.wider _ _ _ _ (g.met.W.Watch.none c.args.watch.now) (omega arith)

pub returns-in_err-found-clause-ended : goal.returns-in_err-found-clause-ended
returns-in_err-found-clause-ended g c why is =
    let back : c.facts_of.result ≡ Err why = search rules in
    g.met.W.Watch.ends_wider _ _ _ _ why (c.facts_of.ensures.ended why back) (omega arith)

pub combine-requires-clause-room : goal.combine-requires-clause-room
combine-requires-clause-room g c = subst (λ l. length l.moves + c.args.depth + 4 ≤ l.room) (sym c.in_ok-found.ensures.kept) c.requires.room

pub combine-requires-clause-legal : goal.combine-requires-clause-legal
combine-requires-clause-legal g c = subst (λ l. All (λ m. Member m (legal_in l)) c.args.moves.now) (sym c.in_ok-found.ensures.kept) c.requires.legal

pub combine-requires-clause-known : goal.combine-requires-clause-known
combine-requires-clause-known g c =
    let line = c.args.line.now in
    let known = subst (λ fs. All (IsTrueFact line.rules c.args.depth c.args.ply (story_of_line line)) fs) (sym c.as_slice-facts.ensures.value) c.in_ok-found.ensures.known in
    subst (λ l. All (IsTrueFact l.rules c.args.depth c.args.ply (story_of_line l)) c.as_slice-facts.result.now) (sym c.in_ok-found.ensures.kept) known

pub returns-clause-bounds : goal.returns-clause-bounds
returns-clause-bounds g c =
    subst (λ l. IfOk c.combine.result (λ (best : Best). (v : ℤ) → Bounds c.args.window.alpha c.args.window.beta c.args.first.value v
    → Bounds c.args.window.alpha c.args.window.beta best.value (greatest v (score_of l.rules c.args.depth c.args.ply (story_of_line l)) c.args.moves.now)))
    c.in_ok-found.ensures.kept c.combine.ensures.bounds

pub returns-clause-chosen : goal.returns-clause-chosen
returns-clause-chosen g c =
    subst (λ l. IfOk c.combine.result (Chooses l.rules c.args.depth c.args.ply (story_of_line l) c.args.window.alpha c.args.moves.now c.args.first))
    c.in_ok-found.ensures.kept c.combine.ensures.chosen

pub returns-clause-few : goal.returns-clause-few
returns-clause-few g c = on_ok_any c.combine.result c.in_ok-found.ensures.few

pub returns-clause-count : goal.returns-clause-count
returns-clause-count g c = on_ok_any c.combine.result c.in_ok-found.ensures.count

pub returns-clause-gone : goal.returns-clause-gone
returns-clause-gone g c =
    let gone = subst (λ l. OnOk c.combine.result (g.W.Watch.gone c.facts_of.new.watch c.combine.new.watch (root_lines l.rules c.args.depth (story_of_line l) c.args.moves.now)))
    c.in_ok-found.ensures.kept c.combine.ensures.gone in
    on_ok_of c.combine.result gone (λ more. g.met.W.Watch.wider _ _ _ _ (g.met.W.Watch.more _ _ _ _ _ c.in_ok-found.ensures.gone more) (omega arith))

pub returns-clause-ended : goal.returns-clause-ended
returns-clause-ended g c why is =
    let end = subst (λ l. g.W.Watch.ended c.facts_of.new.watch c.combine.new.watch (root_lines l.rules c.args.depth (story_of_line l) c.args.moves.now) why)
    c.in_ok-found.ensures.kept (c.combine.ensures.ended why is) in
    g.met.W.Watch.ends_wider _ _ _ _ why (g.met.W.Watch.ends _ _ _ _ _ why c.in_ok-found.ensures.gone end) (omega arith)

pub returns-clause-kept : goal.returns-clause-kept
returns-clause-kept g c = on_ok_of c.combine.result c.combine.ensures.kept (λ kept. kept ∙ c.in_ok-found.ensures.kept)
