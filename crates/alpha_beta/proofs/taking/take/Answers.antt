use Rattle.std.proofs.Common.{◌≡◌, ◌+◌, ◌≤◌, ◌∙◌, Err, length, rules, subst, sym}
use Rattle.std.proofs.lemmas.List.Elements.{All-push}
use Rattle.foundation.specs.Member.{Member}
use Rattle.game_line.specs.Lined.{legal_in, story_of_line}
use Rattle.io_ports.specs.declared.limits.SearchFault.TheVariants as fault
use Rattle.watching.specs.declared.halt.Halt.{Halt}
use Rattle.watching.specs.declared.halt.Halt.TheVariants as halt
use Rattle.negamax.specs.RootFacts.{IsTrueFact, root_tree}
use Rattle.alpha_beta.specs.Workers.{lines_after}
use Rattle.alpha_beta.proofs.taking.take.Goals as goal

pub search_move-requires-clause-room : goal.search_move-requires-clause-room
search_move-requires-clause-room g c =
    subst (λ l. length l.moves + c.args.plan.now.depth + 4 ≤ l.room) (sym c.requires.line) c.requires.plan.room

pub search_move-requires-clause-legal : goal.search_move-requires-clause-legal
search_move-requires-clause-legal g c = subst (λ l. Member c.args.chosen.now (legal_in l)) (sym c.requires.line) c.requires.legal

pub returns-in_err-fact-clause-ended : goal.returns-in_err-fact-clause-ended
returns-in_err-fact-clause-ended g c why is =
    let depth = c.args.plan.now.depth in
    let back : c.search_move.result ≡ Err why = search rules in
    subst (λ l. g.W.Watch.ended c.args.watch.now c.search_move.new.watch (root_tree l.rules depth (story_of_line l) c.args.chosen.now) why) c.requires.line
    (c.search_move.ensures.ended why back)

pub returns-in_err-remember-clause-ended : goal.returns-in_err-remember-clause-ended
returns-in_err-remember-clause-ended g c why is =
    let depth = c.args.plan.now.depth in
    let same : halt.Fault fault.Memory ≡ why = search rules in
    let went = subst (λ l. g.W.Watch.gone c.args.watch.now c.search_move.new.watch (root_tree l.rules depth (story_of_line l) c.args.chosen.now)) c.requires.line c.in_ok-fact.ensures.gone in
    subst (λ (w : Halt). g.W.Watch.ended c.args.watch.now c.search_move.new.watch (lines_after c.args.plan.now c.args.chosen.now) w) same (g.met.W.Watch.memory _ _ _ went)

pub returns-clause-known : goal.returns-clause-known
returns-clause-known g c =
    let plan = c.args.plan.now in
    let line = plan.line.now in
    let fact = subst (λ l. IsTrueFact l.rules plan.depth plan.ply (story_of_line l) c.in_ok-fact.fact) c.requires.line c.in_ok-fact.ensures.fact in
    rw c.in_ok-remember.ensures.ok (All-push (IsTrueFact line.rules plan.depth plan.ply (story_of_line line)) _ _ c.requires.known fact)

pub returns-clause-gone : goal.returns-clause-gone
returns-clause-gone g c =
    let depth = c.args.plan.now.depth in
    subst (λ l. g.W.Watch.gone c.args.watch.now c.search_move.new.watch (root_tree l.rules depth (story_of_line l) c.args.chosen.now)) c.requires.line c.in_ok-fact.ensures.gone

pub returns-clause-kept : goal.returns-clause-kept
returns-clause-kept g c = c.in_ok-fact.ensures.kept ∙ c.requires.line
