use Rattle.std.proofs.Common.{◌≡◌, ◌+◌, ◌*◌, ◌≤◌, ℕ, Err, arith, length, rules, subst}
use Rattle.std.specs.List.{All}
use Rattle.std.proofs.lemmas.Int.{ints}
use Rattle.foundation.specs.Member.{Member}
use Rattle.io_ports.specs.declared.limits.SearchFault.TheVariants as fault
use Rattle.watching.specs.declared.halt.Halt.{Halt}
use Rattle.watching.specs.declared.halt.Halt.TheVariants as halt
use Rattle.rules_model.specs.Legal.{legal}
use Rattle.rules_model.specs.Repeats.{repeat_of}
use Rattle.evaluation.specs.Values.{Attains, value_of}
use Rattle.alpha_beta.specs.Roots.{lines_of, root_lines}
use Rattle.alpha_beta.specs.Workers.{most_nodes}
use Rattle.alpha_beta.proofs.LineLemmas.{from_line, to_line}
use Rattle.alpha_beta.proofs.SearchLaws.{most_from, most_new, most_none, most_start}
use Rattle.alpha_beta.proofs.searching.search_by.Goals as goal

pub returns-in_err-line-clause-ended : goal.returns-in_err-line-clause-ended
returns-in_err-line-clause-ended g c why is =
    let same : halt.Fault fault.Memory ≡ why = search rules in
    let n : ℕ = 3 * lines_of c.args.game.now c.args.depth c.args.moves.now in
    let le : 0 ≤ n = omega arith in
    let a = c.args.watch.now in
    subst (λ (w : Halt). g.W.Watch.ended a a n w) same (g.met.W.Watch.memory a a n (g.met.W.Watch.wider a a 0 n (g.met.W.Watch.none a) le))

pub returns-in_err-state-clause-ended : goal.returns-in_err-state-clause-ended
returns-in_err-state-clause-ended g c why is =
    let same : halt.Fault fault.Memory ≡ why = search rules in
    let n : ℕ = 3 * lines_of c.args.game.now c.args.depth c.args.moves.now in
    let le : 0 ≤ n = omega arith in
    let a = c.args.watch.now in
    subst (λ (w : Halt). g.W.Watch.ended a a n w) same (g.met.W.Watch.memory a a n (g.met.W.Watch.wider a a 0 n (g.met.W.Watch.none a) le))

pub best_root-requires-clause-legal : goal.best_root-requires-clause-legal
best_root-requires-clause-legal g c = λ κs holds.
    to_line (λ rules s. All (λ m. Member m (legal rules (repeat_of s.last))) c.args.moves.now) c.args.game.now c.args.depth c.in_ok-line.line c.in_ok-line.ensures c.requires.legal

pub best_root-requires-clause-room : goal.best_root-requires-clause-room
best_root-requires-clause-room g c = rw c.in_ok-line.ensures (omega arith)

pub returns-in_err-best-clause-ended : goal.returns-in_err-best-clause-ended
returns-in_err-best-clause-ended g c why is =
    let back : c.best_root.result ≡ Err why = search rules in
    from_line (λ rules s. g.W.Watch.ended c.args.watch.now c.best_root.new.watch (3 * root_lines rules c.args.depth s c.args.moves.now) why)
    c.args.game.now c.args.depth c.in_ok-line.line c.in_ok-line.ensures (c.best_root.ensures.ended why back)

pub returns-clause-best : goal.returns-clause-best
returns-clause-best g c =
    let least = c.in_ok-best.ensures.within.least in let most = c.in_ok-best.ensures.within.most in
    let value = from_line (λ rules s. c.in_ok-best.best.value ≡ value_of rules c.args.depth s c.args.moves.now)
    c.args.game.now c.args.depth c.in_ok-line.line c.in_ok-line.ensures c.in_ok-best.ensures.value in
    let attains = from_line (λ rules s. Attains rules c.args.depth s c.args.moves.now c.in_ok-best.best.value c.in_ok-best.best.chosen)
    c.args.game.now c.args.depth c.in_ok-line.line c.in_ok-line.ensures c.in_ok-best.ensures.attains in
    record {
      value_is = omega (arith, ints, value);
      attains = record { root = attains.root; attained = (let is = attains.attained in omega (arith, ints, is)) };
    }

pub returns-clause-gone : goal.returns-clause-gone
returns-clause-gone g c =
    from_line (λ rules s. g.W.Watch.gone c.args.watch.now c.best_root.new.watch (3 * root_lines rules c.args.depth s c.args.moves.now))
    c.args.game.now c.args.depth c.in_ok-line.line c.in_ok-line.ensures c.in_ok-best.ensures.gone

pub returns-clause-few : goal.returns-clause-few
returns-clause-few g c =
    let gone = from_line (λ rules s. g.W.Watch.gone c.args.watch.now c.best_root.new.watch (3 * root_lines rules c.args.depth s c.args.moves.now))
    c.args.game.now c.args.depth c.in_ok-line.line c.in_ok-line.ensures c.in_ok-best.ensures.gone in
    let some = from_line (λ rules s. most_nodes 0 c.best_root.new.jobs ≤ most_nodes 0 c.args.jobs.now + 2 * root_lines rules c.args.depth s c.args.moves.now)
    c.args.game.now c.args.depth c.in_ok-line.line c.in_ok-line.ensures c.in_ok-best.ensures.few in
    let counts = g.met.W.Watch.counts _ _ _ gone in
    let more = counts.1 in let after = c.nodes.ensures in let before = c.nodes-before.ensures in let nodes = c.saturating_sub-nodes.ensures in
    let none = most_new c.args.jobs.now c.requires.ready in
    let most = most_from c.saturating_sub-nodes.result c.best_root.new.jobs in
    let is = c.greatest_count.ensures in
    omega (arith, more, after, before, nodes, none, some, most, is)

pub returns-clause-counted : goal.returns-clause-counted
returns-clause-counted g c =
    let after = c.nodes.ensures in let before = c.nodes-before.ensures in let nodes = c.saturating_sub-nodes.ensures in
    let counts = g.met.W.Watch.counts _ _ _ c.in_ok-best.ensures.gone in
    let later = counts.0 in let is = c.greatest_count.ensures in
    record {
      least =
          let start = most_start c.saturating_sub-nodes.result c.best_root.new.jobs in
          omega (arith, start, is, after, before, nodes);
      alone = λ one.
          let count = c.in_ok-best.ensures.count in
          let none : length c.best_root.new.jobs ≡ 0 = omega (arith, one, count) in
          let all = most_none c.saturating_sub-nodes.result c.best_root.new.jobs none in
          omega (arith, all, is, after, before, nodes, later);
    }
