use Rattle.std.proofs.Common.{◌≡◌, ◌+◌, ◌<◌, ◌≤◌, ◌∙◌, ℕ, Err, get_or, length, rules, subst, sym, arith}
use Rattle.std.specs.List.{All}
use Rattle.foundation.specs.Member.{Member}
use Rattle.game_line.specs.Lined.{legal_in, story_of_line}
use Rattle.io_ports.specs.declared.limits.SearchFault.TheVariants as fault
use Rattle.watching.specs.declared.halt.Halt.{Halt}
use Rattle.watching.specs.declared.halt.Halt.TheVariants as halt
use Rattle.negamax.specs.RootFacts.{IsTrueFact}
use Rattle.alpha_beta.specs.declared.jobs.Job.{Job}
use Rattle.alpha_beta.specs.Roots.{root_lines}
use Rattle.alpha_beta.specs.Workers.{HasEntered}
use Rattle.alpha_beta.proofs.SearchLaws.{most_more}
use Rattle.alpha_beta.proofs.sharing.facts_of.Goals as goal

pub returns-in_err-base-clause-ended : goal.returns-in_err-base-clause-ended
returns-in_err-base-clause-ended g c why is =
    let line = c.args.line.now in
    let same : halt.Fault fault.Memory ≡ why = search rules in
    let n : ℕ = root_lines line.rules c.args.depth (story_of_line line) c.args.moves.now in
    let le : 0 ≤ n = omega arith in
    let a = c.args.watch.now in
    subst (λ (w : Halt). g.W.Watch.ended a a n w) same (g.met.W.Watch.memory a a n (g.met.W.Watch.wider a a 0 n (g.met.W.Watch.none a) le))

pub returns-in_err-shared-clause-ended : goal.returns-in_err-shared-clause-ended
returns-in_err-shared-clause-ended g c why is =
    let line = c.args.line.now in
    let same : halt.Fault fault.Memory ≡ why = search rules in
    let n : ℕ = root_lines line.rules c.args.depth (story_of_line line) c.args.moves.now in
    let le : 0 ≤ n = omega arith in
    let a = c.args.watch.now in
    subst (λ (w : Halt). g.W.Watch.ended a a n w) same (g.met.W.Watch.memory a a n (g.met.W.Watch.wider a a 0 n (g.met.W.Watch.none a) le))

pub race-requires-clause-plan : goal.race-requires-clause-plan
race-requires-clause-plan g c = λ κs holds.
    let base = c.in_ok-base.ensures in
    record {
      least = c.requires.least;
      plies = c.requires.plies;
      room = subst (λ l. length l.moves + c.args.depth + 4 ≤ l.room) (sym base) c.requires.room;
      legal = subst (λ l. All (λ m. Member m (legal_in l)) c.args.moves.now) (sym base) c.requires.legal;
    }

pub race-requires-clause-line : goal.race-requires-clause-line
race-requires-clause-line g c = λ κs holds. sym c.in_ok-base.ensures

pub returns-in_err-race-clause-ended : goal.returns-in_err-race-clause-ended
returns-in_err-race-clause-ended g c why is =
    let back : c.race.result ≡ Err why = search rules in
    subst (λ l. g.W.Watch.ended c.args.watch.now c.race.new.watch (root_lines l.rules c.args.depth (story_of_line l) c.args.moves.now) why) c.in_ok-base.ensures
    (c.race.ensures.ended why back)

pub returns-in_err-gather-clause-ended : goal.returns-in_err-gather-clause-ended
returns-in_err-gather-clause-ended g c why is =
    let line = c.args.line.now in
    let same : halt.Fault fault.Memory ≡ why = search rules in
    let went = subst (λ l. g.W.Watch.gone c.args.watch.now c.race.new.watch (root_lines l.rules c.args.depth (story_of_line l) c.args.moves.now)) c.in_ok-base.ensures c.in_ok-race.ensures.gone in
    subst (λ (w : Halt). g.W.Watch.ended c.args.watch.now c.race.new.watch (root_lines line.rules c.args.depth (story_of_line line) c.args.moves.now) w) same
    (g.met.W.Watch.memory _ _ _ went)

pub returns-clause-known : goal.returns-clause-known
returns-clause-known g c =
    subst (λ l. All (IsTrueFact l.rules c.args.depth c.args.ply (story_of_line l)) c.gather.new.facts.items) c.in_ok-base.ensures c.in_ok-gather.ensures

pub returns-clause-few : goal.returns-clause-few
returns-clause-few g c =
    let line = c.args.line.now in
    let n : ℕ = root_lines line.rules c.args.depth (story_of_line line) c.args.moves.now in
    most_more n c.args.jobs.now c.race.new.jobs c.race.ensures.count
    (subst (λ l. (i : ℕ) (d : Job) → i < length c.args.jobs.now → HasEntered (root_lines l.rules c.args.depth (story_of_line l) c.args.moves.now) (get_or c.args.jobs.now i d) (get_or c.race.new.jobs i d))
    c.in_ok-base.ensures c.race.ensures.entered)

pub returns-clause-gone : goal.returns-clause-gone
returns-clause-gone g c =
    subst (λ l. g.W.Watch.gone c.args.watch.now c.race.new.watch (root_lines l.rules c.args.depth (story_of_line l) c.args.moves.now)) c.in_ok-base.ensures c.in_ok-race.ensures.gone

pub returns-clause-kept : goal.returns-clause-kept
returns-clause-kept g c = c.in_ok-race.ensures.kept ∙ c.in_ok-base.ensures
