use Rattle.std.proofs.Common.{◌≡◌, ◌+◌, ◌-◌, ◌*◌, refl, ap, sym, ◌∙◌, arith}
use Rattle.forced_wins.specs.Contests.{within}
use Rattle.game_play.specs.Played.{story}
use Rattle.stipulation.specs.Stipulations.{help_games}
use Rattle.stipulation.proofs.MateLaws.{help-ended, help-begun, help-missed, help-none, help-found, help-shortest, least-at, least-begun, least-ended, least-next, least-none}
use Rattle.stipulation.proofs.RuleLaws.{help-holds}
use Rattle.stipulation.proofs.SearchLemmas.{some-of, none-of}
use Rattle.stipulation.proofs.mates.help_mate.Goals as goal

pub returns-then-is_ended-clause-found : goal.returns-then-is_ended-clause-found
returns-then-is_ended-clause-found c =
    help-ended c.args.game.now.rules c.args.n (story c.args.game.now) c.is_ended.result c.is_ended.ensures c.if-is_ended.true

pub loop-plies-init : goal.loop-plies-init
loop-plies-init c = record {
  task = refl;
  least = omega arith;
  least_found = least-begun c.args.game.now.rules c.args.n (story c.args.game.now) c.is_ended.result c.is_ended.ensures c.if-is_ended.false;
  none = help-begun c.args.game.now.rules c.args.n (story c.args.game.now) c.is_ended.result c.is_ended.ensures c.if-is_ended.false;
}

pub returns-in-Some-clause-found : goal.returns-in-Some-clause-found
returns-in-Some-clause-found c =
    help-found c.args.game.now.rules c.args.n (story c.args.game.now) c.is_ended.result c.loop-plies.plies c.in-Some.cert.steps c.is_ended.ensures c.if-is_ended.false (omega arith)
    (some-of _ _ c.in_ok-cert.field-0 c.in-Some.cert c.in_ok-cert.ensures.found c.in-Some.is)

pub returns-in-Some-clause-wins : goal.returns-in-Some-clause-wins
returns-in-Some-clause-wins c =
    help-holds c.args.game.now.rules c.args.n (story c.args.game.now) c.in-Some.cert.steps
    (help-found c.args.game.now.rules c.args.n (story c.args.game.now) c.is_ended.result c.loop-plies.plies c.in-Some.cert.steps c.is_ended.ensures c.if-is_ended.false (omega arith)
    (some-of _ _ c.in_ok-cert.field-0 c.in-Some.cert c.in_ok-cert.ensures.found c.in-Some.is))

pub returns-in-Some-clause-shortest : goal.returns-in-Some-clause-shortest
returns-in-Some-clause-shortest c =
    help-shortest c.args.game.now.rules c.args.n (story c.args.game.now) c.loop-plies.plies c.in-Some.cert.steps c.loop-plies.invariant.least c.loop-plies.invariant.none
    (some-of _ _ c.in_ok-cert.field-0 c.in-Some.cert c.in_ok-cert.ensures.found c.in-Some.is)

pub loop-plies-preserved : goal.loop-plies-preserved
loop-plies-preserved c =
    let g = story c.args.game.now in
    let back : c.loop-plies.plies + 1 - 1 ≡ c.loop-plies.plies = omega arith in
    record {
      task = c.in_ok-cert.ensures.task ∙ c.loop-plies.invariant.task;
      least = omega arith;
      least_found = least-next c.args.game.now.rules c.args.n g c.loop-plies.plies (omega arith) c.loop-plies.invariant.least_found
          (none-of _ _ c.in_ok-cert.field-0 c.in_ok-cert.ensures.found c.in_default.not-Some);
      none =
          ap (λ t. within (help_games c.args.game.now.rules g.last.side) t g) back
          ∙ help-missed c.args.game.now.rules c.args.n g c.loop-plies.plies (none-of _ _ c.in_ok-cert.field-0 c.in_ok-cert.ensures.found c.in_default.not-Some);
    }

pub returns-clause-found : goal.returns-clause-found
returns-clause-found c =
    let g = story c.args.game.now in
    let all : c.loop-plies.plies - 1 ≡ 2 * c.args.n = omega arith in
    help-none c.args.game.now.rules c.args.n g (sym (ap (λ t. within (help_games c.args.game.now.rules g.last.side) t g) all) ∙ c.loop-plies.invariant.none)

pub returns-then-is_ended-clause-is : goal.returns-then-is_ended-clause-is
returns-then-is_ended-clause-is c =
    sym (least-ended c.args.game.now.rules c.args.n (story c.args.game.now) c.is_ended.result c.is_ended.ensures c.if-is_ended.true)

pub returns-in-Some-clause-is : goal.returns-in-Some-clause-is
returns-in-Some-clause-is c =
    sym (least-at c.args.game.now.rules c.args.n (story c.args.game.now) c.loop-plies.plies c.in-Some.cert.steps c.loop-plies.invariant.least (omega arith) c.loop-plies.invariant.least_found
    (some-of _ _ c.in_ok-cert.field-0 c.in-Some.cert c.in_ok-cert.ensures.found c.in-Some.is))

pub returns-clause-is : goal.returns-clause-is
returns-clause-is c =
    sym (least-none c.args.game.now.rules c.args.n (story c.args.game.now) c.loop-plies.plies (omega arith) c.loop-plies.invariant.least_found)
