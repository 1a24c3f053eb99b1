use Rattle.std.proofs.Common.{rules, ◌≡◌, Some, false, arith}
use Rattle.mate_fact.specs.InFrame as In
use Rattle.mate_settle.proofs.Settled.{won-answers, lost-answers, counter-low}
use Rattle.mate_settle.proofs.settling.known_now.Goals as goal

pub returns-in-Some-true-clause-serves : goal.returns-in-Some-true-clause-serves
returns-in-Some-true-clause-serves c =
    won-answers c.args.frame.now c.args.board.now.position c.args.n c.won_where.result
    (counter-low c.args.board.now.rules c.args.board.now.position c.prove_ready.ensures.sound)
    (search rules)

pub returns-in-Some-false-clause-serves : goal.returns-in-Some-false-clause-serves
returns-in-Some-false-clause-serves c =
    let end : In.end_in c.args.frame.now c.args.board.now.position ≡ Some false = search rules in
    lost-answers c.args.frame.now c.args.board.now.position c.args.n c.refuted_where.result
    (omega arith) (λ e. absurd (let k = e in cc)) (search rules)

pub returns-else-n-gt0-clause-serves : goal.returns-else-n-gt0-clause-serves
returns-else-n-gt0-clause-serves c =
    lost-answers c.args.frame.now c.args.board.now.position c.args.n c.refuted_where-in-None.result
    (omega arith) (λ e. omega arith) (search rules)
