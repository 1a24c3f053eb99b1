use Rattle.std.proofs.lemmas.Result.{on_err_weaker, on_ok_weaker}
use Rattle.rules_model.specs.Repeats.{repeat_of}
use Rattle.special_moves.proofs.DropLemmas.{drops-all, drops-some, suited-below}
use Rattle.special_moves.proofs.drops.push_kind.Goals as goal

pub take_drops-requires-clause-targets : goal.take_drops-requires-clause-targets
take_drops-requires-clause-targets g c = suited-below c.args.rules.now (repeat_of c.args.p.now) c.args.kind c.args.squares c.suited_squares.result c.requires.squares c.suited_squares.ensures

pub returns-clause-ok : goal.returns-clause-ok
returns-clause-ok g c =
    on_ok_weaker c.take_drops.result
    (λ all. drops-all c.args.rules.now (repeat_of c.args.p.now) c.args.kind c.args.squares c.suited_squares.result c.requires.squares c.suited_squares.ensures c.requires.held g.S.MoveSink.takes _ _ all) c.take_drops.ensures.ok

pub returns-clause-err : goal.returns-clause-err
returns-clause-err g c =
    on_err_weaker c.take_drops.result
    (λ some. drops-some c.args.rules.now (repeat_of c.args.p.now) c.args.kind c.args.squares c.suited_squares.result c.requires.squares c.suited_squares.ensures c.requires.held g.S.MoveSink.stops _ _ some) c.take_drops.ensures.err
