use Rattle.std.proofs.Common.{◌≡◌, ◌-◌, false, Err, arith, rules}
use Rattle.foundation.specs.Tests.{is_nil}
use Rattle.legality.specs.Stance.{legal_in, repeat_in}
use Rattle.rules_model.specs.Legal.{is_stuck}
use Rattle.mate_tree.specs.Shapes.{is_last}
use Rattle.mate_tree.proofs.WeightLaws.{closed-some, closed-within, nil-listed, opened-less, some-of-last}
use Rattle.mate_tree.proofs.opening.open.Goals as goal

pub returns-in_err-told-clause-ended : goal.returns-in_err-told-clause-ended
returns-in_err-told-clause-ended g c why is =
    let back : c.settle.result ≡ Err why = search rules in
    g.met.W.Watch.ends_wider _ _ _ _ why (c.settle.ensures.ended why back) (closed-within c.args.facts.now c.args.n c.args.board.now.position c.args.node.now c.requires.closed)

pub returns-in_err-enter-clause-ended : goal.returns-in_err-enter-clause-ended
returns-in_err-enter-clause-ended g c why is =
    let back : c.enter.result ≡ Err why = search rules in
    g.met.W.Watch.ends_wider _ _ _ _ why (c.enter.ensures.ended why back) (closed-some c.args.facts.now c.args.n c.args.board.now.position c.args.node.now c.requires.closed)

pub returns-in-Some-clause-gone : goal.returns-in-Some-clause-gone
returns-in-Some-clause-gone g c =
    g.met.W.Watch.wider _ _ _ _ c.in_ok-enter.ensures.gone (closed-some c.args.facts.now c.args.n c.args.board.now.position c.args.node.now c.requires.closed)

pub returns-in_err-children-clause-ended : goal.returns-in_err-children-clause-ended
returns-in_err-children-clause-ended g c why is =
    let memory = g.met.W.Watch.memory _ _ _ (g.met.W.Watch.wider _ _ _ _ c.in_ok-enter.ensures.gone (closed-some c.args.facts.now c.args.n c.args.board.now.position c.args.node.now c.requires.closed)) in
    search rules

pub keep_now-requires-clause-any : goal.keep_now-requires-clause-any
unfolding is_stuck
keep_now-requires-clause-any g c =
    let listed : is_nil c.in_ok-children.children.items ≡ is_stuck c.args.board.now.rules (repeat_in c.args.board.now) = nil-listed (legal_in c.args.board.now) c.in_ok-children.children.items c.in_ok-children.ensures.listed in
    search rules

pub returns-in-Some-keep_now-clause-gone : goal.returns-in-Some-keep_now-clause-gone
returns-in-Some-keep_now-clause-gone g c =
    g.met.W.Watch.wider _ _ _ _ c.in_ok-enter.ensures.gone (closed-some c.args.facts.now c.args.n c.args.board.now.position c.args.node.now c.requires.closed)

pub returns-clause-gone : goal.returns-clause-gone
returns-clause-gone g c =
    let f = c.args.facts.now in
    let n = c.args.n in
    let v = c.args.node.now in
    let w = c.open_with.new.node in
    let vs = c.in_ok-children.children.items in
    let last : is_last c.is-attacking.result n ≡ false = search rules in
    let less = opened-less f c.args.board.now n v w vs c.requires.rules (some-of-last c.is-attacking.result n last) c.requires.closed c.in_ok-children.ensures c.open_with.ensures.opened c.open_with.ensures.children in
    (omega arith, g.met.W.Watch.wider _ _ _ _ c.in_ok-enter.ensures.gone (omega arith))
