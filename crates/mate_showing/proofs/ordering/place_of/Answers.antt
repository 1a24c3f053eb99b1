use Rattle.std.proofs.Common.{◌≡◌, ◌∙◌, ap, get_or, refl, rules, Some, slice_get, subst, sym, take}
use Rattle.std.specs.Bool.{IsTrue}
use Rattle.std.proofs.lemmas.List.{take_all}
use Rattle.foundation.specs.Member.{Member}
use Rattle.mate_settle.proofs.OrderLaws.{no_move, read-at}
use Rattle.mate_settle.proofs.Settled.{each-more}
use Rattle.mate_showing.proofs.ordering.place_of.Goals as goal

pub returns-then-is_same_move-clause-here : goal.returns-then-is_same_move-clause-here
returns-then-is_same_move-clause-here c =
    let same : IsTrue c.is_same_move.result = search rules in
    read-at c.args.moves.now c.loop-i.i _ c.loop-i-test.true ∙ ap (λ m. Some m) (c.is_same_move.ensures.same.0 same)

pub returns-clause-none : goal.returns-clause-none
returns-clause-none c e m =
    let ms = c.args.moves.now in
    let whole : take c.loop-i.i ms ≡ ms = take_all c.loop-i.i ms (search rules) in
    c.loop-i.invariant (subst (Member c.args.named.now) (sym whole) m)

pub loop-i-preserved : goal.loop-i-preserved
loop-i-preserved c m =
    let ms = c.args.moves.now in
    let i = c.loop-i.i in
    let named = c.args.named.now in
    let x = get_or ms i no_move in
    let read : slice_get ms i ≡ Some x = read-at ms i no_move c.loop-i-test.true in
    let other : x ≡ named → ⊥ = (λ e. let same : IsTrue c.is_same_move.result = c.is_same_move.ensures.same.1 e in search rules) in
    each-more {Q = λ y. y ≡ named → ⊥} ms i x read (λ y k e. c.loop-i.invariant (subst (λ z. Member z (take i ms)) e k)) other named m refl
