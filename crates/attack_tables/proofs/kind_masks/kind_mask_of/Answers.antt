use Rattle.std.proofs.Common.{◌==◌, ◌<◌, ℕ, sym, ◌∙◌, subst}
use Rattle.std.proofs.lemmas.Bool.{or_parts}
use Rattle.square_set.specs.Members.{has}
use Rattle.square_set.proofs.Cases.{by_equal}
use Rattle.attack_tables.specs.Masks.{NeverTakes}
use Rattle.attack_tables.proofs.MaskLaws.{and_not}
use Rattle.attack_tables.proofs.kind_masks.kind_mask_of.Goals as goal

pub loop-from-init : goal.loop-from-init
loop-from-init c = λ k small out none. c.requires.mask k small out c.args.kind c.requires.kind

pub loop-from-preserved-then-may_take : goal.loop-from-preserved-then-may_take
loop-from-preserved-then-may_take c = λ k small out none.
    let from = c.in-Some.from in
    let o = or_parts (has c.loop-from.takers k) (k == from) (sym (c.with-takers.ensures k) ∙ none) in
    c.loop-from.invariant k small (and_not (has c.loop-from.left k) (k == from) o.1 (sym (c.in-Some.ensures.rest k) ∙ out)) o.0

pub loop-from-preserved : goal.loop-from-preserved
loop-from-preserved c = λ k small out none.
    let from = c.in-Some.from in
    let Never : ℕ → Type 0 = λ n. n < 120 → NeverTakes c.args.moves.now c.args.side c.args.kind n c.args.at in
    by_equal k from (NeverTakes c.args.moves.now c.args.side c.args.kind k c.args.at)
    (λ e q. subst Never (sym q) (λ l. c.may_take.ensures l c.if-may_take.false) small)
    (λ e q. c.loop-from.invariant k small (and_not (has c.loop-from.left k) (k == from) e (sym (c.in-Some.ensures.rest k) ∙ out)) none)

pub returns : goal.returns
returns c = λ k small none. c.loop-from.invariant k small (c.in_default.ensures.none k) none
