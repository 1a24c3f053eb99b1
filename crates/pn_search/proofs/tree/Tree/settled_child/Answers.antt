use Rattle.std.proofs.Common.{◌+◌, ◌<◌, length, ap, sym, ◌∙◌, subst, arith}
use Rattle.foundation.specs.Member.{Member}
use Rattle.rules_model.specs.declared.board.Position.{Position}
use Rattle.rules_model.specs.declared.rules.Rules.{Rules}
use Rattle.rules_model.specs.Legal.{legal}
use Rattle.rules_model.specs.Next.{next}
use Rattle.rules_model.specs.Repeats.{repeat_of}
use Rattle.legality.specs.Stance.{Stance}
use Rattle.pn_search.specs.Trees.{position_after, position_of}
use Rattle.pn_search.proofs.KeptLemmas.{child-read}
use Rattle.pn_search.proofs.tree.Tree.settled_child.Goals as goal

pub overflow_cast-child : goal.overflow_cast-child
overflow_cast-child c =
    let h = child-read _ c.args.self.now _ c.self.invariant c.self.view_is c.args.place c.args.k c.index-node.result.now c.in-Inner.first c.in-Inner.count c.requires.at.within c.index-node.ensures c.in-Inner.is c.if-k-count.false in
    let low = h.few in
    omega arith

pub overflow_add-child : goal.overflow_add-child
overflow_add-child c =
    let h = child-read _ c.args.self.now _ c.self.invariant c.self.view_is c.args.place c.args.k c.index-node.result.now c.in-Inner.first c.in-Inner.count c.requires.at.within c.index-node.ensures c.in-Inner.is c.if-k-count.false in
    let low = h.few in
    omega arith

pub index-requires : goal.index-requires
index-requires c =
    let h = child-read _ c.args.self.now _ c.self.invariant c.self.view_is c.args.place c.args.k c.index-node.result.now c.in-Inner.first c.in-Inner.count c.requires.at.within c.index-node.ensures c.in-Inner.is c.if-k-count.false in
    let low : c.in-Inner.first + c.args.k < length c.self.inside.pairs.items = h.paired in
    let own = c.self.inside.pairs.ok in
    omega arith

pub index-requires-2 : goal.index-requires-2
index-requires-2 c =
    let h = child-read _ c.args.self.now _ c.self.invariant c.self.view_is c.args.place c.args.k c.index-node.result.now c.in-Inner.first c.in-Inner.count c.requires.at.within c.index-node.ensures c.in-Inner.is c.if-k-count.false in
    let low : c.in-Inner.first + c.args.k < length c.self.inside.nodes.items = h.within in
    let own = c.self.inside.nodes.ok in
    omega arith

pub after-requires : goal.after-requires
after-requires c =
    let h = child-read _ c.args.self.now _ c.self.invariant c.self.view_is c.args.place c.args.k c.index-node.result.now c.in-Inner.first c.in-Inner.count c.requires.at.within c.index-node.ensures c.in-Inner.is c.if-k-count.false in
    let u = c.args.self.now in
    let child = h.leads c.index-2.result.now c.index-2.ensures in
    subst (λ (x : Rules). Member c.in_ok-m.m (legal x (repeat_of c.args.board.now.position))) (sym c.requires.rules)
    (subst (λ (p : Position). Member c.in_ok-m.m (legal u.frame.rules (repeat_of p))) (sym c.requires.at.position) (child.is_legal c.in_ok-m.m c.in_ok-m.was))

pub returns-clause-deeper : goal.returns-clause-deeper
returns-clause-deeper c =
    let h = child-read _ c.args.self.now _ c.self.invariant c.self.view_is c.args.place c.args.k c.index-node.result.now c.in-Inner.first c.in-Inner.count c.requires.at.within c.index-node.ensures c.in-Inner.is c.if-k-count.false in
    (h.leads c.index-2.result.now c.index-2.ensures).deeper

pub returns-clause-at : goal.returns-clause-at
returns-clause-at c =
    let h = child-read _ c.args.self.now _ c.self.invariant c.self.view_is c.args.place c.args.k c.index-node.result.now c.in-Inner.first c.in-Inner.count c.requires.at.within c.index-node.ensures c.in-Inner.is c.if-k-count.false in
    let u = c.args.self.now in
    let child = h.leads c.index-2.result.now c.index-2.ensures in
    let moved = ap (λ (s : Stance). s.position) c.after.ensures in
    record {
      within = child.within;
      position =
          moved ∙ ap (λ (x : Rules). next x c.args.board.now.position c.in_ok-m.m) c.requires.rules ∙ ap (λ (p : Position). next u.frame.rules p c.in_ok-m.m) c.requires.at.position
          ∙ ap (position_after u.frame.rules (position_of u c.args.place)) (sym c.in_ok-m.was) ∙ child.leads;
    }
