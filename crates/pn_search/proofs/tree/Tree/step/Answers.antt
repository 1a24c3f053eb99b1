use Rattle.std.proofs.Common.{◌+◌, [], ◌∷◌, ◌++◌, take, length, refl, ap, sym, ◌∙◌, subst, arith}
use Rattle.foundation.specs.Member.{Member}
use Rattle.rules_model.specs.declared.rules.Rules.{Rules}
use Rattle.rules_model.specs.Legal.{legal}
use Rattle.rules_model.specs.Repeats.{repeat_of}
use Rattle.pn_search.specs.declared.descending.Leaf.{Leaf}
use Rattle.pn_search.specs.Numbers.{pairs_of}
use Rattle.pn_search.specs.Trees.{best_child_at, position_after}
use Rattle.pn_search.specs.Ways.{IsWay, IsAtDepth}
use Rattle.pn_search.proofs.Grown.{IsRooted, index-chosen}
use Rattle.pn_search.proofs.KeptLemmas.{kept-rooted, nodes-are}
use Rattle.pn_search.proofs.WayLaws.{leaf-read, below, child-leaf, way-front, way-push, pushed-at}
use Rattle.pn_search.proofs.tree.Tree.step.Goals as goal

pub stepped-board-requires : goal.stepped-board-requires
stepped-board-requires c =
    let t = c.args.self.now in
    let r = subst IsRooted c.self.view_is (kept-rooted _ c.self.inside.pairs.items c.self.invariant) in
    let l = c.index-2.result.now in
    let leaf = leaf-read t c.args.way.now.items c.args.depth l c.requires.way c.requires.within c.index-2.ensures in
    let best = ap (λ (x : Leaf). best_child_at t.nodes (pairs_of t.nodes) x.place) c.index-2.ensures ∙ c.requires.child l in
    let b = below t r l leaf c.args.child best in
    let chosen = index-chosen c.self.inside.nodes.items t.nodes c.args.child c.index-3.result.now (nodes-are _ t c.self.view_is) b.on.within c.index-3.ensures in
    λ m e. subst (λ (x : Rules). Member m (legal x (repeat_of l.board.position))) (sym leaf.rules) (b.is_legal m (sym chosen ∙ e))

pub index-requires-3 : goal.index-requires-3
index-requires-3 c =
    let t = c.args.self.now in
    let r = subst IsRooted c.self.view_is (kept-rooted _ c.self.inside.pairs.items c.self.invariant) in
    let l = c.index-2.result.now in
    let leaf = leaf-read t c.args.way.now.items c.args.depth l c.requires.way c.requires.within c.index-2.ensures in
    let best = ap (λ (x : Leaf). best_child_at t.nodes (pairs_of t.nodes) x.place) c.index-2.ensures ∙ c.requires.child l in
    let low = (below t r l leaf c.args.child best).on.within in
    let long = ap length (nodes-are _ t c.self.view_is) in
    let own = c.self.inside.nodes.ok in
    omega arith

pub returns-in_err-push-clause-way : goal.returns-in_err-push-clause-way
returns-in_err-push-clause-way c =
    let t = c.args.self.now in
    let front = way-front t c.args.way.now.items (c.args.depth + 1) (omega arith) (let low = c.requires.within in omega arith) c.requires.way in
    subst (IsWay t) (sym (c.in_err-push.ensures.items ∙ c.truncate.ensures.items)) front

pub returns-clause-way : goal.returns-clause-way
returns-clause-way c =
    let t = c.args.self.now in
    let r = subst IsRooted c.self.view_is (kept-rooted _ c.self.inside.pairs.items c.self.invariant) in
    let l = c.index-2.result.now in
    let leaf = leaf-read t c.args.way.now.items c.args.depth l c.requires.way c.requires.within c.index-2.ensures in
    let best = ap (λ (x : Leaf). best_child_at t.nodes (pairs_of t.nodes) x.place) c.index-2.ensures ∙ c.requires.child l in
    let b = below t r l leaf c.args.child best in
    let chosen = index-chosen c.self.inside.nodes.items t.nodes c.args.child c.index-3.result.now (nodes-are _ t c.self.view_is) b.on.within c.index-3.ensures in
    let x : Leaf = record { place = c.args.child; board = c.stepped-board.result } in
    let rules = c.stepped-board.ensures.rules ∙ leaf.rules in
    let position =
    c.stepped-board.ensures.position ∙ ap (λ (y : Rules). position_after y l.board.position c.index-3.result.now.chosen) leaf.rules
    ∙ ap (position_after t.frame.rules l.board.position) chosen in
    let front = way-front t c.args.way.now.items (c.args.depth + 1) (omega arith) (let low = c.requires.within in omega arith) c.requires.way in
    subst (IsWay t) (sym (c.in_ok-push.ensures.items ∙ ap (λ xs. xs ++ x ∷ []) c.truncate.ensures.items))
    (way-push t (take (c.args.depth + 1) c.args.way.now.items) x front (child-leaf t r l x c.args.child leaf best refl rules position))

pub returns-clause-child : goal.returns-clause-child
returns-clause-child c =
    let x : Leaf = record { place = c.args.child; board = c.stepped-board.result } in
    subst (λ ls. IsAtDepth ls (c.args.depth + 1) c.args.child) (sym (c.in_ok-push.ensures.items ∙ ap (λ xs. xs ++ x ∷ []) c.truncate.ensures.items))
    (pushed-at c.args.way.now.items x (c.args.depth + 1) (let low = c.requires.within in omega arith))
