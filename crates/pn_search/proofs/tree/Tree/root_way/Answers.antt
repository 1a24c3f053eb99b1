use Rattle.std.proofs.Common.{[], ◌∷◌, ◌++◌, ap, sym, ◌∙◌, subst, refl}
use Rattle.legality.specs.Stance.{Stance}
use Rattle.pn_search.specs.declared.descending.Leaf.{Leaf}
use Rattle.pn_search.specs.Trees.{ProofTree, HasGrown}
use Rattle.pn_search.specs.Ways.{IsWay}
use Rattle.pn_search.proofs.WayLaws.{way-root}
use Rattle.pn_search.proofs.tree.Tree.root_way.Goals as goal

pub returns : goal.returns
returns c =
    let t = c.args.self.now in
    let x : Leaf = record { place = 0; board = c.new.result } in
    let items = c.in_ok-push.ensures.items ∙ ap (λ xs. xs ++ x ∷ []) c.new-way.ensures.items in
    subst (IsWay t) (sym items)
    (way-root t x (subst HasGrown c.self.view_is c.self.invariant.grown) refl
    (ap (λ (s : Stance). s.rules) c.new.ensures ∙ c.requires.tables)
    (ap (λ (s : Stance). s.position) c.new.ensures ∙ ap (λ (u : ProofTree). u.root) c.self.view_is))
