use Rattle.std.proofs.Common.{◌≡◌, [], ◌∷◌, ◌++◌, None, ap, ◌∙◌}
use Rattle.pn_search.specs.declared.node.State.TheVariants.{Open}
use Rattle.pn_search.specs.Numbers.{open_pair}
use Rattle.pn_search.specs.Trees.{root_node}
use Rattle.pn_search.proofs.KeptLemmas.{kept-new, new-is}
use Rattle.pn_search.proofs.tree.Tree.new.Goals as goal

pub invariant_of-result : goal.invariant_of-result
invariant_of-result c =
    let one_node : c.push.new.self.items ≡ root_node c.args.frame.now c.args.root.now c.args.n ∷ [] =
    c.in_ok-push.ensures.items
    ∙ ap (λ xs. xs ++ record { parent = 0; state = Open; chosen = None; left = c.args.n; attacking = c.is.result } ∷ []) c.new-nodes.ensures.items
    ∙ ap (λ b. record { parent = 0; state = Open; chosen = None; left = c.args.n; attacking = b } ∷ []) c.is.ensures in
    let one_pair : c.push-2.new.self.items ≡ open_pair ∷ [] = c.in_ok-push-2.ensures.items ∙ ap (λ xs. xs ++ open_pair ∷ []) c.new-pairs.ensures.items in
    kept-new c.args.frame.now c.in_ok-copy_of_frame.field-0 c.args.root.now c.args.n c.push.new.self.items c.push-2.new.self.items
    c.in_ok-copy_of_frame.ensures one_node one_pair c.requires.sound c.requires.ongoing

pub returns-clause-tree : goal.returns-clause-tree
returns-clause-tree c =
    let one_node : c.push.new.self.items ≡ root_node c.args.frame.now c.args.root.now c.args.n ∷ [] =
    c.in_ok-push.ensures.items
    ∙ ap (λ xs. xs ++ record { parent = 0; state = Open; chosen = None; left = c.args.n; attacking = c.is.result } ∷ []) c.new-nodes.ensures.items
    ∙ ap (λ b. record { parent = 0; state = Open; chosen = None; left = c.args.n; attacking = b } ∷ []) c.is.ensures in
    new-is c.args.frame.now c.in_ok-copy_of_frame.field-0 c.args.root.now c.args.n c.push.new.self.items c.in_ok-copy_of_frame.ensures one_node
