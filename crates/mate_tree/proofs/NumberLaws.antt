-- The numbers of a node, as a loop over its children works them out.
use Rattle.std.proofs.Common.{◌≡◌, ℕ, zero, suc, ◌+◌, ◌<◌, min, List, [], ◌∷◌, take, get_or, length, Bool, refl, ap, arith}
use Rattle.mate_tree.specs.declared.node.Node.{Node}
use Rattle.mate_tree.specs.Numbers.{own_number, least_of}

shift : (i : ℕ) → suc i + 1 ≡ suc (i + 1)
shift i = omega arith

pub least-more : (a : Bool) (vs : List Node) (i : ℕ) (d : Node) → i < length vs
    → least_of a (take (i + 1) vs) ≡ min (least_of a (take i vs)) (own_number a (get_or vs i d))
unfolding least_of
least-more a [] i d h = absurd (omega arith)
least-more a (v ∷ vs) zero d h = omega arith
least-more a (v ∷ vs) (suc i) d h =
    let rest = least-more a vs i d (omega arith) in
    let more : least_of a (take (suc i + 1) (v ∷ vs)) ≡ min (own_number a v) (least_of a (take (i + 1) vs)) = ap (λ k. least_of a (take k (v ∷ vs))) (shift i) in
    let before : least_of a (take (suc i) (v ∷ vs)) ≡ min (own_number a v) (least_of a (take i vs)) = refl in
    let at : own_number a (get_or (v ∷ vs) (suc i) d) ≡ own_number a (get_or vs i d) = refl in
    omega arith
