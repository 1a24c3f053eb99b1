use Rattle.std.proofs.Common.{◌≡◌, ◌⊎◌, inl, inr, ℕ, ◌<◌, List, length, get_or, set, Some, slice_get, sym, ◌∙◌, subst, arith}
use Rattle.std.proofs.lemmas.Bool.{cases_eq}
use Rattle.std.proofs.lemmas.List.{get_or_default, length-set}
use Rattle.std.proofs.lemmas.Option.{slice_get-get_or}
use Rattle.pn_search.specs.declared.node.Node.{Node}
use Rattle.pn_search.specs.declared.numbers.Pair.{Pair}
use Rattle.pn_search.specs.Numbers.{open_pair, of_children, numbers_of, pair_at, pairs_of}
use Rattle.pn_search.specs.Shapes.{AreInPlace, AreWithin, IsNumbered}
use Rattle.pn_search.proofs.Carried.{same_node, same_pair, no_node, no_pair, worked_out, wrote-here, wrote-others, within-length}
use Rattle.pn_search.proofs.carrying.carry.Goals as goal

-- where one node is looked at, and all others are numbered
module _ (nodes : List Node) (placed : AreInPlace nodes) (ps : List Pair) (at : ℕ) (len : length ps ≡ length nodes) (within : at < length nodes) (others : (i : ℕ) → (i ≡ at → ⊥) → IsNumbered nodes ps i) where
  abbrev v : Node
  v = get_or nodes at no_node

  here : slice_get nodes at ≡ Some v
  here = slice_get-get_or nodes at no_node within

  fits : AreWithin v.state (length ps)
  fits = subst (AreWithin v.state) (sym len) (within-length v.state nodes at (placed at v here).children)

  above : 0 < at → v.parent < at
  above = (placed at v here).parent

  stays : (q : Pair) → q ≡ numbers_of v.state v.attacking (of_children v.state ps) → q ≡ get_or ps at no_pair → ps ≡ pairs_of nodes
  stays q is same = worked_out nodes placed ps len all
    where
      low : at < length ps
      low = omega arith

      all : (i : ℕ) → IsNumbered nodes ps i
      all i = by_place (cases_eq i at)
        where
          by_place : (i ≡ at) ⊎ (i ≡ at → ⊥) → IsNumbered nodes ps i
          by_place (inl e) = subst (IsNumbered nodes ps) (sym e) (λ w k. let f : v ≡ w = same_node nodes at v w here k in subst (λ (x : Node). pair_at ps at ≡ numbers_of x.state x.attacking (of_children x.state ps)) f (get_or_default ps at open_pair no_pair low ∙ sym same ∙ is))
          by_place (inr e) = others i e

  more : (q : Pair) → q ≡ numbers_of v.state v.attacking (of_children v.state ps) → (i : ℕ) → (0 < at → i ≡ v.parent → ⊥) → IsNumbered nodes (set ps at q) i
  more q is i no_parent = by_place (cases_eq i at)
    where
      low : at < length ps
      low = omega arith

      by_place : (i ≡ at) ⊎ (i ≡ at → ⊥) → IsNumbered nodes (set ps at q) i
      by_place (inl e) = subst (IsNumbered nodes (set ps at q)) (sym e) (wrote-here nodes placed ps at v q here low is)
      by_place (inr e) = wrote-others nodes placed ps at v q here i e no_parent (others i e)

  at_root : (q : Pair) → q ≡ numbers_of v.state v.attacking (of_children v.state ps) → at ≡ 0 → set ps at q ≡ pairs_of nodes
  at_root q is zero = worked_out nodes placed (set ps at q) (length-set ps at q ∙ len) (λ i. more q is i (λ h e. omega arith))

pub numbers_of-pair-requires : goal.numbers_of-pair-requires
numbers_of-pair-requires c = fits c.args.nodes.now c.requires.placed c.up.pairs c.up.at (c.up.auto.pairs ∙ c.requires.len) c.up.invariant.within c.up.invariant.others

pub returns-then-eq : goal.returns-then-eq
returns-then-eq c =
    stays c.args.nodes.now c.requires.placed c.up.pairs c.up.at (omega arith) c.up.invariant.within c.up.invariant.others c.numbers_of-pair.result c.numbers_of-pair.ensures
    (same_pair c.numbers_of-pair.result (get_or c.up.pairs c.up.at no_pair) (sym c.eq.ensures ∙ c.if-eq.true))

pub returns-then-at-eq0 : goal.returns-then-at-eq0
returns-then-at-eq0 c = at_root c.args.nodes.now c.requires.placed c.up.pairs c.up.at (omega arith) c.up.invariant.within c.up.invariant.others c.numbers_of-pair.result c.numbers_of-pair.ensures (omega arith)

pub up-smaller : goal.up-smaller
up-smaller c = above c.args.nodes.now c.requires.placed c.up.pairs c.up.at (omega arith) c.up.invariant.within c.up.invariant.others (omega arith)

pub up-preserved : goal.up-preserved
up-preserved c =
    let low = above c.args.nodes.now c.requires.placed c.up.pairs c.up.at (omega arith) c.up.invariant.within c.up.invariant.others (omega arith) in
    record {
      within = omega arith;
      others = λ i e. more c.args.nodes.now c.requires.placed c.up.pairs c.up.at (omega arith) c.up.invariant.within c.up.invariant.others c.numbers_of-pair.result c.numbers_of-pair.ensures i (λ h k. e k);
    }
