use Rattle.std.proofs.Common.{◌≡◌, ℕ, List, Option, Some, true, false, length, get_or, slice_get, sym, ◌∙◌, subst}
use Rattle.rules_model.specs.Repeats.{repeat_of}
use Rattle.position_key.specs.Key.{key_of}
use Rattle.key_index.specs.Places.{IsLastPlace}
use Rattle.mate_showing.specs.Tables.{is_key}
use Rattle.mate_showing.proofs.Searched.{IsSought, node_read, sought-starts, sought-here, sought-inside, sought-on}
use Rattle.mate_showing.proofs.node_table.place.Goals.{then-is_for, else-is_for}
use Rattle.mate_showing.proofs.node_table.place.Goals as goal

pub loop-at-init : goal.loop-at-init
loop-at-init c =
    let P : List ℕ → ℕ → Type 0 = λ ks k. IsLastPlace ks k (length ks) c.last-at.result in
    let last = subst (λ ks. P ks (key_of (repeat_of c.args.p.now))) c.requires.keys (subst (P c.args.keys.now) c.requires.key c.last-at.ensures) in
    sought-starts c.args.nodes.now c.args.exact c.args.p.now c.last-at.result last

pub loop-at-preserved : goal.loop-at-preserved
loop-at-preserved c =
    let nodes = c.args.nodes.now in
    let exact = c.args.exact in
    let p = c.args.p.now in
    let i = c.in-Some.i in
    let found = c.loop-at.found in
    let v = c.index-nodes-i.result in
    let next = c.before-at.result in
    let so_far : IsSought nodes exact p (Some i) found = subst (λ (o : Option ℕ). IsSought nodes exact p o found) c.in-Some.is c.loop-at.invariant in
    let here : slice_get nodes i ≡ Some v = node_read nodes i v (sought-inside nodes exact p i found so_far) c.index-nodes-i.is in
    let last = subst (λ (ks : List ℕ). IsLastPlace ks (get_or ks i 0) i next) c.requires.keys c.before-at.ensures in
    elim c.if-is_for.branch [
      | then-is_for w ↦
          let is : is_key exact p v ≡ true = sym c.is_for.ensures ∙ w.if-is_for.true in
          subst (IsSought nodes exact p next) (sym w.found-is) (sought-here nodes exact p i found v next so_far here is last)
      | else-is_for w ↦
          let is : is_key exact p v ≡ false = sym c.is_for.ensures ∙ w.if-is_for.false in
          subst (IsSought nodes exact p next) (sym w.found-is) (sought-on nodes exact p i found v next so_far here is last)
    ]
