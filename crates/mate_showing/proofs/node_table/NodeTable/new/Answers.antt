use Rattle.std.proofs.Common.{◌≡◌, [], ◌∷◌, refl, ap, sym, ◌∙◌, rules}
use Rattle.rules_model.specs.declared.board.Position.{Position}
use Rattle.rules_model.specs.Repeats.{repeat_of}
use Rattle.position_key.specs.Key.{key_of}
use Rattle.strategy.specs.declared.nodes.Node.{Node}
use Rattle.mate_showing.specs.Keyed.{keys_of, node_key}
use Rattle.mate_showing.proofs.Kept.{root-kept}
use Rattle.mate_showing.proofs.node_table.NodeTable.new.Goals as goal

pub invariant_of-result : goal.invariant_of-result
invariant_of-result c =
    let u : Node = record { position = c.written.result; rank = 65535; edges = c.no_edges.result } in
    let is : c.push.new.self.items ≡ u ∷ [] = search rules in
    let keyed : c.push-2.new.self ≡ c.key.result ∷ [] = search rules in
    let key : node_key u ≡ c.key.result = ap (λ (y : Position). key_of (repeat_of y)) c.written.ensures ∙ (ap (λ (y : Position). key_of (repeat_of y)) c.requires.root ∙ sym c.key.ensures) in
    record {
      kept =
          root-kept c.args.frame.now c.args.plan c.args.board.now c.push.new.self.items u
          c.requires.rules c.requires.root c.prove_ready.ensures.sound is c.written.ensures refl;
      keys = keyed ∙ (ap (λ k. k ∷ []) (sym key) ∙ ap keys_of (sym is));
    }
