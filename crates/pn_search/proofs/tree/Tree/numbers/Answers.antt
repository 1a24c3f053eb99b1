use Rattle.std.proofs.Common.{ap, ◌∙◌, arith}
use Rattle.pn_search.specs.declared.numbers.Pair.{Pair}
use Rattle.pn_search.specs.Numbers.{pairs_of}
use Rattle.pn_search.specs.Trees.{ProofTree}
use Rattle.pn_search.proofs.KeptLemmas.{pair-read, pairs-long}
use Rattle.pn_search.proofs.tree.Tree.numbers.Goals as goal

pub index-pair-requires : goal.index-pair-requires
index-pair-requires c =
    let shown = c.self.invariant.pairs ∙ ap (λ (t : ProofTree). pairs_of t.nodes) c.self.view_is in
    let long = pairs-long c.args.self.now.nodes c.self.inside.pairs.items shown in
    let low = c.requires in
    let own = c.self.inside.pairs.ok in
    omega arith

pub returns-clause-proof : goal.returns-clause-proof
returns-clause-proof c =
    let shown = c.self.invariant.pairs ∙ ap (λ (t : ProofTree). pairs_of t.nodes) c.self.view_is in
    ap (λ (p : Pair). p.proof) (pair-read c.args.self.now.nodes c.self.inside.pairs.items c.args.node c.index-pair.result.now shown c.requires c.index-pair.ensures)

pub returns-clause-disproof : goal.returns-clause-disproof
returns-clause-disproof c =
    let shown = c.self.invariant.pairs ∙ ap (λ (t : ProofTree). pairs_of t.nodes) c.self.view_is in
    ap (λ (p : Pair). p.disproof) (pair-read c.args.self.now.nodes c.self.inside.pairs.items c.args.node c.index-pair.result.now shown c.requires c.index-pair.ensures)
