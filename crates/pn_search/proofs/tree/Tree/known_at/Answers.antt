use Rattle.std.proofs.Common.{◌≡◌, ◌==◌, ◌<◌, true, Some, None, nat_eq, slice_get, length, refl, ap, sym, ◌∙◌, subst, arith, rules}
use Rattle.rules_model.specs.Repeats.{repeat_of}
use Rattle.forced_wins.specs.declared.fact.Fact.{Fact}
use Rattle.pn_search.specs.declared.numbers.Pair.{Pair}
use Rattle.pn_search.specs.Numbers.{pair_at, pairs_of}
use Rattle.pn_search.specs.Trees.{is_settled_pair}
use Rattle.pn_search.proofs.Expanded.{stands-read}
use Rattle.pn_search.proofs.Grown.{IsRooted}
use Rattle.pn_search.proofs.KeptLemmas.{kept-rooted, nodes-are, pair-read, pairs-long, pairs-are}
use Rattle.pn_search.proofs.Sought.{known-true}
use Rattle.pn_search.proofs.tree.Tree.known_at.Goals as goal

pub index-requires : goal.index-requires
index-requires c =
    let long = pairs-long c.args.self.now.nodes c.self.inside.pairs.items (pairs-are _ c.args.self.now _ c.self.view_is c.self.invariant.pairs) in
    let low = c.requires.at.within in
    let own = c.self.inside.pairs.ok in
    omega arith

pub returns : goal.returns
returns c =
    let u = c.args.self.now in
    let place = c.args.place in
    let r = subst IsRooted c.self.view_is (kept-rooted _ c.self.inside.pairs.items c.self.invariant) in
    let same = nodes-are _ u c.self.view_is in
    let long = ap length same in
    let low = c.requires.at.within in
    let within : place < length c.self.inside.nodes.items = omega arith in
    let v = c.index-2.result.now in
    let stands = subst (λ ns. slice_get ns place ≡ Some v) same (stands-read c.self.inside.nodes.items place v within c.index-2.ensures) in
    let read = pair-read u.nodes c.self.inside.pairs.items place c.index.result.now (pairs-are _ u _ c.self.view_is c.self.invariant.pairs) low c.index.ensures in
    let test = c.if-not-is_settled_pair.false in
    let passed : c.is_settled_pair.result ≡ true = grind arith in
    let settled : is_settled_pair (pair_at (pairs_of u.nodes) place) ≡ true = ap is_settled_pair (sym read) ∙ sym c.is_settled_pair.ensures ∙ passed in
    let moves : c.from.result ≡ v.left = search rules in
    let k : Fact = record { repeat = repeat_of c.args.p.now; attacker = c.self.inside.frame.attacker; moves = c.from.result; counter = c.args.p.now.counter; best = None; wins = nat_eq c.index.result.now.proof 0 } in
    known-true u r place v c.args.p.now k c.requires.below stands c.requires.at.position settled refl refl moves (ap (λ (p : Pair). p.proof == 0) read)
