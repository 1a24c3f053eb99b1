use Rattle.std.proofs.Common.{ℕ, ◌==◌, not, sym, ◌∙◌, subst}
use Rattle.std.proofs.lemmas.Bool.{and_parts, or_parts}
use Rattle.square_set.specs.Members.{has}
use Rattle.square_set.proofs.Cases.{by_equal}
use Rattle.attack_tables.specs.Masks.{NeverTakes}
use Rattle.attack_tables.proofs.MaskLaws.{and_not}
use Rattle.check_moves.proofs.listing.takers_of_kings.Goals as goal

pub loop-king-init : goal.loop-king-init
loop-king-init c = record {
  inside = λ s h. h;
  done = λ king member out from small none. absurd (let f : ⊥ = cc in f);
}

pub takers_of-requires-clause-at : goal.takers_of-requires-clause-at
takers_of-requires-clause-at c = c.requires.kings c.in-Some.king (c.loop-king.invariant.inside c.in-Some.king c.in-Some.ensures.some.member)

pub loop-king-preserved : goal.loop-king-preserved
loop-king-preserved c =
    let rules = c.args.tables.now in
    let kind = c.args.kind.0 in
    record {
      inside = λ s h. c.loop-king.invariant.inside s (and_parts (has c.loop-king.rest s) (not (s == c.in-Some.king)) (sym (c.in-Some.ensures.rest s) ∙ h)).0;
      done = λ king member out from small none.
          let o = or_parts (has c.loop-king.takers from) (has c.takers_of.result from) (sym (c.or-takers.ensures from) ∙ none) in
          by_equal king c.in-Some.king (NeverTakes rules c.args.by kind from king)
          (λ e q.
          let Never : ℕ → Type 0 = λ k. NeverTakes rules c.args.by kind from k in
          subst Never (sym q) (c.takers_of.ensures from small o.1))
          (λ e q. c.loop-king.invariant.done king member (and_not (has c.loop-king.rest king) (king == c.in-Some.king) e (sym (c.in-Some.ensures.rest king) ∙ out)) from small o.0);
    }

pub returns : goal.returns
returns c = λ king member from small none. c.loop-king.invariant.done king member (c.in_default.ensures.none king) from small none
