use Rattle.std.proofs.Common.{◌≡◌, true, false, sym, ◌∙◌, arith}
use Rattle.std.proofs.lemmas.Bool.Decides.{same_from_decides}
use Rattle.rules_model.proofs.EqualLaws.{repeat-decides}
use Rattle.position_key.proofs.PackedLemmas.{packed-same, packed-hash, packed-words, packed-rest, never}
use Rattle.position_key.proofs.packed.Packed.is.Goals as goal

pub returns-then-self-other : goal.returns-then-self-other
returns-then-self-other c =
    let one = c.self.invariant in
    let two = c.other.invariant in
    same_from_decides false _
    (never (λ p. let e = packed-hash _ _ _ _ _ _ _ _ one two (c.self.view_is ∙ (p ∙ sym c.other.view_is)) in omega (arith, c.if-self-other.true)))
    (repeat-decides c.args.self.now c.args.other.now)

pub returns-then-not-are_same_words : goal.returns-then-not-are_same_words
returns-then-not-are_same_words c =
    let one = c.self.invariant in
    let two = c.other.invariant in
    same_from_decides false _
    (never (λ p. let e : c.are_same_words.result ≡ true = c.are_same_words.ensures.1 (packed-words _ _ _ _ _ _ _ _ one two (c.self.view_is ∙ (p ∙ sym c.other.view_is))) in let d : c.are_same_words.result ≡ false = c.if-not-are_same_words.true in let f : true ≡ false = sym e ∙ d in absurd (cc)))
    (repeat-decides c.args.self.now c.args.other.now)

pub returns : goal.returns
returns c =
    let one = c.self.invariant in
    let two = c.other.invariant in
    same_from_decides c.is_same_rest.result _ (
      λ t. sym c.self.view_is ∙ (packed-same _ _ _ _ _ _ _ _ one two (c.are_same_words.ensures.0 c.if-not-are_same_words.false) (c.is_same_rest.ensures.0 t) ∙ c.other.view_is),
      λ p. c.is_same_rest.ensures.1 (packed-rest _ _ _ _ _ _ _ _ one two (c.self.view_is ∙ (p ∙ sym c.other.view_is))),
    )
    (repeat-decides c.args.self.now c.args.other.now)
