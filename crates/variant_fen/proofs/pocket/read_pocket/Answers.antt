use Rattle.std.proofs.Common.{◌≡◌, ◌==◌, ◌||◌, ◌&&◌, ◌∷◌, [], true, false, Some, None, Ok, length, sym, ap, ◌∙◌}
use Rattle.fen_model.specs.Pocket.{inside_of}
use Rattle.variant_fen.specs.Hands.{capped_counts}
use Rattle.variant_fen.proofs.PocketLemmas.{bad_pocket, empty_pocket, good_pocket, no_pocket}
use Rattle.variant_fen.proofs.pocket.read_pocket.Goals as goal

pub returns-then-holds_nothing : goal.returns-then-holds_nothing
returns-then-holds_nothing c =
    let inside : inside_of c.args.pocket.now ≡ Some c.in-Some.letters.now = c.in-Some.ensures in
    sym (empty_pocket c.args.rules.now c.args.pocket.now c.in-Some.letters.now inside (sym c.holds_nothing.ensures ∙ c.if-holds_nothing.true))

pub returns-then-may_be_held : goal.returns-then-may_be_held
returns-then-may_be_held c =
    let good = good_pocket c.args.rules.now c.args.pocket.now c.in-Some.letters.now c.in-Some.ensures (sym c.holds_nothing.ensures ∙ c.if-holds_nothing.false) (sym c.may_be_held.ensures ∙ c.if-may_be_held.true) in
    sym (good ∙ ap (λ x. Ok (x ∷ capped_counts 97 c.in-Some.letters.now ∷ [])) (sym c.hand.ensures) ∙ ap (λ x. Ok (c.hand.result ∷ x ∷ [])) (sym c.hand-then-may_be_held.ensures))

pub returns-else-may_be_held : goal.returns-else-may_be_held
returns-else-may_be_held c =
    sym (bad_pocket c.args.rules.now c.args.pocket.now c.in-Some.letters.now c.in-Some.ensures (sym c.holds_nothing.ensures ∙ c.if-holds_nothing.false) (sym c.may_be_held.ensures ∙ c.if-may_be_held.false))

pub returns-in_default : goal.returns-in_default
returns-in_default c = sym (no_pocket c.args.rules.now c.args.pocket.now c.in_default.ensures)
