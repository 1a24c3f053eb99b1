use Rattle.std.proofs.Common.{◌≡◌, false, is_some, refl, ap, sym, ◌∙◌}
use Rattle.std.proofs.lemmas.Bool.{OnTrue_at, OnTrue_from}
use Rattle.rules_model.specs.Kinds.{promoted_of}
use Rattle.rules_model.proofs.CandidateLaws.{not_both}
use Rattle.square_set.specs.Members.{has}
use Rattle.square_set.proofs.Cases.{by_bool}
use Rattle.legality.specs.Asking.{is_to}
use Rattle.legality.proofs.AskingLaws.{is_to-letter}
use Rattle.legality.proofs.AskedSquaresLaws.{no_promoted, none_hit}
use Rattle.legality.proofs.asked_squares.goes_in_vain.Goals as goal

pub returns : goal.returns
returns c =
    let kind = c.args.kind in
    let goals = c.goals_at_most-goals.result in
    OnTrue_from c.is_empty.result _
    (λ e. record {
      stays = no_promoted _ (ap is_some (ap (λ r. promoted_of r kind) (sym c.rules.ensures.is) ∙ sym c.promoted_of.ensures) ∙ sym c.is_some.ensures ∙ c.if-is_some.false);
      misses = λ cells all t goal.
          by_bool (has goals t) (is_to c.args.asked.now kind t ≡ false)
          (λ h. is_to-letter c.args.asked.now kind t c.if-kind-ge26.false _ refl ∙ none_hit (has goals t) _ (sym (c.and.ensures t) ∙ OnTrue_at e c.is_empty.ensures.empty t) h)
          (λ h. absurd (not_both _ goal (c.goals_at_most-goals.ensures cells all t h)));
    })
