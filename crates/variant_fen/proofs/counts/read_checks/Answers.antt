use Rattle.std.proofs.Common.{◌==◌, ◌≡◌, ◌∷◌, true, false, None, Some, sym, ap, ◌∙◌}
use Rattle.std.specs.List.{slice_split}
use Rattle.std.specs.Option.{is_some, option_copied}
use Rattle.fen_model.specs.Counts.{is_plus, two_checks}
use Rattle.foundation.specs.Numbers.{number_of}
use Rattle.foundation.specs.Cuts.{parts_after}
use Rattle.variant_fen.proofs.CountLemmas.{checks_one, checks_three, checks_two}
use Rattle.variant_fen.proofs.counts.read_checks.Goals as goal

pub returns-in_default : goal.returns-in_default
returns-in_default c = sym (checks_one c.args.text.now c.cut_at.result.0.now c.cut_at.result.1 c.cut_at.ensures.parts c.in_default.is)

pub returns-then-is_some : goal.returns-then-is_some
returns-then-is_some c =
    let cut : slice_split is_plus c.args.text.now ≡ c.cut_at.result.0.now ∷ slice_split is_plus c.in-Some.rest.now = c.cut_at.ensures.parts ∙ ap (λ o. c.cut_at.result.0.now ∷ parts_after (λ b. b == 43) (option_copied o)) c.in-Some.is in
    sym (checks_three c.args.text.now c.cut_at.result.0.now c.cut_at-2.result.0.now c.in-Some.rest.now c.cut_at-2.result.1 cut c.cut_at-2.ensures.parts (sym c.is_some.ensures ∙ c.if-is_some.true))

pub returns : goal.returns
returns c =
    let cut : slice_split is_plus c.args.text.now ≡ c.cut_at.result.0.now ∷ slice_split is_plus c.in-Some.rest.now = c.cut_at.ensures.parts ∙ ap (λ o. c.cut_at.result.0.now ∷ parts_after (λ b. b == 43) (option_copied o)) c.in-Some.is in
    c.checks.ensures ∙ ap (λ o. two_checks o c.read_number-2.result) c.read_number.ensures ∙ ap (two_checks _) c.read_number-2.ensures
    ∙ sym (checks_two c.args.text.now c.cut_at.result.0.now c.cut_at-2.result.0.now c.in-Some.rest.now c.cut_at-2.result.1 cut c.cut_at-2.ensures.parts (sym c.is_some.ensures ∙ c.if-is_some.false))
