use Rattle.std.proofs.Common.{◌∙◌, ap}
use Rattle.checkers.specs.CheckersText.{checkers_in, checkers_text}
use Rattle.checkers.proofs.text.checkers_of.Goals as goal

pub returns : goal.returns
returns c =
    c.in_ok-text_of_squares.ensures
    ∙ ap checkers_text (c.as_slice.ensures.value ∙ c.in_ok-squares.ensures.is ∙ (λ i. checkers_in (c.rules.ensures i) (c.position.ensures.is i)))
