use Rattle.std.proofs.Common.{◌++◌, ap, ◌∙◌}
use Rattle.proof_text.proofs.WriteLemmas.{body-after, body-within}
use Rattle.proof_text.proofs.writing.push_body.Goals as goal

pub after_first-requires : goal.after_first-requires
after_first-requires c =
    body-within c.args.rules.now c.args.strategy.now c.in_ok-whole.whole c.in_ok-whole.ensures.text

pub returns : goal.returns
returns c =
    let rest = body-after c.args.rules.now c.args.strategy.now c.in_ok-whole.whole c.in_ok-whole.ensures.text in
    c.in_ok-push_text.ensures ∙ ap (λ t. c.args.text.now.items ++ t) (c.after_first.ensures ∙ rest)
