use Rattle.std.proofs.Common.{ap, ◌∙◌}
use Rattle.rules_model.specs.Sound.{is_sound}
use Rattle.pn_search.proofs.descending.stepped.Goals as goal

pub new-requires : goal.new-requires
new-requires c =
    ap (λ r. is_sound r c.position.result.now) c.tables.ensures ∙ ap (is_sound c.args.board.now.rules) c.position.ensures ∙ c.prove_ready.ensures.sound
