use Rattle.std.proofs.Common.{sym, ◌∙◌}
use Rattle.std.proofs.lemmas.Bool.{OnTrue_at}
use Rattle.legality.specs.Choices.{chosen_by}
use Rattle.legality.specs.declared.any_sink.AnySink.{AnySink}
use Rattle.legality.proofs.SeekLaws.{stops_at}
use Rattle.legality.proofs.any_sink.AnySink.see.Goals as goal
use Rattle.legality.proofs.any_sink.AnySink.see.Goals.{then-chosen, else-chosen}

pub returns-then-holds-clause-err : goal.returns-then-holds-clause-err
returns-then-holds-clause-err c =
    stops_at (λ (seeker : AnySink). chosen_by seeker.move_filter) _ _
    (elim c.if-chosen.branch [
      | then-chosen w ↦ OnTrue_at w.if-chosen.true c.requires
      | else-chosen w ↦ sym w.holds.ensures ∙ sym w.value-is ∙ c.if-holds.true
    ])
