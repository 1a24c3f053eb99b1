use Rattle.std.proofs.Common.{◌≡◌, subst}
use Rattle.std.proofs.lemmas.Bool.{OnTrue_at, OnTrue_from}
use Rattle.rules_model.specs.declared.board.Repeat.{Repeat}
use Rattle.rules_model.specs.declared.moves.Outcome.TheVariants.{Ongoing}
use Rattle.rules_model.specs.declared.rules.Rules.{Rules}
use Rattle.rules_model.specs.Ends.{early_end}
use Rattle.game_line.specs.Lined.{EndsByStuckAlone, story_of_line}
use Rattle.game_line.proofs.OngoingLaws.{goes_on}
use Rattle.game_line.proofs.line.Line.ends_by_stuck_alone.Goals as goal

pub returns : goal.returns
returns c = OnTrue_from _ (EndsByStuckAlone c.args.self.now) (λ told.
    let l = c.args.self.now in
    let early = subst (λ (r : Rules). (x : Repeat) → early_end r x ≡ Ongoing) c.rules.ensures (c.can_end_early.ensures c.if-can_end_early.false) in
    let counts = OnTrue_at c.if-not-runs_out_after_none.false c.runs_out_after_none.ensures in
    let repeats = OnTrue_at told c.repeats_after_none.ensures in
    record {
      early = early;
      later = λ m some. goes_on l.rules (story_of_line l) m (early _) some (repeats m) (counts m);
    })
