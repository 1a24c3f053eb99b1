use Rattle.std.proofs.Common.{true, inl, inr, ap, sym, ◌∙◌, arith}
use Rattle.std.proofs.lemmas.Bool.{OnTrue_from}
use Rattle.std.proofs.lemmas.Bool.Decides.{nat_tests}
use Rattle.rules_model.specs.declared.board.Position.{Position}
use Rattle.rules_model.specs.declared.rules.Rules.{Rules}
use Rattle.legality.specs.Stance.{Stance}
use Rattle.game_line.specs.Lined.{RunsOutAfterNone, story_of_line}
use Rattle.game_line.proofs.OngoingLaws.{none_runs_out}
use Rattle.game_line.proofs.line.Line.runs_out_after_none.Goals as goal

pub returns-then-most-eq0 : goal.returns-then-most-eq0
returns-then-most-eq0 c = OnTrue_from true (RunsOutAfterNone c.args.self.now) (λ told m.
    let l = c.args.self.now in
    none_runs_out l.rules (story_of_line l) m (inl (sym (ap (λ (r : Rules). r.n_move) c.rules.ensures) ∙ c.if-most-eq0.true)))

pub returns : goal.returns
returns c = OnTrue_from _ (RunsOutAfterNone c.args.self.now) (λ told m.
    let l = c.args.self.now in
    let most = ap (λ (r : Rules). r.n_move) c.rules.ensures in
    let counter = ap (λ (p : Position). p.counter) (c.position.ensures ∙ ap (λ (s : Stance). s.position) c.board.ensures) in
    none_runs_out l.rules (story_of_line l) m (inr (grind (arith, nat_tests, told, most, counter))))
