use Rattle.std.proofs.Common.{true, inl, inr, ap, sym, ◌∙◌, arith}
use Rattle.std.proofs.lemmas.Bool.{OnTrue_at, OnTrue_from}
use Rattle.rules_model.specs.declared.rules.Rules.{Rules}
use Rattle.rules_model.specs.Games.{history}
use Rattle.game_line.specs.Lined.{RepeatsAfterNone, story_of_line}
use Rattle.game_line.proofs.OngoingLaws.{none_repeats}
use Rattle.game_line.proofs.SlotLaws.{times-once}
use Rattle.game_line.proofs.line.Line.repeats_after_none.Goals as goal

pub returns-then-fold-eq0 : goal.returns-then-fold-eq0
returns-then-fold-eq0 c = OnTrue_from true (RepeatsAfterNone c.args.self.now) (λ told m.
    let l = c.args.self.now in
    none_repeats l.rules (story_of_line l) m (inl (sym (ap (λ (r : Rules). r.n_fold) c.rules.ensures) ∙ c.if-fold-eq0.true)))

pub returns : goal.returns
returns c = OnTrue_from _ (RepeatsAfterNone c.args.self.now) (λ told m.
    let l = c.args.self.now in
    let apart = OnTrue_at told c.is_apart.ensures in
    let same = ap (λ (r : Rules). r.n_fold) c.rules.ensures in
    let three = c.if-fold-lt3.false in
    none_repeats l.rules (story_of_line l) m (inr (omega (arith, same, three), λ r. times-once r (history (story_of_line l)) apart)))
