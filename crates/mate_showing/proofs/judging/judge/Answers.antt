use Rattle.std.proofs.Common.{◌≡◌, ◌<◌, [], ◌∷◌, length, true, false, Some, slice_get, refl, ap, sym, ◌∙◌, subst, rules}
use Rattle.std.proofs.lemmas.Option.{slice_get_read}
use Rattle.game_play.specs.Played.{story}
use Rattle.rules_model.specs.declared.board.Position.{Position}
use Rattle.rules_model.specs.Games.{same_repeat}
use Rattle.rules_model.specs.Repeats.{repeat_of}
use Rattle.strategy.specs.declared.nodes.Node.{Node}
use Rattle.mate_showing.specs.Answers.{IsRight, IsEvidence}
use Rattle.mate_showing.specs.Counts.{is_often, counters_of}
use Rattle.mate_showing.proofs.Judged.{looked, seen}
use Rattle.mate_showing.proofs.Root.{again-evidence, often-evidence, near-shown, same-repeats, other-repeats}
use Rattle.mate_showing.proofs.judging.judge.Goals as goal

pub returns-then-repeats : goal.returns-then-repeats
returns-then-repeats c =
    let g = story c.args.game.now in
    let s = c.args.nodes.items in
    let v = c.index.result.now in
    let at : slice_get s c.loop-i.i ≡ Some v = slice_get_read s (length s) c.loop-i.i v refl (search rules) c.index.ensures in
    let e = same-repeats (repeat_of v.position) (repeat_of c.position-last.result.now) c.repeats.result c.repeats.ensures c.if-repeats.true ∙ ap repeat_of c.position-last.ensures.is in
    let some : 0 < c.loop-i.i = search rules in
    let cs = c.in_ok-counters.ensures ∙ ap (λ (y : Position). y.counter ∷ v.position.counter ∷ []) c.position-last.ensures.is in
    subst (λ x. IsEvidence c.args.frame.now.rules g c.args.frame.now.attacker c.args.plan.now.whole x c.in_ok-counters.counters) (sym (c.repeat_of.ensures ∙ ap repeat_of c.position-last.ensures.is))
    (again-evidence c.args.frame.now g c.args.plan.now s c.requires.tabled c.requires.exact c.loop-i.i v c.in_ok-counters.counters some at e cs)

pub returns-then-is_often : goal.returns-then-is_often
returns-then-is_often c =
    let g = story c.args.game.now in
    let s = c.args.nodes.items in
    let v = c.index.result.now in
    let at : slice_get s c.loop-i.i ≡ Some v = slice_get_read s (length s) c.loop-i.i v refl (search rules) c.index.ensures in
    let other : repeat_of v.position ≡ repeat_of g.last → ⊥ = λ e. other-repeats (repeat_of v.position) (repeat_of c.position-last.result.now) c.repeats.result c.repeats.ensures c.if-repeats.false (e ∙ sym (ap repeat_of c.position-last.ensures.is)) in
    let often : is_often c.args.frame.now.rules.n_fold g s (repeat_of v.position) ≡ true = subst (λ z. is_often c.args.frame.now.rules.n_fold g z (repeat_of v.position) ≡ true) c.as_slice.ensures.value (sym c.is_often.ensures ∙ c.if-is_often.true) in
    let cs : c.in_ok-counters-2.counters ≡ counters_of (repeat_of v.position) s = subst (λ z. c.in_ok-counters-2.counters ≡ counters_of (repeat_of v.position) z) c.as_slice-then-is_often.ensures.value c.in_ok-counters-2.ensures in
    subst (λ x. IsEvidence c.args.frame.now.rules g c.args.frame.now.attacker c.args.plan.now.whole x c.in_ok-counters-2.counters) (sym c.repeat_of-then-is_often.ensures)
    (often-evidence c.args.frame.now g c.args.plan.now s c.requires.tabled c.requires.exact c.loop-i.i v c.in_ok-counters-2.counters at other often cs)

pub loop-i-preserved : goal.loop-i-preserved
loop-i-preserved c =
    let g = story c.args.game.now in
    let s = c.args.nodes.items in
    let v = c.index.result.now in
    let at : slice_get s c.loop-i.i ≡ Some v = slice_get_read s (length s) c.loop-i.i v refl (search rules) c.index.ensures in
    let here : (same_repeat (repeat_of v.position) (repeat_of g.last) ≡ false) × (is_often c.args.frame.now.rules.n_fold g s (repeat_of v.position) ≡ false) = (
      ap (λ (y : Position). same_repeat (repeat_of v.position) (repeat_of y)) (sym c.position-last.ensures.is) ∙ sym c.repeats.ensures ∙ c.if-repeats.false,
      subst (λ z. is_often c.args.frame.now.rules.n_fold g z (repeat_of v.position) ≡ false) c.as_slice.ensures.value (sym c.is_often.ensures ∙ c.if-is_often.false),
    ) in
    looked {Q = λ (w : Node). (same_repeat (repeat_of w.position) (repeat_of g.last) ≡ false) × (is_often c.args.frame.now.rules.n_fold g s (repeat_of w.position) ≡ false)} s c.loop-i.i v c.loop-i.invariant at here

pub returns : goal.returns
returns c =
    let g = story c.args.game.now in
    let s = c.args.nodes.items in
    subst (IsRight c.args.frame.now.rules g c.args.frame.now.attacker c.args.plan.now.whole) (sym c.shown.ensures)
    (near-shown c.args.frame.now g c.args.plan.now s c.requires.tabled c.requires.kept c.requires.exact (seen {Q = λ (w : Node). (same_repeat (repeat_of w.position) (repeat_of g.last) ≡ false) × (is_often c.args.frame.now.rules.n_fold g s (repeat_of w.position) ≡ false)} s c.loop-i.i c.loop-i.invariant (search rules)))
