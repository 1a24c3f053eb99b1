-- Each part of the position is what its function says of the position before the move.
use Rattle.std.proofs.Common.{◌∙◌, ap, refl, sym}
use Rattle.rules_model.specs.declared.board.Position.{Position}
use Rattle.rules_model.specs.declared.board.Side.TheVariants.{White, Black}
use Rattle.rules_model.specs.Repeats.{repeat_of}
use Rattle.rules_model.specs.Next.{ep_where}
use Rattle.next_position.specs.Parts.{cells_by, hands_by}
use Rattle.next_position.proofs.TouchedLemmas.{is-touched, next-cells, next-hands}
use Rattle.next_position.proofs.PartLaws.{cells_after-by, ep_after-by, gates_after-by, hands_after-by, but_checks-by, rights_after-by, rights_written}
use Rattle.next_position.proofs.make_but_checks.Goals as goal

pub returns-clause-position : goal.returns-clause-position
returns-clause-position c =
    let rules = c.args.rules.now in
    let p = c.args.p.now in
    let r = repeat_of c.args.p.now in
    let m = c.args.m.now in
    let later = c.write.new.cells in
    let white = rights_written rules r m later c.is_passing-passing.result White c.requires.fit (c.requires.rooks.stands White) c.write.ensures c.rights_left-white.ensures c.rights_kept.ensures in
    let black = rights_written rules r m later c.is_passing-passing.result Black c.requires.fit (c.requires.rooks.stands Black) c.write.ensures c.rights_left-black.ensures c.rights_kept-2.ensures in
    but_checks-by rules p _ m
    (c.write.ensures ∙ ap (λ b. cells_by rules p.side b m p.cells) c.is_passing-passing.ensures ∙ sym (cells_after-by rules r m))
    (c.change.ensures ∙ ap (λ t. hands_by rules p.side t m p.hands) c.taken-taken.ensures ∙ sym (hands_after-by rules r m))
    (c.close.ensures ∙ sym (gates_after-by rules r m))
    c.counter-p.ensures
    c.number-p.ensures
    (rw (white, black) (sym (rights_after-by rules r m later)))
    refl
    (c.ep_square-p.ensures ∙ ap (ep_where rules p.side later) c.passed_over-passed.ensures ∙ sym (ep_after-by rules r m later))
    c.other-p.ensures

pub returns-clause-touched : goal.returns-clause-touched
returns-clause-touched c =
    let rules = c.args.rules.now in
    let p = c.args.p.now in
    let m = c.args.m.now in
    let made = returns-clause-position c in
    is-touched rules p _ m _ (ap (λ (q : Position). q.cells) made ∙ next-cells rules p _ m refl) (ap (λ (q : Position). q.hands) made ∙ next-hands rules p _ m refl)
    c.touched_by-touched.ensures.squares c.touched_by-touched.ensures.hands
