use Rattle.std.proofs.Common.{◌≡◌, ◌∙◌, ap, subst, sym, true, ◌&&◌}
use Rattle.rules_model.specs.declared.board.Position.{Position}
use Rattle.rules_model.specs.declared.board.Side.{Side}
use Rattle.rules_model.specs.declared.rules.Rules.{Rules}
use Rattle.rules_model.proofs.LegalLaws.{legal-member}
use Rattle.rules_model.specs.Attacks.{king_attacked}
use Rattle.rules_model.specs.Next.{next, next_repeat}
use Rattle.rules_model.specs.Sides.{other}
use Rattle.rules_model.specs.Sound.{is_sound}
use Rattle.next_position.specs.Changed.{Covers}
use Rattle.next_position.proofs.PartLaws.{next-by}
use Rattle.board_sets.specs.Sets.{AreSets}
use Rattle.legality.proofs.make_move.apply_on.Goals as goal

pub make_but_checks-touched-requires-clause-move_fits : goal.make_but_checks-touched-requires-clause-move_fits
make_but_checks-touched-requires-clause-move_fits c = (legal-member _ _ _ c.requires.legal).0

pub is_check_counted-gives-requires : goal.is_check_counted-gives-requires
unfolding next next_repeat
is_check_counted-gives-requires c =
    let rules = c.args.tables.now in
    let p = c.args.p.now in
    let made = c.make_but_checks-touched.new.p in
    let side : made.side ≡ other p.side = ap (λ (q : Position). q.side) c.make_but_checks-touched.ensures.position in
    let agree = c.make_but_checks-touched.ensures.touched.squares in
    let same = c.rules-rules.ensures.is in
    let Before : Rules → Type 0 = λ rules'. AreSets rules' p.side p.cells c.args.sets.now in
    let After : Rules → Type 0 = λ rules'. AreSets rules' p.side made.cells c.after.result in
    let after = subst After same (c.after.ensures p.cells (subst Before (sym same) c.requires.sets) agree) in
    let Sets : Side → Type 0 = λ to_move. AreSets rules to_move made.cells c.turned-sets.result in
    subst Sets (sym side) (c.turned-sets.ensures _ _ _ after)

pub returns-clause-next : goal.returns-clause-next
unfolding next next_repeat
returns-clause-next c =
    let rules = c.args.tables.now in
    let p = c.args.p.now in
    let made = c.make_but_checks-touched.new.p in
    let side : made.side ≡ other p.side = ap (λ (q : Position). q.side) c.make_but_checks-touched.ensures.position in
    let gives = c.is_check_counted-gives.ensures ∙ ap (λ (to_move : Side). rules.check_counting && king_attacked rules made.cells to_move) side in
    let Made : Rules → Type 0 = λ rules'. made ≡ record (next rules' p c.args.m.now) { checks = p.checks } in
    let position = subst Made c.rules-rules.ensures.is c.make_but_checks-touched.ensures.position in
    c.count_check.ensures ∙ next-by rules p made c.args.m.now c.is_check_counted-gives.result position gives

pub returns-clause-sound : goal.returns-clause-sound
returns-clause-sound c =
    let rules = c.args.tables.now in
    let p = c.args.p.now in
    let Sound : Position → Type 0 = λ q. is_sound rules q ≡ true in
    let there : Sound (next rules p c.args.m.now) = c.legal_moves_keep_soundness.ensures rules c.rules-rules.ensures.fit p c.args.m.now c.requires.sound c.requires.legal in
    subst Sound (sym (returns-clause-next c)) there

pub returns-clause-sets : goal.returns-clause-sets
unfolding next next_repeat
returns-clause-sets c =
    let rules = c.args.tables.now in
    let p = c.args.p.now in
    let made = c.make_but_checks-touched.new.p in
    let side : made.side ≡ other p.side = ap (λ (q : Position). q.side) c.make_but_checks-touched.ensures.position in
    let agree = c.make_but_checks-touched.ensures.touched.squares in
    let same = c.rules-rules.ensures.is in
    let Before : Rules → Type 0 = λ rules'. AreSets rules' p.side p.cells c.args.sets.now in
    let After : Rules → Type 0 = λ rules'. AreSets rules' p.side made.cells c.after.result in
    let after = subst After same (c.after.ensures p.cells (subst Before (sym same) c.requires.sets) agree) in
    let Sets : Position → Type 0 = λ q. AreSets rules q.side q.cells c.turned-sets.result in
    let Turned : Side → Type 0 = λ to_move. AreSets rules to_move made.cells c.turned-sets.result in
    let there : Sets made = subst Turned (sym side) (c.turned-sets.ensures _ _ _ after) in
    subst Sets (sym c.count_check.ensures) there

pub returns-clause-touched : goal.returns-clause-touched
returns-clause-touched c =
    let covers = c.make_but_checks-touched.ensures.touched in
    let Is : Position → Type 0 = λ q. Covers c.make_but_checks-touched.result c.args.p.now q in
    subst Is (sym c.count_check.ensures) (record { squares = covers.squares; hands = covers.hands; other_hand = covers.other_hand })
