use Rattle.std.proofs.Common.{◌≡◌, ◌||◌, not, sym, ap, ◌∙◌, arith}
use Rattle.std.proofs.lemmas.Bool.{and_parts}
use Rattle.rules_model.specs.Repeats.{repeat_of}
use Rattle.square_set.specs.Members.{has, origin}
use Rattle.legality.specs.Asking.{is_asked_by, is_to}
use Rattle.legality.proofs.AskingLaws.{by_kind_or_each, pawn_asked}
use Rattle.legality.proofs.ShiftLaws.{led_from, led_is}
use Rattle.legality.proofs.asked.Asked.of_shift.Goals as goal

pub of_each-others-requires-clause-starts : goal.of_each-others-requires-clause-starts
of_each-others-requires-clause-starts c = λ s e. c.requires.starts s (and_parts (has c.args.targets s) (not (has c.shifted-pawns.result s)) (sym (c.minus.ensures s) ∙ e)).0

pub returns-in-Some : goal.returns-in-Some
returns-in-Some c = λ s.
    let asked = c.args.self.now in
    let r = repeat_of c.args.p.now in
    let shift = c.args.shift in
    let targets = c.args.targets in
    let pawns = c.shifted-pawns.result in
    let kind = c.in-Some.kind in
    let is = c.rules.ensures.is in
    c.or.ensures s
    ∙ rw (c.of_open-by_pawns.ensures s, c.and.ensures s, c.of_each-others.ensures s, c.minus.ensures s)
    (by_kind_or_each (has targets s) (has pawns s) (has c.shifted-shut.result s) (is_to asked kind s) (is_asked_by asked r shift s)
    (λ t p.
    let l = c.requires.targets s t in
    let there = led_from shift c.own_pawns.result s (sym (c.shifted-pawns.ensures s (omega (arith, l))) ∙ p) in
    let own = sym (c.own_pawns.ensures.are _ _ _ c.requires.sets (origin shift s)) ∙ there in
    let shut : has c.shifted-shut.result s ≡ has asked.shut (origin shift s) = c.shifted-shut.ensures s (omega (arith, l)) ∙ led_is shift asked.shut s (c.requires.starts s t) in
    ap (λ b. not b || is_to asked kind s) shut ∙ pawn_asked asked c.args.tables.now r kind shift s (ap (λ rules. rules.pawn) (sym is) ∙ c.in-Some.is) own))
