use Rattle.std.proofs.Common.{sym, refl}
use Rattle.rules_model.specs.Legal.{empty_board}
use Rattle.legality.proofs.MobileLaws.{empty_occupied, no_kind_roams, roams_nowhere, roams_some}
use Rattle.legality.proofs.mobile.roams.Goals as goal

pub returns-then-kind-ge26 : goal.returns-then-kind-ge26
returns-then-kind-ge26 c = sym (no_kind_roams _ _ _ _ c.requires.fit c.if-kind-ge26.true)

pub returns-in-Some : goal.returns-in-Some
returns-in-Some c =
    let nothing = empty_occupied (record { 0 = 0 }) refl in
    sym (roams_some _ _ _ _ _ _ _ c.requires.fit c.if-kind-ge26.false c.requires.piece (c.reach_set-quiet.ensures empty_board nothing) (c.reach_set-takes.ensures empty_board nothing) c.or.ensures _ c.in-Some.ensures.some.member)

pub returns-in-None : goal.returns-in-None
returns-in-None c =
    let nothing = empty_occupied (record { 0 = 0 }) refl in
    sym (roams_nowhere _ _ _ _ _ _ _ c.requires.fit c.if-kind-ge26.false c.requires.piece (c.reach_set-quiet.ensures empty_board nothing) (c.reach_set-takes.ensures empty_board nothing) c.or.ensures c.in-None.ensures.none)
