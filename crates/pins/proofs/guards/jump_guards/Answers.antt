use Rattle.std.proofs.Common.{◌≡◌, true, false, refl, ap, sym, ◌∙◌}
use Rattle.foundation.specs.Count.{any_below}
use Rattle.square_set.specs.Members.{has}
use Rattle.move_tables.specs.Lines.{by_jump, in_both}
use Rattle.pins.proofs.GuardLaws.{blocked, jump_stays}
use Rattle.pins.proofs.guards.jump_guards.Goals as goal

pub returns : goal.returns
returns c = λ from to new l out moved.
    let on : has c.args.jump.target c.args.target ≡ true = sym c.has.ensures ∙ c.if-not-has.false in
    let no : by_jump c.args.jump c.args.occupied c.args.target ≡ false = sym (c.reach.ensures c.args.target) ∙ sym c.has-2.ensures ∙ c.if-has.false in
    let met = blocked (any_below (in_both c.args.jump.over c.args.occupied) 128) (has c.args.jump.target c.args.target) on no in
    let stays =
    jump_stays c.args.jump.over c.args.occupied new from to moved c.and.result c.and.ensures met (λ le. sym (ap (λ s. has s from) (c.at_most.ensures.few le)) ∙ out) in
    rw stays refl
