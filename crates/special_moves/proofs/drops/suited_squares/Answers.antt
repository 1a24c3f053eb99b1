use Rattle.std.proofs.Common.{sym, ◌∙◌}
use Rattle.rules_model.specs.Repeats.{repeat_of}
use Rattle.special_moves.proofs.DropLemmas.{all-seen, all_suited, none-seen}
use Rattle.special_moves.proofs.drops.suited_squares.Goals as goal

pub returns-then-suits_anywhere : goal.returns-then-suits_anywhere
returns-then-suits_anywhere c =
    all_suited c.args.rules.now (repeat_of c.args.p.now) c.args.kind c.args.squares (sym c.suits_anywhere.ensures ∙ c.if-suits_anywhere.true)

pub loop-to-init : goal.loop-to-init
loop-to-init c = none-seen c.args.rules.now (repeat_of c.args.p.now) c.args.kind c.args.squares

pub returns : goal.returns
returns c =
    all-seen c.args.rules.now (repeat_of c.args.p.now) c.args.kind c.args.squares c.loop-to.left c.loop-to.suited c.in_default.ensures.none c.loop-to.invariant
