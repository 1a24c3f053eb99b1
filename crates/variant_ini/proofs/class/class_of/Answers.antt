use Rattle.std.proofs.Common.{ap, ◌∙◌, arith}
use Rattle.std.specs.List.{fold}
use Rattle.std.proofs.lemmas.List.{take_all}
use Rattle.variant_ini.specs.Classes.{class_of, next_class}
use Rattle.variant_ini.proofs.class.class_of.Goals as goal

pub returns-clause-is : goal.returns-clause-is
unfolding class_of
returns-clause-is c =
    c.loop-byte.invariant.class ∙ ap (fold next_class 0) (take_all c.loop-byte.byte-index c.args.key.now (omega arith))
