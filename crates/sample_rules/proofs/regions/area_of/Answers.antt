use Rattle.std.proofs.Common.{List, Bool, false, ap, arith}
use Rattle.std.proofs.lemmas.List.FromFn.{fill_by_all}
use Rattle.rules_model.specs.declared.board.Region.{Region}
use Rattle.sample_rules.specs.Regions.{is_inside, area_of}
use Rattle.sample_rules.proofs.regions.area_of.Goals as goal

abbrev region : List Bool → Region
region squares = record { squares = squares }

pub returns : goal.returns
unfolding area_of
returns c = ap region (fill_by_all (is_inside c.args.bounds) c.loop-at.squares 120 false c.loop-at.invariant.full (λ k h. c.loop-at.invariant.written k (omega arith)))
