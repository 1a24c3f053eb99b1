use Rattle.std.proofs.Common.{false, ap, rules}
use Rattle.std.specs.List.{list_any}
use Rattle.std.proofs.lemmas.List.FromFn.{fill_by_all}
use Rattle.variant_options.specs.Readings.{covers}
use Rattle.variant_options.proofs.readings.region_of.Goals as goal

pub returns : goal.returns
returns c =
    ap (λ squares. record { squares = squares })
    (fill_by_all (λ s. list_any (λ area. covers area s) c.args.areas.now) c.loop-s.squares 120 false c.loop-s.invariant.0 (search rules))
