use Rattle.std.proofs.Common.{◌&&◌, ◌%◌, ◌/◌, nat_lt, false, ap, get_or, rules}
use Rattle.std.proofs.lemmas.List.FromFn.{fill_by_all}
use Rattle.variant_rules.specs.Said.{cut_to}
use Rattle.variant_rules.proofs.regions.cut_to.Goals as goal

pub returns : goal.returns
unfolding cut_to
returns c =
    ap (λ squares. record { squares = squares })
    (fill_by_all (λ s. get_or c.args.region.now.squares s false && (nat_lt (s % 12) c.args.board.files && nat_lt (s / 12) c.args.board.ranks)) c.loop-s.squares 120 false c.loop-s.invariant.0 (search rules))
