use Rattle.std.proofs.Common.{◌≡◌, ◌==◌, ◌+◌, ℕ, count_by, min, arith}
use Rattle.std.proofs.lemmas.List.FromFn.{fill_by_all}
use Rattle.variant_fen.proofs.pocket.hand.Goals as goal

pub returns : goal.returns
returns c =
    fill_by_all (λ k. min 255 (count_by (λ x. x == c.args.first + k) c.args.letters.now)) c.loop-kind.hand 26 0 c.loop-kind.invariant.long (λ k below. c.loop-kind.invariant.said k (omega arith))
