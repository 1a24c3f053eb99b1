use Rattle.std.proofs.Common.{◌==◌, rules, ap, sym, ◌∙◌}
use Rattle.std.proofs.lemmas.Nat.Bits.{bit_at-zero}
use Rattle.piece_moves.proofs.TargetLemmas.{goes_small, no_targets, targets_go}
use Rattle.piece_moves.proofs.targets.targets.Goals as goal

pub returns-then-piece-ge26-clause-are : goal.returns-then-piece-ge26-clause-are
returns-then-piece-ge26-clause-are c = λ s. ap (λ x. x == 1) (bit_at-zero s) ∙ sym (no_targets _ _ _ c.args.from c.args.piece c.requires.own s c.requires.fit (search rules))

pub returns-clause-are : goal.returns-clause-are
returns-clause-are c = λ s.
    let occupied = c.occupied.ensures _ _ _ c.requires.sets in
    c.goals.ensures _ occupied s
    ∙ targets_go _ _ _ c.args.from c.args.piece c.requires.own c.occupied.result c.args.sets.now.enemies s occupied c.requires.sets.enemies

pub returns-clause-small : goal.returns-clause-small
returns-clause-small c = λ s e. goes_small _ _ _ c.args.from c.args.piece c.requires.own s c.requires.fit (sym (returns-clause-are c s) ∙ e)
