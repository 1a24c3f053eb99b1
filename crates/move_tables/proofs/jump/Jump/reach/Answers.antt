use Rattle.std.proofs.Common.{sym, ◌∙◌}
use Rattle.std.proofs.lemmas.Nat.Bits.{bit_at-zero}
use Rattle.foundation.proofs.CountLemmas.{any_below-none, any_below-true}
use Rattle.square_set.specs.Members.{has}
use Rattle.square_set.proofs.CountLaws.{count_below-found}
use Rattle.move_tables.specs.Lines.{in_both}
use Rattle.move_tables.proofs.jump.Jump.reach.Goals as goal

pub returns-then-is_empty : goal.returns-then-is_empty
returns-then-is_empty c = λ t. rw (any_below-none (in_both c.args.self.over c.args.occupied) 128 (λ k l. sym (c.and.ensures k) ∙ c.if-is_empty.ensures.empty k))

pub returns-else-is_empty : goal.returns-else-is_empty
returns-else-is_empty c = λ t.
    let met = count_below-found (has c.and.result) 128 c.if-is_empty.ensures.not_empty in
    rw (bit_at-zero t, any_below-true (in_both c.args.self.over c.args.occupied) 128 met.0 met.1 (sym (c.and.ensures met.0) ∙ met.2))
