use Rattle.std.proofs.Common.{◌≡◌, ℕ, ◌%◌, ◌<◌, ◌==◌, false, arith, subst, ◌∙◌}
use Rattle.std.proofs.lemmas.Bool.Decides.{nat_tests}
use Rattle.foundation.specs.Member.{Member}
use Rattle.legality.proofs.MemberLaws.{get_or-member}
use Rattle.speeds.proofs.legal.played.Goals as goal

within : (n size : ℕ) → false ≡ (size == 0) → n % size < size
within n size e = grind (arith, nat_tests)

pub after-requires : goal.after-requires
after-requires c =
    subst (Member _) (c.as_slice-moves.ensures.value ∙ c.moves.view_is ∙ c.requires.listed) (get_or-member c.as_slice-moves.result.now _ _ (within _ _ c.if-is_empty.ensures))
