use Rattle.std.proofs.Common.{ℕ, sym, subst}
use Rattle.std.specs.Prelude.{IfSome}
use Rattle.attack_tables.specs.Masks.{NeverTakes}
use Rattle.check_moves.specs.Listing.{IsOnlyOf}
use Rattle.check_moves.proofs.listing.takers_by.Goals as goal

pub takers_of-requires-clause-at : goal.takers_of-requires-clause-at
takers_of-requires-clause-at c = (subst (λ o. IfSome o (IsOnlyOf c.args.kings)) c.in-Some.is c.requires.only).0

pub returns-in-Some : goal.returns-in-Some
returns-in-Some c = λ king member from small none.
    let only = subst (λ o. IfSome o (IsOnlyOf c.args.kings)) c.in-Some.is c.requires.only in
    let Never : ℕ → Type 0 = λ k. NeverTakes c.args.tables.now c.args.by c.args.kind.0 from k in
    subst Never (sym (only.1 king member)) (c.takers_of.ensures from small none)
