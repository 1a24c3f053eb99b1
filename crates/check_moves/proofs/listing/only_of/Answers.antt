use Rattle.std.proofs.lemmas.Bool.{OnTrue_at}
use Rattle.check_moves.proofs.ListingLaws.{only-one}
use Rattle.check_moves.proofs.listing.only_of.Goals as goal

pub returns : goal.returns
returns c =
    let at = c.in-Some.at in (
      c.requires at c.in-Some.ensures.some.member,
      only-one c.args.squares _ at c.in-Some.ensures.rest (OnTrue_at c.if-not-is_empty.false c.is_empty.ensures.empty),
    )
