use Rattle.legality.proofs.ListLaws.{member_by}
use Rattle.legality.proofs.queries.is_legal_with.Goals as goal

pub returns-clause-member : goal.returns-clause-member
returns-clause-member c = member_by _ _ _ _ c.is_lawful.ensures.is c.is_lawful.ensures.fit
