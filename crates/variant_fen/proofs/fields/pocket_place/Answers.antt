use Rattle.std.proofs.Common.{sym}
use Rattle.fen_model.specs.Fields.{is_bracket, pocket_place}
use Rattle.variant_fen.proofs.FieldLemmas.{position_none}
use Rattle.variant_fen.proofs.fields.pocket_place.Goals as goal

pub returns-in-None-clause-is : goal.returns-in-None-clause-is
unfolding pocket_place
returns-in-None-clause-is c = position_none is_bracket c.args.placement.now (sym c.in-None.ensures.place)
