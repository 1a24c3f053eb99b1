-- The fields as code holds them, without where their bytes lie in memory.
use Rattle.variant_fen.specs.declared.fields.FieldTexts.{FieldTexts}
use Rattle.fen_model.specs.Fields.{Fields}

abbrev pub fields_view : FieldTexts → Fields
fields_view texts = record {
  board = texts.board.now;
  pocket = texts.pocket.now;
  side = texts.side.now;
  rights = texts.rights.now;
  ep = texts.ep.now;
  checks = texts.checks.now;
  halfmoves = texts.halfmoves.now;
  number = texts.number.now;
}
