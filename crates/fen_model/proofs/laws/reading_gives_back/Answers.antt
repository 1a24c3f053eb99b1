use Rattle.fen_model.proofs.GivesBack.{gives-back}
use Rattle.fen_model.proofs.SoundParts.{parts}
use Rattle.fen_model.proofs.laws.reading_gives_back.Goals as goal

pub returns : goal.returns
returns c = λ rules p fit sound. gives-back rules p fit (parts rules p sound)
