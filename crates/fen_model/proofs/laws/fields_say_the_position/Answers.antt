use Rattle.fen_model.proofs.SaysLaws.{text_parts, text_whole}
use Rattle.fen_model.proofs.SoundLaws.{text_sound}
use Rattle.fen_model.proofs.SoundParts.{parts}
use Rattle.fen_model.proofs.laws.fields_say_the_position.Goals as goal

pub returns-clause-sound : goal.returns-clause-sound
returns-clause-sound c = text_sound

pub returns-clause-parts : goal.returns-clause-parts
returns-clause-parts c = text_parts

pub returns-clause-whole : goal.returns-clause-whole
returns-clause-whole c = λ rules text p sound says. text_whole rules text p (parts rules p sound) says
