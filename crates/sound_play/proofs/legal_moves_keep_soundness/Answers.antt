use Rattle.sound_play.proofs.NextLaws.{next-sound}
use Rattle.sound_play.proofs.legal_moves_keep_soundness.Goals as goal

pub returns : goal.returns
returns c = λ rules fit p m. next-sound rules p m fit
