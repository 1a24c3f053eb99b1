use Rattle.one_shots.proofs.ShotLemmas.{shot_failing, shot_once, shot_some, shot_told}
use Rattle.one_shots.proofs.laws.words_have_one_answer.Goals as goal

pub returns : goal.returns
returns c = record { some = shot_some; once = shot_once; told = shot_told; failing = shot_failing }
