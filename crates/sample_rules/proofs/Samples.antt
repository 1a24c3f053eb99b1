-- That the variants are fit, and that their starts are sound: by computing.
use Rattle.std.proofs.Common.{◌≡◌, true, refl}
use Rattle.rules_model.specs.declared.rules.Rules.{Rules}
use Rattle.rules_model.specs.Fit.{IsFit}
use Rattle.rules_model.specs.Sound.{is_sound}
use Rattle.sample_rules.specs.Leapers.{leapers}
use Rattle.sample_rules.specs.Chess.{chess}
use Rattle.sample_rules.specs.Capablanca.{capablanca}
use Rattle.sample_rules.specs.Shouse.{shouse}
use Rattle.sample_rules.specs.Generals.{generals}
use Rattle.sample_rules.specs.Xiangqi.{xiangqi}
use Rattle.sample_rules.proofs.Fits.{fit-from, opened}

pub leapers-fit : IsFit leapers
unfolding opened leapers
leapers-fit = fit-from leapers refl

pub leapers-sound : is_sound leapers leapers.start ≡ true
unfolding opened leapers
leapers-sound = refl

pub chess-fit : IsFit chess
unfolding opened chess
chess-fit = fit-from chess refl

pub chess-sound : is_sound chess chess.start ≡ true
unfolding opened chess
chess-sound = refl

-- chess on twelve files
abbrev wide_chess : Rules
wide_chess = record chess { files = 12 }

pub wide_chess-fit : IsFit wide_chess
unfolding opened chess
wide_chess-fit = fit-from wide_chess refl

pub wide_chess-sound : is_sound wide_chess wide_chess.start ≡ true
unfolding opened chess
wide_chess-sound = refl

pub capablanca-fit : IsFit capablanca
unfolding opened capablanca
capablanca-fit = fit-from capablanca refl

pub capablanca-sound : is_sound capablanca capablanca.start ≡ true
unfolding opened capablanca
capablanca-sound = refl

pub shouse-fit : IsFit shouse
unfolding opened shouse
shouse-fit = fit-from shouse refl

pub shouse-sound : is_sound shouse shouse.start ≡ true
unfolding opened shouse
shouse-sound = refl

pub generals-fit : IsFit generals
unfolding opened generals
generals-fit = fit-from generals refl

pub generals-sound : is_sound generals generals.start ≡ true
unfolding opened generals
generals-sound = refl

pub xiangqi-fit : IsFit xiangqi
unfolding opened xiangqi
xiangqi-fit = fit-from xiangqi refl

pub xiangqi-sound : is_sound xiangqi xiangqi.start ≡ true
unfolding opened xiangqi
xiangqi-sound = refl
