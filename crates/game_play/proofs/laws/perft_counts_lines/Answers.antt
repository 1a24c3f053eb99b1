use Rattle.game_play.proofs.LineLaws.{lines-all, perft-is, perft-ended}
use Rattle.game_play.proofs.laws.perft_counts_lines.Goals as goal

pub returns : goal.returns
returns c = record { lines = lines-all; count = perft-is; ended = perft-ended }
