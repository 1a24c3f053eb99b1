use Rattle.std.proofs.Common.{◌≤◌}
use Rattle.game_play.specs.Played.{story}
use Rattle.cert_text.specs.View.{IsOnPath, so_far}
use Rattle.cert_text.proofs.LineLemmas.{TakenOn}
use Rattle.cert_text.proofs.reading.take_lines.Given as goal

abbrev pub invariant-loop-count : goal.invariant-loop-count
invariant-loop-count g l = record {
  taken : TakenOn l.game.rules (story l.game) (g.S.Source.left l.initial.source) (g.S.Source.left l.source) (so_far l.initial.reader) (so_far l.reader);
  path : IsOnPath l.game l.reader;
  later : g.S.Source.faults l.initial.source ≤ g.S.Source.faults l.source;
}
