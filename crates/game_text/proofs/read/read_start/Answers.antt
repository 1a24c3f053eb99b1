use Rattle.std.proofs.Common.{refl, take}
use Rattle.io_ports.specs.Lines.{Text, TooLong}
use Rattle.game_text.proofs.HeardLemmas.{heard_end, heard_line, heard_more, heard_none}
use Rattle.game_text.proofs.ReadLemmas.{game-long, game-none, needs-game, some-game}
use Rattle.game_text.proofs.read.read_start.Goals as goal

pub returns-in-Line-clause-heard : goal.returns-in-Line-clause-heard
returns-in-Line-clause-heard g c =
    heard_more _ _ _ _ _ (Text c.next_line.new.line) _ _ c.in-Line.ensures.takes c.read_variant.ensures.heard (λ lines. needs-game c.args.variants.now c.next_line.new.line (take 1 lines)) (λ lines says. says)

pub returns-in-TooLong-clause-heard : goal.returns-in-TooLong-clause-heard
returns-in-TooLong-clause-heard g c =
    heard_line _ _ _ TooLong _ c.in-TooLong.ensures.takes (λ more. some-game c.args.variants.now TooLong (take 1 more)) (λ more. game-long c.args.variants.now (take 1 more))

pub returns-in-End-clause-heard : goal.returns-in-End-clause-heard
returns-in-End-clause-heard g c = heard_end _ _ _ _ c.in-End.ensures.takes (c.in-End.ensures.end refl) (game-none c.args.variants.now)

pub returns-in-Failed-clause-heard : goal.returns-in-Failed-clause-heard
returns-in-Failed-clause-heard g c = heard_none _ _ _ _ c.in-Failed.ensures.takes (λ more. tt)
