use Rattle.std.proofs.Common.{[], ◌∷◌, refl, subst, List, ℕ}
use Rattle.io_ports.specs.Lines.{Text, TooLong}
use Rattle.game_text.specs.GameText.{game_by}
use Rattle.game_text.specs.ReadView.{SaysGame}
use Rattle.game_text.proofs.HeardLemmas.{heard_end, heard_line, heard_none}
use Rattle.game_text.proofs.ReadLemmas.{by-long, by-none, some-by}
use Rattle.game_text.proofs.read.read_position.Goals as goal

pub returns-in-Line-clause-heard : goal.returns-in-Line-clause-heard
returns-in-Line-clause-heard g c =
    let says = subst (λ (t : List ℕ). SaysGame (game_by c.args.rules.now (Text t ∷ [])) c.started.result) c.text.ensures.bytes c.started.ensures.says in
    heard_line _ _ _ (Text c.next_line.new.line) _ c.in-Line.ensures.takes (λ more. some-by c.args.rules.now (Text c.next_line.new.line) []) (λ more. says)

pub returns-in-TooLong-clause-heard : goal.returns-in-TooLong-clause-heard
returns-in-TooLong-clause-heard g c = heard_line _ _ _ TooLong _ c.in-TooLong.ensures.takes (λ more. some-by c.args.rules.now TooLong []) (λ more. by-long c.args.rules.now [])

pub returns-in-End-clause-heard : goal.returns-in-End-clause-heard
returns-in-End-clause-heard g c = heard_end _ _ _ _ c.in-End.ensures.takes (c.in-End.ensures.end refl) (by-none c.args.rules.now)

pub returns-in-Failed-clause-heard : goal.returns-in-Failed-clause-heard
returns-in-Failed-clause-heard g c = heard_none _ _ _ _ c.in-Failed.ensures.takes (λ more. tt)
