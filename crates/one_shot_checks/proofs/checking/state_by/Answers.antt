use Rattle.std.proofs.Common.{refl}
use Rattle.io_ports.specs.Lines.{Text, TooLong}
use Rattle.game_text.proofs.HeardLemmas.{heard_end, heard_line, heard_more, heard_none}
use Rattle.one_shot_checks.proofs.CheckLemmas.{check_long, check_needed, states_long, states_none}
use Rattle.one_shot_checks.proofs.checking.state_by.Goals as goal

pub returns-in-Line-clause-heard : goal.returns-in-Line-clause-heard
returns-in-Line-clause-heard g c =
    heard_more _ _ _ _ _ (Text c.next_line.new.line) _ _ c.in-Line.ensures.takes c.state_after.ensures.heard (λ lines. check_needed _ c.next_line.new.line lines) (λ lines says. says)

pub returns-in-TooLong-clause-heard : goal.returns-in-TooLong-clause-heard
returns-in-TooLong-clause-heard g c =
    heard_line _ _ _ TooLong _ c.in-TooLong.ensures.takes (check_long _) (states_long _)

pub returns-in-End-clause-heard : goal.returns-in-End-clause-heard
returns-in-End-clause-heard g c = heard_end _ _ _ _ c.in-End.ensures.takes (c.in-End.ensures.end refl) (states_none _)

pub returns-in-Failed-clause-heard : goal.returns-in-Failed-clause-heard
returns-in-Failed-clause-heard g c = heard_none _ _ _ _ c.in-Failed.ensures.takes (λ lines. tt)
