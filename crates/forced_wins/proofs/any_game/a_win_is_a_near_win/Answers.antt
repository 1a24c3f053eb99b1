use Rattle.forced_wins.proofs.NearLaws.{wins-near_root, wins-is-near_root}
use Rattle.forced_wins.proofs.any_game.a_win_is_a_near_win.Goals as goal

pub returns : goal.returns
returns g c = λ r l n story. record { always = wins-near_root r l n story; in_limit = wins-is-near_root r l n story }
