use Rattle.forced_wins.proofs.RootLaws.{near_root-more, near_root-unbarred}
use Rattle.forced_wins.proofs.any_game.a_near_win_of_a_game_looks_past_its_root.Goals as goal

pub returns : goal.returns
returns g c = λ r l story. record { more = near_root-more r l story; unbarred = near_root-unbarred r l story }
