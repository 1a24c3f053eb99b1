-- Replies that refute the attacker's last move.
use Rattle.std.specs.Prelude.{◌≡◌, false, None}
use Rattle.foundation.specs.Member.{Member}
use Rattle.rules_model.specs.declared.moves.Move.{Move}
use Rattle.mate_core.specs.declared.frame.Frame.{Frame}
use Rattle.mate_fact.specs.InFrame.{end_in, near_in}
use Rattle.legality.specs.Stance.{Stance, after, legal_in}

-- the position goes on, the reply is legal, and the attacker does not win after it by one move
pub record IsRefuter (f : Frame) (s : Stance) (m : Move) : Type 0 where
  pub ongoing : end_in f s.position ≡ None
  pub legal : Member m (legal_in s)
  pub lost : near_in f 1 (after s m).position ≡ false
