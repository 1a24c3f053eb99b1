-- The two answers that say which facts a change of the frame keeps.
use Rattle.std.specs.Prelude.{◌≡◌, ◌⊎◌, Bool, false, if◌then◌else◌}
use Rattle.forced_wins.specs.declared.fact.Fact.{Fact}
use Rattle.mate_core.specs.declared.frame.Frame.{Frame}
use Rattle.mate_shards.specs.declared.keeps.Keeps.{Keeps}
use Rattle.mate_shards.specs.Kept.{are_in}

abbrev pub picks : Keeps → Fact → Bool
picks k f = if f.wins then k.wins else k.refutations

-- one variant and one attacker
abbrev pub IsSameGame : Frame → Frame → Type 0
IsSameGame old new = (old.rules ≡ new.rules) × (old.attacker ≡ new.attacker)

pub record KeepSome (old new : Frame) (k : Keeps) : Type 0 where
  pub same : IsSameGame old new
  pub wins : k.wins ≡ are_in new.blocked old.blocked
  pub refutations : k.refutations ≡ are_in old.blocked new.blocked

pub record KeepNone (old new : Frame) (k : Keeps) : Type 0 where
  pub other : IsSameGame old new → ⊥
  pub wins : k.wins ≡ false
  pub refutations : k.refutations ≡ false

abbrev pub AreKeeps : Frame → Frame → Keeps → Type 0
AreKeeps old new k = KeepSome old new k ⊎ KeepNone old new k
