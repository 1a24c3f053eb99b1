use Rattle.sound_play.proofs.FieldLaws.{next_repeat-gates, next_repeat-rights}
use Rattle.sound_play.proofs.rights_and_gates_only_go.Goals as goal

pub returns : goal.returns
returns c = record {
  rights = next_repeat-rights;
  gates = next_repeat-gates;
}
