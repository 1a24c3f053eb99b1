use Rattle.game_play.specs.Played.{story}
use Rattle.game_play.proofs.KeptLemmas.{played-last-sound}
use Rattle.game_text.proofs.PlayLemmas.{played-named, plays-named}
use Rattle.game_text.proofs.laws.texts_play_the_moves_that_they_name.Goals as goal

pub returns : goal.returns
returns c = record {
  law = λ g text m played.
      let sound = played-last-sound g played in
      (λ is. played-named g.rules (story g).last text played.fit sound m is, λ names. plays-named g.rules (story g).last text played.fit sound m names.0 names.1);
}
