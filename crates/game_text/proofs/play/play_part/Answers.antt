use Rattle.std.proofs.Common.{◌≡◌, true, false, rules, subst, sym, Result}
use Rattle.game_play.specs.Played.{Played}
use Rattle.game_text.specs.declared.fault.GameFault.{GameFault}
use Rattle.game_text.specs.Playing.{is_word}
use Rattle.game_text.specs.ReadView.{Plays}
use Rattle.game_text.proofs.PlayLemmas.{empty-part, word-part}
use Rattle.game_text.proofs.play.play_part.Goals as goal

pub returns-then-is_empty : goal.returns-then-is_empty
returns-then-is_empty c =
    let empty : is_word c.args.part.now ≡ false = search rules in
    empty-part c.args.game.now c.args.part.now empty

pub returns-else-is_empty : goal.returns-else-is_empty
returns-else-is_empty c =
    let some : is_word c.args.part.now ≡ true = search rules in
    subst (λ (x : Result Played GameFault). Plays x c.play_move.new.game c.play_move.result) (sym (word-part c.args.game.now c.args.part.now some)) c.play_move.ensures.plays
