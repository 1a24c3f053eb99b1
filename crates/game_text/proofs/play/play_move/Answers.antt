use Rattle.game_text.proofs.PlayLemmas.{full-says, illegal-says, nothing-says, played-says}
use Rattle.game_text.proofs.play.play_move.Goals as goal

pub returns-in_default-clause-plays : goal.returns-in_default-clause-plays
returns-in_default-clause-plays c =
    nothing-says c.args.game.now _ _ c.args.text.now c.prove_played.ensures c.rules.ensures c.position.ensures.is c.position.ensures.sound c.args.game.now _ c.in_default.ensures.nothing c.in_ok-bad_move.ensures

pub returns-in-Ok-clause-plays : goal.returns-in-Ok-clause-plays
returns-in-Ok-clause-plays c =
    played-says c.args.game.now _ _ c.args.text.now c.prove_played.ensures c.rules.ensures c.position.ensures.is c.position.ensures.sound _ c.in-Some.m c.in-Some.ensures.named c.in-Ok.ensures.answer.0 c.in-Ok.ensures.answer.1 c.in-Ok.ensures.played

pub returns-in_ok-bad_move-in-Err-Illegal-clause-plays : goal.returns-in_ok-bad_move-in-Err-Illegal-clause-plays
returns-in_ok-bad_move-in-Err-Illegal-clause-plays c =
    illegal-says c.args.game.now _ _ c.args.text.now c.prove_played.ensures c.rules.ensures c.position.ensures.is c.position.ensures.sound c.play.new.self c.play.new.self c.in-Some.m _ c.in-Some.ensures.named
    (rw c.in-Err-Illegal.field-0-is at c.in-Err-Illegal.ensures.answer) c.in-Err-Illegal.ensures.refused c.in_ok-bad_move-in-Err-Illegal.ensures

pub returns-in-Err-TooLong-clause-plays : goal.returns-in-Err-TooLong-clause-plays
returns-in-Err-TooLong-clause-plays c =
    let answer = rw c.in-Err-TooLong.field-0-is at c.in-Err-TooLong.ensures.answer in
    full-says c.args.game.now _ _ c.args.text.now c.prove_played.ensures c.rules.ensures c.position.ensures.is c.position.ensures.sound c.in-Some.m c.in-Some.ensures.named answer.0 answer.1
