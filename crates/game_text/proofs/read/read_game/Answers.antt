use Rattle.std.proofs.Common.{Ok, Err, arith}
use Rattle.std.proofs.lemmas.Result.{err_from_is_err_and}
use Rattle.game_play.specs.Played.{Played}
use Rattle.game_text.proofs.HeardLemmas.{heard_nothing, heard_so, heard_then}
use Rattle.game_text.proofs.ReadLemmas.{says_fault, says_same, says_told, told_unread}
use Rattle.game_text.proofs.StartLemmas.{start-fault, start-few, start-goes, start-most, start-needs, start-there}
use Rattle.game_text.proofs.read.read_game.Goals as goal

pub returns-in_err-line-clause-heard : goal.returns-in_err-line-clause-heard
returns-in_err-line-clause-heard g c =
    let p = err_from_is_err_and c.from_residual.result c.from_residual.ensures.1 in
    rw (p.1, p.2) (heard_nothing _ _ _ (λ lines. tt))

pub returns-in_err-game-clause-heard : goal.returns-in_err-game-clause-heard
returns-in_err-game-clause-heard g c =
    let p = err_from_is_err_and c.from_residual-in_err-game.result c.from_residual-in_err-game.ensures.1 in
    rw (p.1, p.2) (heard_so _ _ _ _ _ _ c.in_err-game.ensures.heard (start-few c.args.variants.now) (λ lines says. says_fault _ _ c.in_err-game.field-0.0 (start-fault c.args.variants.now lines) says))

pub returns-in_err-game-clause-cause : goal.returns-in_err-game-clause-cause
returns-in_err-game-clause-cause g c =
    let p = err_from_is_err_and c.from_residual-in_err-game.result c.from_residual-in_err-game.ensures.1 in
    rw (p.1, p.2) c.in_err-game.ensures.cause

pub returns-in_err-read_moves-clause-heard : goal.returns-in_err-read_moves-clause-heard
returns-in_err-read_moves-clause-heard g c =
    let p = err_from_is_err_and c.from_residual-in_err-read_moves.result c.from_residual-in_err-read_moves.ensures.1 in
    rw (p.1, p.2) (heard_then _ _ _ 2 _ _ _ _ _ _ c.in_ok-game.ensures.heard c.in_err-read_moves.ensures.heard
    (λ lines is. start-there c.args.variants.now lines c.in_ok-game.game is) (start-most c.args.variants.now)
    (λ front rest two is. let needs = start-needs c.args.variants.now front rest c.in_ok-game.game two is in omega (arith, needs))
    (λ front rest two is says. says_same _ _ (Err c.in_err-read_moves.field-0.0) (start-goes c.args.variants.now front rest c.in_ok-game.game two is) (says_told _ c.read_moves.new.game c.in_err-read_moves.field-0.0 says)))

pub returns-in_err-read_moves-clause-cause : goal.returns-in_err-read_moves-clause-cause
returns-in_err-read_moves-clause-cause g c =
    let p = err_from_is_err_and c.from_residual-in_err-read_moves.result c.from_residual-in_err-read_moves.ensures.1 in
    rw (p.1, p.2) (record { later = omega arith; failed = λ unread. let rose = c.in_err-read_moves.ensures.cause.failed (told_unread Played (Unit {0}) c.in_err-read_moves.field-0.0 unread) in let later = c.in_ok-game.ensures.cause.later in omega (arith, rose, later) })

pub returns-clause-heard : goal.returns-clause-heard
returns-clause-heard g c =
    heard_then _ _ _ 2 _ _ _ _ _ _ c.in_ok-game.ensures.heard c.in_ok-read_moves.ensures.heard
    (λ lines is. start-there c.args.variants.now lines c.in_ok-game.game is) (start-most c.args.variants.now)
    (λ front rest two is. let needs = start-needs c.args.variants.now front rest c.in_ok-game.game two is in omega (arith, needs))
    (λ front rest two is says. says_same _ _ (Ok c.read_moves.new.game) (start-goes c.args.variants.now front rest c.in_ok-game.game two is) says)
