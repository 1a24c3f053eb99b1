use Rattle.std.proofs.lemmas.Result.{err_from_is_err_and}
use Rattle.referee.proofs.ReplyLemmas.{input_says}
use Rattle.referee.proofs.games.game_in_text.Goals as goal

pub returns-in_err-source : goal.returns-in_err-source
returns-in_err-source c =
    let p = err_from_is_err_and c.from_residual.result c.from_residual.ensures.1 in
    rw (p.1, p.2) tt

pub returns : goal.returns
returns c = input_says c.args.input.now _ _ _ (rw c.in_ok-source.ensures at c.game_in.ensures.heard)
