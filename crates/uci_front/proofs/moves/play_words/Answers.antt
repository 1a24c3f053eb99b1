use Rattle.std.proofs.Common.{arith}
use Rattle.std.proofs.lemmas.Result.{err_from_is_err_and}
use Rattle.uci_front.proofs.MoveLemmas.{word_played, word_refused, words_played}
use Rattle.uci_front.proofs.moves.play_words.Goals as goal

pub loop-word-preserved : goal.loop-word-preserved
loop-word-preserved c =
    word_played c.args.words.now _ c.loop-word.game c.play_move.new.game c.loop-word.word-index _ (omega arith) c.loop-word.invariant c.in_ok-play_move.ensures.plays

pub returns-in_err-play_move : goal.returns-in_err-play_move
returns-in_err-play_move c =
    let p = err_from_is_err_and c.from_residual.result c.from_residual.ensures.1 in
    rw (p.1, p.2) (word_refused c.args.words.now _ (Unit {0}) c.loop-word.game c.play_move.new.game c.play_move.new.game c.loop-word.word-index _ c.in_err-play_move.field-0.0 (omega arith) c.loop-word.invariant c.in_err-play_move.ensures.plays)

pub returns : goal.returns
returns c = words_played c.args.words.now _ c.loop-word.game c.loop-word.word-index (omega arith) c.loop-word.invariant
