use Rattle.std.proofs.Common.{◌≡◌, ◌∷◌, refl}
use Rattle.std.specs.Option.{option_copied}
use Rattle.std.proofs.lemmas.Result.{err_from_is_err_and}
use Rattle.foundation.specs.Cuts.{is_blank, parts_after}
use Rattle.game_text.specs.Playing.{words_of}
use Rattle.game_text.proofs.PlayLemmas.{parts-end, parts-fault, parts-more}
use Rattle.game_text.proofs.play.play_line.Goals as goal

pub returns-in_err-play_part : goal.returns-in_err-play_part
returns-in_err-play_part c =
    let p = err_from_is_err_and c.from_residual.result c.from_residual.ensures.1 in
    let cut : parts_after is_blank (option_copied c.loop-left.left) ≡ c.cut_word.result.0.now ∷ parts_after is_blank (option_copied c.cut_word.result.1) = rw c.in-Some.is c.cut_word.ensures.parts in
    rw (p.1, p.2) (parts-fault c.args.game.now c.loop-left.game c.play_part.new.game c.play_part.new.game c.cut_word.result.0.now (words_of c.args.text.now) _ _ c.in_err-play_part.field-0.0 c.loop-left.invariant cut c.in_err-play_part.ensures)

pub loop-left-preserved : goal.loop-left-preserved
loop-left-preserved c =
    let cut : parts_after is_blank (option_copied c.loop-left.left) ≡ c.cut_word.result.0.now ∷ parts_after is_blank (option_copied c.cut_word.result.1) = rw c.in-Some.is c.cut_word.ensures.parts in
    parts-more c.args.game.now c.loop-left.game c.play_part.new.game c.cut_word.result.0.now (words_of c.args.text.now) _ _ c.loop-left.invariant cut c.in_ok-play_part.ensures

pub returns : goal.returns
returns c =
    parts-end c.args.game.now c.loop-left.game (words_of c.args.text.now) (parts_after is_blank (option_copied c.loop-left.left)) c.loop-left.invariant (rw c.in_default.is refl)
