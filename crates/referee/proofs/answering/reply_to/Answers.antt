use Rattle.std.proofs.Common.{◌∙◌, ap, refl, map, string_bytes, Ok, Err}
use Rattle.std.specs.Option.{option_copied}
use Rattle.one_shots.proofs.OpeningLemmas.{if_so}
use Rattle.referee.specs.Refereed.{words_of}
use Rattle.referee.specs.Replies.{Replies}
use Rattle.referee.proofs.ReplyLemmas.{of_words, opened_replies, refused_replies, said_so, tells_reads}
use Rattle.referee.proofs.answering.reply_to.Goals as goal

pub returns-in-Ok : goal.returns-in-Ok
returns-in-Ok c =
    let are = ap (map string_bytes) c.as_slice.ensures.value ∙ c.in_ok-words.ensures in
    if_so c.answer_opened.result _ _
    (λ reply. opened_replies (words_of c.args.words.now) (option_copied c.args.file) c.args.input.now _ c.in-Ok.opened reply (tells_reads _ (option_copied c.args.file) _ _ refl)
    (of_words _ _ (words_of c.args.words.now) (Ok c.in-Ok.opened) are c.in-Ok.ensures.opens))
    c.answer_opened.ensures

pub returns : goal.returns
returns c =
    let are = ap (map string_bytes) c.as_slice.ensures.value ∙ c.in_ok-words.ensures in
    said_so c.answer_of.result c.said.result _ (Replies (words_of c.args.words.now) (option_copied c.args.file) c.args.input.now) (λ answer says. says)
    (refused_replies (words_of c.args.words.now) (option_copied c.args.file) c.args.input.now _ c.in-Err.why c.answer_of.result (tells_reads _ (option_copied c.args.file) _ _ refl)
    (of_words _ _ (words_of c.args.words.now) (Err c.in-Err.why) are c.in-Err.ensures.opens) c.answer_of.ensures)
    c.said.ensures
