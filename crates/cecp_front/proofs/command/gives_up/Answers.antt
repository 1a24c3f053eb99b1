use Rattle.std.proofs.Common.{◌∙◌, ap}
use Rattle.std.specs.List.{filter}
use Rattle.std.specs.Option.{option_copied}
use Rattle.foundation.specs.Cuts.{is_blank, parts_after}
use Rattle.game_text.specs.Playing.{is_word}
use Rattle.session_model.specs.CecpLines.{gives_up}
use Rattle.cecp_front.proofs.LineLaws.{given_up, text_by}
use Rattle.cecp_front.proofs.command.gives_up.Goals as goal

pub returns-in-Some : goal.returns-in-Some
returns-in-Some c =
    let words = filter is_word (parts_after is_blank (option_copied c.in-Some.field-0-1)) in
    c.gives_up.ensures ∙ given_up c.read_verb.result words
    ∙ ap gives_up (c.read_verb.ensures words ∙ text_by c.args.line.now c.in-Some.word.now words c.in-Some.ensures)
