use Rattle.std.proofs.Common.{inl, inr, ap, ◌∙◌}
use Rattle.foundation.specs.Cuts.{is_blank, parts_after}
use Rattle.game_text.specs.Playing.{is_word}
use Rattle.std.specs.List.{filter}
use Rattle.std.specs.Option.{option_copied}
use Rattle.uci_lines.specs.View.{command_with, line_got}
use Rattle.uci_lines.proofs.LineLemmas.{found_command, long_line, no_command}
use Rattle.uci_lines.proofs.line.read_line.Goals as goal

pub returns-in-Some : goal.returns-in-Some
returns-in-Some c =
    ap (λ kind. command_with kind (filter is_word (parts_after is_blank (option_copied c.in-Some.after)))) c.kind_named.ensures
    ∙ found_command c.args.next c.args.line.now c.in-Some.word _ c.in-Line.is c.in-Some.ensures

pub returns-in-None : goal.returns-in-None
returns-in-None c = no_command c.args.next c.args.line.now c.in-Line.is c.in-None.ensures

pub returns-in-TooLong : goal.returns-in-TooLong
returns-in-TooLong c = long_line c.args.next c.args.line.now (elim c.in-TooLong.is [
  | inl long ↦ ap (λ got. line_got got c.args.line.now) long
  | inr other ↦ elim other [
    | inl end ↦ ap (λ got. line_got got c.args.line.now) end
    | inr failed ↦ ap (λ got. line_got got c.args.line.now) failed
  ]
])
