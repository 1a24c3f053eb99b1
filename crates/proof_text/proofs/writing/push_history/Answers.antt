use Rattle.std.proofs.Common.{◌++◌, length, map}
use Rattle.std.specs.Prelude.{codes}
use Rattle.std.specs.Fmt.{decimal}
use Rattle.rules_model.specs.MoveText.{text_of}
use Rattle.proof_text.proofs.WriteLemmas.{line-lines}
use Rattle.proof_text.proofs.writing.push_history.Goals as goal

pub returns : goal.returns
returns c =
    line-lines (codes "history " ++ decimal (length c.args.moves.now)) (map text_of c.args.moves.now)
    c.args.text.now.items c.push_counted.new.text.items c.push_moves.new.text.items c.in_ok-push_counted.ensures
    c.in_ok-push_moves.ensures
