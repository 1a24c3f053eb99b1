use Rattle.std.proofs.Common.{length-drop, take_all, arith}
use Rattle.proof_text.proofs.writing.after_line.Goals as goal

pub returns : goal.returns
returns c = take_all _ _ (omega (arith, length-drop 11 c.args.bytes.now))
