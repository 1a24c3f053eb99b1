use Rattle.std.proofs.Common.{◌≡◌, ◌∙◌, sym, ap, arith}
use Rattle.foundation.specs.Count.{last_below}
use Rattle.foundation.proofs.CountLemmas.{last_below-zero}
use Rattle.rules_model.specs.declared.board.Wing.TheVariants.{Kingside}
use Rattle.rules_model.specs.Castling.{rook_beyond}
use Rattle.rules_model.proofs.castling.kingside_rook.Goals as goal

pub returns-clause-is : goal.returns-clause-is
returns-clause-is c =
    let rook = rook_beyond c.args.rules.now c.args.cells.now c.args.side Kingside in
    let none : c.loop-file.file ≡ 0 = omega (arith, c.loop-file-test.false) in
    sym (c.loop-file.invariant.inner ∙ ap (last_below rook) none ∙ last_below-zero rook)
