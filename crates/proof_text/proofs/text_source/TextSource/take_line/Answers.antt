use Rattle.std.proofs.Common.{◌<◌, ℕ, List, [], ◌∷◌, Some, length, sym, subst, arith}
use Rattle.io_ports.specs.Lines.{Text}
use Rattle.io_ports.specs.Source.{Takes}
use Rattle.std.proofs.lemmas.Grind.{common_steps}
use Rattle.proof_text.proofs.ReadingLemmas.{takes-long, takes-text}
use Rattle.proof_text.proofs.text_source.TextSource.take_line.Goals as goal

pub returns-then-text-gt-MAX_LINE-clause-takes : goal.returns-then-text-gt-MAX_LINE-clause-takes
returns-then-text-gt-MAX_LINE-clause-takes c =
    let some : 0 < length c.args.self.now.rest.now = grind (arith, common_steps) in
    takes-long c.args.self.now.rest.now c.cut_line.result.0.now c.cut_line.result.1.now some c.cut_line.ensures.line c.cut_line.ensures.rest (omega arith)

pub returns-clause-takes : goal.returns-clause-takes
returns-clause-takes c =
    let some : 0 < length c.args.self.now.rest.now = grind (arith, common_steps) in
    subst (λ (text : List ℕ). Takes (Some c.args.self.now.rest.now) (Some c.cut_line.result.1.now) (Text text ∷ [])) (sym c.set.ensures)
    (takes-text c.args.self.now.rest.now c.cut_line.result.0.now c.cut_line.result.1.now some c.cut_line.ensures.line c.cut_line.ensures.rest (omega arith))
