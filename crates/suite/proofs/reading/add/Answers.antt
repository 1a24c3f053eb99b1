use Rattle.std.proofs.Common.{◌<◌, ◌∷◌, [], arith, length, length-append, sym, ◌∙◌}
use Rattle.std.proofs.lemmas.Bool.{ltb-true}
use Rattle.std.proofs.lemmas.List.Elements.{All-push}
use Rattle.suite.specs.Problems.{IsFair}
use Rattle.suite.proofs.reading.add.Goals as goal

pub returns-in_ok-append-clause-listed : goal.returns-in_ok-append-clause-listed
returns-in_ok-append-clause-listed c =
    let lines = length-append c.args.suite.now.lines (c.args.line ∷ []) in
    let problems = length-append c.args.suite.now.problems (c.args.problem ∷ []) in
    let numbered = c.requires.listed.numbered in
    let low : length c.args.suite.now.problems < 1000 = ltb-true _ 1000 (sym c.has_room.ensures ∙ c.if-has_room.true) in
    record {
      fair = rw c.in_ok-append.ensures.problems (All-push IsFair _ _ c.requires.listed.fair c.requires.fair);
      few = rw c.in_ok-append.ensures.problems (omega (arith, problems, low));
      numbered = rw (c.in_ok-append.ensures.problems, c.in_ok-append.ensures.lines) (omega (arith, problems, lines, numbered));
    }
