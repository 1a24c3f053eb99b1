use Rattle.std.proofs.Common.{rules, ◌≡◌, ◌∙◌, min}
use Rattle.std.specs.List.{fold}
use Rattle.forced_wins.specs.declared.fact.Fact.{Fact}
use Rattle.mate_fact.proofs.FactLemmas.{fold-least}
use Rattle.mate_fact.proofs.refuted.least.Goals as goal

pub returns : goal.returns
returns c =
    let walked : c.fold.result ≡ fold (λ far (k : Fact). min far k.moves) 65535 c.args.known.now = search rules in
    walked ∙ fold-least c.args.known.now
