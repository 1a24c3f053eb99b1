use Rattle.std.proofs.Common.{◌∙◌}
use Rattle.std.proofs.Common.{rules, ◌≡◌, max}
use Rattle.std.specs.List.{fold}
use Rattle.forced_wins.specs.declared.fact.Fact.{Fact}
use Rattle.mate_fact.proofs.FactLemmas.{fold-greatest}
use Rattle.mate_fact.proofs.won.greatest.Goals as goal

pub returns : goal.returns
returns c =
    let walked : c.fold.result ≡ fold (λ far (k : Fact). max far k.moves) 0 c.args.known.now = search rules in
    walked ∙ fold-greatest c.args.known.now
