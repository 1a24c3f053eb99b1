use Rattle.std.proofs.Common.{rules, tests, ◌∙◌, string_bytes}
use Rattle.std.proofs.lemmas.Iterator.{YieldsList-from_slice}
use Rattle.std.proofs.lemmas.Iterator.Search.{any_from_yields_List}
use Rattle.clap.proofs.WalkLemmas.{list_any-map}
use Rattle.words.specs.Options.{is_stray}
use Rattle.words.proofs.reading.has_stray.Goals as goal

pub returns-clause-stray : goal.returns-clause-stray
returns-clause-stray c =
    any_from_yields_List (λ s. is_stray (string_bytes s)) _ _ _ c.any.ensures.ran (YieldsList-from_slice c.args.words.now cc) (λ x b q k. search (rules, tests))
    ∙ list_any-map is_stray string_bytes c.args.words.now
