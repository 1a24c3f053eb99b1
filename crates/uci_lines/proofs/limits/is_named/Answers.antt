use Rattle.std.proofs.Common.{◌∙◌, rules, tests}
use Rattle.std.specs.Str.{bytes_eq}
use Rattle.std.proofs.lemmas.Iterator.{YieldsList-from_slice}
use Rattle.std.proofs.lemmas.Iterator.Search.{any_from_yields_List}
use Rattle.rules_model.specs.MoveText.{text_of}
use Rattle.uci_lines.proofs.LineLemmas.{any_texts}
use Rattle.uci_lines.proofs.limits.is_named.Goals as goal

pub returns : goal.returns
returns c =
    any_from_yields_List (λ word. bytes_eq word.now (text_of c.args.m.now)) _ _ _ c.any.ensures.ran (YieldsList-from_slice c.args.words.now cc) (λ x b q k. search (rules, tests))
    ∙ any_texts (text_of c.args.m.now) c.args.words.now
