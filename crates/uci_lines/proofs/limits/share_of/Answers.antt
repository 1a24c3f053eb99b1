use Rattle.std.proofs.Common.{◌∙◌, Some, sym, ap}
use Rattle.std.specs.Int.{div_ceil}
use Rattle.std.specs.Option.{option_map}
use Rattle.session_model.specs.Numbers.{shared}
use Rattle.uci_lines.proofs.LineLemmas.{shared_is}
use Rattle.uci_lines.proofs.limits.share_of.Goals as goal

pub returns : goal.returns
returns c =
    ap (λ n. Some n) (c.div_ceil.ensures ∙ ap (div_ceil c.in_ok-nodes.nodes) c.from.ensures ∙ shared_is c.in_ok-nodes.nodes c.args.workers c.requires.some)
    ∙ sym (ap (λ nodes. option_map (λ n. shared n c.args.workers) nodes) c.in_ok-nodes.was)
