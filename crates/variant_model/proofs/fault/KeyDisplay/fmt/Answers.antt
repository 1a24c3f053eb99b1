use Rattle.std.proofs.Common.{◌++◌, encode_utf8, encode_utf8_all, get_or, sym, ap, ◌∙◌, append_assoc, arith, rules}
use Rattle.std.proofs.Output.{has_written_append}
use Rattle.std.proofs.lemmas.List.{drop_more}
use Rattle.variant_model.proofs.fault.KeyDisplay.fmt.Goals as goal

pub loop-byte-preserved : goal.loop-byte-preserved
loop-byte-preserved g c =
    λ plain.
    let now = c.loop-byte.invariant plain in
    let items = c.args.self.now.0.now in
    let byte = get_or items c.loop-byte.byte-index 0 in
    let rest = drop_more items c.loop-byte.byte-index 0 (omega (arith, c.loop-byte-test.true)) in (
      now.0 ++ encode_utf8 byte,
      has_written_append _ _ _ _ _ _ now.1 (search rules),
      append_assoc now.0 (encode_utf8 byte) _ ∙ ap (λ l. now.0 ++ encode_utf8_all l) (sym rest) ∙ now.2,
    )
