use Rattle.std.proofs.Common.{◌≡◌, Some, None, Ok, Err, sym, take}
use Rattle.variant_rules.specs.Entries.{found}
use Rattle.game_text.proofs.HeardLemmas.{heard_nothing, heard_so}
use Rattle.game_text.proofs.ReadLemmas.{needs-known, says_known, says_refused, says_unknown}
use Rattle.game_text.proofs.read.read_variant.Goals as goal

pub returns-in-Rules-clause-heard : goal.returns-in-Rules-clause-heard
returns-in-Rules-clause-heard g c =
    let is : found c.args.variants.now c.args.line.now ≡ Some (Ok c.in-Rules.rules.now) = rw c.text.ensures.bytes at (sym c.in-Rules.ensures.is) in
    heard_so _ _ _ _ _ _ c.read_position.ensures.heard (λ lines. needs-known c.args.variants.now c.args.line.now c.in-Rules.rules.now is (take 1 lines))
    (λ lines says. says_known c.args.variants.now c.args.line.now c.in-Rules.rules.now c.read_position.result (take 1 lines) is says)

pub returns-in_ok-refused_variant-in-Refused-clause-heard : goal.returns-in_ok-refused_variant-in-Refused-clause-heard
returns-in_ok-refused_variant-in-Refused-clause-heard g c =
    let is : found c.args.variants.now c.args.line.now ≡ Some (Err c.in-Refused.why.now) = rw c.text.ensures.bytes at (sym c.in-Refused.ensures.is) in
    heard_nothing _ _ _ (λ lines. says_refused c.args.variants.now c.args.line.now c.in-Refused.why.now c.in_ok-refused_variant-in-Refused.field-0 (take 1 lines) is c.in_ok-refused_variant-in-Refused.ensures)

pub returns-in_ok-unknown_variant-in-Unknown-clause-heard : goal.returns-in_ok-unknown_variant-in-Unknown-clause-heard
returns-in_ok-unknown_variant-in-Unknown-clause-heard g c =
    let is : found c.args.variants.now c.args.line.now ≡ None = rw c.text.ensures.bytes at (sym c.in-Unknown.ensures.is) in
    heard_nothing _ _ _ (λ lines. says_unknown c.args.variants.now c.args.line.now c.in_ok-unknown_variant-in-Unknown.field-0 (take 1 lines) is
    (rw c.text-in-Unknown.ensures.bytes at c.in_ok-unknown_variant-in-Unknown.ensures))
