use Rattle.std.proofs.Common.{◌≡◌, true, false, arith}
use Rattle.game_text.proofs.HeardLemmas.{heard_nothing, heard_so}
use Rattle.proof_text.specs.Words.{is_version}
use Rattle.proof_text.proofs.ReadingLemmas.{version-bad, version-needs, version-says}
use Rattle.proof_text.proofs.reading.read_proof_after.Goals as goal

pub returns-then-not-is_version-clause-heard : goal.returns-then-not-is_version-clause-heard
returns-then-not-is_version-clause-heard g c = heard_nothing _ _ _ (λ lines. version-bad c.args.first.now lines (grind (arith, c.is_version.ensures, c.if-not-is_version.true)))

pub returns-clause-heard : goal.returns-clause-heard
returns-clause-heard g c =
    let is : is_version c.args.first.now ≡ true = grind (arith, c.is_version.ensures, c.if-not-is_version.false) in
    heard_so _ _ _ _ _ _ c.read_on_rules.ensures.heard (λ lines. version-needs c.args.first.now lines is)
    (λ lines says. rw (version-says c.args.first.now lines is) says)
