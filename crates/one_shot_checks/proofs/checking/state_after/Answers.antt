use Rattle.std.proofs.Common.{◌≡◌, true, false, sym, ap, ◌∙◌}
use Rattle.std.specs.Prelude.{Result}
use Rattle.proof_text.specs.declared.proof.Proof.{Proof}
use Rattle.proof_text.specs.Words.{is_version}
use Rattle.one_shot_checks.specs.declared.fault.Fault.{Fault}
use Rattle.one_shot_checks.specs.CheckView.{States}
use Rattle.one_shot_checks.proofs.CheckLemmas.{other_heard, proof_heard}
use Rattle.one_shot_checks.proofs.checking.state_after.Goals as goal

pub returns-then-is_version-clause-heard : goal.returns-then-is_version-clause-heard
returns-then-is_version-clause-heard g c =
    let is : is_version c.args.line.now ≡ true = ap is_version (sym c.text-first.ensures.bytes) ∙ sym c.is_version.ensures ∙ c.if-is_version.true in
    proof_heard _ _ _ c.args.line.now c.text-first.result.now (λ (r : Result Proof Fault). States r c.state_proof.result) is c.text-first.ensures.bytes c.state_proof.ensures.heard

pub returns-else-is_version-clause-heard : goal.returns-else-is_version-clause-heard
returns-else-is_version-clause-heard g c =
    let is : is_version c.args.line.now ≡ false = ap is_version (sym c.text-first.ensures.bytes) ∙ sym c.is_version.ensures ∙ c.if-is_version.false in
    other_heard _ _ _ c.args.line.now (λ (r : Result Proof Fault). States r c.state_problem.result) is c.state_problem.ensures.heard
