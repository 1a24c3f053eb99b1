-- what is left begins behind parts without a fault, whose terms are counted: its parts continue them, and its fault is the text's
use Rattle.std.proofs.Common.{◌≡◌, ℕ, ◌-◌, ◌≤◌, List, ◌++◌, length, drop}
use Rattle.betza_text.specs.declared.part.Part.{Part}
use Rattle.betza_text.specs.declared.fault.BetzaFault.{BetzaFault}
use Rattle.betza_text.specs.Steps.{step_count}
use Rattle.betza_text.specs.Word.{SpelledFrom, FaultBehind}
use Rattle.betza_text.proofs.parse.Given as goal

abbrev pub invariant-loop-place : goal.invariant-loop-place
invariant-loop-place l = record {
  word : (b : List Part) → SpelledFrom l.place l.terms (drop l.place l.text) b → SpelledFrom 0 0 l.text (l.parts.items ++ b);
  fault : (k : ℕ) (f : BetzaFault) → FaultBehind k l.place l.terms (drop l.place l.text) f → (j : ℕ) × FaultBehind j 0 0 l.text f;
  few : l.terms ≤ 64;
  count : l.terms ≡ step_count l.parts.items;
}

abbrev pub decreases-loop-place : goal.decreases-loop-place
decreases-loop-place l = length l.text - l.place
