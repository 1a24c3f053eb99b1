-- What the code answers where a command has no text, as the definitions have it.
use Rattle.std.specs.Prelude.{ℕ, List, Result, Ok, Err, ⊤}
use Rattle.betza_text.specs.declared.fault.BetzaFault.{BetzaFault}
use Rattle.betza_text.specs.declared.fault.BetzaFault.TheVariants as betza
use Rattle.variant_rules.specs.declared.fault.NoSections.{NoSections}
use Rattle.variant_rules.specs.declared.fault.NoSections.TheVariants as no_sections
use Rattle.one_shot_checks.specs.declared.fault.Fault.{Fault}
use Rattle.one_shot_checks.specs.declared.fault.Fault.TheVariants.{Betza, Game, Strategy, Proof, Cert, Suite, Load}
use Rattle.game_text.specs.ReadView.{NoGame}
use Rattle.game_text.specs.declared.unmade.Unmade.TheVariants as unmade
use Rattle.strategy.specs.declared.fault.StrategyFault.TheVariants as strategy
use Rattle.proof_text.specs.declared.fault.ProofFault.TheVariants as proof
use Rattle.proof_text.specs.declared.source_lines.NoProof.{NoProof}
use Rattle.proof_text.specs.declared.source_lines.NoProof.TheVariants as no_proof
use Rattle.cert_text.specs.declared.fault.CertFault.TheVariants as cert
use Rattle.cert_text.specs.declared.fault.NoCert.{NoCert}
use Rattle.cert_text.specs.declared.fault.NoCert.TheVariants as no_cert
use Rattle.suite.specs.ReadView.{NoSuite}
use Rattle.one_shot_checks.specs.declared.no_answer.NoAnswer.{NoAnswer}
use Rattle.one_shot_checks.specs.declared.no_answer.NoAnswer.TheVariants as no_answer
use Rattle.proof_text.specs.declared.strategy_lines.NoStrategy.{NoStrategy}
use Rattle.proof_text.specs.declared.strategy_lines.NoStrategy.TheVariants as no_strategy
use Rattle.one_shot_checks.specs.declared.stop.Stop.TheVariants as stop
use Rattle.one_shot_checks.specs.Fault.{error_line, fault_status, fault_text, usage_line}

-- out of memory is no fault of a word
abbrev pub betza_no_answer : BetzaFault → NoAnswer
betza_no_answer betza.Memory = no_answer.Stop stop.Memory
betza_no_answer (betza.Empty place) = no_answer.Fault (Betza (betza.Empty place))
betza_no_answer (betza.TooLong place) = no_answer.Fault (Betza (betza.TooLong place))
betza_no_answer (betza.UnknownAtom place) = no_answer.Fault (Betza (betza.UnknownAtom place))
betza_no_answer (betza.UnsupportedModifier place) = no_answer.Fault (Betza (betza.UnsupportedModifier place))
betza_no_answer (betza.DoubledModifier place) = no_answer.Fault (Betza (betza.DoubledModifier place))
betza_no_answer (betza.AmbiguousDirection place) = no_answer.Fault (Betza (betza.AmbiguousDirection place))
betza_no_answer (betza.BadLame place) = no_answer.Fault (Betza (betza.BadLame place))
betza_no_answer (betza.BadHopper place) = no_answer.Fault (Betza (betza.BadHopper place))
betza_no_answer (betza.BadNumber place) = no_answer.Fault (Betza (betza.BadNumber place))
betza_no_answer (betza.TooManyTerms place) = no_answer.Fault (Betza (betza.TooManyTerms place))

-- nor of the file of variants
abbrev pub load_no_answer : NoSections → NoAnswer
load_no_answer (no_sections.Fault fault) = no_answer.Fault (Load fault)
load_no_answer no_sections.Memory = no_answer.Stop stop.Memory

abbrev pub game_no_answer : NoGame → NoAnswer
game_no_answer (unmade.Faulty fault) = no_answer.Fault (Game fault)
game_no_answer unmade.Unread = no_answer.Stop stop.Source
game_no_answer unmade.Memory = no_answer.Stop stop.Memory

-- out of memory is no fault of a strategy
abbrev pub strategy_no_answer : NoStrategy → NoAnswer
strategy_no_answer no_strategy.Unread = no_answer.Stop stop.Source
strategy_no_answer (no_strategy.Faulty strategy.Memory) = no_answer.Stop stop.Memory
strategy_no_answer (no_strategy.Faulty (strategy.Header line)) = no_answer.Fault (Strategy (strategy.Header line))
strategy_no_answer (no_strategy.Faulty (strategy.BadLine line)) = no_answer.Fault (Strategy (strategy.BadLine line))
strategy_no_answer (no_strategy.Faulty (strategy.BadPosition line fault)) =
    no_answer.Fault (Strategy (strategy.BadPosition line fault))
strategy_no_answer (no_strategy.Faulty (strategy.BadMove line)) = no_answer.Fault (Strategy (strategy.BadMove line))
strategy_no_answer (no_strategy.Faulty (strategy.BadNumber line)) = no_answer.Fault (Strategy (strategy.BadNumber line))
strategy_no_answer (no_strategy.Faulty (strategy.Ended line)) = no_answer.Fault (Strategy (strategy.Ended line))

-- nor of a proof text
abbrev pub proof_no_answer : NoProof → NoAnswer
proof_no_answer no_proof.Unread = no_answer.Stop stop.Source
proof_no_answer (no_proof.Faulty proof.Memory) = no_answer.Stop stop.Memory
proof_no_answer (no_proof.Faulty (proof.Header line)) = no_answer.Fault (Proof (proof.Header line))
proof_no_answer (no_proof.Faulty (proof.BadRules line)) = no_answer.Fault (Proof (proof.BadRules line))
proof_no_answer (no_proof.Faulty (proof.RefusedRules why)) = no_answer.Fault (Proof (proof.RefusedRules why))
proof_no_answer (no_proof.Faulty (proof.BadStart line why)) = no_answer.Fault (Proof (proof.BadStart line why))
proof_no_answer (no_proof.Faulty (proof.BadHistory line)) = no_answer.Fault (Proof (proof.BadHistory line))
proof_no_answer (no_proof.Faulty (proof.BadBody why)) = no_answer.Fault (Proof (proof.BadBody why))

-- nor of a certificate
abbrev pub cert_no_answer : NoCert → NoAnswer
cert_no_answer no_cert.Unread = no_answer.Stop stop.Source
cert_no_answer (no_cert.Faulty cert.Memory) = no_answer.Stop stop.Memory
cert_no_answer (no_cert.Faulty (cert.BadLine line)) = no_answer.Fault (Cert (cert.BadLine line))
cert_no_answer (no_cert.Faulty (cert.Ended line)) = no_answer.Fault (Cert (cert.Ended line))

abbrev pub suite_no_answer : NoSuite → NoAnswer
suite_no_answer (unmade.Faulty fault) = no_answer.Fault (Suite fault)
suite_no_answer unmade.Unread = no_answer.Stop stop.Source
suite_no_answer unmade.Memory = no_answer.Stop stop.Memory

-- this holds of the status and the text of the outcome. A run that was cut short has none. The sink has not cut it
-- short, since it was given nothing yet
abbrev pub Answers : Result (List ℕ) NoAnswer → (ℕ → List ℕ → Type 0) → Type 0
Answers (Ok text) Says = Says 0 text
Answers (Err no_answer.Usage) Says = Says 2 usage_line
Answers (Err (no_answer.Fault fault)) Says = Says (fault_status fault) (error_line (fault_text fault))
Answers (Err (no_answer.Stop stop.Source)) Says = ⊤
Answers (Err (no_answer.Stop stop.Sink)) Says = ⊥
Answers (Err (no_answer.Stop stop.Memory)) Says = ⊤

-- the source failed
abbrev pub IsUnheard : {A : Type 0} → Result A NoAnswer → Type 0
IsUnheard (Ok x) = ⊥
IsUnheard (Err no_answer.Usage) = ⊥
IsUnheard (Err (no_answer.Fault fault)) = ⊥
IsUnheard (Err (no_answer.Stop stop.Source)) = ⊤
IsUnheard (Err (no_answer.Stop stop.Sink)) = ⊥
IsUnheard (Err (no_answer.Stop stop.Memory)) = ⊥
