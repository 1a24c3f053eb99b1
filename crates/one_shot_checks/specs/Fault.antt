-- How faults print: the type's name, the fault's number, its name and its fields, separated by single blanks. A fault
-- inside a fault prints whole.
use Rattle.std.specs.Prelude.{ℕ, List, ◌++◌, codes}
use Rattle.betza_text.specs.Fault as betza
use Rattle.game_text.specs.Fault as game
use Rattle.strategy.specs.Fault as strategy
use Rattle.proof_text.specs.Fault as proof
use Rattle.strategy_check.specs.Verdicts.{verdict_text}
use Rattle.stipulation.specs.Verdicts as stipulation
use Rattle.cert_text.specs.Fault as cert
use Rattle.suite.specs.Fault as suite
use Rattle.pn_search.specs.MateCount.{pn_fault_text}
use Rattle.suite.specs.FirstMoves.{keys_fault_text}
use Rattle.variant_rules.specs.declared.fault.LoadFault.TheVariants.{File, Ini}
use Rattle.variant_rules.specs.Loading.{file_fault_text, ini_fault_text}
use Rattle.one_shot_checks.specs.declared.fault.Fault.{Fault}
use Rattle.one_shot_checks.specs.declared.fault.Fault.TheVariants.{Betza, Reach, Game, Strategy, Proof, Verdict, Cert, CertFailure, Suite, PnMate, Keys, Load}
use Rattle.one_shot_checks.specs.Setup.{unplaced_text}
use Rattle.one_shot_checks.specs.UnplacedView.{unplaced_of}

-- a fault of what was given, or a file that was not read
pub data FaultClass : Type 0 where
  OfInput : FaultClass
  OfFile : FaultClass

-- the status of a run with a fault of this class
abbrev pub class_status : FaultClass → ℕ
class_status OfInput = 3
class_status OfFile = 6

-- what a fault prints, and its class: the one table of all faults
abbrev pub facts : Fault → List ℕ × FaultClass
facts (Betza fault) = (betza.fault_text fault, OfInput)
facts (Reach fault) = (unplaced_text (unplaced_of fault), OfInput)
facts (Game fault) = (game.fault_text fault, OfInput)
facts (Strategy fault) = (strategy.fault_text fault, OfInput)
facts (Proof fault) = (proof.fault_text fault, OfInput)
facts (Verdict verdict) = (verdict_text verdict, OfInput)
facts (Cert fault) = (cert.fault_text fault, OfInput)
facts (CertFailure verdict) = (stipulation.verdict_text verdict, OfInput)
facts (Suite fault) = (suite.fault_text fault, OfInput)
facts (PnMate fault) = (pn_fault_text fault, OfInput)
facts (Keys fault) = (keys_fault_text fault, OfInput)
facts (Load (Ini fault)) = (ini_fault_text fault, OfInput)
facts (Load (File fault)) = (file_fault_text fault, OfFile)

abbrev pub fault_text : Fault → List ℕ
fault_text fault = (facts fault).0

abbrev pub fault_status : Fault → ℕ
fault_status fault = class_status (facts fault).1

-- the line of a fault
abbrev pub error_line : List ℕ → List ℕ
error_line fault = codes "error " ++ fault ++ codes "\n"

-- the answer to words that are not of the command set
abbrev pub usage_line : List ℕ
usage_line = codes "usage: vengine [--variants FILE] [--threads N] [COMMAND]\n"
