-- What was read of the file of variants.
use Rattle.std.proofs.Common.{◌≡◌, ℕ, ◌<◌, ◌≤◌, le-ltb, lt-ltb, List, [], ◌∷◌, ◌++◌, length, inl, inr, refl, sym, ap, ◌∙◌, Option, Some, None, Ok, Err, option_map}
use Rattle.std.specs.declared.result.Result.{Result}
use Rattle.io_ports.specs.declared.files.TheConstants.{MAX_FILE}
use Rattle.io_ports.specs.declared.files.Given.{Given}
use Rattle.io_ports.specs.declared.files.Given.TheVariants as given
use Rattle.io_ports.specs.Cause.{HasCause}
use Rattle.io_ports.specs.Files.{Contents, Read, Bytes, Finds, given_reads}
use Rattle.io_ports.specs.Trace.{Reads}
use Rattle.io_ports.proofs.Asked.{reads_none, reads_call}
use Rattle.variant_ini.specs.declared.fault.IniFault.{IniFault}
use Rattle.variant_ini.specs.declared.fault.IniFault.TheVariants as ini
use Rattle.variant_ini.specs.Reading.{IsFaultOrMemory, fault_of, sections_in}
use Rattle.variant_ini.specs.Section.{Section}
use Rattle.variant_model.specs.Builtin.{builtin_sections}
use Rattle.variant_rules.specs.declared.fault.FileFault.TheVariants as file
use Rattle.variant_rules.specs.declared.fault.LoadFault.TheVariants.{File, Ini}
use Rattle.variant_rules.specs.declared.fault.NoSections.{NoSections}
use Rattle.variant_rules.specs.declared.fault.NoSections.TheVariants.{Fault, Memory}
use Rattle.variant_rules.specs.FaultView.{ini_refusal}
use Rattle.variant_rules.specs.Loading.{refusal}
use Rattle.variant_rules.specs.Looked.{HasFile, HasSections, IsRefused, Looked}

-- ---- calls

module _ {F : Type 0} {contents : F → Option Contents} {faults : F → ℕ} where
  -- nothing was read
  pub looked_none : (f : F) (Holds : List Read → Type 0) → Holds [] → Looked (Reads contents faults f f) Holds
  looked_none f Holds holds = record { reads = []; asks = reads_none f; holds = holds }

  -- a file was read
  pub looked_call : (a b : F) (name : List ℕ) (answer : Given) (out : List ℕ) (Holds : List Read → Type 0) → Finds (contents a) (given_reads name answer out) → contents b ≡ contents a
      → HasCause (faults a) (faults b) (answer ≡ given.Failed) → Holds (given_reads name answer out) → Looked (Reads contents faults a b) Holds
  looked_call a b name answer out Holds finds same cause holds = record { reads = given_reads name answer out; asks = reads_call a b name answer out finds same cause; holds = holds }

-- what follows from it
pub looked_so : (asked : List Read → Type 0) (P Q : List Read → Type 0) → Looked asked P → ((reads : List Read) → P reads → Q reads) → Looked asked Q
looked_so asked P Q looked so = record { reads = looked.reads; asks = looked.asks; holds = so looked.reads looked.holds }

-- ---- the fault of a file

-- bytes that are not too many have the fault of their lines
read_fault : (bytes : List ℕ) → length bytes ≤ MAX_FILE → refusal (Bytes bytes) ≡ option_map Ini (fault_of bytes)
read_fault bytes fits = rw (le-ltb MAX_FILE (length bytes) fits) refl

-- more bytes are too large a file
pub large_fault : (bytes : List ℕ) → MAX_FILE < length bytes → refusal (Bytes bytes) ≡ Some (File file.TooLarge)
large_fault bytes large = rw (lt-ltb MAX_FILE (length bytes) large) refl

-- the bytes that were read are refused for the fault of their lines
refused : (name : List ℕ) (reads : List Read) (bytes : List ℕ) (why : IniFault) → HasFile name reads (Ok bytes) → fault_of bytes ≡ Some why → IsRefused name reads (Ini why)
refused name reads bytes why has is = record { found = Bytes bytes; reads_are = has.0; holds = read_fault bytes has.1 ∙ ap (option_map Ini) is }

-- why a file was not read is why there are no sections
pub unread_refused : (name : List ℕ) (reads : List Read) (why : NoSections) → HasFile name reads (Err why) → HasSections name reads (Err why)
unread_refused name reads (Fault why) has = has
unread_refused name reads Memory has = inl has

-- a file was read, and there was no memory for its sections
pub unkept_refused : (name : List ℕ) (reads : List Read) (bytes : List ℕ) → HasFile name reads (Ok bytes) → HasSections name reads (Err Memory)
unkept_refused name reads bytes has = inr (record { found = Bytes bytes; reads_are = has.0; holds = tt })

-- the fault of its bytes is why it is refused
pub faulty_refused : (name : List ℕ) (reads : List Read) (bytes : List ℕ) (why : IniFault) → HasFile name reads (Ok bytes) → IsFaultOrMemory (fault_of bytes) why → HasSections name reads (Err (ini_refusal why))
faulty_refused name reads bytes ini.Memory has is = unkept_refused name reads bytes has
faulty_refused name reads bytes ini.TooLarge has is = refused name reads bytes _ has is
faulty_refused name reads bytes (ini.NotAscii line) has is = refused name reads bytes _ has is
faulty_refused name reads bytes (ini.LineTooLong line) has is = refused name reads bytes _ has is
faulty_refused name reads bytes (ini.NoSection line) has is = refused name reads bytes _ has is
faulty_refused name reads bytes (ini.BadLine line) has is = refused name reads bytes _ has is
faulty_refused name reads bytes (ini.TooManySections line) has is = refused name reads bytes _ has is

-- else the file has its sections
pub file_taken : (name : List ℕ) (reads : List Read) (bytes : List ℕ) (sections : List Section) → HasFile name reads (Ok bytes) → fault_of bytes ≡ None → sections ≡ builtin_sections ++ sections_in bytes
    → HasSections name reads (Ok sections)
file_taken name reads bytes sections has none are = record { found = Bytes bytes; reads_are = has.0; holds = (read_fault bytes has.1 ∙ ap (option_map Ini) none, are) }
