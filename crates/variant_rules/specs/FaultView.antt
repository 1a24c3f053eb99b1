-- The faults of a file's lines among the reasons why there are no sections.
use Rattle.variant_ini.specs.declared.fault.IniFault.{IniFault}
use Rattle.variant_ini.specs.declared.fault.IniFault.TheVariants as ini
use Rattle.variant_rules.specs.declared.fault.LoadFault.TheVariants.{Ini}
use Rattle.variant_rules.specs.declared.fault.NoSections.{NoSections}
use Rattle.variant_rules.specs.declared.fault.NoSections.TheVariants.{Fault, Memory}

-- out of memory is no fault of a file
abbrev pub ini_refusal : IniFault → NoSections
ini_refusal ini.Memory = Memory
ini_refusal ini.TooLarge = Fault (Ini ini.TooLarge)
ini_refusal (ini.NotAscii line) = Fault (Ini (ini.NotAscii line))
ini_refusal (ini.LineTooLong line) = Fault (Ini (ini.LineTooLong line))
ini_refusal (ini.NoSection line) = Fault (Ini (ini.NoSection line))
ini_refusal (ini.BadLine line) = Fault (Ini (ini.BadLine line))
ini_refusal (ini.TooManySections line) = Fault (Ini (ini.TooManySections line))
