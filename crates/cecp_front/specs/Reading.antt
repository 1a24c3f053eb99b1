-- What a CECP session asks of files.
use Rattle.std.specs.Prelude.{◌≡◌, List, []}
use Rattle.io_ports.specs.Files.{Read}

-- no file is asked for
abbrev pub NoReads : List Read → Type 0
NoReads reads = reads ≡ []
