-- The bytes of a file are refused as the file is.
use Rattle.std.proofs.Common.{◌≡◌, ℕ, List, length, Bool, true, false, Some, refl}
use Rattle.std.specs.Prelude.{nat_lt}
use Rattle.io_ports.specs.declared.files.TheConstants.{MAX_FILE}
use Rattle.io_ports.specs.Files.{Bytes, found_of}
use Rattle.session_model.specs.Laws.{BytesAreRefusedAsFiles}
use Rattle.variant_rules.specs.Loading.{found_fault}

by_size : (bytes : List ℕ) (b : Bool) → nat_lt MAX_FILE (length bytes) ≡ b → found_fault (Bytes bytes) ≡ found_fault (found_of (Some bytes))
by_size bytes true is = rw is
by_size bytes false is = rw (is, is)

pub bytes_are_refused_as_files : BytesAreRefusedAsFiles
bytes_are_refused_as_files bytes = by_size bytes (nat_lt MAX_FILE (length bytes)) refl
