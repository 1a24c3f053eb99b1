use Rattle.session_model.proofs.Files.{bytes_are_refused_as_files}
use Rattle.session_model.proofs.laws.bytes_are_refused_as_files.Goals as goal

pub returns : goal.returns
returns c = bytes_are_refused_as_files
