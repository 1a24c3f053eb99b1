use Rattle.variant_ini.proofs.FileLaws.{file_lines}
use Rattle.variant_ini.proofs.laws.files_give_lines.Goals as goal

pub returns : goal.returns
returns c = file_lines
