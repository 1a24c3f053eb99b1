use Rattle.variant_model.proofs.FileTold.{told_of_file}
use Rattle.variant_model.proofs.laws.told_lines_are_lines_of_files.Goals as goal

pub returns : goal.returns
returns c = λ sections place files. told_of_file sections files place
