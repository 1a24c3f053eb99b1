use Rattle.std.proofs.Common.{◌≡◌, ◌++◌, rules}
use Rattle.variant_ini.proofs.OptionLaws.{HasParents-append}
use Rattle.variant_ini.proofs.sections.append_file.Goals as goal

pub returns-clause-parents : goal.returns-clause-parents
returns-clause-parents c =
    let grown : c.append.new.self.items ≡ c.args.sections.now.items ++ c.in_ok-read.read.items = search rules in
    let placed : c.append-2.new.self.items ≡ c.args.places.now.items ++ c.in_ok-found.found.items = search rules in
    let later = rw (c.as_slice-3.ensures.value, c.as_slice-4.ensures.value) at c.in_ok-found.ensures in
    rw (grown, placed) (HasParents-append c.args.sections.now.items c.in_ok-read.read.items c.args.places.now.items c.in_ok-found.found.items c.requires.parents later)
