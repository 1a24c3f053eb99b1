use Rattle.io_ports.specs.declared.files.Given.TheVariants as given
use Rattle.std.proofs.Common.{refl}
use Rattle.io_ports.specs.Files.{Missing, TooLarge, Fault}
use Rattle.variant_rules.proofs.FileLemmas.{looked_call}
use Rattle.variant_rules.proofs.sections.read_file.Goals as goal

pub returns-in-Bytes : goal.returns-in-Bytes
returns-in-Bytes g c =
    looked_call _ _ c.args.name.now given.Bytes c.read.new.out.items _ c.in-Bytes.ensures.finds c.in-Bytes.ensures.same c.in-Bytes.ensures.cause (c.within_limit.ensures c.args.name.now)

pub returns-in-TooLarge : goal.returns-in-TooLarge
returns-in-TooLarge g c =
    rw c.unread.ensures
    (looked_call _ _ c.args.name.now given.TooLarge c.read.new.out.items _ c.in-TooLarge.ensures.finds c.in-TooLarge.ensures.same c.in-TooLarge.ensures.cause (record { found = TooLarge; reads_are = refl; holds = refl }))

pub returns-in-Missing : goal.returns-in-Missing
returns-in-Missing g c =
    rw c.unread-in-Missing.ensures
    (looked_call _ _ c.args.name.now given.Missing c.read.new.out.items _ c.in-Missing.ensures.finds c.in-Missing.ensures.same c.in-Missing.ensures.cause (record { found = Missing; reads_are = refl; holds = refl }))

pub returns-in-Failed : goal.returns-in-Failed
returns-in-Failed g c =
    rw c.unread-in-Failed.ensures
    (looked_call _ _ c.args.name.now given.Failed c.read.new.out.items _ c.in-Failed.ensures.finds c.in-Failed.ensures.same c.in-Failed.ensures.cause (record { found = Fault; reads_are = refl; holds = refl }))
