use Rattle.std.proofs.Common.{ap, refl, Ok}
use Rattle.variant_options.proofs.WordLaws.{parts_of-spelled, parts_of-bad}
use Rattle.variant_options.proofs.words.read_word.Goals as goal

pub returns-in-Ok : goal.returns-in-Ok
returns-in-Ok c = rw (parts_of-spelled _ _ c.in-Ok.ensures.read) (ap (λ t. Ok t) c.compile.ensures)

pub returns-in_ok-unless_memory-in-Err : goal.returns-in_ok-unless_memory-in-Err
returns-in_ok-unless_memory-in-Err c =
    let bad = c.in-Err.ensures.fault c.in_ok-unless_memory-in-Err.ensures.known in
    rw (c.in_ok-unless_memory-in-Err.ensures.is, parts_of-bad _ _ bad) refl
