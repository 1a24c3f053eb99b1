use Rattle.std.proofs.Common.{rules, ◌||◌, ◌==◌, ap, ◌∙◌, ◌-◌, ◌*◌, ◌^◌, ◌%◌}
use Rattle.std.specs.Prelude.{bit_and, bit_or}
use Rattle.square_set.proofs.BitLaws.{bit-with, bit-without}
use Rattle.check_moves.proofs.listing.prove_moved.Goals as goal

pub returns : goal.returns
returns c = λ from to l m.
    let old = c.args.occupied.0 in
    let left = bit_and old (2 ^ 128 - 1 - 1 * 2 ^ from % 2 ^ 128) in
    record {
      set = record { 0 = bit_or left (1 * 2 ^ to % 2 ^ 128) };
      is = λ s. bit-with left to s m ∙ ap (λ b. b || (s == to)) (bit-without old from s (search rules) l);
    }
