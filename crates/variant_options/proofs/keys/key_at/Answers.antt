use Rattle.std.proofs.Common.{◌≡◌, ◌+◌, ◌-◌, ◌<◌, [], get_or, ap, ◌∙◌, lit≤, arith}
use Rattle.variant_options.specs.Keys.{ordered_keys}
use Rattle.variant_options.proofs.KeyLemmas.{part_at, part_long}
use Rattle.variant_options.proofs.keys.key_at.Goals as goal

pub bounds-first_keys-place : goal.bounds-first_keys-place
bounds-first_keys-place c = omega (arith, part_long _ 0 54 c.first_keys.ensures (lit≤ tt))

pub bounds-second_keys-place : goal.bounds-second_keys-place
bounds-second_keys-place c = omega (arith, part_long _ 54 53 c.second_keys.ensures (lit≤ tt))

pub bounds-third_keys-place : goal.bounds-third_keys-place
bounds-third_keys-place c = omega (arith, part_long _ 107 53 c.third_keys.ensures (lit≤ tt))

pub bounds-fourth_keys-place : goal.bounds-fourth_keys-place
bounds-fourth_keys-place c = omega (arith, part_long _ 160 53 c.fourth_keys.ensures (lit≤ tt))

pub returns-then-place-lt54 : goal.returns-then-place-lt54
returns-then-place-lt54 c =
    let below : c.args.place < 54 = omega arith in
    let place : 0 + c.args.place ≡ c.args.place = omega arith in
    part_at _ 0 54 c.args.place _ c.first_keys.ensures (lit≤ tt) below ∙ ap (λ k. get_or ordered_keys k []) place

pub returns-then-place-lt107 : goal.returns-then-place-lt107
returns-then-place-lt107 c =
    let below : (c.args.place - 54) < 53 = omega arith in
    let place : 54 + (c.args.place - 54) ≡ c.args.place = omega arith in
    part_at _ 54 53 (c.args.place - 54) _ c.second_keys.ensures (lit≤ tt) below
    ∙ ap (λ k. get_or ordered_keys k []) place

pub returns-then-place-lt160 : goal.returns-then-place-lt160
returns-then-place-lt160 c =
    let below : (c.args.place - 107) < 53 = omega arith in
    let place : 107 + (c.args.place - 107) ≡ c.args.place = omega arith in
    part_at _ 107 53 (c.args.place - 107) _ c.third_keys.ensures (lit≤ tt) below
    ∙ ap (λ k. get_or ordered_keys k []) place

pub returns-else-place-lt160 : goal.returns-else-place-lt160
returns-else-place-lt160 c =
    let below : (c.args.place - 160) < 53 = omega arith in
    let place : 160 + (c.args.place - 160) ≡ c.args.place = omega arith in
    part_at _ 160 53 (c.args.place - 160) _ c.fourth_keys.ensures (lit≤ tt) below
    ∙ ap (λ k. get_or ordered_keys k []) place
