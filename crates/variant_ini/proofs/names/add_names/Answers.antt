use Rattle.std.proofs.Common.{◌≡◌, ◌+◌, ◌<◌, ◌++◌, [], ◌∷◌, take, length, sym, ap, ◌∙◌, subst, arith}
use Rattle.std.proofs.lemmas.List.{take_more, append_assoc, length-append, length-take-le}
use Rattle.variant_ini.specs.FirstPlaces.{FindsFirst}
use Rattle.variant_ini.proofs.names.add_names.Goals as goal

pub loop-i-preserved : goal.loop-i-preserved
loop-i-preserved c = λ before at finds.
    let within : c.loop-i.i < length c.args.sections.now = omega (arith, c.loop-i-test.true) in
    let seen = take c.loop-i.i c.args.sections.now in
    let one_more : before ++ take (c.loop-i.i + 1) c.args.sections.now ≡ (before ++ seen) ++ c.index-sections-i.result ∷ [] =
    ap (λ xs. before ++ xs) (take_more c.args.sections.now c.loop-i.i c.index-sections-i.result within)
    ∙ ap (λ x. before ++ (seen ++ x ∷ [])) (sym c.index-sections-i.is)
    ∙ sym (append_assoc before seen (c.index-sections-i.result ∷ [])) in
    let long : length (before ++ seen) ≡ c.args.place + c.loop-i.i =
    omega (arith, at, length-append before seen, length-take-le c.loop-i.i c.args.sections.now (omega (arith, within))) in
    subst (λ xs. FindsFirst c.add_name.new.names xs) (sym one_more)
    (c.in_ok-add_name.ensures (before ++ seen) long (c.loop-i.invariant before at finds))
