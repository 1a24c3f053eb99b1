use Rattle.std.proofs.Common.{◌||◌, refl, ap, sym, ◌∙◌}
use Rattle.rules_model.specs.declared.rules.Way.TheVariants.{Leap, Lame, Slide, Hop, Grass}
use Rattle.move_tables.specs.Lines.{by_parts}
use Rattle.move_tables.specs.Rays.{IsRay}
use Rattle.move_tables.proofs.TermLaws.{fits_leap, fits_lame, grass_reaches, hop_reaches, lame_reaches, leap_reaches, ray_there, reaches_by_way, slide_reaches}
use Rattle.move_tables.proofs.make.add_term.Goals as goal

pub returns-in-Leap : goal.returns-in-Leap
returns-in-Leap c = λ occupied cells is t l.
    c.add_leap.ensures occupied t l
    ∙ ap (λ b. by_parts c.args.spot.now occupied t || b)
    (c.square_at.ensures t ∙ sym (leap_reaches cells c.term_ray-ray.result t)
    ∙ reaches_by_way c.args.board cells c.args.side c.args.term.now c.args.from t Leap c.term_ray-ray.result 1 c.in-Leap.is c.term_ray-ray.ensures.is (fits_leap c.args.term.now c.requires.fits c.in-Leap.is))

pub returns-in_ok-add_jump-in-Lame : goal.returns-in_ok-add_jump-in-Lame
returns-in_ok-add_jump-in-Lame c = λ occupied cells is t l.
    let ray = ray_there c.args.board c.args.side c.args.term.now c.args.from c.requires.board c.requires.fits in
    let ok : IsRay c.term_ray-ray.result = rw c.term_ray-ray.ensures.is ray in
    c.in_ok-add_jump-in-Lame.ensures occupied t l
    ∙ ap (λ b. by_parts c.args.spot.now occupied t || b)
    (sym (lame_reaches c.term_ray-ray.result ok cells occupied is (record { target = c.square_at-target.result; over = c.blocks-over.result }) c.square_at-target.ensures c.blocks-over.ensures t)
    ∙ reaches_by_way c.args.board cells c.args.side c.args.term.now c.args.from t Lame c.term_ray-ray.result 1 c.in-Lame.is c.term_ray-ray.ensures.is (fits_lame c.args.term.now c.requires.fits c.in-Lame.is))

pub returns-in_ok-add_rider-in-Slide : goal.returns-in_ok-add_rider-in-Slide
returns-in_ok-add_rider-in-Slide c = λ occupied cells is t l.
    let ray = ray_there c.args.board c.args.side c.args.term.now c.args.from c.requires.board c.requires.fits in
    let ok : IsRay c.term_ray-ray.result = rw c.term_ray-ray.ensures.is ray in
    c.in_ok-add_rider-in-Slide.ensures occupied t l
    ∙ ap (λ b. by_parts c.args.spot.now occupied t || b)
    (sym (slide_reaches c.term_ray-ray.result ok cells occupied is c.args.term.now.limit t)
    ∙ reaches_by_way c.args.board cells c.args.side c.args.term.now c.args.from t Slide c.term_ray-ray.result c.args.term.now.limit c.in-Slide.is c.term_ray-ray.ensures.is refl)

pub returns-in_ok-add_rider-in-Hop : goal.returns-in_ok-add_rider-in-Hop
returns-in_ok-add_rider-in-Hop c = λ occupied cells is t l.
    let ray = ray_there c.args.board c.args.side c.args.term.now c.args.from c.requires.board c.requires.fits in
    let ok : IsRay c.term_ray-ray.result = rw c.term_ray-ray.ensures.is ray in
    c.in_ok-add_rider-in-Hop.ensures occupied t l
    ∙ ap (λ b. by_parts c.args.spot.now occupied t || b)
    (sym (hop_reaches c.term_ray-ray.result ok cells occupied is c.args.term.now.limit t)
    ∙ reaches_by_way c.args.board cells c.args.side c.args.term.now c.args.from t Hop c.term_ray-ray.result c.args.term.now.limit c.in-Hop.is c.term_ray-ray.ensures.is refl)

pub returns-in_ok-add_rider-in-Grass : goal.returns-in_ok-add_rider-in-Grass
returns-in_ok-add_rider-in-Grass c = λ occupied cells is t l.
    let ray = ray_there c.args.board c.args.side c.args.term.now c.args.from c.requires.board c.requires.fits in
    let ok : IsRay c.term_ray-ray.result = rw c.term_ray-ray.ensures.is ray in
    c.in_ok-add_rider-in-Grass.ensures occupied t l
    ∙ ap (λ b. by_parts c.args.spot.now occupied t || b)
    (sym (grass_reaches c.term_ray-ray.result ok cells occupied is c.args.term.now.limit t)
    ∙ reaches_by_way c.args.board cells c.args.side c.args.term.now c.args.from t Grass c.term_ray-ray.result c.args.term.now.limit c.in-Grass.is c.term_ray-ray.ensures.is refl)
