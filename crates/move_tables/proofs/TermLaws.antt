-- What each way reaches, by sets.
use Rattle.std.proofs.Common.{◌≡◌, ℕ, zero, suc, ◌+◌, ◌<◌, ◌≤◌, nat_lt, Bool, true, ◌&&◌, not, ◌==◌, Option, List, ℤ, pos, negsuc, nat_abs, refl, ap, sym, ◌∙◌, arith}
use Rattle.std.proofs.lemmas.Bool.{eq-eqb, ne_eqb, lt-ltb, le-ltb, false_from_ne_true}
use Rattle.std.proofs.Math.Bool.{and-true, and_comm}
use Rattle.foundation.specs.Count.{any_below}
use Rattle.foundation.proofs.CountLemmas.{any_below-some, any_below-true}
use Rattle.rules_model.specs.declared.board.BoardSize.{BoardSize}
use Rattle.rules_model.specs.declared.board.Cell.{Cell}
use Rattle.rules_model.specs.declared.board.Side.{Side}
use Rattle.rules_model.specs.declared.board.Side.TheVariants.{White, Black}
use Rattle.rules_model.specs.declared.board.Square.{Square}
use Rattle.rules_model.specs.declared.reach.Ray.{Ray}
use Rattle.rules_model.specs.declared.rules.Term.{Term}
use Rattle.rules_model.specs.declared.rules.Way.{Way}
use Rattle.rules_model.specs.declared.rules.Way.TheVariants.{Leap, Lame, Slide, Hop, Grass}
use Rattle.rules_model.specs.Fit.{fits_term}
use Rattle.rules_model.specs.Reach.{IsOnBoard, block_squares, blockers, is_at, leg, long_leg, passes, ray_of, reaches, reaches_over, sign}
use Rattle.rules_model.specs.Squares.{step_to, turned}
use Rattle.square_set.specs.declared.Set.{Set}
use Rattle.square_set.specs.Members.{has, place}
use Rattle.square_set.proofs.Cases.{by_bool, by_order}
use Rattle.square_set.proofs.CountLaws.{count_below-none, count_below-some, place-place, place-lt}
use Rattle.move_tables.specs.declared.jump.Jump.{Jump}
use Rattle.move_tables.specs.declared.line.Passage.TheVariants as Passing
use Rattle.move_tables.specs.Added.{along_ray}
use Rattle.move_tables.specs.Lines.{by_jump, in_both}
use Rattle.move_tables.specs.Occupied.{IsOccupied}
use Rattle.move_tables.specs.Rays.{IsRay, moves, on_ray, rises}
use Rattle.move_tables.proofs.RayLaws.{blockers_counted, line_reaches, grass_lands}

-- ---- terms that fit

moves_turned : (side : Side) (dx dy : ℤ) → nat_lt 0 (nat_abs dx + nat_abs dy) ≡ true → moves (turned side dx) (turned side dy) ≡ true
moves_turned White (pos zero) (pos zero) e = cc
moves_turned White (pos (suc n)) (pos zero) e = refl
moves_turned White (negsuc n) (pos zero) e = refl
moves_turned White dx (pos (suc n)) e = refl
moves_turned White dx (negsuc n) e = refl
moves_turned Black (pos zero) (pos zero) e = cc
moves_turned Black (pos (suc n)) (pos zero) e = refl
moves_turned Black (negsuc n) (pos zero) e = refl
moves_turned Black dx (pos (suc n)) e = refl
moves_turned Black dx (negsuc n) e = refl

fits_moves : (side : Side) (t : Term) → fits_term t ≡ true → moves (turned side t.dx) (turned side t.dy) ≡ true
unfolding fits_term
fits_moves side t e = moves_turned side t.dx t.dy (grind arith)

-- the ray of a term that fits, on a board that is no larger than the largest
pub ray_there : (board : BoardSize) (side : Side) (t : Term) (from : Square) → IsOnBoard board → fits_term t ≡ true → IsRay (ray_of board side t from)
ray_there board side t from on fits = record { files = on.files; ranks = on.ranks; step = fits_moves side t fits }

pub fits_leap : (t : Term) → fits_term t ≡ true → t.way ≡ Leap → t.limit ≡ 1
unfolding fits_term
fits_leap t e w = grind arith

pub fits_lame : (t : Term) → fits_term t ≡ true → t.way ≡ Lame → t.limit ≡ 1
unfolding fits_term
fits_lame t e w = grind arith

-- ---- each way

pub leap_reaches : (cells : List (Option Cell)) (ray : Ray) (t : ℕ) → any_below (reaches_over cells Leap ray t) 1 ≡ is_at t (step_to ray 1)
unfolding any_below reaches_over passes
leap_reaches cells ray t = and-true (is_at t (step_to ray 1))

pub slide_reaches : (ray : Ray) → IsRay ray → (cells : List (Option Cell)) (occupied : Set) → IsOccupied occupied cells → (n t : ℕ) → any_below (reaches_over cells Slide ray t) n ≡ along_ray ray n Passing.Slide occupied t
unfolding passes
slide_reaches ray ok cells occupied is n t = line_reaches ray ok cells occupied is Slide 0 n t (λ j. refl)

pub hop_reaches : (ray : Ray) → IsRay ray → (cells : List (Option Cell)) (occupied : Set) → IsOccupied occupied cells → (n t : ℕ) → any_below (reaches_over cells Hop ray t) n ≡ along_ray ray n Passing.Hop occupied t
unfolding passes
hop_reaches ray ok cells occupied is n t = line_reaches ray ok cells occupied is Hop 1 n t (λ j. refl)

pub grass_reaches : (ray : Ray) → IsRay ray → (cells : List (Option Cell)) (occupied : Set) → IsOccupied occupied cells → (n t : ℕ) → any_below (reaches_over cells Grass ray t) n ≡ along_ray ray n Passing.Grass occupied t
grass_reaches ray ok cells occupied is n t = grass_lands ray ok cells occupied is n t

-- the long leg goes somewhere
leg_short : (d o : ℤ) → nat_abs d < nat_abs o → leg d o ≡ pos 0
leg_short d o l = rw (lt-ltb (nat_abs d) (nat_abs o) l) refl

leg_long : (d o : ℤ) → nat_abs o ≤ nat_abs d → leg d o ≡ sign d
leg_long d o l = rw (le-ltb (nat_abs d) (nat_abs o) l) refl

sign_moves : (d : ℤ) → 0 < nat_abs d → moves (sign d) (pos 0) ≡ true
sign_moves (pos zero) l = absurd (omega (arith, l))
sign_moves (pos (suc n)) l = refl
sign_moves (negsuc n) l = refl

moves_sign : (a d : ℤ) → 0 < nat_abs d → moves a (sign d) ≡ true
moves_sign a (pos zero) l = absurd (omega (arith, l))
moves_sign a (pos (suc n)) l = refl
moves_sign a (negsuc n) l = refl

long_dy : (dx dy : ℤ) → moves dx dy ≡ true → nat_abs dx ≤ nat_abs dy → 0 < nat_abs dy
long_dy (pos zero) (pos zero) e l = cc
long_dy (pos (suc n)) (pos zero) e l = absurd (omega (arith, l))
long_dy (negsuc n) (pos zero) e l = absurd (omega (arith, l))
long_dy dx (pos (suc n)) e l = omega arith
long_dy dx (negsuc n) e l = omega arith

pub long_moves : (dx dy : ℤ) → moves dx dy ≡ true → moves (leg dx dy) (leg dy dx) ≡ true
long_moves dx dy e =
    by_order (nat_abs dy) (nat_abs dx) (moves (leg dx dy) (leg dy dx) ≡ true)
    (λ l. rw (leg_short dy dx l, leg_long dx dy (omega (arith, l))) (sign_moves dx (omega (arith, l))))
    (λ l. rw (leg_long dy dx l) (moves_sign (leg dx dy) dy (long_dy dx dy e l)))

module _ (ray : Ray) (ok : IsRay ray) (cells : List (Option Cell)) (occupied : Set) (is : IsOccupied occupied cells) (over : Set) (n : ℕ) (squares : (u : ℕ) → has over u ≡ on_ray ray n u) where
  abbrev r : Bool
  r = rises ray.dx ray.dy

  abbrev met : ℕ → Bool
  met i = on_ray ray n (place r i) && has occupied (place r i)

  met_is : (u : ℕ) → met u ≡ in_both over occupied (place r u)
  met_is u = ap (λ b. b && has occupied (place r u)) (sym (squares (place r u)))

  -- none of the squares to be passed is occupied exactly where there is no blocker
  clear : not (any_below (in_both over occupied) 128) ≡ (blockers cells ray n == 0)
  clear =
      let b = blockers_counted ray ok cells occupied is n in
      by_bool (any_below (in_both over occupied) 128) (not (any_below (in_both over occupied) 128) ≡ (blockers cells ray n == 0))
      (λ a.
      let u = any_below-some (in_both over occupied) 128 a in
      let m : met (place r u.0) ≡ true = met_is (place r u.0) ∙ ap (in_both over occupied) (place-place r u.0 u.1) ∙ u.2 in
      let c = count_below-some met 128 (place r u.0) (place-lt r u.0 u.1) m in
      rw (a, ne_eqb (blockers cells ray n) 0 (λ z. omega (arith, c, b, z))) refl)
      (λ a.
      let c = count_below-none met 128 (λ i l. met_is i ∙ false_from_ne_true (in_both over occupied (place r i)) (λ h. let y = any_below-true (in_both over occupied) 128 (place r i) (place-lt r i l) h in cc)) in
      rw (a, eq-eqb (blockers cells ray n) 0 (b ∙ c)) refl)

pub lame_reaches : (ray : Ray) → IsRay ray → (cells : List (Option Cell)) (occupied : Set) → IsOccupied occupied cells → (jump : Jump) → ((u : ℕ) → has jump.target u ≡ is_at u (step_to ray 1)) → ((u : ℕ) → has jump.over u ≡ on_ray (long_leg ray) (block_squares ray) u) → (t : ℕ) → any_below (reaches_over cells Lame ray t) 1 ≡ by_jump jump occupied t
unfolding any_below reaches_over passes
lame_reaches ray ok cells occupied is jump target over t =
    let long : IsRay (long_leg ray) = record { files = ok.files; ranks = ok.ranks; step = long_moves ray.dx ray.dy ok.step } in
    let c = clear (long_leg ray) long cells occupied is jump.over (block_squares ray) over in
    rw (sym (target t), c) (and_comm (has jump.target t) (blockers cells (long_leg ray) (block_squares ray) == 0))

-- a term's reach by its way, ray and limit
pub reaches_by_way : (board : BoardSize) (cells : List (Option Cell)) (side : Side) (t : Term) (from : Square) (to : ℕ) (way : Way) (ray : Ray) (n : ℕ) → t.way ≡ way → ray ≡ ray_of board side t from → t.limit ≡ n → any_below (reaches_over cells way ray to) n ≡ reaches board cells side t from to
reaches_by_way board cells side t from to way ray n w r l = rw (sym w, r, sym l) refl
