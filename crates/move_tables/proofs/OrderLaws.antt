-- The numbers of a ray's squares rise, or fall, with the steps.
use Rattle.std.proofs.Common.{◌≡◌, ℕ, zero, suc, ◌+◌, ◌-◌, ◌*◌, ◌/◌, ◌%◌, ◌<◌, ◌≤◌, nat_lt, true, false, if◌then◌else◌, Option, Some, None, ℤ, pos, negsuc, ◌+ℤ◌, ◌*ℤ◌, refl, ap, sym, ◌∙◌, arith}
use Rattle.std.proofs.lemmas.Int.{ints}
use Rattle.std.proofs.Math.Nat.{mul-lt-mul_of_pos_right, mul-le-mul_right}
use Rattle.std.proofs.lemmas.Bool.{lt-ltb}
use Rattle.rules_model.specs.declared.reach.Ray.{Ray}
use Rattle.rules_model.specs.Squares.{within, square_of, step_to}
use Rattle.square_set.specs.Members.{place}
use Rattle.move_tables.specs.Rays.{IsRay, is_positive, moves, rises}

within_pos : (n a x : ℕ) → (if nat_lt a n then Some a else None) ≡ Some x → (pos a ≡ pos x) × (x < n)
within_pos n a x e =
    elim (nat_lt a n) as (λ v. nat_lt a n ≡ v → (if v then Some a else None) ≡ Some x → (pos a ≡ pos x) × (x < n)) [
      | true ↦ λ t f. let g : a ≡ x = cc in (ap pos g, grind arith)
      | false ↦ λ t f. absurd (let g : ⊥ = cc in g)
    ] refl e

pub within-is : (n : ℕ) (i : ℤ) (x : ℕ) → within n i ≡ Some x → (i ≡ pos x) × (x < n)
within-is n (pos a) x e = within_pos n a x e
within-is n (negsuc a) x e = cc

pub record IsAt (ray : Ray) (k s : ℕ) : Type 0 where
  pub x : ℕ
  pub y : ℕ
  pub across : pos (ray.from.0 % 12) +ℤ (pos k *ℤ ray.dx) ≡ pos x
  pub up : pos (ray.from.0 / 12) +ℤ (pos k *ℤ ray.dy) ≡ pos y
  pub file : x < 12
  pub rank : y < 10
  pub is : s ≡ 12 * y + x

pub square_parts : (f r : Option ℕ) (s : ℕ) → square_of f r ≡ Some s → (x : ℕ) × (y : ℕ) × (f ≡ Some x) × (r ≡ Some y) × (s ≡ 12 * y + x)
square_parts None r s e = absurd (let g : ⊥ = cc in g)
square_parts (Some x) None s e = absurd (let g : ⊥ = cc in g)
square_parts (Some x) (Some y) s e = (x, y, refl, refl, let g : 12 * y + x ≡ s = cc in sym g)

pub is_at_step : (ray : Ray) → IsRay ray → (k s : ℕ) → step_to ray k ≡ Some s → IsAt ray k s
unfolding step_to
is_at_step ray ok k s e =
    let h = square_parts _ _ s e in
    let a = within-is ray.board.files _ h.0 h.2 in
    let b = within-is ray.board.ranks _ h.1 h.3 in
    record { x = h.0; y = h.1; across = a.0; up = b.0; file = omega (arith, a.1, ok.files); rank = omega (arith, b.1, ok.ranks); is = h.4 }

pub below_120 : (ray : Ray) (k s : ℕ) → IsAt ray k s → s < 120
below_120 ray k s h = omega (arith, h.file, h.rank, h.is)

mul_lt : (i j m : ℕ) → i < j → i * suc m < j * suc m
mul_lt i j m l = mul-lt-mul_of_pos_right l (omega arith)

along : (f i j x x' : ℕ) (d : ℤ) → i < j → is_positive d ≡ true → pos f +ℤ (pos i *ℤ d) ≡ pos x → pos f +ℤ (pos j *ℤ d) ≡ pos x' → x < x'
along f i j x x' (pos zero) l p a b = absurd (let g : ⊥ = cc in g)
along f i j x x' (pos (suc m)) l p a b = let h = mul_lt i j m l in omega (arith, ints, h, a, b)
along f i j x x' (negsuc m) l p a b = absurd (let g : ⊥ = cc in g)

back : (f i j x x' m : ℕ) → i < j → pos f +ℤ (pos i *ℤ negsuc m) ≡ pos x → pos f +ℤ (pos j *ℤ negsuc m) ≡ pos x' → x' < x
back f i j x x' m l a b = let h = mul_lt i j m l in omega (arith, ints, h, a, b)

level : (f i x : ℕ) → pos f +ℤ (pos i *ℤ pos zero) ≡ pos x → x ≡ f
level f i x a = omega (arith, ints, a)

forward : (m i j x y x' y' fy : ℕ) → i < j → x < 12 → x' < 12 → pos fy +ℤ (pos i *ℤ pos (suc m)) ≡ pos y → pos fy +ℤ (pos j *ℤ pos (suc m)) ≡ pos y' → 12 * y + x < 12 * y' + x'
forward m i j x y x' y' fy l p q a b = let h = along fy i j y y' (pos (suc m)) l refl a b in omega (arith, p, q, h)

later : (fx fy i j x y x' y' : ℕ) (dx dy : ℤ) → i < j → x < 12 → x' < 12 → y < 10 → y' < 10 → moves dx dy ≡ true → pos fx +ℤ (pos i *ℤ dx) ≡ pos x → pos fx +ℤ (pos j *ℤ dx) ≡ pos x' → pos fy +ℤ (pos i *ℤ dy) ≡ pos y → pos fy +ℤ (pos j *ℤ dy) ≡ pos y' → place (rises dx dy) (12 * y + x) < place (rises dx dy) (12 * y' + x')
later fx fy i j x y x' y' (pos zero) (pos zero) l p q r s m a b c d = absurd (let g : ⊥ = cc in g)
later fx fy i j x y x' y' (pos (suc n)) (pos zero) l p q r s m a b c d =
    let h = along fx i j x x' (pos (suc n)) l refl a b in let u = level fy i y c in let v = level fy j y' d in omega (arith, h, u, v)
later fx fy i j x y x' y' (negsuc n) (pos zero) l p q r s m a b c d =
    let h = back fx i j x x' n l a b in let u = level fy i y c in let v = level fy j y' d in omega (arith, h, u, v, p, r)
later fx fy i j x y x' y' dx (pos (suc n)) l p q r s m a b c d = forward n i j x y x' y' fy l p q c d
later fx fy i j x y x' y' dx (negsuc n) l p q r s m a b c d = let h = back fy i j y y' n l c d in omega (arith, h, p, q, r, s)

-- the square of more steps stands later
pub ordered : (ray : Ray) → IsRay ray → (i j a b : ℕ) → i < j → IsAt ray i a → IsAt ray j b → place (rises ray.dx ray.dy) a < place (rises ray.dx ray.dy) b
ordered ray ok i j a b l h k =
    rw (h.is, k.is) (later (ray.from.0 % 12) (ray.from.0 / 12) i j h.x h.y k.x k.y ray.dx ray.dy l h.file k.file h.rank k.rank ok.step h.across k.across h.up k.up)

-- ---- between two squares of a board every step has one

inside : (n y : ℕ) (i : ℤ) → i ≡ pos y → y < n → within n i ≡ Some y
inside n y i e l = ap (within n) e ∙ rw (lt-ltb y n l) refl

between : (n f i j k x x' : ℕ) (d : ℤ) → i < j → j < k → pos f +ℤ (pos i *ℤ d) ≡ pos x → x < n → pos f +ℤ (pos k *ℤ d) ≡ pos x' → x' < n → (y : ℕ) × (within n (pos f +ℤ (pos j *ℤ d)) ≡ Some y)
between n f i j k x x' (pos m) l p a b c d =
    let later : j * m ≤ k * m = mul-le-mul_right m (omega (arith, p)) in
    let low : f + j * m < n = omega (arith, ints, later, c, d) in
    let is : pos f +ℤ (pos j *ℤ pos m) ≡ pos (f + j * m) = omega (arith, ints) in
    (f + j * m, inside n (f + j * m) (pos f +ℤ (pos j *ℤ pos m)) is low)
between n f i j k x x' (negsuc m) l p a b c d =
    let earlier : i * suc m ≤ j * suc m = mul-le-mul_right (suc m) (omega (arith, l)) in
    let later : j * suc m ≤ k * suc m = mul-le-mul_right (suc m) (omega (arith, p)) in
    let low : f - j * suc m < n = omega (arith, ints, earlier, a, b) in
    let room : j * suc m ≤ f = omega (arith, ints, later, c) in
    let is : pos f +ℤ (pos j *ℤ negsuc m) ≡ pos (f - j * suc m) = omega (arith, ints, room) in
    (f - j * suc m, inside n (f - j * suc m) (pos f +ℤ (pos j *ℤ negsuc m)) is low)

-- a step between two steps on the board is on it
pub step_between : (ray : Ray) (i j k a b : ℕ) → i < j → j < k → step_to ray i ≡ Some a → step_to ray k ≡ Some b → (s : ℕ) × (step_to ray j ≡ Some s)
unfolding step_to
step_between ray i j k a b l p e f =
    let u = square_parts _ _ a e in
    let v = square_parts _ _ b f in
    let ux = within-is ray.board.files _ u.0 u.2 in
    let uy = within-is ray.board.ranks _ u.1 u.3 in
    let vx = within-is ray.board.files _ v.0 v.2 in
    let vy = within-is ray.board.ranks _ v.1 v.3 in
    let x = between ray.board.files (ray.from.0 % 12) i j k u.0 v.0 ray.dx l p ux.0 ux.1 vx.0 vx.1 in
    let y = between ray.board.ranks (ray.from.0 / 12) i j k u.1 v.1 ray.dy l p uy.0 uy.1 vy.0 vy.1 in
    (12 * y.0 + x.0, rw (x.1, y.1) refl)
