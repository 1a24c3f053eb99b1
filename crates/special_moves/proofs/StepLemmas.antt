-- The squares to which a pawn's steps lead are on the largest board, and differ from one another.
use Rattle.std.proofs.Common.{◌≡◌, ℕ, ◌+◌, ◌*◌, ◌/◌, ◌%◌, ◌<◌, ◌≤◌, nat_lt, Bool, true, false, if◌then◌else◌, Option, Some, None, ℤ, pos, negsuc, ◌+ℤ◌, ◌*ℤ◌, refl, sym, ◌∙◌, arith}
use Rattle.std.proofs.lemmas.Bool.Decides.{nat_tests}
use Rattle.std.proofs.lemmas.Int.{ints}
use Rattle.rules_model.specs.declared.board.BoardSize.{BoardSize}
use Rattle.rules_model.specs.declared.board.Side.{Side}
use Rattle.rules_model.specs.declared.board.Side.TheVariants.{White, Black}
use Rattle.rules_model.specs.declared.board.Square.{Square}
use Rattle.rules_model.specs.declared.reach.Ray.{Ray}
use Rattle.rules_model.specs.Attacks.{ahead, pawn_ray, right_ahead, left_ahead}
use Rattle.rules_model.specs.Reach.{IsOnBoard}
use Rattle.rules_model.specs.Squares.{within, square_of, step_to}

-- ---- where a step leads

within_if : (n a k : ℕ) (b : Bool) → nat_lt a n ≡ b → (if b then Some a else None) ≡ Some k → (k < n) × (pos k ≡ pos a)
within_if n a k true t e = let f : a ≡ k = cc in let l : a < n = grind (arith, nat_tests) in (omega (arith, l, f), λ i. pos (sym f i))
within_if n a k false t e = cc

within_some : (n : ℕ) (z : ℤ) (k : ℕ) → within n z ≡ Some k → (k < n) × (pos k ≡ z)
within_some n (pos a) k e = within_if n a k (nat_lt a n) refl e
within_some n (negsuc a) k e = cc

-- the file and the rank of the square k steps along a ray
pub record IsStepped (ray : Ray) (k s : ℕ) : Type 0 where
  pub file_below : s % 12 < ray.board.files
  pub rank_below : s / 12 < ray.board.ranks
  pub file : pos (s % 12) ≡ pos (ray.from.0 % 12) +ℤ (pos k *ℤ ray.dx)
  pub rank : pos (s / 12) ≡ pos (ray.from.0 / 12) +ℤ (pos k *ℤ ray.dy)

square_in : (ray : Ray) (k s : ℕ) (x y : ℤ) (f r : Option ℕ) → ray.board.files ≤ 12 → x ≡ pos (ray.from.0 % 12) +ℤ (pos k *ℤ ray.dx) → y ≡ pos (ray.from.0 / 12) +ℤ (pos k *ℤ ray.dy) → within ray.board.files x ≡ f → within ray.board.ranks y ≡ r → square_of f r ≡ Some s → IsStepped ray k s
square_in ray k s x y None r h p q e g a = cc
square_in ray k s x y (Some f) None h p q e g a = cc
square_in ray k s x y (Some f) (Some r) h p q e g a =
    let i = within_some ray.board.files x f e in
    let j = within_some ray.board.ranks y r g in
    let b : 12 * r + f ≡ s = cc in
    let l = i.0 in
    let m = j.0 in
    let u : s % 12 ≡ f = omega (arith, l, h, b) in
    let v : s / 12 ≡ r = omega (arith, l, h, b) in
    record {
      file_below = omega (arith, l, u);
      rank_below = omega (arith, m, v);
      file = (λ n. pos (u n)) ∙ i.1 ∙ p;
      rank = (λ n. pos (v n)) ∙ j.1 ∙ q;
    }

pub stepped : (ray : Ray) (k s : ℕ) → IsOnBoard ray.board → step_to ray k ≡ Some s → IsStepped ray k s
unfolding step_to
stepped ray k s h e = square_in ray k s _ _ _ _ h.files refl refl refl refl e

pub step_below : (ray : Ray) (k s : ℕ) → IsOnBoard ray.board → step_to ray k ≡ Some s → s < 120
step_below ray k s h e =
    let w = stepped ray k s h e in
    let f = h.files in
    let r = h.ranks in
    omega (arith, w.file_below, w.rank_below, f, r)

-- ---- the targets differ

-- no square is both
abbrev pub Differ : Option ℕ → Option ℕ → Type 0
Differ a b = (s : ℕ) → a ≡ Some s → b ≡ Some s → ⊥

module _ (board : BoardSize) (from : Square) (fit : IsOnBoard board) where
  ranks_differ : (side : Side) (dx dz : ℤ) (s : ℕ) → IsStepped (pawn_ray board side dx from) 1 s → IsStepped (pawn_ray board side dz from) 2 s → ⊥
  ranks_differ White dx dz s u v = let a = u.rank in let b = v.rank in omega (arith, ints, a, b)
  ranks_differ Black dx dz s u v = let a = u.rank in let b = v.rank in omega (arith, ints, a, b)

  pub one_two : (side : Side) (dx dz : ℤ) → Differ (step_to (pawn_ray board side dx from) 1) (step_to (pawn_ray board side dz from) 2)
  one_two side dx dz s e f =
      ranks_differ side dx dz s (stepped (pawn_ray board side dx from) 1 s fit e) (stepped (pawn_ray board side dz from) 2 s fit f)

  files_differ : (side : Side) (s : ℕ) → IsStepped (pawn_ray board side (pos 0) from) 1 s → IsStepped (pawn_ray board side (pos 1) from) 1 s → ⊥
  files_differ White s u v = let a = u.file in let b = v.file in omega (arith, ints, a, b)
  files_differ Black s u v = let a = u.file in let b = v.file in omega (arith, ints, a, b)

  pub one_right : (side : Side) → Differ (ahead board side from 1) (right_ahead board side from)
  one_right side s e f =
      files_differ side s (stepped (pawn_ray board side (pos 0) from) 1 s fit e) (stepped (pawn_ray board side (pos 1) from) 1 s fit f)

  files_differ_left : (side : Side) (s : ℕ) → IsStepped (pawn_ray board side (pos 0) from) 1 s → IsStepped (pawn_ray board side (negsuc 0) from) 1 s → ⊥
  files_differ_left White s u v = let a = u.file in let b = v.file in omega (arith, ints, a, b)
  files_differ_left Black s u v = let a = u.file in let b = v.file in omega (arith, ints, a, b)

  pub one_left : (side : Side) → Differ (ahead board side from 1) (left_ahead board side from)
  one_left side s e f =
      files_differ_left side s (stepped (pawn_ray board side (pos 0) from) 1 s fit e) (stepped (pawn_ray board side (negsuc 0) from) 1 s fit f)

  files_differ_aside : (side : Side) (s : ℕ) → IsStepped (pawn_ray board side (pos 1) from) 1 s → IsStepped (pawn_ray board side (negsuc 0) from) 1 s → ⊥
  files_differ_aside White s u v = let a = u.file in let b = v.file in omega (arith, ints, a, b)
  files_differ_aside Black s u v = let a = u.file in let b = v.file in omega (arith, ints, a, b)

  pub right_left : (side : Side) → Differ (right_ahead board side from) (left_ahead board side from)
  right_left side s e f =
      files_differ_aside side s (stepped (pawn_ray board side (pos 1) from) 1 s fit e) (stepped (pawn_ray board side (negsuc 0) from) 1 s fit f)
