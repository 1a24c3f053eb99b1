-- The en passant square after a double step of a sound position, in every variant that fits.
use Rattle.std.proofs.Common.{◌≡◌, ℕ, ◌+◌, ◌*◌, ◌/◌, ◌%◌, ◌<◌, ◌≤◌, Bool, true, false, if◌then◌else◌, Option, Some, None, ℤ, pos, negsuc, ◌+ℤ◌, ◌*ℤ◌, refl, ap, sym, ◌∙◌, subst, arith, nat_lt}
use Rattle.std.proofs.lemmas.Bool.Decides.{nat_tests}
use Rattle.std.proofs.lemmas.Int.{ints}
use Rattle.rules_model.specs.declared.board.BoardSize.{BoardSize}
use Rattle.rules_model.specs.declared.board.Side.{Side}
use Rattle.rules_model.specs.declared.board.Side.TheVariants.{White, Black}
use Rattle.rules_model.specs.declared.board.Square.{Square}
use Rattle.rules_model.specs.Squares.{square_of, step_to, turned, within}
use Rattle.rules_model.specs.Attacks.{ahead, pawn_ray}

-- ---- steps forward and back

inside_if : (n a k : ℕ) (b : Bool) → nat_lt a n ≡ b → (if b then Some a else None) ≡ Some k → (a ≡ k) × (k < n)
inside_if n a k true t e = let f : a ≡ k = cc in let l : a < n = grind (arith, nat_tests) in (f, omega (arith, l, f))
inside_if n a k false t e = cc

-- a number that lies on the board
inside : (n : ℕ) (z : ℤ) (k : ℕ) → within n z ≡ Some k → (z ≡ pos k) × (k < n)
inside n (pos a) k e = let h = inside_if n a k (nat_lt a n) refl e in (ap (λ j. pos j) h.0, h.1)
inside n (negsuc a) k e = cc

-- the file and the rank of a step
pub record IsStep (board : BoardSize) (x y : ℤ) (s : ℕ) : Type 0 where
  pub file : ℕ
  pub rank : ℕ
  pub file_is : x ≡ pos file
  pub rank_is : y ≡ pos rank
  pub file_below : file < board.files
  pub rank_below : rank < board.ranks
  pub square : s ≡ 12 * rank + file

square_is : (board : BoardSize) (x y : ℤ) (f r : Option ℕ) (s : ℕ) → within board.files x ≡ f → within board.ranks y ≡ r → square_of f r ≡ Some s → IsStep board x y s
square_is board x y None r s a b e = cc
square_is board x y (Some f) None s a b e = cc
square_is board x y (Some f) (Some r) s a b e =
    let h = inside board.files x f a in
    let k = inside board.ranks y r b in
    record { file = f; rank = r; file_is = h.0; rank_is = k.0; file_below = h.1; rank_below = k.1; square = cc }

up_one : (a g : ℕ) → (pos a +ℤ pos 1) ≡ pos g → g ≡ a + 1
up_one a g e = omega (arith, ints, e)

down_one : (a g : ℕ) → (pos a +ℤ negsuc 0) ≡ pos g → g + 1 ≡ a
down_one a g e = omega (arith, ints, e)

same_one : (a g : ℕ) → (pos a +ℤ pos 0) ≡ pos g → g ≡ a
same_one a g e = omega (arith, ints, e)

up_two : (a g : ℕ) → (pos a +ℤ pos 2) ≡ pos g → g ≡ a + 2
up_two a g e = omega (arith, ints, e)

down_two : (a g : ℕ) → (pos a +ℤ negsuc 1) ≡ pos g → g + 2 ≡ a
down_two a g e = omega (arith, ints, e)

-- so many ranks forward
abbrev pub advances : Side → ℕ → ℕ → ℕ → Type 0
advances White a b k = b ≡ a + k
advances Black a b k = b + k ≡ a

step_of : (board : BoardSize) (side : Side) (dx : ℤ) (from : Square) (k s : ℕ) → step_to (pawn_ray board side dx from) k ≡ Some s → IsStep board (pos (from.0 % 12) +ℤ (pos k *ℤ turned side dx)) (pos (from.0 / 12) +ℤ (pos k *ℤ turned side (pos 1))) s
unfolding step_to
step_of board side dx from k s e = square_is board _ _ _ _ s refl refl e

-- where a step leads
place_of : (board : BoardSize) (x y : ℤ) (s : ℕ) → board.files ≤ 12 → (h : IsStep board x y s) → (s % 12 ≡ h.file) × (s / 12 ≡ h.rank)
place_of board x y s few h =
    let square = h.square in
    let below = h.file_below in
    (omega (arith, square, few, below), omega (arith, square, few, below))

pub step_one : (board : BoardSize) (side : Side) (dx : ℤ) (from : Square) (s : ℕ) → board.files ≤ 12 → step_to (pawn_ray board side dx from) 1 ≡ Some s → advances side (from.0 / 12) (s / 12) 1
step_one board White dx from s few e =
    let h = step_of board White dx from 1 s e in
    let a = (place_of board _ _ s few h).1 in
    let b = up_one (from.0 / 12) h.rank h.rank_is in
    omega (arith, a, b)
step_one board Black dx from s few e =
    let h = step_of board Black dx from 1 s e in
    let a = (place_of board _ _ s few h).1 in
    let b = down_one (from.0 / 12) h.rank h.rank_is in
    omega (arith, a, b)

pub step_two : (board : BoardSize) (side : Side) (dx : ℤ) (from : Square) (s : ℕ) → board.files ≤ 12 → step_to (pawn_ray board side dx from) 2 ≡ Some s → advances side (from.0 / 12) (s / 12) 2
step_two board White dx from s few e =
    let h = step_of board White dx from 2 s e in
    let a = (place_of board _ _ s few h).1 in
    let b = up_two (from.0 / 12) h.rank h.rank_is in
    omega (arith, a, b)
step_two board Black dx from s few e =
    let h = step_of board Black dx from 2 s e in
    let a = (place_of board _ _ s few h).1 in
    let b = down_two (from.0 / 12) h.rank h.rank_is in
    omega (arith, a, b)

straight : (board : BoardSize) (a : ℕ) (y : ℤ) (s : ℕ) → board.files ≤ 12 → IsStep board (pos a +ℤ pos 0) y s → (s % 12 ≡ a) × (s / 12 < board.ranks)
straight board a y s few h =
    let place = place_of board _ _ s few h in
    let b = same_one a h.file h.file_is in
    let rank = h.rank_below in
    let c = place.1 in
    (place.0 ∙ b, omega (arith, c, rank))

-- straight forward one stays on the file
pub same_file_one : (board : BoardSize) (side : Side) (from : Square) (s : ℕ) → board.files ≤ 12 → ahead board side from 1 ≡ Some s → (s % 12 ≡ from.0 % 12) × (s / 12 < board.ranks)
same_file_one board White from s few e = straight board (from.0 % 12) _ s few (step_of board White (pos 0) from 1 s e)
same_file_one board Black from s few e = straight board (from.0 % 12) _ s few (step_of board Black (pos 0) from 1 s e)

pub same_file_two : (board : BoardSize) (side : Side) (from : Square) (s : ℕ) → board.files ≤ 12 → ahead board side from 2 ≡ Some s → (s % 12 ≡ from.0 % 12) × (s / 12 < board.ranks)
same_file_two board White from s few e = straight board (from.0 % 12) _ s few (step_of board White (pos 0) from 2 s e)
same_file_two board Black from s few e = straight board (from.0 % 12) _ s few (step_of board Black (pos 0) from 2 s e)

within-is : (n a : ℕ) (z : ℤ) → z ≡ pos a → a < n → within n z ≡ Some a
within-is n a z e l = subst (λ y. within n y ≡ Some a) (sym e) (let b : nat_lt a n ≡ true = grind (arith, nat_tests) in rw b)

square_there : (board : BoardSize) (x y : ℤ) (file rank : ℕ) → x ≡ pos file → y ≡ pos rank → file < board.files → rank < board.ranks → square_of (within board.files x) (within board.ranks y) ≡ Some (12 * rank + file)
square_there board x y file rank e f l k = rw (within-is board.files file x e l, within-is board.ranks rank y f k)

stay : (a b : ℕ) → b ≡ a → (pos a +ℤ pos 0) ≡ pos b
stay a b e = omega (arith, ints, e)

go_up : (a b : ℕ) → b ≡ a + 1 → (pos a +ℤ pos 1) ≡ pos b
go_up a b e = omega (arith, ints, e)

go_down : (a b : ℕ) → b + 1 ≡ a → (pos a +ℤ negsuc 0) ≡ pos b
go_down a b e = omega (arith, ints, e)

whole : (s : ℕ) → 12 * (s / 12) + s % 12 ≡ s
whole s = omega arith

-- one step forward, by file and rank
pub ahead_one : (board : BoardSize) (side : Side) (from : Square) (to : ℕ) → to % 12 ≡ from.0 % 12 → advances side (from.0 / 12) (to / 12) 1 → to % 12 < board.files → to / 12 < board.ranks → ahead board side from 1 ≡ Some to
unfolding step_to
ahead_one board White from to file rank l k =
    square_there board (pos (from.0 % 12) +ℤ pos 0) (pos (from.0 / 12) +ℤ pos 1) (to % 12) (to / 12) (stay _ _ file) (go_up _ _ rank) l k ∙ ap (λ s. Some s) (whole to)
ahead_one board Black from to file rank l k =
    square_there board (pos (from.0 % 12) +ℤ pos 0) (pos (from.0 / 12) +ℤ negsuc 0) (to % 12) (to / 12) (stay _ _ file) (go_down _ _ rank) l k ∙ ap (λ s. Some s) (whole to)
