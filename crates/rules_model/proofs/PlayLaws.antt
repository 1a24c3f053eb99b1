-- What the layers above know of the next position and of ends, without unfolding a rule.
use Rattle.std.proofs.Common.{◌≡◌, ℕ, ◌+◌, ◌≤◌, Bool, true, false, not, if◌then◌else◌, List, [], ◌∷◌, refl, ap, sym, ◌∙◌, arith}
use Rattle.std.proofs.lemmas.Bool.Decides.{nat_tests}
use Rattle.foundation.specs.Tests.{is_nil}
use Rattle.rules_model.specs.declared.board.Position.{Position}
use Rattle.rules_model.specs.declared.board.Repeat.{Repeat}
use Rattle.rules_model.specs.declared.board.Side.{Side}
use Rattle.rules_model.specs.declared.moves.Cause.{Cause}
use Rattle.rules_model.specs.declared.moves.Move.{Move}
use Rattle.rules_model.specs.declared.moves.Outcome.{Outcome}
use Rattle.rules_model.specs.declared.moves.Outcome.TheVariants.{Ongoing, Won, Drawn}
use Rattle.rules_model.specs.declared.moves.Value.{Value}
use Rattle.rules_model.specs.declared.moves.Value.TheVariants.{Win, Loss, Draw}
use Rattle.rules_model.specs.declared.rules.Rules.{Rules}
use Rattle.rules_model.specs.Repeats.{repeat_of}
use Rattle.rules_model.specs.Sides.{other}
use Rattle.rules_model.specs.Ends.{is_ongoing, or_end, valued, early_end, no_move}
use Rattle.rules_model.specs.Next.{next_repeat, next_counter, next_number, next, resets, risen}
use Rattle.rules_model.specs.Legal.{legal, is_stuck, own_end}
use Rattle.rules_model.specs.Attacks.{king_attacked}

-- ---- the next position

-- its repeat is the next repeat
pub next-is : (rules : Rules) (p : Position) (m : Move) → repeat_of (next rules p m) ≡ next_repeat rules (repeat_of p) m
unfolding next
next-is rules p m = refl

-- every move, legal or not, gives the other side the move
pub next_repeat-side : (rules : Rules) (r : Repeat) (m : Move) → (next_repeat rules r m).side ≡ other r.side
unfolding next_repeat
next_repeat-side rules r m = refl

pub next-side : (rules : Rules) (p : Position) (m : Move) → (next rules p m).side ≡ other p.side
next-side rules p m = ap (λ (r : Repeat). r.side) (next-is rules p m) ∙ next_repeat-side rules (repeat_of p) m

pub next-counter : (rules : Rules) (p : Position) (m : Move) → (next rules p m).counter ≡ next_counter rules (repeat_of p) m p.counter
unfolding next
next-counter rules p m = refl

pub next-number : (rules : Rules) (p : Position) (m : Move) → (next rules p m).number ≡ next_number p.side p.number
unfolding next
next-number rules p m = refl

risen-mono : (c d : ℕ) → c ≤ d → risen c ≤ risen d
risen-mono c d h = grind (arith, nat_tests)

risen-up : (c : ℕ) → risen c ≤ c + 1
risen-up c = grind (arith, nat_tests)

count_from : (b : Bool) (c d : ℕ) → c ≤ d → (if b then 0 else risen c) ≤ (if b then 0 else risen d)
count_from true c d h = omega arith
count_from false c d h = risen-mono c d h

count_up : (b : Bool) (c : ℕ) → (if b then 0 else risen c) ≤ c + 1
count_up true c = omega arith
count_up false c = risen-up c

-- at one repeat and move it is monotone in the counter
pub next_counter-mono : (rules : Rules) (r : Repeat) (m : Move) (c d : ℕ) → c ≤ d → next_counter rules r m c ≤ next_counter rules r m d
next_counter-mono rules r m c d h = count_from (resets rules r m) c d h

-- and at most one more
pub next_counter-up : (rules : Rules) (r : Repeat) (m : Move) (c : ℕ) → next_counter rules r m c ≤ c + 1
next_counter-up rules r m c = count_up (resets rules r m) c

-- ---- ends

-- behind an early end no move is legal
pub legal-early : (rules : Rules) (r : Repeat) → is_ongoing (early_end rules r) ≡ false → legal rules r ≡ []
unfolding legal
legal-early rules r h = rw h

valued_ends : (v : Value) (side : Side) (cause : Cause) → is_ongoing (valued v side cause) ≡ false
valued_ends Win side cause = refl
valued_ends Loss side cause = refl
valued_ends Draw side cause = refl

no_move-ends : (rules : Rules) (side : Side) (b : Bool) → is_ongoing (no_move rules side b) ≡ false
no_move-ends rules side true = valued_ends rules.checkmate side _
no_move-ends rules side false = valued_ends rules.stalemate side _

by_end : (rules : Rules) (side : Side) (o : Outcome) (stuck b : Bool) → (is_ongoing o ≡ false → stuck ≡ true) → is_ongoing (or_end o (if stuck then no_move rules side b else Ongoing)) ≡ not stuck
by_end rules side Ongoing true b h = no_move-ends rules side b
by_end rules side Ongoing false b h = refl
by_end rules side (Won s c) stuck b h = let e = h refl in rw e
by_end rules side (Drawn c) stuck b h = let e = h refl in rw e

-- a position has an end by itself exactly where no move is legal
pub own_end-stuck : (rules : Rules) (r : Repeat) → is_ongoing (own_end rules r) ≡ not (is_stuck rules r)
unfolding own_end is_stuck
own_end-stuck rules r =
    by_end rules r.side (early_end rules r) (is_nil (legal rules r)) (king_attacked rules r.cells r.side) (λ h. ap is_nil (legal-early rules r h))

empty_list : (ms : List Move) → is_nil ms ≡ true → ms ≡ []
empty_list [] h = refl
empty_list (m ∷ ms) h = cc

-- behind an end by itself no move is legal
pub legal-ended : (rules : Rules) (r : Repeat) → is_ongoing (own_end rules r) ≡ false → legal rules r ≡ []
unfolding is_stuck
legal-ended rules r h = empty_list (legal rules r) (of_not (is_nil (legal rules r)) (sym (own_end-stuck rules r) ∙ h))
  where
    of_not : (b : Bool) → not b ≡ false → b ≡ true
    of_not true e = refl
    of_not false e = cc
