-- A move that gives no check does not mate.
use Rattle.std.proofs.Common.{◌≡◌, ℕ, Bool, true, false, ◌&&◌, if◌then◌else◌, Option, Some, None, refl, ap, sym, ◌∙◌}
use Rattle.rules_model.specs.declared.board.Repeat.{Repeat}
use Rattle.rules_model.specs.declared.board.Side.{Side}
use Rattle.rules_model.specs.declared.moves.Cause.{Cause}
use Rattle.rules_model.specs.declared.moves.Cause.TheVariants.{Flag, Checks, Extinction, Stalemate}
use Rattle.rules_model.specs.declared.moves.Move.{Move}
use Rattle.rules_model.specs.declared.moves.Outcome.{Outcome}
use Rattle.rules_model.specs.declared.moves.Outcome.TheVariants.{Ongoing, Won, Drawn}
use Rattle.rules_model.specs.declared.moves.Value.{Value}
use Rattle.rules_model.specs.declared.moves.Value.TheVariants.{Win, Loss, Draw}
use Rattle.rules_model.specs.declared.rules.Rules.{Rules}
use Rattle.rules_model.specs.Attacks.{king_attacked}
use Rattle.rules_model.specs.Ends.{checks_end, early_end, extinction_by, flag_end, has_flag, has_none_left, is_extinct, no_move, or_end, valued}
use Rattle.rules_model.specs.Legal.{gives_check, is_stuck, own_end}
use Rattle.rules_model.specs.Next.{next_repeat}
use Rattle.rules_model.specs.Sides.{other, same_side}
use Rattle.forced_wins.specs.Contests.{decided, within}
use Rattle.legality.specs.Stance.{Stance, repeat_in}
use Rattle.stipulation.specs.declared.task.Task.{Task}
use Rattle.stipulation.specs.Bare.{bare, reaches}
use Rattle.stipulation.specs.Stipulations.{is_checkmate, mated_by}

-- the outcome is by checkmate
abbrev mates : Outcome → Bool
mates Ongoing = false
mates (Won side cause) = is_checkmate cause
mates (Drawn cause) = false

right : (a b : Bool) → Some (a && b) ≡ Some true → b ≡ true
right true b e = cc
right false b e = cc

mated-mates : (w : Side) (o : Outcome) → mated_by w o ≡ Some true → mates o ≡ true
mated-mates w Ongoing e = cc
mated-mates w (Drawn cause) e = cc
mated-mates w (Won side cause) e = right (same_side side w) (is_checkmate cause) e

valued-mates : (v : Value) (side : Side) (cause : Cause) → is_checkmate cause ≡ false → mates (valued v side cause) ≡ false
valued-mates Win side cause e = e
valued-mates Loss side cause e = e
valued-mates Draw side cause e = refl

or-mates : (a b : Outcome) → mates a ≡ false → mates b ≡ false → mates (or_end a b) ≡ false
or-mates Ongoing b h k = k
or-mates (Won side cause) b h k = h
or-mates (Drawn cause) b h k = h

if-mates : (t : Bool) (a b : Outcome) → mates a ≡ false → mates b ≡ false → mates (if t then a else b) ≡ false
if-mates true a b h k = h
if-mates false a b h k = k

extinct-mates : (rules : Rules) (r : Repeat) (v : Option Value) → mates (extinction_by rules r v) ≡ false
extinct-mates rules r None = refl
extinct-mates rules r (Some value) =
    if-mates (is_extinct rules r (other r.side)) (valued value (other r.side) Extinction) (if is_extinct rules r r.side then valued value r.side Extinction else Ongoing)
    (valued-mates value (other r.side) Extinction refl)
    (if-mates (is_extinct rules r r.side) (valued value r.side Extinction) Ongoing (valued-mates value r.side Extinction refl) refl)

early-mates : (rules : Rules) (r : Repeat) → mates (early_end rules r) ≡ false
unfolding early_end
early-mates rules r =
    or-mates (or_end (flag_end rules r) (checks_end rules r)) (extinction_by rules r rules.extinction)
    (or-mates (flag_end rules r) (checks_end rules r)
    (if-mates (has_flag rules r.cells (other r.side)) (Won (other r.side) Flag) Ongoing refl refl)
    (if-mates (has_none_left rules r (other r.side)) (Won (other r.side) Checks) (if has_none_left rules r r.side then Won r.side Checks else Ongoing) refl
    (if-mates (has_none_left rules r r.side) (Won r.side Checks) Ongoing refl refl)))
    (extinct-mates rules r rules.extinction)

-- an end by the position itself, where the king of the side to move is not attacked
own-mates : (rules : Rules) (r : Repeat) → king_attacked rules r.cells r.side ≡ false → mates (own_end rules r) ≡ false
unfolding own_end
own-mates rules r quiet =
    or-mates (early_end rules r) _ (early-mates rules r)
    (if-mates (is_stuck rules r) (no_move rules r.side (king_attacked rules r.cells r.side)) Ongoing
    (ap (λ t. mates (no_move rules r.side t)) quiet ∙ valued-mates rules.stalemate r.side Stalemate refl) refl)

next-quiet : (rules : Rules) (r : Repeat) (m : Move) → gives_check rules r m ≡ false → king_attacked rules (next_repeat rules r m).cells (next_repeat rules r m).side ≡ false
unfolding gives_check next_repeat
next-quiet rules r m quiet = quiet

decided-none : (o : Option Bool) → (o ≡ Some true → ⊥) → decided o false ≡ false
decided-none None none = refl
decided-none (Some true) none = absurd (none refl)
decided-none (Some false) none = refl

-- nothing is reached by it as the last move
pub quiet-reaches : (t : Task) (r : Repeat) (m : Move) → gives_check t.game.now.rules r m ≡ false → reaches t 0 (next_repeat t.game.now.rules r m) ≡ false
unfolding reaches within
quiet-reaches t r m quiet =
    let rules = t.game.now.rules in
    let not = own-mates rules (next_repeat rules r m) (next-quiet rules r m quiet) in
    decided-none ((bare t).end (next_repeat rules r m)) (λ e. let mated = mated-mates _ (own_end rules (next_repeat rules r m)) e in cc)

pub quiet-move : (t : Task) (s : Stance) (plies : ℕ) (m : Move) (b : Bool) → s.rules ≡ t.game.now.rules → plies ≡ 0 → b ≡ gives_check s.rules (repeat_in s) m → b ≡ false → reaches t plies (next_repeat t.game.now.rules (repeat_in s) m) ≡ false
quiet-move t s plies m b e z h f =
    ap (λ k. reaches t k (next_repeat t.game.now.rules (repeat_in s) m)) z
    ∙ quiet-reaches t (repeat_in s) m (ap (λ (u : Rules). gives_check u (repeat_in s) m) (sym e) ∙ sym h ∙ f)
