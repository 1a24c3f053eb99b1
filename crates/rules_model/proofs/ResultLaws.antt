-- Games move by move, what they count, and their results.
use Rattle.std.proofs.Common.{◌≡◌, ℕ, ◌+◌, ◌*◌, ◌<◌, ◌≤◌, ◌==◌, nat_le, Bool, true, false, not, ◌&&◌, cond, if◌then◌else◌, inl, inr, List, [], ◌∷◌, refl, ap, sym, ◌∙◌, arith}
use Rattle.std.proofs.lemmas.Bool.{and_from, and_parts, or_cases, or_left, or_right}
use Rattle.std.specs.Bool.{Decides}
use Rattle.std.specs.List.{list_any}
use Rattle.std.proofs.lemmas.Bool.Decides.{nat_tests}
use Rattle.std.proofs.lemmas.List.Sums.{sum_by-cons}
use Rattle.foundation.specs.Member.{Member}
use Rattle.foundation.specs.Tests.{is_nil}
use Rattle.rules_model.specs.declared.board.Position.{Position}
use Rattle.rules_model.specs.declared.board.Repeat.{Repeat}
use Rattle.rules_model.specs.declared.moves.Cause.TheVariants.{Checkmate, Stalemate, Repetition, MoveCount}
use Rattle.rules_model.specs.declared.moves.Move.{Move}
use Rattle.rules_model.specs.declared.moves.Outcome.{Outcome}
use Rattle.rules_model.specs.declared.moves.Outcome.TheVariants.{Ongoing, Won, Drawn}
use Rattle.rules_model.specs.declared.rules.Rules.{Rules}
use Rattle.rules_model.specs.Repeats.{repeat_of}
use Rattle.rules_model.specs.Moves.{same_move}
use Rattle.rules_model.specs.Attacks.{king_attacked}
use Rattle.rules_model.specs.Next.{next}
use Rattle.rules_model.specs.Ends.{is_ongoing, or_end, valued, early_end, no_move}
use Rattle.rules_model.specs.Legal.{legal, is_stuck, own_end}
use Rattle.rules_model.specs.Games.{same_repeat, times, are_legal, Story, history, played, story_from, is_repeated, is_run_out, result}
use Rattle.rules_model.proofs.EqualLaws.{repeat-decides, move-decides}
use Rattle.rules_model.proofs.PlayLaws.{legal-early, own_end-stuck}

-- ---- games move by move

pub story_from-none : (rules : Rules) (g : Story) → story_from rules g [] ≡ g
unfolding story_from
story_from-none rules g = refl

pub story_from-more : (rules : Rules) (g : Story) (m : Move) (ms : List Move) → story_from rules g (m ∷ ms) ≡ story_from rules (played rules g m) ms
unfolding story_from
story_from-more rules g m ms = refl

tested-member : (m : Move) (ms : List Move) → list_any (same_move m) ms ≡ true → Member m ms
tested-member m [] h = cc
tested-member m (n ∷ ms) h = elim (or_cases (same_move m n) (list_any (same_move m) ms) h) as (λ _. Member m (n ∷ ms)) [ inl e ↦ inl (sym ((move-decides m n).0 e)) | inr k ↦ inr (tested-member m ms k) ]

member-tested : (m : Move) (ms : List Move) → Member m ms → list_any (same_move m) ms ≡ true
member-tested m [] k = absurd k
member-tested m (n ∷ ms) (inl e) = or_left _ _ ((move-decides m n).1 (sym e))
member-tested m (n ∷ ms) (inr k) = or_right (same_move m n) _ (member-tested m ms k)

pub are_legal-none : (rules : Rules) (p : Position) → are_legal rules p [] ≡ true
unfolding are_legal
are_legal-none rules p = refl

pub are_legal-more : (rules : Rules) (p : Position) (m : Move) (ms : List Move) → Decides (are_legal rules p (m ∷ ms)) (Member m (legal rules (repeat_of p)) × (are_legal rules (next rules p m) ms ≡ true))
unfolding are_legal
are_legal-more rules p m ms = (
  λ h. let k = and_parts _ _ h in (tested-member m (legal rules (repeat_of p)) k.0, k.1),
  λ h. and_from _ _ (member-tested m (legal rules (repeat_of p)) h.0) h.1,
)

-- ---- what is counted

pub times-none : (r : Repeat) → times r [] ≡ 0
unfolding times
times-none r = refl

times-test : (r : Repeat) (p : Position) (ps : List Position) (b : Bool) → same_repeat (repeat_of p) r ≡ b → times r (p ∷ ps) ≡ times r ps + cond b 1 0
unfolding times
times-test r p ps b e =
    let h = sum_by-cons (λ q. cond (same_repeat (repeat_of q) r) 1 0) p ps in
    let c : ◌≡◌ {A = ℕ} (cond (same_repeat (repeat_of p) r) 1 0) (cond b 1 0) = ap (λ t. cond t 1 0) e in omega arith

pub times-here : (r : Repeat) (p : Position) (ps : List Position) → repeat_of p ≡ r → times r (p ∷ ps) ≡ times r ps + 1
times-here r p ps e = times-test r p ps true ((repeat-decides (repeat_of p) r).1 e)

not_true : (b : Bool) → (b ≡ true → ⊥) → b ≡ false
not_true true h = absurd (h refl)
not_true false h = refl

pub times-elsewhere : (r : Repeat) (p : Position) (ps : List Position) → (repeat_of p ≡ r → ⊥) → times r (p ∷ ps) ≡ times r ps
times-elsewhere r p ps n =
    let h = times-test r p ps false (not_true (same_repeat (repeat_of p) r) (λ e. n ((repeat-decides (repeat_of p) r).0 e))) in omega arith

-- a rule by a number that is off at 0
counted : (n c m : ℕ) → (not (n == 0) && nat_le c m) ≡ true → (0 < n) × (c ≤ m)
counted n c m h = (on n c m h, reached n c m h)
  where
    on : (n c m : ℕ) → (not (n == 0) && nat_le c m) ≡ true → 0 < n
    on n c m h = grind (arith, nat_tests)

    reached : (n c m : ℕ) → (not (n == 0) && nat_le c m) ≡ true → c ≤ m
    reached n c m h = grind (arith, nat_tests)

counts : (n c m : ℕ) → 0 < n → c ≤ m → (not (n == 0) && nat_le c m) ≡ true
counts n c m h k = grind (arith, nat_tests)

pub is_repeated-decides : (rules : Rules) (g : Story) → Decides (is_repeated rules g) ((0 < rules.n_fold) × (rules.n_fold ≤ times (repeat_of g.last) (history g)))
unfolding is_repeated
is_repeated-decides rules g = (counted _ _ _, λ h. counts _ _ _ h.0 h.1)

pub is_run_out-decides : (rules : Rules) (c : ℕ) → Decides (is_run_out rules c) ((0 < rules.n_move) × (2 * rules.n_move ≤ c))
unfolding is_run_out
is_run_out-decides rules c = (counted _ _ _, λ h. counts _ _ _ h.0 h.1)

-- ---- an end by the position itself

first_end : (o p : Outcome) → is_ongoing o ≡ false → or_end o p ≡ o
first_end Ongoing p h = cc
first_end (Won s c) p h = refl
first_end (Drawn c) p h = refl

then_end : (o p : Outcome) → is_ongoing o ≡ true → or_end o p ≡ p
then_end Ongoing p h = refl
then_end (Won s c) p h = cc
then_end (Drawn c) p h = cc

-- where some move is legal there is no early end
early_end-none : (rules : Rules) (r : Repeat) → is_stuck rules r ≡ false → is_ongoing (early_end rules r) ≡ true
unfolding is_stuck
early_end-none rules r h = or_stuck (is_ongoing (early_end rules r)) (is_nil (legal rules r)) (λ e. ap is_nil (legal-early rules r e)) h
  where
    or_stuck : (b c : Bool) → (b ≡ false → c ≡ true) → c ≡ false → b ≡ true
    or_stuck true c f h = refl
    or_stuck false c f h = sym h ∙ f refl

pub own_end-early : (rules : Rules) (r : Repeat) → is_ongoing (early_end rules r) ≡ false → own_end rules r ≡ early_end rules r
unfolding own_end
own_end-early rules r h = first_end _ _ h

no_move_end : (rules : Rules) (r : Repeat) → is_ongoing (early_end rules r) ≡ true → is_stuck rules r ≡ true → own_end rules r ≡ no_move rules r.side (king_attacked rules r.cells r.side)
unfolding own_end
no_move_end rules r h k = then_end _ _ h ∙ rw k

pub own_end-checkmate : (rules : Rules) (r : Repeat) → is_ongoing (early_end rules r) ≡ true → is_stuck rules r ≡ true → king_attacked rules r.cells r.side ≡ true → own_end rules r ≡ valued rules.checkmate r.side Checkmate
own_end-checkmate rules r h k a = no_move_end rules r h k ∙ rw a

pub own_end-stalemate : (rules : Rules) (r : Repeat) → is_ongoing (early_end rules r) ≡ true → is_stuck rules r ≡ true → king_attacked rules r.cells r.side ≡ false → own_end rules r ≡ valued rules.stalemate r.side Stalemate
own_end-stalemate rules r h k a = no_move_end rules r h k ∙ rw a

pub own_end-none : (rules : Rules) (r : Repeat) → is_stuck rules r ≡ false → own_end rules r ≡ Ongoing
unfolding own_end
own_end-none rules r h = then_end _ _ (early_end-none rules r h) ∙ rw h

-- ---- results

-- where no move is legal, the last position says it
pub result-own : (rules : Rules) (g : Story) → is_stuck rules (repeat_of g.last) ≡ true → result rules g ≡ own_end rules (repeat_of g.last)
unfolding result
result-own rules g h = first_end _ _ (own_end-stuck rules (repeat_of g.last) ∙ ap not h)

early-stuck : (rules : Rules) (r : Repeat) → is_ongoing (early_end rules r) ≡ false → is_stuck rules r ≡ true
unfolding is_stuck
early-stuck rules r h = ap is_nil (legal-early rules r h)

pub result-early : (rules : Rules) (g : Story) → is_ongoing (early_end rules (repeat_of g.last)) ≡ false → result rules g ≡ early_end rules (repeat_of g.last)
result-early rules g h = result-own rules g (early-stuck rules (repeat_of g.last) h) ∙ own_end-early rules (repeat_of g.last) h

pub result-checkmate : (rules : Rules) (g : Story) → is_ongoing (early_end rules (repeat_of g.last)) ≡ true → is_stuck rules (repeat_of g.last) ≡ true → king_attacked rules g.last.cells g.last.side ≡ true → result rules g ≡ valued rules.checkmate g.last.side Checkmate
result-checkmate rules g h k a = result-own rules g k ∙ own_end-checkmate rules (repeat_of g.last) h k a

pub result-stalemate : (rules : Rules) (g : Story) → is_ongoing (early_end rules (repeat_of g.last)) ≡ true → is_stuck rules (repeat_of g.last) ≡ true → king_attacked rules g.last.cells g.last.side ≡ false → result rules g ≡ valued rules.stalemate g.last.side Stalemate
result-stalemate rules g h k a = result-own rules g k ∙ own_end-stalemate rules (repeat_of g.last) h k a

counted_end : (rules : Rules) (g : Story) → is_stuck rules (repeat_of g.last) ≡ false → result rules g ≡ (if is_repeated rules g then valued rules.n_fold_value g.last.side Repetition else if is_run_out rules g.last.counter then Drawn MoveCount else Ongoing)
unfolding result
counted_end rules g h = then_end _ _ (ap is_ongoing (own_end-none rules (repeat_of g.last) h))

pub result-repeated : (rules : Rules) (g : Story) → is_stuck rules (repeat_of g.last) ≡ false → is_repeated rules g ≡ true → result rules g ≡ valued rules.n_fold_value g.last.side Repetition
result-repeated rules g h e = counted_end rules g h ∙ rw e

pub result-run_out : (rules : Rules) (g : Story) → is_stuck rules (repeat_of g.last) ≡ false → is_repeated rules g ≡ false → is_run_out rules g.last.counter ≡ true → result rules g ≡ Drawn MoveCount
result-run_out rules g h e f = counted_end rules g h ∙ rw (e, f)

pub result-ongoing : (rules : Rules) (g : Story) → is_stuck rules (repeat_of g.last) ≡ false → is_repeated rules g ≡ false → is_run_out rules g.last.counter ≡ false → result rules g ≡ Ongoing
result-ongoing rules g h e f = counted_end rules g h ∙ rw (e, f)
