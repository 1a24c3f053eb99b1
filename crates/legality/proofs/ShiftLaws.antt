-- Moves by a shift, of which it is told at once whether they are sane, and chosen.
use Rattle.std.proofs.Common.{◌≡◌, ℕ, ◌-◌, ◌<◌, Bool, true, false, ◌&&◌, ◌||◌, not, nat_le, ◌^◌, ◌⊎◌, inl, inr, None, refl, sym, ap, ◌∙◌, arith}
use Rattle.std.proofs.lemmas.Bool.{and_parts, not-true}
use Rattle.rules_model.specs.declared.board.Repeat.{Repeat}
use Rattle.rules_model.specs.declared.board.Square.{Square}
use Rattle.rules_model.specs.declared.moves.Move.{Move}
use Rattle.rules_model.specs.declared.moves.Move.TheVariants.{Go}
use Rattle.rules_model.specs.declared.moves.Promo.TheVariants.{Stays}
use Rattle.rules_model.specs.declared.rules.Rules.{Rules}
use Rattle.square_set.specs.declared.Set.{Set}
use Rattle.square_set.specs.declared.Shift.{Shift}
use Rattle.square_set.specs.declared.Shift.TheVariants.{Up, Down}
use Rattle.square_set.specs.Members.{has, HasOrigin, is_led, origin}
use Rattle.piece_moves.specs.InTurn.{GoesBy, target_of}
use Rattle.piece_moves.proofs.TakingLemmas.{all-join}
use Rattle.legality.specs.declared.move_filter.GenType.{GenType}
use Rattle.legality.specs.declared.count_sink.CountSink.{CountSink}
use Rattle.legality.specs.Choices.{chosen_by}
use Rattle.legality.specs.Counts.{CountsAll}
use Rattle.legality.specs.Sinks.{counter_is_sink}
use Rattle.legality.specs.Chosen.{AreTargetsBy, AreUnwantedBut, AreWantedTo, is_chosen}
use Rattle.legality.specs.Moved.{GoAtOnce, GoWithoutEvading, MayGoBy, MayNotGoBy}
use Rattle.legality.proofs.GoLaws.{chosen_is_sane, not_chosen}
use Rattle.legality.proofs.PinLaws.{not_safe_not_sane}
use Rattle.legality.proofs.WantedLaws.{not_wanted, unwanted_there}

pub led_is : (shift : Shift) (set : Set) (t : ℕ) → HasOrigin shift 120 t → is_led shift set t ≡ has set (origin shift t)
led_is (Up n) set t h =
    let l = h.0 in
    let e : nat_le n t ≡ true = grind arith in
    ap (λ b. b && has set (t - n)) e
led_is (Down n) set t h = refl

pub led_from : (shift : Shift) (set : Set) (t : ℕ) → is_led shift set t ≡ true → has set (origin shift t) ≡ true
led_from (Up n) set t e = (and_parts (nat_le n t) (has set (t - n)) e).1
led_from (Down n) set t e = e

pub below : (shift : Shift) (end t : ℕ) → HasOrigin shift end t → origin shift t < end
below (Up n) end t h = h.1
below (Down n) end t h = h

-- those of the targets that pieces of the one set reach, but those of the other
pub may_go_by : (rules : Rules) (r : Repeat) (shift : Shift) (leave barred targets led those : Set) → GoAtOnce rules r leave barred → ((t : ℕ) → t < 128 → has led t ≡ is_led shift leave t)
    → ((t : ℕ) → has targets t ≡ true → HasOrigin shift 120 t) → ((t : ℕ) → has those t ≡ ((has targets t && has led t) && not (has barred t))) → MayGoBy rules r shift those
may_go_by rules r shift leave barred targets led those freely are starts is to l member =
    let parts = and_parts (has targets to.0 && has led to.0) (not (has barred to.0)) (sym (is to.0) ∙ member) in
    let there = and_parts (has targets to.0) (has led to.0) parts.0 in
    freely (record { 0 = origin shift to.0 }) to (below shift 120 to.0 (starts to.0 there.0)) l
    (led_from shift leave to.0 (sym (are to.0 (omega (arith, l))) ∙ there.1)) (not-true (has barred to.0) parts.1)

pub may_not_go_by : (rules : Rules) (r : Repeat) (shift : Shift) (leave enter targets led those : Set) → GoWithoutEvading rules r leave enter → ((t : ℕ) → t < 128 → has led t ≡ is_led shift leave t)
    → ((t : ℕ) → has targets t ≡ true → HasOrigin shift 120 t) → ((t : ℕ) → has those t ≡ ((has targets t && has enter t) && has led t)) → MayNotGoBy rules r shift those
may_not_go_by rules r shift leave enter targets led those without_evading are starts is to l member =
    let parts = and_parts (has targets to.0 && has enter to.0) (has led to.0) (sym (is to.0) ∙ member) in
    let there = and_parts (has targets to.0) (has enter to.0) parts.0 in
    let from : Square = record { 0 = origin shift to.0 } in
    not_safe_not_sane rules r (Go from to Stays None)
    (without_evading from to Stays (below shift 120 to.0 (starts to.0 there.0)) l (led_from shift leave to.0 (sym (are to.0 (omega (arith, l))) ∙ parts.1)) there.1 refl)

-- those that are chosen, of those that are told
pub either_way : (a b u t : Bool) → (a ≡ true → t ≡ true) → (b ≡ true → t ≡ false) → (u ≡ true → t ≡ false) → a ≡ (((a || b) || u) && t)
either_way true b u t f g h = sym (f refl)
either_way false true u t f g h = sym (g refl)
either_way false false true t f g h = sym (h refl)
either_way false false false t f g h = refl

pub told_chosen : (rules : Rules) (r : Repeat) (gen_type : GenType) (shift : Shift) (targets wanted untold chosen barred unwanted told : Set) → ((s : ℕ) → has targets s ≡ true → s < 120)
    → ((s : ℕ) → has targets s ≡ true → HasOrigin shift 120 s) → ((s : ℕ) → has wanted s ≡ true → has targets s ≡ true) → AreWantedTo rules r gen_type wanted → AreUnwantedBut rules r gen_type targets wanted untold
    → ((s : ℕ) → has chosen s ≡ true → has wanted s ≡ true) → ((s : ℕ) → has barred s ≡ true → has wanted s ≡ true) → MayGoBy rules r shift chosen → MayNotGoBy rules r shift barred
    → ((s : ℕ) → has unwanted s ≡ ((has targets s && not (has wanted s)) && not (has untold s))) → ((s : ℕ) → has told s ≡ ((has chosen s || has barred s) || has unwanted s))
    → AreTargetsBy (is_chosen rules r gen_type) shift told chosen
told_chosen rules r gen_type shift targets wanted untold chosen barred unwanted told small starts within are others of_chosen of_barred may may_not left is to =
    let from : Square = record { 0 = origin shift to.0 } in
    let move : Move = Go from to Stays None in
    either_way (has chosen to.0) (has barred to.0) (has unwanted to.0) (is_chosen rules r gen_type move)
    (λ e. let t = of_chosen to.0 e in let k = within to.0 t in
    chosen_is_sane rules r gen_type from to (are from to None t) (below shift 120 to.0 (starts to.0 k)) (small to.0 k) ∙ may to (small to.0 k) e)
    (λ e. let t = within to.0 (of_barred to.0 e) in not_chosen rules r gen_type move (may_not to (small to.0 t) e))
    (λ e. not_wanted rules r gen_type move (unwanted_there rules r gen_type targets wanted untold unwanted others left from to None e))
    ∙ ap (λ b. b && is_chosen rules r gen_type move) (sym (is to.0))

pub of_first : (targets led barred both those : Set) → ((s : ℕ) → has both s ≡ (has targets s && has led s)) → ((s : ℕ) → has those s ≡ (has both s && not (has barred s)))
    → (s : ℕ) → has those s ≡ true → has targets s ≡ true
of_first targets led barred both those is are s e =
    (and_parts (has targets s) (has led s) (sym (is s) ∙ (and_parts (has both s) (not (has barred s)) (sym (are s) ∙ e)).0)).0

-- ---- those that are told and those that are left

apart : (a b c : Bool) → c ≡ (b && not a) → a ≡ true → c ≡ true → ⊥
apart true true c is e f = cc
apart true false c is e f = cc
apart false b c is e f = cc

one_of : (a b c : Bool) → c ≡ (b && not a) → b ≡ true → (a ≡ true) ⊎ (c ≡ true)
one_of true b c is e = inl refl
one_of false true c is e = inr is
one_of false false c is e = cc

left_of : (a b c : Bool) → c ≡ (b && not a) → c ≡ true → b ≡ true
left_of a true c is e = refl
left_of a false c is e = cc

-- they are all
module _ (shift : Shift) (targets told left : Set) (within : (s : ℕ) → has told s ≡ true → has targets s ≡ true) (is : (s : ℕ) → has left s ≡ (has targets s && not (has told s))) where
  pub left-within : (s : ℕ) → has left s ≡ true → has targets s ≡ true
  left-within s e = left_of (has told s) (has targets s) (has left s) (is s) e

  pub both_counted : (s t u : CountSink) → CountsAll (GoesBy shift told) s t → CountsAll (GoesBy shift left) t u → CountsAll (GoesBy shift targets) s u
  both_counted s t u a b =
      all-join (counter_is_sink (λ counter. counter.move_filter) (λ counter. counter.count) chosen_by (2 ^ 128 - 1)) (GoesBy shift told) (GoesBy shift left) (GoesBy shift targets) s t u a b
      (λ m h k. apart (has told (target_of m)) (has targets (target_of m)) (has left (target_of m)) (is (target_of m)) h.1 k.1)
      (λ m h. elim (one_of (has told (target_of m)) (has targets (target_of m)) (has left (target_of m)) (is (target_of m)) h.1) as (λ _. GoesBy shift told m ⊎ GoesBy shift left m) [ inl e ↦ inl (h.0, e) | inr e ↦ inr (h.0, e) ])
      (λ m h. elim h as (λ _. GoesBy shift targets m) [ inl k ↦ (k.0, within (target_of m) k.1) | inr k ↦ (k.0, left-within (target_of m) k.1) ])
