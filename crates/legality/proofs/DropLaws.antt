-- Drops, of which it is told at once whether they are sane, and chosen.
use Rattle.std.proofs.Common.{◌≡◌, ℕ, ◌+◌, ◌-◌, ◌<◌, ◌^◌, min, Bool, true, false, ◌&&◌, ◌||◌, not, refl, sym, ap, ◌∙◌, arith}
use Rattle.std.proofs.lemmas.Bool.{and_parts, lt-ltb}
use Rattle.std.proofs.Math.Bool.{and-false, or-false}
use Rattle.foundation.proofs.Members.{lists-same}
use Rattle.rules_model.specs.declared.board.Kind.{Kind}
use Rattle.rules_model.specs.declared.board.Repeat.{Repeat}
use Rattle.rules_model.specs.declared.board.Square.{Square}
use Rattle.rules_model.specs.declared.moves.Move.{Move}
use Rattle.rules_model.specs.declared.moves.Move.TheVariants.{Drop}
use Rattle.rules_model.specs.declared.rules.Rules.{Rules}
use Rattle.rules_model.specs.Kinds.{is_king}
use Rattle.rules_model.specs.Legal.{is_sane}
use Rattle.square_set.specs.declared.Set.{Set}
use Rattle.square_set.specs.Members.{has, size}
use Rattle.square_set.proofs.CoverLaws.{has-zero}
use Rattle.piece_moves.specs.InTurn.{DropsOf, Outside, target_of}
use Rattle.legality.specs.declared.move_filter.GenType.{GenType}
use Rattle.legality.specs.declared.count_sink.CountSink.{CountSink}
use Rattle.legality.specs.Choices.{chosen_by}
use Rattle.legality.specs.Chosen.{AreTargetsOfDrops, is_chosen, is_fit_move, is_in, is_wanted}
use Rattle.legality.specs.Counts.{CountsAll}
use Rattle.legality.specs.Moved.{DropFreely, DropWithoutEvading, MayDrop, MayNotDrop, asks_only_safety_of_drops}
use Rattle.legality.proofs.AllMade.{made-lists, made_below}
use Rattle.legality.proofs.GoLaws.{counted_those, not_chosen}
use Rattle.legality.proofs.PinLaws.{not_safe_not_sane, plain_sane}
use Rattle.legality.proofs.ShiftLaws.{either_way}
use Rattle.legality.proofs.WantedLaws.{not_wanted}

-- ---- whether they are sane

no_more : (bad checking drops : Bool) → ((not bad && checking) && drops) ≡ true → (bad || not (checking && (drops || false))) ≡ false
no_more true checking drops e = cc
no_more false false drops e = cc
no_more false true false e = cc
no_more false true true e = refl

-- those of the targets that are free to enter, for a piece other than a king
pub may_drop : (rules : Rules) (r : Repeat) (kind : Kind) (enter targets those : Set) → asks_only_safety_of_drops rules ≡ true → is_king rules kind ≡ false → DropFreely rules r enter → ((s : ℕ) → has those s ≡ (has targets s && has enter s)) → MayDrop rules r kind those
may_drop rules r kind enter targets those only mere freely is to l member =
    plain_sane rules r (Drop kind to) (no_more rules.immobile_bad rules.checking rules.drop_checks only)
    ∙ freely kind to l (and_parts (has targets to.0) (has enter to.0) (sym (is to.0) ∙ member)).1 mere

pub may_not_drop : (rules : Rules) (r : Repeat) (kind : Kind) (enter targets those : Set) → is_king rules kind ≡ false → DropWithoutEvading rules r enter → ((s : ℕ) → has those s ≡ (has targets s && has enter s)) → MayNotDrop rules r kind those
may_not_drop rules r kind enter targets those mere without_evading is to l member =
    not_safe_not_sane rules r (Drop kind to) (without_evading kind to l (and_parts (has targets to.0) (has enter to.0) (sym (is to.0) ∙ member)).1 mere)

-- ---- whether they are chosen

fit_drop : (kind : Kind) (to : Square) → kind.0 < 26 → to.0 < 120 → is_fit_move (Drop kind to) ≡ true
unfolding is_fit_move
fit_drop kind to k l = rw (lt-ltb kind.0 26 k, lt-ltb to.0 120 l) refl

-- where moves are wanted that do not capture, a drop is chosen if it is sane
drop_chosen : (rules : Rules) (r : Repeat) (gen_type : GenType) (kind : Kind) (to : Square) → is_in gen_type false ≡ true → kind.0 < 26 → to.0 < 120 → is_chosen rules r gen_type (Drop kind to) ≡ is_sane rules r (Drop kind to)
unfolding is_chosen
drop_chosen rules r gen_type kind to wanted k l =
    let move : Move = Drop kind to in
    ap (λ b. b && (is_wanted rules r gen_type move && is_sane rules r move)) (fit_drop kind to k l)
    ∙ ap (λ b. b && is_sane rules r move) wanted

module _ (rules : Rules) (r : Repeat) (gen_type : GenType) (kind : Kind) where
  pub drops_told : (targets chosen barred told : Set) → is_in gen_type false ≡ true → kind.0 < 26 → ((s : ℕ) → has targets s ≡ true → s < 120)
      → ((s : ℕ) → has chosen s ≡ true → has targets s ≡ true) → ((s : ℕ) → has barred s ≡ true → has targets s ≡ true) → MayDrop rules r kind chosen → MayNotDrop rules r kind barred
      → ((s : ℕ) → has told s ≡ (has chosen s || has barred s)) → AreTargetsOfDrops (is_chosen rules r gen_type) kind told chosen
  drops_told targets chosen barred told wanted k small of_chosen of_barred may may_not is to =
      let move : Move = Drop kind to in
      either_way (has chosen to.0) (has barred to.0) false (is_chosen rules r gen_type move)
      (λ e. let l = small to.0 (of_chosen to.0 e) in drop_chosen rules r gen_type kind to wanted k l ∙ may to l e)
      (λ e. not_chosen rules r gen_type move (may_not to (small to.0 (of_barred to.0 e)) e))
      (λ e. cc)
      ∙ ap (λ b. b && is_chosen rules r gen_type move) (or-false (has chosen to.0 || has barred to.0) ∙ sym (is to.0))

  -- where no move is wanted that does not capture, no drop is
  pub no_drop_told : (targets : Set) → is_in gen_type false ≡ false → AreTargetsOfDrops (is_chosen rules r gen_type) kind targets (record { 0 = 0 })
  no_drop_told targets unwanted to =
      let move : Move = Drop kind to in
      has-zero (record { 0 = 0 }) refl to.0
      ∙ sym (ap (λ b. has targets to.0 && b) (not_wanted rules r gen_type move unwanted) ∙ and-false (has targets to.0))

-- ---- how many of them are chosen

told_unless_left : (a t l : Bool) → l ≡ (a && not t) → a ≡ true → l ≡ false → t ≡ true
told_unless_left a true l is e f = refl
told_unless_left true false l is e f = cc
told_unless_left false false l is e f = cc

not_left : (a t l : Bool) → l ≡ (a && not t) → t ≡ true → l ≡ false
not_left true true l is e = is
not_left false true l is e = is
not_left a false l is e = cc

-- before the first that is left, those were taken of which it is told whether they are chosen, and those that are were
-- counted
pub told_counted : (kind : Kind) (targets told chosen left : Set) (more : ℕ) (s t : CountSink) → ((k : ℕ) → has targets k ≡ true → k < 120) → ((k : ℕ) → has told k ≡ true → has targets k ≡ true) → AreTargetsOfDrops (chosen_by s.move_filter) kind told chosen
    → ((k : ℕ) → has left k ≡ (has targets k && not (has told k))) → more ≡ size chosen → t.move_filter ≡ s.move_filter → t.count ≡ min (s.count + more) (2 ^ 128 - 1) → CountsAll (Outside (DropsOf kind targets) target_of left) s t
told_counted kind targets told chosen left more s t small within are is many same counted = record {
  moves = made_below (Drop kind) told 128;
  taken = (same, λ l. counted_those (chosen_by s.move_filter) (Drop kind) told chosen (2 ^ 128 - 1) s.count more t.count many are counted);
  each = lists-same (DropsOf kind told) (Outside (DropsOf kind targets) target_of left) (made_below (Drop kind) told 128)
      (made-lists (Drop kind) told (λ to. refl) (λ k e. let l = small k (within k e) in omega (arith, l)))
      (λ m h. ((h.0, within (target_of m) h.1), not_left (has targets (target_of m)) (has told (target_of m)) (has left (target_of m)) (is (target_of m)) h.1))
      (λ m h. (h.0.0, told_unless_left (has targets (target_of m)) (has told (target_of m)) (has left (target_of m)) (is (target_of m)) h.0.1 h.1));
}
