-- The tables of piece values, and the kinds that no table has.
use Rattle.std.proofs.Common.{◌≡◌, ◌⊎◌, inl, inr, ℕ, ◌+◌, ◌<◌, ◌≤◌, Bool, true, false, ◌==◌, Option, Some, None, List, length, refl, ◌∙◌, ap, arith, if◌then◌else◌}
use Rattle.std.specs.Prelude.{is_some, slice_index, slice_set}
use Rattle.std.proofs.lemmas.Bool.{cases_eq, cases_lt, ne_eqb}
use Rattle.std.proofs.lemmas.List.{get_or-set_same, get_or-set_other, length-set}
use Rattle.std.proofs.lemmas.Option.{slice_get_past}
use Rattle.rules_model.specs.declared.board.Kind.{Kind}
use Rattle.rules_model.specs.declared.rules.Rules.{Rules}
use Rattle.rules_model.specs.Fit.{IsFit, is_there}
use Rattle.rules_model.specs.Kinds.{kind_rule, names, rule_of}
use Rattle.evaluation.specs.Evaluation.{kind_worth, square_worth, worth_on}
use Rattle.evaluation.specs.PieceValues.{AreFew, AreKindWorths, AreSquareWorths, AreWorths}

-- ---- kinds that are no letters

no_rule : (rules : Rules) (kind : Kind) → length rules.kinds ≡ 26 → 26 ≤ kind.0 → kind_rule rules kind ≡ None
no_rule rules kind size l = ap rule_of (slice_get_past rules.kinds kind.0 (omega (arith, size, l)))

-- a kind that is named is a letter
not_named : (rules : Rules) (named : Option Kind) (kind : Kind) → length rules.kinds ≡ 26
    → is_there rules named ≡ true → 26 ≤ kind.0 → names named kind ≡ false
not_named rules None kind size there l = refl
not_named rules (Some k) kind size there l = by_equal (cases_eq k.0 kind.0)
  where
    absent : (b : Bool) → b ≡ false → b ≡ true → ⊥
    absent true e h = cc
    absent false e h = cc

    by_equal : (k.0 ≡ kind.0) ⊎ (k.0 ≡ kind.0 → ⊥) → (k.0 == kind.0) ≡ false
    by_equal (inl e) = absurd (absent (is_some (kind_rule rules k)) (ap is_some (no_rule rules k size (omega (arith, e, l)))) there)
    by_equal (inr other) = ne_eqb k.0 kind.0 other

pub kind_beyond : (rules : Rules) (kind : Kind) → IsFit rules → 26 ≤ kind.0 → kind_worth rules kind ≡ 20
unfolding kind_worth
kind_beyond rules kind fit l =
    rw (not_named rules rules.king kind fit.letters fit.king l, not_named rules rules.pawn kind fit.letters fit.pawn l, no_rule rules kind fit.letters l) refl

-- ---- tables that are filled

pub kinds_none : (rules : Rules) (kinds : List ℕ) → length kinds ≡ 26 → AreKindWorths rules kinds 0
kinds_none rules kinds size = record { size = size; each = λ k l. absurd (omega (arith, l)); few = λ k l. absurd (omega (arith, l)) }

pub kinds_more : (rules : Rules) (kinds : List ℕ) (k worth : ℕ) → k < 26 → AreKindWorths rules kinds k
    → worth ≡ kind_worth rules (record { 0 = k }) → worth ≤ 7700
    → AreKindWorths rules (slice_set kinds k worth) (k + 1)
kinds_more rules kinds k worth l are is few =
    record {
      size = length-set kinds k worth ∙ are.size;
      each = λ j m. by_last j m (cases_eq j k);
      few = λ j m. by_last_few j m (cases_eq j k);
    }
  where
    by_last : (j : ℕ) → j < k + 1 → (j ≡ k) ⊎ (j ≡ k → ⊥)
        → slice_index (slice_set kinds k worth) j ≡ kind_worth rules (record { 0 = j })
    by_last j m (inl e) = rw e (get_or-set_same kinds k worth 0 (omega (arith, l, are.size)) ∙ is)
    by_last j m (inr other) = get_or-set_other kinds k j worth 0 other ∙ are.each j (omega (arith, m, other))

    by_last_few : (j : ℕ) → j < k + 1 → (j ≡ k) ⊎ (j ≡ k → ⊥) → kind_worth rules (record { 0 = j }) ≤ 7700
    by_last_few j m (inl e) = rw e (omega (arith, is, few))
    by_last_few j m (inr other) = are.few j (omega (arith, m, other))

pub squares_none : (rules : Rules) (squares : List ℕ) → length squares ≡ 120 → AreSquareWorths rules squares 0
squares_none rules squares size = record { size = size; each = λ k l. absurd (omega (arith, l)); few = λ k l. absurd (omega (arith, l)) }

pub squares_more : (rules : Rules) (squares : List ℕ) (s worth : ℕ) → s < 120 → AreSquareWorths rules squares s
    → worth ≡ square_worth rules (record { 0 = s }) → worth ≤ 80
    → AreSquareWorths rules (slice_set squares s worth) (s + 1)
squares_more rules squares s worth l are is few =
    record {
      size = length-set squares s worth ∙ are.size;
      each = λ j m. by_last j m (cases_eq j s);
      few = λ j m. by_last_few j m (cases_eq j s);
    }
  where
    by_last : (j : ℕ) → j < s + 1 → (j ≡ s) ⊎ (j ≡ s → ⊥)
        → slice_index (slice_set squares s worth) j ≡ square_worth rules (record { 0 = j })
    by_last j m (inl e) = rw e (get_or-set_same squares s worth 0 (omega (arith, l, are.size)) ∙ is)
    by_last j m (inr other) = get_or-set_other squares s j worth 0 other ∙ are.each j (omega (arith, m, other))

    by_last_few : (j : ℕ) → j < s + 1 → (j ≡ s) ⊎ (j ≡ s → ⊥) → square_worth rules (record { 0 = j }) ≤ 80
    by_last_few j m (inl e) = rw e (omega (arith, is, few))
    by_last_few j m (inr other) = are.few j (omega (arith, m, other))

-- ---- what they say of each kind and square

pub kind_few : (rules : Rules) (kinds squares : List ℕ) (king : Option Kind) → AreWorths rules kinds squares king
    → (kind : Kind) → kind_worth rules kind ≤ 7700
kind_few rules kinds squares king are kind = by_letter (cases_lt kind.0 26)
  where
    by_letter : (kind.0 < 26) ⊎ (26 ≤ kind.0) → kind_worth rules kind ≤ 7700
    by_letter (inl l) = are.kinds_are.few kind.0 l
    by_letter (inr l) = omega (arith, kind_beyond rules kind are.fit l)

on_few : (rules : Rules) (kind : Kind) (s : ℕ) → kind_worth rules kind ≤ 7700
    → square_worth rules (record { 0 = s }) ≤ 80 → worth_on rules kind s ≤ 7780
unfolding worth_on
on_few rules kind s k l = by_king (names rules.king kind)
  where
    by_king : (b : Bool) → (if b then 0 else kind_worth rules kind + square_worth rules (record { 0 = s })) ≤ 7780
    by_king true = omega arith
    by_king false = omega (arith, k, l)

pub prove_few : (rules : Rules) (kinds squares : List ℕ) (king : Option Kind) → AreWorths rules kinds squares king
    → AreFew rules
prove_few rules kinds squares king are =
    record {
      kinds = kind_few rules kinds squares king are;
      pieces = λ kind s l. on_few rules kind s (kind_few rules kinds squares king are kind) (are.squares_are.few s l);
    }
