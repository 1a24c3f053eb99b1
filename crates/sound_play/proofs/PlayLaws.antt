-- Pieces and hands stay sound, and do not grow in number, in every variant that fits.
use Rattle.std.proofs.Common.{◌≡◌, ℕ, ◌<◌, Bool, true, false, not, ◌&&◌, ◌||◌, if◌then◌else◌, ◌⊎◌, inl, inr, Option, Some, None, List, length, refl, sym, subst, arith, unwrap_or}
use Rattle.std.proofs.lemmas.Bool.{and_parts, or_cases, or_right}
use Rattle.std.proofs.lemmas.Bool.Decides.{Decides-eqb}
use Rattle.foundation.specs.Count.{all_below}
use Rattle.foundation.proofs.CountLemmas.{all_below-each, all_below-true}
use Rattle.rules_model.specs.declared.board.Cell.{Cell}
use Rattle.rules_model.specs.declared.board.Kind.{Kind}
use Rattle.rules_model.specs.declared.board.Repeat.{Repeat}
use Rattle.rules_model.specs.declared.board.Side.{Side}
use Rattle.rules_model.specs.declared.board.Side.TheVariants.{White, Black}
use Rattle.rules_model.specs.declared.board.Square.{Square}
use Rattle.rules_model.specs.declared.moves.Promo.{Promo}
use Rattle.rules_model.specs.declared.moves.Promo.TheVariants.{Stays, Pawn, Plus}
use Rattle.rules_model.specs.declared.rules.KindRule.{KindRule}
use Rattle.rules_model.specs.declared.rules.Rules.{Rules}
use Rattle.rules_model.specs.Squares.{cell_at}
use Rattle.rules_model.specs.Sides.{same_side}
use Rattle.rules_model.specs.Kinds.{has_kind, is_king, is_pawn, kind_rule, masks, names, promoted_of, rule_promoted}
use Rattle.rules_model.specs.Attacks.{is_own_king}
use Rattle.rules_model.specs.Hands.{holds, put_at_gate, put_down, taken_in}
use Rattle.rules_model.specs.Pawns.{behind, passes_by}
use Rattle.rules_model.specs.Next.{cell_on, hand_kind, plus, promote, take_into, taken}
use Rattle.rules_model.specs.Moves.{IsFitPromo}
use Rattle.rules_model.specs.Sound.{has_hands, is_origin, is_sound_cell, is_sound_repeat, on_board, sound_in_hand}
use Rattle.rules_model.specs.Fit.{fits_rule, IsFit, is_there, kind_fits, mask_fits}
use Rattle.rules_model.proofs.CandidateLaws.{PawnGoes, PieceGoes}
use Rattle.sound_play.proofs.CountLaws.{cell_within}
use Rattle.sound_play.proofs.HandLaws.{put_down-held, taken_in-held}
use Rattle.sound_play.proofs.KingLaws.{kind_below, named, pawn_becomes, pawn_no_king, piece_becomes, promoted_no_king, promoted_rule}
use Rattle.sound_play.proofs.PieceLaws.{AreSound, sound_there}
use Rattle.sound_play.proofs.SoundLaws.{repeat_parts, side_of, side_parts}
use Rattle.sound_play.proofs.TestLemmas.{answered, asked, both_false}

-- ---- what a hand may hold

abbrev pub fits_hand : Rules → Kind → Bool
fits_hand rules kind = has_hands rules && has_kind rules kind && not (is_king rules kind)

pub record FitHands (rules : Rules) (hands : List (List ℕ)) : Type 0 where
  pub each : (side : Side) (kind : Kind) → kind.0 < 26 → holds hands side kind ≡ true → fits_hand rules kind ≡ true

pub fit_hands : (rules : Rules) (r : Repeat) → is_sound_repeat rules r ≡ true → FitHands rules r.hands
unfolding sound_in_hand
fit_hands rules r sound = record {
  each = λ side kind l e. asked (holds r.hands side kind) (fits_hand rules kind) (all_below-each (sound_in_hand rules r.hands side) 26 (side_parts rules r side (side_of rules r side (repeat_parts rules r sound))).hand kind.0 l) e;
}

pub sound_hands : (rules : Rules) (hands : List (List ℕ)) (side : Side) → FitHands rules hands → all_below (sound_in_hand rules hands side) 26 ≡ true
unfolding sound_in_hand
sound_hands rules hands side h = all_below-true (sound_in_hand rules hands side) 26 (λ k l. answered (holds hands side (record { 0 = k })) (fits_hand rules (record { 0 = k })) (h.each side (record { 0 = k }) l))

pub fit_put_down : (rules : Rules) (hands : List (List ℕ)) (side : Side) (kind : Kind) → length hands ≡ 2 → FitHands rules hands → FitHands rules (put_down hands side kind)
fit_put_down rules hands side kind two h = record { each = λ s k l e. h.each s k l (put_down-held hands side kind s k two e) }

fit_taken_in : (rules : Rules) (hands : List (List ℕ)) (side : Side) (kind : Kind) → length hands ≡ 2 → fits_hand rules kind ≡ true → FitHands rules hands → FitHands rules (taken_in hands side kind)
fit_taken_in rules hands side kind two ok h = record {
  each = λ s k l e. elim (taken_in-held hands side kind s k two e) as (λ _. fits_hand rules k ≡ true) [
    | inl f ↦ h.each s k l f
    | inr f ↦ let same : kind ≡ k = λ i. record { 0 = sym f i } in subst (λ j. fits_hand rules j ≡ true) same ok
  ];
}

-- ---- what is taken goes to a hand

to_hand_has : (a b c : Bool) → b ≡ true → (a || b || c) ≡ true
to_hand_has true b c e = refl
to_hand_has false b c e = rw e

three : (a b c : Bool) → a ≡ true → b ≡ true → c ≡ false → (a && b && not c) ≡ true
three a b c e f g = rw (e, f, g)

origin_kind : (rules : Rules) (fit : IsFit rules) (kind : Kind) (o : Option Kind) → length rules.kinds ≡ 26 → has_kind rules kind ≡ true → is_king rules kind ≡ false → is_origin rules kind o ≡ true → (has_kind rules (unwrap_or o kind) ≡ true) × (is_king rules (unwrap_or o kind) ≡ false)
origin_kind rules fit kind None kinds there king e = (there, king)
origin_kind rules fit kind (Some o) kinds there king e =
    elim (or_cases (rules.to_hand && is_pawn rules o && masks rules.promotion_kinds kind) (names (promoted_of rules o) kind) e) as (λ _. (has_kind rules o ≡ true) × (is_king rules o ≡ false)) [
      | inl h ↦
          let pawn = (and_parts rules.to_hand (is_pawn rules o) (and_parts (rules.to_hand && is_pawn rules o) (masks rules.promotion_kinds kind) h).0).1 in
          (subst (λ p. is_there rules p ≡ true) (named rules.pawn o pawn) fit.pawn, pawn_no_king rules fit o kinds pawn)
      | inr h ↦ let p = named (promoted_of rules o) kind h in (promoted_rule rules o kind p, (promoted_no_king rules fit o kind kinds p).0)
    ]

hand_kind_fits : (rules : Rules) (fit : IsFit rules) (s : ℕ) (c : Cell) → length rules.kinds ≡ 26 → rules.to_hand ≡ true → is_sound_cell rules s (Some c) ≡ true → is_king rules c.kind ≡ false → fits_hand rules (hand_kind c) ≡ true
hand_kind_fits rules fit s c kinds on e king =
    let a = and_parts (on_board rules s && has_kind rules c.kind) (is_origin rules c.kind c.origin) e in
    let b = (and_parts (on_board rules s) (has_kind rules c.kind) a.0).1 in
    let k = origin_kind rules fit c.kind c.origin kinds b king a.1 in
    three (has_hands rules) (has_kind rules (hand_kind c)) (is_king rules (hand_kind c)) (to_hand_has rules.drops rules.to_hand rules.gating on) k.0 k.1

own_side : (side : Side) → same_side side side ≡ true
own_side White = refl
own_side Black = refl

king_kind : (rules : Rules) (c : Cell) → ((side : Side) → is_own_king rules side (Some c) ≡ false) → is_king rules c.kind ≡ false
king_kind rules c h = let a : (same_side c.side c.side && is_king rules c.kind) ≡ false = h c.side in both_false (same_side c.side c.side) (is_king rules c.kind) a (own_side c.side)

-- the piece that is taken is a sound one on its square
pub record TakenSound (rules : Rules) (c : Option Cell) : Type 0 where
  pub each : (x : Cell) → c ≡ Some x → (s : ℕ) × (is_sound_cell rules s (Some x) ≡ true) × (is_king rules x.kind ≡ false)

sound_on : (rules : Rules) (r : Repeat) (at : Option ℕ) → length r.cells ≡ 120 → AreSound rules r.cells → (x : Cell) → cell_on r.cells at ≡ Some x → (s : ℕ) × (is_sound_cell rules s (Some x) ≡ true)
sound_on rules r None size h x e = cc
sound_on rules r (Some s) size h x e =
    let l = cell_within r.cells s x e in
    (s, subst (λ o. is_sound_cell rules s o ≡ true) e (h.each s (omega (arith, l, size))))

taken_where : (rules : Rules) (r : Repeat) (b : Bool) (to : Square) → length r.cells ≡ 120 → AreSound rules r.cells → (x : Cell) → (if b then cell_on r.cells (behind rules r.side to) else cell_at r.cells to.0) ≡ Some x → (s : ℕ) × (is_sound_cell rules s (Some x) ≡ true)
taken_where rules r true to size h x e = sound_on rules r (behind rules r.side to) size h x e
taken_where rules r false to size h x e = sound_on rules r (Some to.0) size h x e

pub taken_sound : (rules : Rules) (r : Repeat) (from to : Square) → length r.cells ≡ 120 → AreSound rules r.cells → ((side : Side) → is_own_king rules side (taken rules r from to) ≡ false) → TakenSound rules (taken rules r from to)
unfolding taken
taken_sound rules r from to size h kings = record {
  each = λ x e.
      let w = taken_where rules r (passes_by rules r from to.0) to size h x e in
      (w.0, w.1, king_kind rules x (λ side. subst (λ o. is_own_king rules side o ≡ false) e (kings side)));
}

pub fit_take_into : (rules : Rules) (fit : IsFit rules) (hands : List (List ℕ)) (side : Side) (c : Option Cell) (b : Bool) → length rules.kinds ≡ 26 → length hands ≡ 2 → rules.to_hand ≡ b → TakenSound rules c → FitHands rules hands → FitHands rules (take_into b hands side c)
fit_take_into rules fit hands side None b kinds two on t h = h
fit_take_into rules fit hands side (Some x) true kinds two on t h =
    let w = t.each x refl in
    fit_taken_in rules hands side (hand_kind x) two (hand_kind_fits rules fit w.0 x kinds on w.1 w.2) h
fit_take_into rules fit hands side (Some x) false kinds two on t h = h

pub fit_put_at_gate : (rules : Rules) (hands : List (List ℕ)) (side : Side) (gate : Option Kind) → length hands ≡ 2 → FitHands rules hands → FitHands rules (put_at_gate hands side gate)
fit_put_at_gate rules hands side None two h = h
fit_put_at_gate rules hands side (Some kind) two h = fit_put_down rules hands side kind two h

-- ---- what a piece becomes is sound

promoted_there : (rules : Rules) (kind q : Kind) (rule : Option KindRule) → fits_rule rules kind rule ≡ true → rule_promoted rule ≡ Some q → has_kind rules q ≡ true
promoted_there rules kind q None e h = cc
promoted_there rules kind q (Some rule) e h =
    let a = (and_parts _ (is_there rules rule.promoted) e).1 in
    subst (λ o. is_there rules o ≡ true) h a

promoted_has_kind : (rules : Rules) (fit : IsFit rules) (kind q : Kind) → length rules.kinds ≡ 26 → promoted_of rules kind ≡ Some q → has_kind rules q ≡ true
unfolding kind_fits
promoted_has_kind rules fit kind q kinds e =
    let l = kind_below rules kind kinds (promoted_rule rules kind q e) in
    promoted_there rules kind q (kind_rule rules kind) (all_below-each (kind_fits rules) 26 fit.kinds kind.0 l) e

plus_sound : (rules : Rules) (fit : IsFit rules) (s t : ℕ) (x : Cell) (o : Option Kind) → length rules.kinds ≡ 26 → promoted_of rules x.kind ≡ o → is_sound_cell rules s (Some x) ≡ true → on_board rules t ≡ true → is_sound_cell rules t (Some (plus x o)) ≡ true
plus_sound rules fit s t x None kinds e sound l = sound_there rules s t (Some x) sound l
plus_sound rules fit s t x (Some q) kinds e sound l =
    let a = promoted_has_kind rules fit x.kind q kinds e in
    let b : names (promoted_of rules x.kind) q ≡ true = subst (λ o. names o q ≡ true) (sym e) ((Decides-eqb q.0 q.0).1 refl) in
    let c = or_right (rules.to_hand && is_pawn rules x.kind && masks rules.promotion_kinds q) (names (promoted_of rules x.kind) q) b in
    rw (l, a, c)

pawn_origin : (rules : Rules) (kind o : Kind) (b : Bool) → rules.to_hand ≡ b → is_pawn rules o ≡ true → masks rules.promotion_kinds kind ≡ true → is_origin rules kind (if b then Some o else None) ≡ true
pawn_origin rules kind o true on pawn mask = rw (on, pawn, mask)
pawn_origin rules kind o false on pawn mask = refl

pub becomes_sound : (rules : Rules) (fit : IsFit rules) (r : Repeat) (x : Cell) (from to : Square) (promo : Promo) → length rules.kinds ≡ 26 → IsFitPromo promo → PieceGoes rules r x from to promo ⊎ PawnGoes rules r x from to promo → is_sound_cell rules from.0 (Some x) ≡ true → on_board rules to.0 ≡ true → is_sound_cell rules to.0 (promote rules (Some x) promo) ≡ true
unfolding mask_fits
becomes_sound rules fit r x from to Stays kinds l h sound on = sound_there rules from.0 to.0 (Some x) sound on
becomes_sound rules fit r x from to (Pawn kind) kinds l (inl h) sound on = absurd (piece_becomes rules r x from to kind h.2)
becomes_sound rules fit r x from to (Pawn kind) kinds l (inr h) sound on =
    let mask = pawn_becomes rules r from to kind h.2 in
    let a = asked (masks rules.promotion_kinds kind) (has_kind rules kind) (all_below-each (mask_fits rules rules.promotion_kinds) 26 fit.promotion_kinds kind.0 l) mask in
    let b = pawn_origin rules kind x.kind rules.to_hand refl h.1 mask in
    rw (on, a, b)
becomes_sound rules fit r x from to Plus kinds l h sound on = plus_sound rules fit from.0 to.0 x (promoted_of rules x.kind) kinds refl sound on
