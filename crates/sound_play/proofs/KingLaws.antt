-- Each side keeps its king, in every variant that fits.
use Rattle.std.proofs.Common.{◌≡◌, ℕ, ◌<◌, Bool, true, false, not, ◌&&◌, ◌||◌, if◌then◌else◌, ◌⊎◌, inl, inr, Option, Some, None, length, refl, ap, sym, ◌∙◌, subst, arith, ◌==◌, is_none, is_some}
use Rattle.std.specs.Prelude.{count_by, slice_get}
use Rattle.std.specs.List.{list_all}
use Rattle.std.proofs.lemmas.Bool.{and_parts, cases_lt, false_from_ne_true, not-true, or_cases, or_parts}
use Rattle.std.proofs.lemmas.Bool.Decides.{Decides-eqb}
use Rattle.std.proofs.lemmas.Option.{slice_get_past}
use Rattle.foundation.specs.Count.{any_below}
use Rattle.foundation.specs.Member.{Member}
use Rattle.foundation.specs.Tests.{is_nil, same_bool}
use Rattle.foundation.proofs.CountLemmas.{all_below-each, any_below-true}
use Rattle.foundation.specs.Tests.{one_if}
use Rattle.rules_model.specs.declared.board.Cell.{Cell}
use Rattle.rules_model.specs.declared.board.Kind.{Kind}
use Rattle.rules_model.specs.declared.board.Repeat.{Repeat}
use Rattle.rules_model.specs.declared.board.Side.{Side}
use Rattle.rules_model.specs.declared.board.Square.{Square}
use Rattle.rules_model.specs.declared.moves.Move.{Move}
use Rattle.rules_model.specs.declared.moves.Move.TheVariants.{Go, Castle, Drop}
use Rattle.rules_model.specs.declared.moves.Promo.{Promo}
use Rattle.rules_model.specs.declared.moves.Promo.TheVariants.{Stays, Pawn, Plus}
use Rattle.rules_model.specs.declared.rules.KindRule.{KindRule}
use Rattle.rules_model.specs.declared.rules.Rules.{Rules}
use Rattle.rules_model.specs.Squares.{cell_at}
use Rattle.rules_model.specs.Sides.{same_side}
use Rattle.rules_model.specs.Kinds.{has_kind, is_king, is_pawn, kind_rule, masks, names, promoted_of, rule_promoted}
use Rattle.rules_model.specs.Attacks.{is_own_king, king_attacked}
use Rattle.rules_model.specs.Hands.{holds}
use Rattle.rules_model.specs.Pawns.{behind, is_stays, may_promote, passes_by, pawn_goes, pawn_moves, pawn_promo}
use Rattle.rules_model.specs.Pieces.{may_plus, means_castling, piece_goes, piece_moves, piece_promo}
use Rattle.rules_model.specs.Candidates.{is_candidate}
use Rattle.rules_model.specs.Ends.{early_end, is_ongoing}
use Rattle.rules_model.specs.Next.{after_promo, cell_on, cells_after, fresh, gated, next_repeat, plus, promote, taken}
use Rattle.rules_model.specs.Legal.{is_allowed, is_safe, is_sane, legal, may_check}
use Rattle.rules_model.specs.Allowed.{is_legal}
use Rattle.rules_model.specs.Moves.{IsFitMove, IsFitPromo}
use Rattle.rules_model.specs.Sound.{has_hands, has_its_king, is_sound_repeat, sound_in_hand}
use Rattle.rules_model.specs.Fit.{bad_promotion, chains_promotions, fits_pawn, fits_rule, fits_term, IsFit, is_pawn_or_king, is_there, kind_fits, promotes_to_pawn_or_king, region_fits}
use Rattle.rules_model.proofs.CandidateLaws.{castle_gate, castle_is, drop_is, gated_go, legal_candidate, not_both, PawnGoes, PieceGoes, plain_go}
use Rattle.rules_model.proofs.LegalLaws.{legal-member}
use Rattle.sound_play.proofs.CountLaws.{castle-count, drop-count, dropped_free, go-count, go_leaves, Passes, passes_by-is}
use Rattle.sound_play.proofs.SoundLaws.{repeat_parts, side_of, side_parts}
use Rattle.sound_play.proofs.TargetLaws.{no_king_taken}
use Rattle.sound_play.proofs.TestLemmas.{asked, both_false}

-- ---- kinds that are no king

-- a kind of the variant is one of 26 letters
pub kind_below : (rules : Rules) (kind : Kind) → length rules.kinds ≡ 26 → is_some (kind_rule rules kind) ≡ true → kind.0 < 26
kind_below rules kind size e =
    elim (cases_lt kind.0 26) as (λ _. kind.0 < 26) [
      | inl l ↦ l
      | inr l ↦ absurd (let g : slice_get rules.kinds kind.0 ≡ None = slice_get_past rules.kinds kind.0 (omega (arith, size, l)) in
          let h : is_some (kind_rule rules kind) ≡ false = rw g in not_both _ e h)
    ]

none_below : (f : ℕ → Bool) (k : ℕ) → any_below f 26 ≡ false → k < 26 → f k ≡ false
none_below f k e l = false_from_ne_true (f k) (λ h. not_both _ (any_below-true f 26 k l h) e)

pub named : (o : Option Kind) (kind : Kind) → names o kind ≡ true → o ≡ Some kind
named None kind e = cc
named (Some k) kind e = let h : k.0 ≡ kind.0 = (Decides-eqb _ _).0 e in λ i. Some (record { 0 = h i })

pawn_rule : (rules : Rules) (kind : Kind) (rule : Option KindRule) → is_some rule ≡ true → fits_rule rules kind rule ≡ true → is_pawn rules kind ≡ true → is_king rules kind ≡ false
pawn_rule rules kind None e f h = cc
pawn_rule rules kind (Some rule) e f h =
    let a = and_parts _ (is_there rules rule.promoted) f in
    let b = and_parts _ (list_all fits_term rule.terms) (and_parts _ (list_all (region_fits rules) rule.mobility) a.0).0 in
    let c = and_parts (same_bool rule.pawn (is_pawn rules kind)) (not rule.pawn || fits_pawn rules kind rule) b.0 in
    let d : rule.pawn ≡ true = marked rule.pawn (is_pawn rules kind) c.0 h in
    let g : fits_pawn rules kind rule ≡ true = asked rule.pawn (fits_pawn rules kind rule) c.1 d in
    not-true _ (and_parts (not (is_king rules kind)) (is_nil rule.terms) (and_parts _ (is_none rule.promoted) g).0).0
  where
    marked : (a b : Bool) → same_bool a b ≡ true → b ≡ true → a ≡ true
    marked true b e h = refl
    marked false b e h = absurd (not_both b h (not-true b e))

-- the pawn is no king
pub pawn_no_king : (rules : Rules) (fit : IsFit rules) (kind : Kind) → length rules.kinds ≡ 26 → is_pawn rules kind ≡ true → is_king rules kind ≡ false
unfolding kind_fits
pawn_no_king rules fit kind size e =
    let a : is_there rules (Some kind) ≡ true = subst (λ o. is_there rules o ≡ true) (named rules.pawn kind e) fit.pawn in
    pawn_rule rules kind (kind_rule rules kind) a (all_below-each (kind_fits rules) 26 fit.kinds kind.0 (kind_below rules kind size a)) e

-- what a pawn becomes is no king
promotion_no_king : (rules : Rules) (fit : IsFit rules) (kind : Kind) → kind.0 < 26 → masks rules.promotion_kinds kind ≡ true → is_king rules kind ≡ false
unfolding promotes_to_pawn_or_king
promotion_no_king rules fit kind l e =
    let a = none_below (λ k. masks rules.promotion_kinds (record { 0 = k }) && is_pawn_or_king rules (record { 0 = k })) kind.0 fit.pawn_promotions l in
    (or_parts (is_pawn rules kind) (is_king rules kind) (both_false (masks rules.promotion_kinds kind) _ a e)).1

pub promoted_rule : (rules : Rules) (kind : Kind) (q : Kind) → promoted_of rules kind ≡ Some q → is_some (kind_rule rules kind) ≡ true
promoted_rule rules kind q e = from_rule (kind_rule rules kind) e
  where
    from_rule : (rule : Option KindRule) → rule_promoted rule ≡ Some q → is_some rule ≡ true
    from_rule None e = cc
    from_rule (Some rule) e = refl

-- neither a kind that has a promoted kind nor that kind is a king
pub promoted_no_king : (rules : Rules) (fit : IsFit rules) (kind q : Kind) → length rules.kinds ≡ 26 → promoted_of rules kind ≡ Some q → (is_king rules kind ≡ false) × (is_king rules q ≡ false)
unfolding chains_promotions
promoted_no_king rules fit kind q size e =
    let l = kind_below rules kind size (promoted_rule rules kind q e) in
    let a : bad_promotion rules kind (promoted_of rules kind) ≡ false = none_below (λ k. bad_promotion rules (record { 0 = k }) (promoted_of rules (record { 0 = k }))) kind.0 fit.piece_promotions l in
    let b : bad_promotion rules kind (Some q) ≡ false = subst (λ o. bad_promotion rules kind o ≡ false) e a in
    let c = or_parts (is_pawn_or_king rules kind || is_pawn_or_king rules q) (is_some (promoted_of rules q)) b in
    let d = or_parts (is_pawn_or_king rules kind) (is_pawn_or_king rules q) c.0 in
    ((or_parts (is_pawn rules kind) (is_king rules kind) d.0).1, (or_parts (is_pawn rules q) (is_king rules q) d.1).1)

held_as : (a h k i : Bool) → (not a || (h && k && not i)) ≡ true → a ≡ true → i ≡ false
held_as true h k i e f = not-true i (and_parts (h && k) (not i) e).1
held_as false h k i e f = cc

-- what a side holds is no king
pub held_no_king : (rules : Rules) (r : Repeat) (side : Side) (kind : Kind) → is_sound_repeat rules r ≡ true → kind.0 < 26 → holds r.hands side kind ≡ true → is_king rules kind ≡ false
unfolding sound_in_hand
held_no_king rules r side kind sound l e =
    let s = side_parts rules r side (side_of rules r side (repeat_parts rules r sound)) in
    held_as (holds r.hands side kind) (has_hands rules) (has_kind rules kind) (is_king rules kind) (all_below-each (sound_in_hand rules r.hands side) 26 s.hand kind.0 l) e

-- ---- cells that hold no king

and_false : (a b : Bool) → b ≡ false → (a && b) ≡ false
and_false true b e = e
and_false false b e = refl

no_king_of : (rules : Rules) (side : Side) (x : Cell) → is_king rules x.kind ≡ false → is_own_king rules side (Some x) ≡ false
no_king_of rules side x e = and_false (same_side x.side side) (is_king rules x.kind) e

-- ---- a piece is a king after its move exactly if it was one

plus_king : (rules : Rules) (fit : IsFit rules) (side : Side) (x : Cell) (o : Option Kind) → length rules.kinds ≡ 26 → promoted_of rules x.kind ≡ o → is_own_king rules side (Some (plus x o)) ≡ is_own_king rules side (Some x)
plus_king rules fit side x None size e = refl
plus_king rules fit side x (Some q) size e =
    let a = promoted_no_king rules fit x.kind q size e in
    no_king_of rules side (record { side = x.side; kind = q; origin = Some x.kind }) a.1 ∙ sym (no_king_of rules side x a.0)

pub pawn_becomes : (rules : Rules) (r : Repeat) (from to : Square) (kind : Kind) → pawn_moves rules r from to (Pawn kind) ≡ true → masks rules.promotion_kinds kind ≡ true
unfolding pawn_moves
pawn_becomes rules r from to kind e =
    elim (or_cases (pawn_goes rules r from to.0 && pawn_promo rules (may_promote rules r.side to.0) (Pawn kind)) (passes_by rules r from to.0 && is_stays (Pawn kind)) e) as (λ _. masks rules.promotion_kinds kind ≡ true) [
      | inl h ↦ (and_parts (may_promote rules r.side to.0) (masks rules.promotion_kinds kind) (and_parts (pawn_goes rules r from to.0) _ h).1).1
      | inr h ↦ absurd (not_both _ (and_parts (passes_by rules r from to.0) (is_stays (Pawn kind)) h).1 refl)
    ]

pub piece_becomes : (rules : Rules) (r : Repeat) (x : Cell) (from to : Square) (kind : Kind) → piece_moves rules r x from to (Pawn kind) ≡ true → ⊥
unfolding piece_moves
piece_becomes rules r x from to kind e =
    let a = and_parts (piece_goes rules r.cells r.side x.kind from to.0 && piece_promo rules (may_plus rules r.side x.kind from.0 to.0) (Pawn kind)) (not (means_castling rules r x.kind from.0 to.0)) e in
    not_both _ (and_parts (piece_goes rules r.cells r.side x.kind from to.0) (piece_promo rules (may_plus rules r.side x.kind from.0 to.0) (Pawn kind)) a.0).1 refl

promo_king : (rules : Rules) (fit : IsFit rules) (r : Repeat) (x : Cell) (from to : Square) (promo : Promo) (side : Side) → length rules.kinds ≡ 26 → IsFitPromo promo → PieceGoes rules r x from to promo ⊎ PawnGoes rules r x from to promo → is_own_king rules side (promote rules (Some x) promo) ≡ is_own_king rules side (Some x)
promo_king rules fit r x from to Stays side size l h = refl
promo_king rules fit r x from to (Pawn kind) side size l (inl h) = absurd (piece_becomes rules r x from to kind h.2)
promo_king rules fit r x from to (Pawn kind) side size l (inr h) =
    no_king_of rules side (after_promo rules x (Pawn kind)) (promotion_no_king rules fit kind l (pawn_becomes rules r from to kind h.2))
    ∙ sym (no_king_of rules side x (pawn_no_king rules fit x.kind size h.1))
promo_king rules fit r x from to Plus side size l h = plus_king rules fit side x (promoted_of rules x.kind) size refl

-- ---- what is taken is no king

taken_none : (rules : Rules) (r : Repeat) (side : Side) (b : Bool) (to : Square) → (b ≡ true → is_own_king rules side (cell_on r.cells (behind rules r.side to)) ≡ false) → is_own_king rules side (cell_at r.cells to.0) ≡ false → is_own_king rules side (if b then cell_on r.cells (behind rules r.side to) else cell_at r.cells to.0) ≡ false
taken_none rules r side true to h k = h refl
taken_none rules r side false to h k = k

passed_no_king : (rules : Rules) (fit : IsFit rules) (r : Repeat) (side : Side) (to : Square) → length rules.kinds ≡ 26 → Passes rules r to → is_own_king rules side (cell_on r.cells (behind rules r.side to)) ≡ false
passed_no_king rules fit r side to size s =
    let a : is_own_king rules side (cell_at r.cells s.at) ≡ false = subst (λ c. is_own_king rules side c ≡ false) (sym s.there) (no_king_of rules side s.pawn (pawn_no_king rules fit s.pawn.kind size s.kind)) in
    subst (λ at. is_own_king rules side (cell_on r.cells at) ≡ false) (sym s.is) a

pub taken_no_king : (rules : Rules) (fit : IsFit rules) (r : Repeat) (x : Cell) (from to : Square) (promo : Promo) (side : Side) → length rules.kinds ≡ 26 → is_sound_repeat rules r ≡ true → from.0 < 120 → to.0 < 120 → cell_at r.cells from.0 ≡ Some x → PieceGoes rules r x from to promo ⊎ PawnGoes rules r x from to promo → is_own_king rules side (taken rules r from to) ≡ false
unfolding taken
taken_no_king rules fit r x from to promo side size sound l k here h =
    taken_none rules r side (passes_by rules r from to.0) to (λ e. passed_no_king rules fit r side to size (passes_by-is rules r from to sound e))
    (no_king_taken rules r x from to promo side sound l k here h)

-- ---- the count of kings

go_kings : (rules : Rules) (fit : IsFit rules) (r : Repeat) (x : Cell) (from to : Square) (promo : Promo) (gate : Option Kind) (side : Side) → length rules.kinds ≡ 26 → length r.cells ≡ 120 → is_sound_repeat rules r ≡ true → from.0 < 120 → to.0 < 120 → IsFitPromo promo → cell_at r.cells from.0 ≡ Some x → PieceGoes rules r x from to promo ⊎ PawnGoes rules r x from to promo → is_own_king rules side (gated r.side gate) ≡ false → count_by (is_own_king rules side) (cells_after rules r (Go from to promo gate)) ≡ count_by (is_own_king rules side) r.cells
go_kings rules fit r x from to promo gate side kinds size sound l k j here h none =
    let a = go-count (is_own_king rules side) rules r x from to promo gate refl sound (go_leaves rules r x from to promo size sound l k here h) in
    let b : one_if (is_own_king rules side (taken rules r from to)) ≡ 0 = ap one_if (taken_no_king rules fit r x from to promo side kinds sound l k here h) in
    let c : one_if (is_own_king rules side (gated r.side gate)) ≡ 0 = ap one_if none in
    let d : one_if (is_own_king rules side (promote rules (Some x) promo)) ≡ one_if (is_own_king rules side (Some x)) = ap one_if (promo_king rules fit r x from to promo side kinds j h) in
    omega (arith, a, b, c, d)

candidate_kings : (rules : Rules) (fit : IsFit rules) (r : Repeat) (m : Move) (side : Side) → length rules.kinds ≡ 26 → length r.cells ≡ 120 → is_sound_repeat rules r ≡ true → IsFitMove m → is_candidate rules r m ≡ true → count_by (is_own_king rules side) (cells_after rules r m) ≡ count_by (is_own_king rules side) r.cells
candidate_kings rules fit r (Go from to promo None) side kinds size sound l e =
    let g = plain_go rules r from to promo e in
    go_kings rules fit r g.0 from to promo None side kinds size sound l.0 l.1 l.2 g.1 g.2 refl
candidate_kings rules fit r (Go from to promo (Some kind)) side kinds size sound l e =
    let g = gated_go rules r from to promo kind e in
    let held = (and_parts _ (holds r.hands r.side kind) g.3).1 in
    go_kings rules fit r g.0 from to promo (Some kind) side kinds size sound l.0 l.1 l.2 g.1 (inl g.2) (no_king_of rules side (fresh r.side kind) (held_no_king rules r r.side kind sound l.3 held))
candidate_kings rules fit r (Castle from to rook None) side kinds size sound l e =
    let g = castle_is rules r from to rook None e in
    let a = castle-count (is_own_king rules side) rules fit r from to rook None g.0.0 refl size g.0.1 g.1 l in
    omega (arith, a)
candidate_kings rules fit r (Castle from to rook (Some placed)) side kinds size sound l e =
    let g = castle_is rules r from to rook (Some placed) e in
    let a = castle-count (is_own_king rules side) rules fit r from to rook (Some placed) g.0.0 refl size g.0.1 g.1 l in
    let b : one_if (is_own_king rules side (gated r.side (Some placed.kind))) ≡ 0 = ap one_if (no_king_of rules side (fresh r.side placed.kind) (held_no_king rules r r.side placed.kind sound l.3.0 (castle_gate rules r from to rook placed g.1).1)) in
    omega (arith, a, b)
candidate_kings rules fit r (Drop kind to) side kinds size sound l e =
    let d = drop_is rules r kind to e in
    let within = l.1 in
    let a = drop-count (is_own_king rules side) rules r kind to refl (omega (arith, within, size)) d in
    let b : one_if (is_own_king rules side (Some (fresh r.side kind))) ≡ 0 = ap one_if (no_king_of rules side (fresh r.side kind) (held_no_king rules r r.side kind sound l.0 (dropped_free rules r kind to.0 d).0)) in
    omega (arith, a, b)

next_repeat-cells : (rules : Rules) (r : Repeat) (m : Move) → (next_repeat rules r m).cells ≡ cells_after rules r m
unfolding next_repeat
next_repeat-cells rules r m = refl

-- each side has its king after a legal move
pub next_repeat-kings : (rules : Rules) (r : Repeat) (m : Move) (side : Side) → IsFit rules → length rules.kinds ≡ 26 → length r.cells ≡ 120 → is_sound_repeat rules r ≡ true → Member m (legal rules r) → has_its_king rules (next_repeat rules r m).cells side ≡ true
next_repeat-kings rules r m side fit kinds size sound h =
    let l = legal-member rules r m h in
    let a = candidate_kings rules fit r m side kinds size sound l.0 (legal_candidate rules r m l.1) in
    let s = side_parts rules r side (side_of rules r side (repeat_parts rules r sound)) in
    let b : has_its_king rules (cells_after rules r m) side ≡ true = ap (λ n. is_none rules.king || (n == 1)) a ∙ s.king in
    subst (λ cells. has_its_king rules cells side ≡ true) (sym (next_repeat-cells rules r m)) b

-- and the king of the side that moved is not attacked
legal_safe : (rules : Rules) (r : Repeat) (m : Move) → is_legal rules r m ≡ true → king_attacked rules (next_repeat rules r m).cells r.side ≡ false
unfolding is_legal is_allowed is_sane is_safe
legal_safe rules r m e =
    let a = and_parts _ _ e in
    let b = and_parts (is_ongoing (early_end rules r)) _ a.0 in
    let c = and_parts (is_candidate rules r m) _ b.1 in
    let d = and_parts _ _ c.1 in
    not-true _ (and_parts (not (king_attacked rules (next_repeat rules r m).cells r.side)) (may_check rules r m) d.0).0

pub next_repeat-safe : (rules : Rules) (r : Repeat) (m : Move) → Member m (legal rules r) → king_attacked rules (next_repeat rules r m).cells r.side ≡ false
next_repeat-safe rules r m h = legal_safe rules r m (legal-member rules r m h).1
