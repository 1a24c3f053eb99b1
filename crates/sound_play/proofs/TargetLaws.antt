-- What stands on the target of a candidate: an enemy that the mover attacks, and so no king in a sound position.
use Rattle.std.proofs.Common.{◌≡◌, ℕ, ◌<◌, Bool, true, false, not, ◌&&◌, ◌||◌, ◌⊎◌, inl, inr, Option, Some, None, List, [], ◌∷◌, refl, sym, subst, is_none}
use Rattle.std.proofs.lemmas.Bool.{and_parts, false_from_ne_true, not-true, or_cases, or_right}
use Rattle.std.specs.List.{list_any}
use Rattle.std.proofs.lemmas.Bool.Decides.{Decides-eqb}
use Rattle.foundation.proofs.CountLemmas.{any_below-true}
use Rattle.rules_model.specs.declared.board.Cell.{Cell}
use Rattle.rules_model.specs.declared.board.Kind.{Kind}
use Rattle.rules_model.specs.declared.board.Repeat.{Repeat}
use Rattle.rules_model.specs.declared.board.Side.{Side}
use Rattle.rules_model.specs.declared.board.Side.TheVariants.{White, Black}
use Rattle.rules_model.specs.declared.board.Square.{Square}
use Rattle.rules_model.specs.declared.moves.Promo.{Promo}
use Rattle.rules_model.specs.declared.rules.Rules.{Rules}
use Rattle.rules_model.specs.declared.rules.Term.{Term}
use Rattle.rules_model.specs.Squares.{cell_at}
use Rattle.rules_model.specs.Reach.{reaches}
use Rattle.rules_model.specs.Sides.{other, same_side}
use Rattle.rules_model.specs.Kinds.{board_of}
use Rattle.rules_model.specs.Movement.{in_mobility, kind_reaches, reaches_by, terms_from}
use Rattle.rules_model.specs.Attacks.{attacks, attacks_as, attacks_by, attacks_from, is_diagonal, is_own_king, king_attacked, king_attacked_at}
use Rattle.rules_model.specs.Pieces.{may_plus, means_castling, piece_goes, piece_moves, piece_promo, serves}
use Rattle.rules_model.specs.Pawns.{is_enemy, is_ep, is_free, is_stays, may_promote, passes_by, pawn_goes, pawn_moves, pawn_promo}
use Rattle.rules_model.specs.Sound.{is_sound_ep, is_sound_repeat, on_board, was_passed}
use Rattle.rules_model.proofs.CandidateLaws.{term_of_reach, not_both, PieceGoes, PawnGoes}
use Rattle.rules_model.proofs.VariantLaws.{sound_ep}
use Rattle.sound_play.proofs.SoundLaws.{repeat_parts}

-- ---- sides

pub other_twice : (side : Side) → other (other side) ≡ side
other_twice White = refl
other_twice Black = refl

pub side_cases : (a b : Side) → (a ≡ b) ⊎ (a ≡ other b)
side_cases White White = inl refl
side_cases White Black = inr refl
side_cases Black White = inr refl
side_cases Black Black = inl refl

-- ---- attacks by a piece that is known

pub attacks_as-attacks : (rules : Rules) (cells : List (Option Cell)) (by : Side) (from to : Square) (x : Cell) → from.0 < 120 → cell_at cells from.0 ≡ Some x → same_side x.side by ≡ true → attacks_as rules cells by x.kind from to.0 ≡ true → attacks rules cells by to.0 ≡ true
unfolding attacks attacks_from
attacks_as-attacks rules cells by from to x l here own e =
    let a : attacks_by rules cells by to.0 from (Some x) ≡ true = rw (own, e) in
    let b = any_below-true (attacks_from rules cells by to.0) 120 from.0 l (subst (λ c. attacks_by rules cells by to.0 from c ≡ true) (sym here) a) in
    rw b

any_more : {X : Type 0} (p q : X → Bool) (xs : List X) → ((x : X) → p x ≡ true → q x ≡ true) → list_any p xs ≡ true → list_any q xs ≡ true
any_more p q [] h e = e
any_more p q (x ∷ xs) h e =
    elim (or_cases (p x) (list_any p xs) e) as (λ _. (q x || list_any q xs) ≡ true) [
      | inl a ↦ let b = h x a in rw b
      | inr a ↦ let b = any_more p q xs h a in or_right (q x) (list_any q xs) b
    ]

-- what a move onto a piece is: the piece is an enemy, and the mover attacks it
pub record Takes (rules : Rules) (r : Repeat) (to : Square) (y : Cell) : Type 0 where
  pub enemy : same_side y.side r.side ≡ false
  pub attacked : attacks rules r.cells r.side to.0 ≡ true

-- what reaches by the terms that pass one test does so by those of a wider one
reach_more : (rules : Rules) (cells : List (Option Cell)) (side : Side) (kind : Kind) (p q : Term → Bool) (from : Square) (s : ℕ) → ((t : Term) → p t ≡ true → q t ≡ true) → kind_reaches rules cells side kind p from s ≡ true → kind_reaches rules cells side kind q from s ≡ true
unfolding kind_reaches
reach_more rules cells side kind p q from s wider e =
    let a = and_parts (in_mobility rules side kind s) (list_any (reaches_by rules cells side p from s) (terms_from rules side kind from)) e in
    let b = any_more (reaches_by rules cells side p from s) (reaches_by rules cells side q from s) (terms_from rules side kind from)
    (λ t f. let c = and_parts (p t) (reaches (board_of rules) cells side t from s) f in let d = wider t c.0 in rw (d, c.1)) a.1 in
    rw (a.0, b)

serves_onto : (side : Side) (c : Option Cell) (y : Cell) (t : Term) → c ≡ Some y → serves side c t ≡ true → (t.takes ≡ true) × (same_side y.side side ≡ false)
serves_onto side c y t there e =
    let a : serves side (Some y) t ≡ true = subst (λ o. serves side o t ≡ true) there e in
    let b = and_parts t.takes (not (same_side y.side side)) a in
    (b.0, not-true _ b.1)

pub piece_takes : (rules : Rules) (r : Repeat) (x y : Cell) (from to : Square) (promo : Promo) → from.0 < 120 → cell_at r.cells from.0 ≡ Some x → PieceGoes rules r x from to promo → cell_at r.cells to.0 ≡ Some y → Takes rules r to y
unfolding piece_moves piece_goes
piece_takes rules r x y from to promo l here h there =
    let serving = serves r.side (cell_at r.cells to.0) in
    let a = and_parts _ (not (means_castling rules r x.kind from.0 to.0)) h.2 in
    let b = and_parts (kind_reaches rules r.cells r.side x.kind serving from to.0) (piece_promo rules (may_plus rules r.side x.kind from.0 to.0) promo) a.0 in
    let t = term_of_reach rules r.cells r.side x.kind serving from to.0 b.0 in
    let c = reach_more rules r.cells r.side x.kind serving (λ t. t.takes) from to.0 (λ s e. (serves_onto r.side (cell_at r.cells to.0) y s there e).0) b.0 in
    let d : attacks_as rules r.cells r.side x.kind from to.0 ≡ true = rw (h.1, c) in
    record { enemy = (serves_onto r.side (cell_at r.cells to.0) y t.0 there t.1).1; attacked = attacks_as-attacks rules r.cells r.side from to x l here h.0 d }

ep_free : (rules : Rules) (r : Repeat) (to : Square) (y : Cell) (ep : Option Square) → is_sound_ep rules r ep ≡ true → is_ep ep to.0 ≡ true → cell_at r.cells to.0 ≡ Some y → ⊥
ep_free rules r to y None sound e there = cc
ep_free rules r to y (Some ep) sound e there =
    let a = and_parts (on_board rules ep.0) (was_passed rules r ep) sound in
    let b = and_parts _ _ (and_parts _ _ (and_parts _ _ (and_parts _ _ a.1).0).0).0 in
    let c : is_none (cell_at r.cells ep.0) ≡ true = (and_parts rules.double_step (is_free r.cells (Some ep.0)) b.0).1 in
    let d : ep.0 ≡ to.0 = (Decides-eqb _ _).0 e in
    let f : is_none (cell_at r.cells to.0) ≡ true = subst (λ s. is_none (cell_at r.cells s) ≡ true) d c in
    let g : is_none (Some y) ≡ true = subst (λ o. is_none o ≡ true) there f in
    cc

pawn_diagonal : (rules : Rules) (r : Repeat) (y : Cell) (from to : Square) (promo : Promo) → is_sound_repeat rules r ≡ true → cell_at r.cells to.0 ≡ Some y → pawn_moves rules r from to promo ≡ true → (is_diagonal (board_of rules) r.side from to.0 ≡ true) × (same_side y.side r.side ≡ false)
unfolding pawn_moves pawn_goes passes_by
pawn_diagonal rules r y from to promo sound there e =
    elim (or_cases (pawn_goes rules r from to.0 && pawn_promo rules (may_promote rules r.side to.0) promo) (passes_by rules r from to.0 && is_stays promo) e) as (λ _. (is_diagonal (board_of rules) r.side from to.0 ≡ true) × (same_side y.side r.side ≡ false)) [
      | inl a ↦ onto (and_parts (pawn_goes rules r from to.0) (pawn_promo rules (may_promote rules r.side to.0) promo) a).0
      | inr a ↦ let b = and_parts _ (is_diagonal (board_of rules) r.side from to.0) (and_parts (passes_by rules r from to.0) (is_stays promo) a).0 in
          absurd (ep_free rules r to y r.ep (sound_ep rules r sound) (and_parts _ (is_ep r.ep to.0) b.0).1 there)
    ]
  where
    of_enemy : (c : Option Cell) (quiet d : Bool) → c ≡ Some y → ((is_none c && quiet) || (is_enemy r.side c && d)) ≡ true → (d ≡ true) × (same_side y.side r.side ≡ false)
    of_enemy None quiet d f g = cc
    of_enemy (Some z) quiet d f g =
        let h = and_parts (not (same_side z.side r.side)) d g in
        let i : same_side z.side r.side ≡ false = not-true _ h.0 in
        let j : z ≡ y = cc in
        (h.1, subst (λ (w : Cell). same_side w.side r.side ≡ false) j i)

    onto : pawn_goes rules r from to.0 ≡ true → (is_diagonal (board_of rules) r.side from to.0 ≡ true) × (same_side y.side r.side ≡ false)
    onto g = of_enemy (cell_at r.cells to.0) _ (is_diagonal (board_of rules) r.side from to.0) there g

pub pawn_takes : (rules : Rules) (r : Repeat) (x y : Cell) (from to : Square) (promo : Promo) → is_sound_repeat rules r ≡ true → from.0 < 120 → cell_at r.cells from.0 ≡ Some x → PawnGoes rules r x from to promo → cell_at r.cells to.0 ≡ Some y → Takes rules r to y
pawn_takes rules r x y from to promo sound l here h there =
    let a = pawn_diagonal rules r y from to promo sound there h.2 in
    let b : attacks_as rules r.cells r.side x.kind from to.0 ≡ true = rw (h.1, a.0) in
    record { enemy = a.1; attacked = attacks_as-attacks rules r.cells r.side from to x l here h.0 b }

pub go_takes : (rules : Rules) (r : Repeat) (x y : Cell) (from to : Square) (promo : Promo) → is_sound_repeat rules r ≡ true → from.0 < 120 → cell_at r.cells from.0 ≡ Some x → PieceGoes rules r x from to promo ⊎ PawnGoes rules r x from to promo → cell_at r.cells to.0 ≡ Some y → Takes rules r to y
go_takes rules r x y from to promo sound l here (inl h) there = piece_takes rules r x y from to promo l here h there
go_takes rules r x y from to promo sound l here (inr h) there = pawn_takes rules r x y from to promo sound l here h there

-- ---- kings

king_hit : (rules : Rules) (r : Repeat) (to : Square) (y : Cell) → to.0 < 120 → cell_at r.cells to.0 ≡ Some y → is_own_king rules (other r.side) (Some y) ≡ true → attacks rules r.cells r.side to.0 ≡ true → king_attacked rules r.cells (other r.side) ≡ true
unfolding king_attacked king_attacked_at
king_hit rules r to y l there king hit =
    let a : is_own_king rules (other r.side) (cell_at r.cells to.0) ≡ true = subst (λ c. is_own_king rules (other r.side) c ≡ true) (sym there) king in
    let b : attacks rules r.cells (other (other r.side)) to.0 ≡ true = rw (other_twice r.side) hit in
    any_below-true (king_attacked_at rules r.cells (other r.side)) 120 to.0 l (rw (a, b))

-- no piece or pawn goes onto a king
pub no_king_taken : (rules : Rules) (r : Repeat) (x : Cell) (from to : Square) (promo : Promo) (side : Side) → is_sound_repeat rules r ≡ true → from.0 < 120 → to.0 < 120 → cell_at r.cells from.0 ≡ Some x → PieceGoes rules r x from to promo ⊎ PawnGoes rules r x from to promo → is_own_king rules side (cell_at r.cells to.0) ≡ false
no_king_taken rules r x from to promo side sound l k here h = at_target (cell_at r.cells to.0) refl
  where
    of_enemy : (y : Cell) → cell_at r.cells to.0 ≡ Some y → (side ≡ r.side) ⊎ (side ≡ other r.side) → is_own_king rules side (Some y) ≡ false
    of_enemy y there (inl e) =
        let t = go_takes rules r x y from to promo sound l here h there in
        let a : same_side y.side side ≡ false = subst (λ s. same_side y.side s ≡ false) (sym e) t.enemy in
        rw a
    of_enemy y there (inr e) =
        let t = go_takes rules r x y from to promo sound l here h there in
        false_from_ne_true (is_own_king rules side (Some y)) (λ king. not_both _
        (king_hit rules r to y k there (subst (λ s. is_own_king rules s (Some y) ≡ true) e king) t.attacked)
        (repeat_parts rules r sound).king)

    at_target : (c : Option Cell) → cell_at r.cells to.0 ≡ c → is_own_king rules side c ≡ false
    at_target None there = refl
    at_target (Some y) there = of_enemy y there (side_cases side r.side)
