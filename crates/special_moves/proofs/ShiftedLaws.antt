-- The moves of the pawns that go together are all moves of these pawns.
use Rattle.std.proofs.Common.{◌≡◌, ℕ, ◌<◌, nat_lt, Bool, true, false, not, ◌&&◌, ◌||◌, ◌⊎◌, inl, inr, ⊎_elim, Option, Some, None, is_none, pos, refl, ap, sym, ◌∙◌, subst}
use Rattle.std.proofs.lemmas.Bool.{and_from, and_parts, false_from_ne_true, lt-ltb, ltb-true, or_cases, or_left, or_right}
use Rattle.rules_model.specs.declared.board.Cell.{Cell}
use Rattle.rules_model.specs.declared.board.Repeat.{Repeat}
use Rattle.rules_model.specs.declared.board.Side.{Side}
use Rattle.rules_model.specs.declared.board.Side.TheVariants.{White, Black}
use Rattle.rules_model.specs.declared.board.Square.{Square}
use Rattle.rules_model.specs.declared.moves.Move.{Move}
use Rattle.rules_model.specs.declared.moves.Move.TheVariants.{Go, Castle, Drop}
use Rattle.rules_model.specs.declared.moves.Promo.{Promo}
use Rattle.rules_model.specs.declared.moves.Promo.TheVariants.{Stays, Pawn, Plus}
use Rattle.rules_model.specs.declared.rules.Rules.{Rules}
use Rattle.rules_model.specs.Attacks.{ahead, is_diagonal, is_own, is_own_pawn, pawn_ray}
use Rattle.rules_model.specs.Fit.{IsFit}
use Rattle.rules_model.specs.Kinds.{board_of}
use Rattle.rules_model.specs.Pawns.{is_enemy, is_ep, is_free, is_stays, may_promote, passes_by, pawn_goes, pawn_moves, pawn_promo, steps_twice}
use Rattle.rules_model.specs.Reach.{is_at}
use Rattle.rules_model.specs.Regions.{in_region}
use Rattle.rules_model.specs.Sides.{other, same_side}
use Rattle.rules_model.specs.Squares.{cell_at}
use Rattle.rules_model.proofs.CandidateLaws.{at_some, not_both}
use Rattle.square_set.specs.declared.Set.{Set}
use Rattle.square_set.specs.Members.{has, leads, origin, twice, OnSquares}
use Rattle.move_tables.specs.Occupied.{AreMen}
use Rattle.attack_tables.specs.declared.pawns.PawnMasks.{PawnMasks}
use Rattle.attack_tables.specs.PawnMasks.{ArePawnMasks, is_aside, is_near}
use Rattle.attack_tables.specs.PawnSpots.{one_ahead, two_ahead}
use Rattle.board_sets.specs.declared.sets.BoardSets.{BoardSets}
use Rattle.board_sets.specs.Sets.{AreOnBoard, AreOwnPawns, AreSets}
use Rattle.piece_moves.specs.InTurn.{start_of, target_of}
use Rattle.special_moves.specs.PawnParts.{go}
use Rattle.special_moves.specs.PawnMoves.{FitPawnMoves, is_pawn_move}
use Rattle.special_moves.specs.Shifted.{AreFree, HasPassers, IsAcross, IsForward, IsOnce, IsTwiceOver, OfOtherPawns, leads_aside}
use Rattle.special_moves.proofs.GoalLemmas.{fit_board, some_at}
use Rattle.special_moves.proofs.PartLemmas.{go_is, go_parts}
use Rattle.special_moves.proofs.ShiftLemmas.{halves, same_end}
use Rattle.special_moves.proofs.StepLemmas.{step_below}

enemy_is : (a b : Side) → (same_side a (other b) && true) ≡ not (same_side a b)
enemy_is White White = refl
enemy_is White Black = refl
enemy_is Black White = refl
enemy_is Black Black = refl

enemy_of : (side : Side) (c : Option Cell) → is_own (other side) (λ kind. true) c ≡ is_enemy side c
enemy_of side None = refl
enemy_of side (Some x) = enemy_is x.side side

none_enemy : (side : Side) (c : Option Cell) → is_none c ≡ true → is_enemy side c ≡ true → ⊥
none_enemy side None e f = cc
none_enemy side (Some x) e f = cc

free_some : (cells : Option ℕ → Bool) (P : Type 0) (o : Option ℕ) → cells None ≡ false → cells o ≡ true → ((u : ℕ) → o ≡ Some u → cells (Some u) ≡ true → P) → P
free_some cells P None n e f = absurd (not_both (cells None) e n)
free_some cells P (Some u) n e f = f u refl e

plain_promo : (rules : Rules) (promo : Promo) → pawn_promo rules false promo ≡ true → promo ≡ Stays
plain_promo rules Stays e = refl
plain_promo rules (Pawn kind) e = cc
plain_promo rules Plus e = cc

out : (o p : Bool) → p ≡ true → (o && not p) ≡ false
out true true e = refl
out false true e = refl
out o false e = cc

among : (o p : Bool) → o ≡ true → (o && not p) ≡ false → p ≡ true
among true true e f = refl
among true false e f = cc
among false p e f = cc

from_not : (b : Bool) → not b ≡ true → b ≡ false
from_not true e = cc
from_not false e = refl

-- ---- as the rules tell

module _ (rules : Rules) (r : Repeat) (s : ℕ) where
  abbrev from : Square
  from = record { 0 = s }

  abbrev region : Bool
  region = rules.double_step && in_region rules.double_region r.side s

  abbrev one : Option ℕ
  one = ahead (board_of rules) r.side from 1

  abbrev second : ℕ → Bool
  second t = is_at t (ahead (board_of rules) r.side from 2)

  two_from : (t : ℕ) → steps_twice rules r from t ≡ true → (two_ahead rules r.side from t ≡ true) × (is_free r.cells one ≡ true)
  two_from t e =
      let a = and_parts (region && is_free r.cells one) (second t) e in
      let b = and_parts region (is_free r.cells one) a.0 in
      (and_from region (second t) b.0 a.1, b.1)

  two_to : (t : ℕ) → two_ahead rules r.side from t ≡ true → is_free r.cells one ≡ true → steps_twice rules r from t ≡ true
  two_to t e f =
      let a = and_parts region (second t) e in
      and_from (region && is_free r.cells one) (second t) (and_from region (is_free r.cells one) a.0 f) a.1

  -- it goes only where it may as far as the rules alone tell
  near : (t : ℕ) → pawn_goes rules r from t ≡ true → is_near rules r.side s t ≡ true
  unfolding pawn_goes
  near t e =
      ⊎_elim
      (λ h. or_left (one_ahead rules r.side from t || two_ahead rules r.side from t) (is_aside rules r.side s t)
      (⊎_elim
      (λ k. or_left (one_ahead rules r.side from t) (two_ahead rules r.side from t) k)
      (λ k. or_right (one_ahead rules r.side from t) (two_ahead rules r.side from t) (two_from t k).0)
      (or_cases (is_at t one) (steps_twice rules r from t) (and_parts (is_none (cell_at r.cells t)) (is_at t one || steps_twice rules r from t) h).1)))
      (λ h. or_right (one_ahead rules r.side from t || two_ahead rules r.side from t) (is_aside rules r.side s t) (and_parts (is_enemy r.side (cell_at r.cells t)) (is_diagonal (board_of rules) r.side from t) h).1)
      (or_cases (is_none (cell_at r.cells t) && (is_at t one || steps_twice rules r from t)) (is_enemy r.side (cell_at r.cells t) && is_diagonal (board_of rules) r.side from t) e)

  goes_ahead : (t : ℕ) → is_none (cell_at r.cells t) ≡ true → (one_ahead rules r.side from t || steps_twice rules r from t) ≡ true → pawn_goes rules r from t ≡ true
  unfolding pawn_goes
  goes_ahead t e f =
      or_left (is_none (cell_at r.cells t) && (is_at t one || steps_twice rules r from t)) (is_enemy r.side (cell_at r.cells t) && is_diagonal (board_of rules) r.side from t)
      (and_from (is_none (cell_at r.cells t)) (is_at t one || steps_twice rules r from t) e f)

  goes_aside : (t : ℕ) → is_enemy r.side (cell_at r.cells t) ≡ true → is_aside rules r.side s t ≡ true → pawn_goes rules r from t ≡ true
  unfolding pawn_goes
  goes_aside t e f =
      or_right (is_none (cell_at r.cells t) && (is_at t one || steps_twice rules r from t)) (is_enemy r.side (cell_at r.cells t) && is_diagonal (board_of rules) r.side from t)
      (and_from (is_enemy r.side (cell_at r.cells t)) (is_diagonal (board_of rules) r.side from t) e f)

  -- by which of its ways it goes
  goes_cases : (P : Type 0) (t : ℕ) → pawn_goes rules r from t ≡ true → (is_none (cell_at r.cells t) ≡ true → one_ahead rules r.side from t ≡ true → P) → (is_none (cell_at r.cells t) ≡ true → two_ahead rules r.side from t ≡ true → is_free r.cells one ≡ true → P) → (is_enemy r.side (cell_at r.cells t) ≡ true → is_aside rules r.side s t ≡ true → P) → P
  unfolding pawn_goes
  goes_cases P t e f g h =
      ⊎_elim
      (λ k.
      let a = and_parts (is_none (cell_at r.cells t)) (is_at t one || steps_twice rules r from t) k in
      ⊎_elim (f a.0) (λ b. let c = two_from t b in g a.0 c.0 c.1) (or_cases (is_at t one) (steps_twice rules r from t) a.1))
      (λ k. let a = and_parts (is_enemy r.side (cell_at r.cells t)) (is_diagonal (board_of rules) r.side from t) k in h a.0 a.1)
      (or_cases (is_none (cell_at r.cells t) && (is_at t one || steps_twice rules r from t)) (is_enemy r.side (cell_at r.cells t) && is_diagonal (board_of rules) r.side from t) e)

-- ---- the pawns that go together

-- a move of one of them
abbrev IsShifted : PawnMasks → Set → Set → Set → Move → Type 0
IsShifted masks pawns free enemies m = IsForward masks pawns free m ⊎ IsAcross masks pawns enemies m

-- they are own pawns on plain squares that pass no other, with the free squares and those of the enemies
pub record AreTogether (rules : Rules) (r : Repeat) (masks : PawnMasks) (pawns free enemies : Set) : Type 0 where
  pub masks_are : ArePawnMasks rules r.side masks
  pub own : (s : ℕ) → has pawns s ≡ true → is_own_pawn rules r.side (cell_at r.cells s) ≡ true
  pub plain : (s : ℕ) → has pawns s ≡ true → has masks.plain s ≡ true
  pub pass : (s t : ℕ) → has pawns s ≡ true → t < 120 → is_ep r.ep t ≡ true → leads_aside masks s t ≡ false
  pub free_are : AreFree r.cells free
  pub men : AreMen (other r.side) r.cells enemies
  pub on_board : OnSquares enemies

module _ (rules : Rules) (r : Repeat) (masks : PawnMasks) (sets : BoardSets) (owns some passers pawns : Set) (are : AreSets rules r.side r.cells sets) (board : AreOnBoard sets)
    (owns_are : AreOwnPawns rules r.side r.cells owns) (within : (s : ℕ) → has owns s ≡ true → has sets.own s ≡ true) (some_is : (s : ℕ) → has some s ≡ (has owns s && has masks.plain s))
    (passers_are : HasPassers masks r.ep passers) (pawns_is : (s : ℕ) → has pawns s ≡ (has some s && not (has passers s))) where
  some_at_pawn : (s : ℕ) → has pawns s ≡ true → ((has owns s ≡ true) × (has masks.plain s ≡ true)) × (not (has passers s) ≡ true)
  some_at_pawn s e =
      let h = and_parts (has some s) (not (has passers s)) (sym (pawns_is s) ∙ e) in
      (and_parts (has owns s) (has masks.plain s) (sym (some_is s) ∙ h.0), h.1)

  small : (s : ℕ) → has pawns s ≡ true → s < 120
  small s e = board.own s (within s (some_at_pawn s e).0.0)

  pub together : ArePawnMasks rules r.side masks → (free : Set) → AreFree r.cells free → AreTogether rules r masks pawns free sets.enemies
  together masks_are free free_are = record {
    masks_are = masks_are;
    own = λ s e. sym (owns_are s) ∙ (some_at_pawn s e).0.0;
    plain = λ s e. (some_at_pawn s e).0.1;
    pass = λ s t e l f. false_from_ne_true (leads_aside masks s t) (λ h. not_both (has passers s) (passers_are s t (small s e) l f h) (from_not (has passers s) (some_at_pawn s e).1));
    free_are = free_are;
    men = are.enemies;
    on_board = board.enemies;
  }

module _ (rules : Rules) (r : Repeat) (fit : IsFit rules) (masks : PawnMasks) (pawns free enemies : Set) (all : AreTogether rules r masks pawns free enemies) where
  free_at : (t : ℕ) → has free t ≡ true → (t < 120) × (is_none (cell_at r.cells t) ≡ true)
  free_at t e = let h = and_parts (nat_lt t 120) (is_none (cell_at r.cells t)) (sym (all.free_are t) ∙ e) in (ltb-true t 120 h.0, h.1)

  free_to : (t : ℕ) → t < 120 → is_none (cell_at r.cells t) ≡ true → has free t ≡ true
  free_to t l e = all.free_are t ∙ and_from (nat_lt t 120) (is_none (cell_at r.cells t)) (lt-ltb t 120 l) e

  enemies_are : (t : ℕ) → has enemies t ≡ is_enemy r.side (cell_at r.cells t)
  enemies_are t = all.men t ∙ enemy_of r.side (cell_at r.cells t)

  pub ways_apart : (m : Move) → IsForward masks pawns free m → IsAcross masks pawns enemies m → ⊥
  ways_apart m h k =
      let t = target_of m in
      let empty : has free t ≡ true = ⊎_elim (λ a. a.3) (λ a. a.0.3) h in
      let enemy : has enemies t ≡ true = ⊎_elim (λ a. a.3) (λ a. a.3) k in
      none_enemy r.side (cell_at r.cells t) (free_at t empty).1 (sym (enemies_are t) ∙ enemy)

  module _ (s : ℕ) (pawn : has pawns s ≡ true) where
    abbrev start : Square
    start = record { 0 = s }

    is_plain : has masks.plain s ≡ true
    is_plain = all.plain s pawn

    one_is : (t : ℕ) → t < 120 → one_ahead rules r.side start t ≡ (has masks.once s && leads masks.ahead s t)
    one_is = (all.masks_are.tells s is_plain).one

    two_is : (t : ℕ) → t < 120 → two_ahead rules r.side start t ≡ (has masks.twice s && leads (twice masks.ahead) s t)
    two_is = (all.masks_are.tells s is_plain).two

    aside_is : (t : ℕ) → t < 120 → is_aside rules r.side s t ≡ ((has masks.left s && leads masks.leftward s t) || (has masks.right s && leads masks.rightward s t))
    aside_is = (all.masks_are.tells s is_plain).aside

    -- ---- where the sets and shifts tell, it goes

    one_to : (t : ℕ) → t < 120 → has masks.once s ≡ true → leads masks.ahead s t ≡ true → one_ahead rules r.side start t ≡ true
    one_to t l e f = one_is t l ∙ and_from (has masks.once s) (leads masks.ahead s t) e f

    once_goes : (t : ℕ) → has masks.once s ≡ true → leads masks.ahead s t ≡ true → has free t ≡ true → pawn_goes rules r start t ≡ true
    once_goes t e f g =
        let h = free_at t g in
        goes_ahead rules r s t h.1 (or_left (one_ahead rules r.side start t) (steps_twice rules r start t) (one_to t h.0 e f))

    first_free : (u : ℕ) → has masks.once s ≡ true → leads masks.ahead s u ≡ true → has free u ≡ true → is_free r.cells (ahead (board_of rules) r.side start 1) ≡ true
    first_free u e f g =
        let h = free_at u g in
        ap (is_free r.cells) (at_some u (ahead (board_of rules) r.side start 1) (one_to u h.0 e f)) ∙ h.1

    twice_goes : (t : ℕ) → has masks.once s ≡ true → has masks.twice s ≡ true → leads (twice masks.ahead) s t ≡ true → has free t ≡ true → has free (origin masks.ahead t) ≡ true → pawn_goes rules r start t ≡ true
    twice_goes t e f g h k =
        let a = free_at t h in
        let two = two_is t a.0 ∙ and_from (has masks.twice s) (leads (twice masks.ahead) s t) f g in
        let free_first = first_free (origin masks.ahead t) e (halves masks.ahead s t g).0 k in
        goes_ahead rules r s t a.1 (or_right (one_ahead rules r.side start t) (steps_twice rules r start t) (two_to rules r s t two free_first))

    across_goes : (t : ℕ) → ((has masks.left s && leads masks.leftward s t) || (has masks.right s && leads masks.rightward s t)) ≡ true → has enemies t ≡ true → pawn_goes rules r start t ≡ true
    across_goes t e f = goes_aside rules r s t (sym (enemies_are t) ∙ f) (aside_is t (all.on_board t f) ∙ e)

    -- ---- where it goes, the sets and shifts tell

    two_told : (t : ℕ) → t < 120 → is_none (cell_at r.cells t) ≡ true → two_ahead rules r.side start t ≡ true → is_free r.cells (ahead (board_of rules) r.side start 1) ≡ true → IsTwiceOver masks pawns free (go start (record { 0 = t }) Stays)
    two_told t l e f g =
        let two = and_parts (has masks.twice s) (leads (twice masks.ahead) s t) (sym (two_is t l) ∙ f) in
        free_some (is_free r.cells) (IsTwiceOver masks pawns free (go start (record { 0 = t }) Stays)) (ahead (board_of rules) r.side start 1) refl g
        (λ u at none.
        let below = step_below (pawn_ray (board_of rules) r.side (pos 0) start) 1 u (fit_board rules fit) at in
        let first = and_parts (has masks.once s) (leads masks.ahead s u) (sym (one_is u below) ∙ some_at u (ahead (board_of rules) r.side start 1) at) in
        let same = same_end masks.ahead s u (origin masks.ahead t) first.1 (halves masks.ahead s t two.1).0 in
        let starts = and_from (has pawns s && has masks.once s) (has masks.twice s) (and_from (has pawns s) (has masks.once s) pawn first.0) two.0 in
        ((refl, two.1, starts, free_to t l e), ap (has free) (sym same) ∙ free_to u below none))

    one_told : (t : ℕ) → t < 120 → is_none (cell_at r.cells t) ≡ true → one_ahead rules r.side start t ≡ true → IsOnce masks pawns free (go start (record { 0 = t }) Stays)
    one_told t l e f =
        let h = and_parts (has masks.once s) (leads masks.ahead s t) (sym (one_is t l) ∙ f) in
        (refl, h.1, and_from (has pawns s) (has masks.once s) pawn h.0, free_to t l e)

    aside_told : (t : ℕ) → t < 120 → is_enemy r.side (cell_at r.cells t) ≡ true → is_aside rules r.side s t ≡ true → IsAcross masks pawns enemies (go start (record { 0 = t }) Stays)
    aside_told t l e f =
        ⊎_elim
        (λ h. let k = and_parts (has masks.left s) (leads masks.leftward s t) h in inl (refl, k.1, and_from (has pawns s) (has masks.left s) pawn k.0, enemies_are t ∙ e))
        (λ h. let k = and_parts (has masks.right s) (leads masks.rightward s t) h in inr (refl, k.1, and_from (has pawns s) (has masks.right s) pawn k.0, enemies_are t ∙ e))
        (or_cases (has masks.left s && leads masks.leftward s t) (has masks.right s && leads masks.rightward s t) (sym (aside_is t l) ∙ f))

    told : (t : ℕ) → t < 120 → pawn_goes rules r start t ≡ true → IsShifted masks pawns free enemies (go start (record { 0 = t }) Stays)
    told t l e =
        goes_cases rules r s (IsShifted masks pawns free enemies (go start (record { 0 = t }) Stays)) t e
        (λ n f. inl (inl (one_told t l n f)))
        (λ n f g. inl (inr (two_told t l n f g)))
        (λ n f. inr (aside_told t l n f))

    -- ---- all its moves are plain ones

    no_promotion : (t : ℕ) → t < 120 → pawn_goes rules r start t ≡ true → may_promote rules r.side t ≡ false
    no_promotion t l e = (all.masks_are.tells s is_plain).promotes_nowhere t l (near rules r s t e)

    leads_there : (t : ℕ) → t < 120 → is_aside rules r.side s t ≡ true → leads_aside masks s t ≡ true
    leads_there t l e =
        ⊎_elim
        (λ h. or_left (leads masks.leftward s t) (leads masks.rightward s t) (and_parts (has masks.left s) (leads masks.leftward s t) h).1)
        (λ h. or_right (leads masks.leftward s t) (leads masks.rightward s t) (and_parts (has masks.right s) (leads masks.rightward s t) h).1)
        (or_cases (has masks.left s && leads masks.leftward s t) (has masks.right s && leads masks.rightward s t) (sym (aside_is t l) ∙ e))

    no_passing : (t : ℕ) → t < 120 → passes_by rules r start t ≡ true → ⊥
    unfolding passes_by
    no_passing t l e =
        let a = and_parts (is_own_pawn rules r.side (cell_at r.cells s) && is_ep r.ep t) (is_diagonal (board_of rules) r.side start t) e in
        let b = and_parts (is_own_pawn rules r.side (cell_at r.cells s)) (is_ep r.ep t) a.0 in
        not_both (leads_aside masks s t) (leads_there t l a.1) (all.pass s t pawn l b.1)

    plainly : (to : Square) (promo : Promo) → to.0 < 120 → pawn_moves rules r start to promo ≡ true → (pawn_goes rules r start to.0 ≡ true) × (promo ≡ Stays)
    unfolding pawn_moves
    plainly to promo l e =
        ⊎_elim
        (λ h.
        let k = and_parts (pawn_goes rules r start to.0) (pawn_promo rules (may_promote rules r.side to.0) promo) h in
        (k.0, plain_promo rules promo (ap (λ b. pawn_promo rules b promo) (sym (no_promotion to.0 l k.0)) ∙ k.1)))
        (λ h. absurd (no_passing to.0 l (and_parts (passes_by rules r start to.0) (is_stays promo) h).0))
        (or_cases (pawn_goes rules r start to.0 && pawn_promo rules (may_promote rules r.side to.0) promo) (passes_by rules r start to.0 && is_stays promo) e)

    stays : (to : Square) → to.0 < 120 → pawn_goes rules r start to.0 ≡ true → pawn_moves rules r start to Stays ≡ true
    unfolding pawn_moves
    stays to l e = rw (e, no_promotion to.0 l e) refl

    fits : (t : ℕ) → t < 120 → pawn_goes rules r start t ≡ true → FitPawnMoves rules r (go start (record { 0 = t }) Stays)
    fits t l e =
        let own = and_from (is_own_pawn rules r.side (cell_at r.cells s)) (pawn_moves rules r start (record { 0 = t }) Stays) (all.own s pawn) (stays (record { 0 = t }) l e) in
        ((all.masks_are.board s is_plain, l, tt, tt), go_is rules r start (record { 0 = t }) Stays ∙ own)

  -- ---- all of them

  -- a move of one of the pawns
  abbrev IsTheirs : Move → Type 0
  IsTheirs m = FitPawnMoves rules r m × (has pawns (start_of m) ≡ true)

  theirs : (m : Move) → go (record { 0 = start_of m }) (record { 0 = target_of m }) Stays ≡ m → has pawns (start_of m) ≡ true → target_of m < 120 → pawn_goes rules r (record { 0 = start_of m }) (target_of m) ≡ true → IsTheirs m
  theirs m is pawn l e = subst IsTheirs is (fits (start_of m) pawn (target_of m) l e, pawn)

  pub forward_theirs : (m : Move) → IsForward masks pawns free m → IsTheirs m
  forward_theirs m (inl h) =
      let s = start_of m in
      let a = and_parts (has pawns s) (has masks.once s) h.2 in
      theirs m h.0 a.0 (free_at (target_of m) h.3).0 (once_goes s a.0 (target_of m) a.1 h.1 h.3)
  forward_theirs m (inr h) =
      let s = start_of m in
      let b = and_parts (has pawns s && has masks.once s) (has masks.twice s) h.0.2 in
      let a = and_parts (has pawns s) (has masks.once s) b.0 in
      theirs m h.0.0 a.0 (free_at (target_of m) h.0.3).0 (twice_goes s a.0 (target_of m) a.1 b.1 h.0.1 h.0.3 h.1)

  pub across_theirs : (m : Move) → IsAcross masks pawns enemies m → IsTheirs m
  across_theirs m (inl h) =
      let s = start_of m in
      let t = target_of m in
      let a = and_parts (has pawns s) (has masks.left s) h.2 in
      let led = or_left (has masks.left s && leads masks.leftward s t) (has masks.right s && leads masks.rightward s t) (and_from (has masks.left s) (leads masks.leftward s t) a.1 h.1) in
      theirs m h.0 a.0 (all.on_board t h.3) (across_goes s a.0 t led h.3)
  across_theirs m (inr h) =
      let s = start_of m in
      let t = target_of m in
      let a = and_parts (has pawns s) (has masks.right s) h.2 in
      let led = or_right (has masks.left s && leads masks.leftward s t) (has masks.right s && leads masks.rightward s t) (and_from (has masks.right s) (leads masks.rightward s t) a.1 h.1) in
      theirs m h.0 a.0 (all.on_board t h.3) (across_goes s a.0 t led h.3)

  pub theirs_shifted : (m : Move) → FitPawnMoves rules r m → has pawns (start_of m) ≡ true → IsShifted masks pawns free enemies m
  unfolding is_pawn_move
  theirs_shifted (Go a b promo None) h pawn =
      let k = plainly a.0 pawn b promo h.0.1 (go_parts rules r a b promo h.1).1 in
      subst (λ x. IsShifted masks pawns free enemies (go a b x)) (sym k.1) (told a.0 pawn b.0 h.0.1 k.0)
  theirs_shifted (Go a b promo (Some kind)) h pawn = let e = h.1 in cc
  theirs_shifted (Castle a b rook gate) h pawn = let e = h.1 in cc
  theirs_shifted (Drop kind b) h pawn = let e = h.1 in cc

  -- ---- the moves of the others are left

  module _ (owns left : Set) (left_is : (s : ℕ) → has left s ≡ (has owns s && not (has pawns s))) (owned : (m : Move) → FitPawnMoves rules r m → has owns (start_of m) ≡ true) where
    abbrev IsGiven : Move → Type 0
    IsGiven = OfOtherPawns rules r left

    given : (m : Move) → IsTheirs m → IsGiven m
    given m h = (h.0, left_is (start_of m) ∙ out (has owns (start_of m)) (has pawns (start_of m)) h.1)

    pub given_join : (m : Move) → IsShifted masks pawns free enemies m → IsGiven m
    given_join m s = given m (⊎_elim (forward_theirs m) (across_theirs m) s)

    pub given_split : (m : Move) → IsGiven m → IsShifted masks pawns free enemies m
    given_split m h = theirs_shifted m h.0 (among (has owns (start_of m)) (has pawns (start_of m)) (owned m h.0) (sym (left_is (start_of m)) ∙ h.1))
