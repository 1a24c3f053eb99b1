-- A piece goes to the squares that it lands on.
use Rattle.std.proofs.Common.{◌≡◌, ℕ, Bool, true, false, ◌&&◌, not, if◌then◌else◌, Option, Some, None, List, [], ◌∷◌, refl, ap, sym, ◌∙◌}
use Rattle.std.specs.List.{list_any}
use Rattle.rules_model.specs.declared.board.Cell.{Cell}
use Rattle.rules_model.specs.declared.board.Repeat.{Repeat}
use Rattle.rules_model.specs.declared.board.Side.{Side}
use Rattle.rules_model.specs.declared.board.Side.TheVariants.{White, Black}
use Rattle.rules_model.specs.declared.board.Square.{Square}
use Rattle.rules_model.specs.declared.moves.Promo.{Promo}
use Rattle.rules_model.specs.declared.rules.Rules.{Rules}
use Rattle.rules_model.specs.declared.rules.Term.{Term}
use Rattle.rules_model.specs.Attacks.{is_own}
use Rattle.rules_model.specs.Candidates.{own_piece_moves}
use Rattle.rules_model.specs.Kinds.{board_of, is_pawn}
use Rattle.rules_model.specs.Movement.{in_mobility, kind_reaches, reaches_by, terms_from}
use Rattle.rules_model.specs.Pieces.{piece_goes, piece_moves}
use Rattle.rules_model.specs.Pieces as Pieces
use Rattle.rules_model.specs.Reach.{reaches}
use Rattle.rules_model.specs.Sides.{same_side}
use Rattle.rules_model.specs.Squares.{cell_at}
use Rattle.move_tables.specs.declared.mode.Mode.{Mode}
use Rattle.move_tables.specs.declared.mode.Mode.TheVariants.{Quiet, Take}
use Rattle.move_tables.specs.Reached.{reaches_in, serves}
use Rattle.piece_moves.specs.Goals.{own_piece, lands, makes}

same : (a b : Side) → same_side a b ≡ true → a ≡ b
same White White e = refl
same White Black e = cc
same Black White e = cc
same Black Black e = refl

-- ---- an own piece

when : (b c : Bool) (x y : Cell) → (if b && not c then Some x else None) ≡ Some y → (b ≡ true) × (c ≡ false) × (x ≡ y)
when true true x y e = cc
when true false x y e = (refl, refl, cc)
when false c x y e = cc

-- what the square of an own piece says of it
pub record IsOwn (rules : Rules) (side : Side) (o : Option Cell) (c : Cell) : Type 0 where
  pub stands : o ≡ Some c
  pub side_is : c.side ≡ side
  pub piece : is_pawn rules c.kind ≡ false

pub own : (rules : Rules) (side : Side) (o : Option Cell) (c : Cell) → own_piece rules side o ≡ Some c → IsOwn rules side o c
own rules side None c e = cc
own rules side (Some x) c e =
    let h = when (same_side x.side side) (is_pawn rules x.kind) x c e in
    record {
      stands = ap (λ y. Some y) h.2;
      side_is = sym (ap (λ y. y.side) h.2) ∙ same x.side side h.0;
      piece = sym (ap (λ y. is_pawn rules y.kind) h.2) ∙ h.1;
    }

-- what stands on a square of which it is known that an own piece is there, and no pawn
pub there : (rules : Rules) (side : Side) (o : Option Cell) (c : Cell) → o ≡ Some c → is_own side (λ kind. not (is_pawn rules kind)) o ≡ true → own_piece rules side o ≡ Some c
there rules side None c e h = cc
there rules side (Some x) c e h = ap (λ b. if b then Some x else None) h ∙ e

chosen : (rules : Rules) (r : Repeat) (from to : Square) (promo : Promo) (c : Cell) (b d : Bool) → (b && not d && piece_moves rules r c from to promo) ≡ makes rules r (if b && not d then Some c else None) from to promo
chosen rules r from to promo c true true = refl
chosen rules r from to promo c true false = refl
chosen rules r from to promo c false d = refl

-- an own piece moves where there is one
pub own_makes : (rules : Rules) (r : Repeat) (from to : Square) (promo : Promo) (o : Option Cell) → own_piece_moves rules r from to promo o ≡ makes rules r (own_piece rules r.side o) from to promo
own_makes rules r from to promo None = refl
own_makes rules r from to promo (Some c) = chosen rules r from to promo c (same_side c.side r.side) (is_pawn rules c.kind)

-- ---- where it lands

drop_true : (a b : Bool) → (a && true && b) ≡ (a && b)
drop_true true b = refl
drop_true false b = refl

drop_false : (a b : Bool) → (a && false && b) ≡ false
drop_false true b = refl
drop_false false b = refl

module _ (rules : Rules) (cells : List (Option Cell)) (side : Side) (from : Square) (to : ℕ) where
  -- by one of the terms, of those of a mode
  abbrev by_mode : Mode → List Term → Bool
  by_mode mode ts = list_any (reaches_by rules cells side (serves mode) from to) ts

  onto_enemy : (ts : List Term) → list_any (λ t. t.takes && true && reaches (board_of rules) cells side t from to) ts ≡ by_mode Take ts
  onto_enemy [] = refl
  onto_enemy (t ∷ ts) = rw (drop_true t.takes (reaches (board_of rules) cells side t from to), onto_enemy ts) refl

  onto_own : (ts : List Term) → list_any (λ t. t.takes && false && reaches (board_of rules) cells side t from to) ts ≡ false
  onto_own [] = refl
  onto_own (t ∷ ts) = rw (drop_false t.takes (reaches (board_of rules) cells side t from to), onto_own ts) refl

  onto : (within : Bool) (ts : List Term) (b : Bool) → (within && list_any (λ t. t.takes && not b && reaches (board_of rules) cells side t from to) ts) ≡ (not b && (within && by_mode Take ts))
  onto true ts true = onto_own ts
  onto true ts false = onto_enemy ts
  onto false ts true = refl
  onto false ts false = refl

  landing : (within : Bool) (ts : List Term) (o : Option Cell) → (within && list_any (reaches_by rules cells side (Pieces.serves side o) from to) ts) ≡ lands side o (within && by_mode Quiet ts) (within && by_mode Take ts)
  landing within ts None = refl
  landing within ts (Some c) = onto within ts (same_side c.side side)

-- what stands on the square reaches what a piece of its kind reaches
pub own_reaches : (rules : Rules) (cells : List (Option Cell)) (side : Side) (from : Square) (mode : Mode) (to : ℕ) (c : Cell) → IsOwn rules side (cell_at cells from.0) c → reaches_in rules cells from mode to ≡ kind_reaches rules cells side c.kind (serves mode) from to
unfolding reaches_in
own_reaches rules cells side from mode to c h = rw (h.stands, h.piece, h.side_is) refl

-- an own piece goes to the squares on which it lands
pub goes_is : (rules : Rules) (cells : List (Option Cell)) (side : Side) (from : Square) (to : ℕ) (c : Cell) → own_piece rules side (cell_at cells from.0) ≡ Some c → piece_goes rules cells side c.kind from to ≡ lands side (cell_at cells to) (reaches_in rules cells from Quiet to) (reaches_in rules cells from Take to)
unfolding piece_goes kind_reaches
goes_is rules cells side from to c e =
    let h = own rules side (cell_at cells from.0) c e in
    rw (own_reaches rules cells side from Quiet to c h, own_reaches rules cells side from Take to c h)
    (landing rules cells side from to (in_mobility rules side c.kind to) (terms_from rules side c.kind from) (cell_at cells to))
