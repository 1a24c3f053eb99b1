-- The tests of equality decide it.
use Rattle.std.proofs.Common.{◌≡◌, ℕ, Bool, true, false, ◌&&◌, ◌==◌, nat_eq, Option, Some, None, List, refl, ap}
use Rattle.std.specs.Bool.{Decides}
use Rattle.std.specs.Cmp.Lexicographic.{pointwise}
use Rattle.std.proofs.lemmas.Slice.Eq.{slice_eq-Decides}
use Rattle.std.proofs.lemmas.Bool.Decides.{Decides-eqb}
use Rattle.foundation.specs.Tests.{same_bool}
use Rattle.rules_model.specs.declared.board.Cell.{Cell}
use Rattle.rules_model.specs.declared.board.Kind.{Kind}
use Rattle.rules_model.specs.declared.board.Repeat.{Repeat}
use Rattle.rules_model.specs.declared.board.Side.{Side}
use Rattle.rules_model.specs.declared.board.Side.TheVariants.{White, Black}
use Rattle.rules_model.specs.declared.board.Square.{Square}
use Rattle.rules_model.specs.declared.moves.Move.{Move}
use Rattle.rules_model.specs.declared.moves.Move.TheVariants.{Go, Castle, Drop}
use Rattle.rules_model.specs.declared.moves.Placed.{Placed}
use Rattle.rules_model.specs.declared.moves.Promo.{Promo}
use Rattle.rules_model.specs.declared.moves.Promo.TheVariants.{Stays, Pawn, Plus}
use Rattle.rules_model.specs.Sides.{same_side}
use Rattle.rules_model.specs.Kinds.{same_kind}
use Rattle.rules_model.specs.Moves.{same_promo, same_placed, same_move}
use Rattle.rules_model.specs.Games.{same_square, same_cell, same_repeat}

-- two tests of two facts that are one fact together
both : (a b : Bool) (P Q S : Type 0) → Decides a P → Decides b Q → (P → Q → S) → (S → P × Q) → Decides (a && b) S
both true b P Q S f g join split = (λ e. join (f.0 refl) (g.0 e), λ s. g.1 (split s).1)
both false b P Q S f g join split = (λ e. cc, λ s. f.1 (split s).0)

numbers : (x y : ℕ) (P : Type 0) → (x ≡ y → P) → (P → x ≡ y) → Decides (x == y) P
numbers x y P to from = let d = Decides-eqb x y in (λ e. to (d.0 e), λ h. d.1 (from h))

some : {T : Type 0} (a b : T) (r : Bool) → Decides r (a ≡ b) → Decides r (Some a ≡ Some b)
some a b r d = (λ e. ap (λ x. Some x) (d.0 e), λ h. d.1 cc)

lists : {T : Type 0} (test : T → T → Bool) → ((a b : T) → Decides (test a b) (a ≡ b)) → (xs ys : List T) → Decides (pointwise test xs ys) (xs ≡ ys)
lists test d xs ys = slice_eq-Decides {E = test} d xs ys (pointwise test xs ys) refl

pub kind-decides : (a b : Kind) → Decides (a.0 == b.0) (a ≡ b)
kind-decides a b = numbers a.0 b.0 (a ≡ b) (λ e i. record { 0 = e i }) (λ e i. (e i).0)

pub square-decides : (a b : Square) → Decides (a.0 == b.0) (a ≡ b)
square-decides a b = numbers a.0 b.0 (a ≡ b) (λ e i. record { 0 = e i }) (λ e i. (e i).0)

pub side-decides : (a b : Side) → Decides (same_side a b) (a ≡ b)
side-decides White White = (λ _. refl, λ _. refl)
side-decides White Black = (λ e. cc, λ e. cc)
side-decides Black White = (λ e. cc, λ e. cc)
side-decides Black Black = (λ _. refl, λ _. refl)

bool-decides : (a b : Bool) → Decides (same_bool a b) (a ≡ b)
bool-decides true true = (λ _. refl, λ _. refl)
bool-decides true false = (λ e. cc, λ e. cc)
bool-decides false true = (λ e. cc, λ e. cc)
bool-decides false false = (λ _. refl, λ _. refl)

pub option_kind-decides : (a b : Option Kind) → Decides (same_kind a b) (a ≡ b)
option_kind-decides None None = (λ _. refl, λ _. refl)
option_kind-decides None (Some b) = (λ e. cc, λ e. cc)
option_kind-decides (Some a) None = (λ e. cc, λ e. cc)
option_kind-decides (Some a) (Some b) = some a b (a.0 == b.0) (kind-decides a b)

option_square-decides : (a b : Option Square) → Decides (same_square a b) (a ≡ b)
option_square-decides None None = (λ _. refl, λ _. refl)
option_square-decides None (Some b) = (λ e. cc, λ e. cc)
option_square-decides (Some a) None = (λ e. cc, λ e. cc)
option_square-decides (Some a) (Some b) = some a b (a.0 == b.0) (square-decides a b)

-- ---- repeats

piece-decides : (a b : Cell) → Decides (same_side a.side b.side && ((a.kind.0 == b.kind.0) && same_kind a.origin b.origin)) (a ≡ b)
piece-decides a b =
    both _ _ (a.side ≡ b.side) ((a.kind ≡ b.kind) × (a.origin ≡ b.origin)) (a ≡ b) (side-decides a.side b.side)
    (both _ _ (a.kind ≡ b.kind) (a.origin ≡ b.origin) _ (kind-decides a.kind b.kind) (option_kind-decides a.origin b.origin) (λ e f. (e, f)) (λ h. h))
    (λ e f i. record { side = e i; kind = f.0 i; origin = f.1 i })
    (λ e. (ap (λ (c : Cell). c.side) e, (ap (λ (c : Cell). c.kind) e, ap (λ (c : Cell). c.origin) e)))

pub cell-decides : (a b : Option Cell) → Decides (same_cell a b) (a ≡ b)
cell-decides None None = (λ _. refl, λ _. refl)
cell-decides None (Some b) = (λ e. cc, λ e. cc)
cell-decides (Some a) None = (λ e. cc, λ e. cc)
cell-decides (Some a) (Some b) = some a b _ (piece-decides a b)

pub repeat-decides : (a b : Repeat) → Decides (same_repeat a b) (a ≡ b)
unfolding same_repeat
repeat-decides a b =
    both _ _ (a.cells ≡ b.cells) ((a.hands ≡ b.hands) × ((a.gates ≡ b.gates) × ((a.rights ≡ b.rights) × ((a.checks ≡ b.checks) × ((a.ep ≡ b.ep) × (a.side ≡ b.side)))))) (a ≡ b)
    (lists same_cell cell-decides a.cells b.cells)
    (both _ _ (a.hands ≡ b.hands) ((a.gates ≡ b.gates) × ((a.rights ≡ b.rights) × ((a.checks ≡ b.checks) × ((a.ep ≡ b.ep) × (a.side ≡ b.side))))) _
    (lists (pointwise nat_eq) (lists nat_eq Decides-eqb) a.hands b.hands)
    (both _ _ (a.gates ≡ b.gates) ((a.rights ≡ b.rights) × ((a.checks ≡ b.checks) × ((a.ep ≡ b.ep) × (a.side ≡ b.side)))) _
    (lists nat_eq Decides-eqb a.gates b.gates)
    (both _ _ (a.rights ≡ b.rights) ((a.checks ≡ b.checks) × ((a.ep ≡ b.ep) × (a.side ≡ b.side))) _
    (lists (pointwise same_bool) (lists same_bool bool-decides) a.rights b.rights)
    (both _ _ (a.checks ≡ b.checks) ((a.ep ≡ b.ep) × (a.side ≡ b.side)) _
    (lists nat_eq Decides-eqb a.checks b.checks)
    (both _ _ (a.ep ≡ b.ep) (a.side ≡ b.side) _ (option_square-decides a.ep b.ep) (side-decides a.side b.side) (λ e f. (e, f)) (λ h. h))
    (λ e f. (e, f)) (λ h. h))
    (λ e f. (e, f)) (λ h. h))
    (λ e f. (e, f)) (λ h. h))
    (λ e f. (e, f)) (λ h. h))
    (λ e f i. record { cells = e i; hands = f.0 i; gates = f.1.0 i; rights = f.1.1.0 i; checks = f.1.1.1.0 i; ep = f.1.1.1.1.0 i; side = f.1.1.1.1.1 i })
    (λ e. (ap (λ (c : Repeat). c.cells) e, (ap (λ (c : Repeat). c.hands) e, (ap (λ (c : Repeat). c.gates) e, (ap (λ (c : Repeat). c.rights) e, (ap (λ (c : Repeat). c.checks) e, (ap (λ (c : Repeat). c.ep) e, ap (λ (c : Repeat). c.side) e)))))))

-- ---- moves

promo-decides : (a b : Promo) → Decides (same_promo a b) (a ≡ b)
promo-decides Stays Stays = (λ _. refl, λ _. refl)
promo-decides Stays (Pawn b) = (λ e. cc, λ e. cc)
promo-decides Stays Plus = (λ e. cc, λ e. cc)
promo-decides (Pawn a) Stays = (λ e. cc, λ e. cc)
promo-decides (Pawn a) (Pawn b) = let d = kind-decides a b in (λ e. ap (λ x. Pawn x) (d.0 e), λ e. d.1 cc)
promo-decides (Pawn a) Plus = (λ e. cc, λ e. cc)
promo-decides Plus Stays = (λ e. cc, λ e. cc)
promo-decides Plus (Pawn b) = (λ e. cc, λ e. cc)
promo-decides Plus Plus = (λ _. refl, λ _. refl)

set_down-decides : (a b : Placed) → Decides ((a.kind.0 == b.kind.0) && (a.at.0 == b.at.0)) (a ≡ b)
set_down-decides a b =
    both _ _ (a.kind ≡ b.kind) (a.at ≡ b.at) _ (kind-decides a.kind b.kind) (square-decides a.at b.at)
    (λ e f i. record { kind = e i; at = f i }) (λ e. (ap (λ (c : Placed). c.kind) e, ap (λ (c : Placed). c.at) e))

placed-decides : (a b : Option Placed) → Decides (same_placed a b) (a ≡ b)
placed-decides None None = (λ _. refl, λ _. refl)
placed-decides None (Some b) = (λ e. cc, λ e. cc)
placed-decides (Some a) None = (λ e. cc, λ e. cc)
placed-decides (Some a) (Some b) = some a b _ (set_down-decides a b)

pub move-decides : (a b : Move) → Decides (same_move a b) (a ≡ b)
unfolding same_move
move-decides (Go a b p g) (Go c d q h) =
    both _ _ (a ≡ c) ((b ≡ d) × ((p ≡ q) × (g ≡ h))) _ (square-decides a c)
    (both _ _ (b ≡ d) ((p ≡ q) × (g ≡ h)) _ (square-decides b d)
    (both _ _ (p ≡ q) (g ≡ h) _ (promo-decides p q) (option_kind-decides g h) (λ e f. (e, f)) (λ x. x)) (λ e f. (e, f)) (λ x. x))
    (λ e f. let x = f.0 in let y = f.1.0 in let z = f.1.1 in cc) (λ x. (cc, (cc, (cc, cc))))
move-decides (Go a b p g) (Castle c d s h) = (λ e. cc, λ e. cc)
move-decides (Go a b p g) (Drop k c) = (λ e. cc, λ e. cc)
move-decides (Castle a b r g) (Go c d q h) = (λ e. cc, λ e. cc)
move-decides (Castle a b r g) (Castle c d s h) =
    both _ _ (a ≡ c) ((b ≡ d) × ((r ≡ s) × (g ≡ h))) _ (square-decides a c)
    (both _ _ (b ≡ d) ((r ≡ s) × (g ≡ h)) _ (square-decides b d)
    (both _ _ (r ≡ s) (g ≡ h) _ (square-decides r s) (placed-decides g h) (λ e f. (e, f)) (λ x. x)) (λ e f. (e, f)) (λ x. x))
    (λ e f. let x = f.0 in let y = f.1.0 in let z = f.1.1 in cc) (λ x. (cc, (cc, (cc, cc))))
move-decides (Castle a b r g) (Drop k c) = (λ e. cc, λ e. cc)
move-decides (Drop j a) (Go c d q h) = (λ e. cc, λ e. cc)
move-decides (Drop j a) (Castle c d s h) = (λ e. cc, λ e. cc)
move-decides (Drop j a) (Drop k c) = both _ _ (j ≡ k) (a ≡ c) _ (kind-decides j k) (square-decides a c) (λ e f. cc) (λ x. (cc, cc))
