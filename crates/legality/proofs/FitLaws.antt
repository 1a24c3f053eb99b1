-- The test of fit moves.
use Rattle.std.proofs.Common.{◌≡◌, true, ◌&&◌, nat_lt, Option, Some, None, refl}
use Rattle.std.proofs.lemmas.Bool.{and_from, and_parts, lt-ltb, ltb-true}
use Rattle.rules_model.specs.declared.board.Kind.{Kind}
use Rattle.rules_model.specs.declared.moves.Move.{Move}
use Rattle.rules_model.specs.declared.moves.Move.TheVariants.{Go, Castle, Drop}
use Rattle.rules_model.specs.declared.moves.Placed.{Placed}
use Rattle.rules_model.specs.declared.moves.Promo.{Promo}
use Rattle.rules_model.specs.declared.moves.Promo.TheVariants.{Stays, Pawn, Plus}
use Rattle.rules_model.specs.Moves.{IsFitMove, IsFitPromo, IsFitGate, IsFitPlaced}
use Rattle.legality.specs.Chosen.{is_fit_move, is_fit_promo, is_fit_gate, is_fit_placed}

promo_is : (promo : Promo) → is_fit_promo promo ≡ true → IsFitPromo promo
promo_is Stays e = tt
promo_is (Pawn kind) e = ltb-true _ _ e
promo_is Plus e = tt

gate_is : (gate : Option Kind) → is_fit_gate gate ≡ true → IsFitGate gate
gate_is None e = tt
gate_is (Some kind) e = ltb-true _ _ e

placed_is : (gate : Option Placed) → is_fit_placed gate ≡ true → IsFitPlaced gate
placed_is None e = tt
placed_is (Some x) e = let h = and_parts (nat_lt x.kind.0 26) (nat_lt x.at.0 120) e in (ltb-true _ _ h.0, ltb-true _ _ h.1)

-- what passes is fit
pub fit_from : (m : Move) → is_fit_move m ≡ true → IsFitMove m
unfolding is_fit_move
fit_from (Go from to promo gate) e =
    let a = and_parts (nat_lt from.0 120 && nat_lt to.0 120 && is_fit_promo promo) (is_fit_gate gate) e in
    let b = and_parts (nat_lt from.0 120 && nat_lt to.0 120) (is_fit_promo promo) a.0 in
    let d = and_parts (nat_lt from.0 120) (nat_lt to.0 120) b.0 in
    (ltb-true _ _ d.0, ltb-true _ _ d.1, promo_is promo b.1, gate_is gate a.1)
fit_from (Castle from to rook gate) e =
    let a = and_parts (nat_lt from.0 120 && nat_lt to.0 120 && nat_lt rook.0 120) (is_fit_placed gate) e in
    let b = and_parts (nat_lt from.0 120 && nat_lt to.0 120) (nat_lt rook.0 120) a.0 in
    let d = and_parts (nat_lt from.0 120) (nat_lt to.0 120) b.0 in
    (ltb-true _ _ d.0, ltb-true _ _ d.1, ltb-true _ _ b.1, placed_is gate a.1)
fit_from (Drop kind to) e = let h = and_parts (nat_lt kind.0 26) (nat_lt to.0 120) e in (ltb-true _ _ h.0, ltb-true _ _ h.1)

is_promo : (promo : Promo) → IsFitPromo promo → is_fit_promo promo ≡ true
is_promo Stays h = refl
is_promo (Pawn kind) h = lt-ltb _ _ h
is_promo Plus h = refl

is_gate : (gate : Option Kind) → IsFitGate gate → is_fit_gate gate ≡ true
is_gate None h = refl
is_gate (Some kind) h = lt-ltb _ _ h

is_placed : (gate : Option Placed) → IsFitPlaced gate → is_fit_placed gate ≡ true
is_placed None h = refl
is_placed (Some x) h = and_from _ _ (lt-ltb _ _ h.0) (lt-ltb _ _ h.1)

-- and what is fit passes
pub from_fit : (m : Move) → IsFitMove m → is_fit_move m ≡ true
unfolding is_fit_move
from_fit (Go from to promo gate) h =
    and_from _ _ (and_from _ _ (and_from _ _ (lt-ltb _ _ h.0) (lt-ltb _ _ h.1)) (is_promo promo h.2)) (is_gate gate h.3)
from_fit (Castle from to rook gate) h =
    and_from _ _ (and_from _ _ (and_from _ _ (lt-ltb _ _ h.0) (lt-ltb _ _ h.1)) (lt-ltb _ _ h.2)) (is_placed gate h.3)
from_fit (Drop kind to) h = and_from _ _ (lt-ltb _ _ h.0) (lt-ltb _ _ h.1)
