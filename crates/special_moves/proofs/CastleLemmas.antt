-- The parts of the castles.
use Rattle.std.proofs.Common.{◌≡◌, ◌≢◌, ℕ, ◌<◌, nat_lt, Bool, true, false, ◌&&◌, if◌then◌else◌, inl, inr, Option, Some, None, refl, ap, sym, ◌∙◌, subst, arith}
use Rattle.std.proofs.lemmas.Bool.{and_parts, or_parts}
use Rattle.std.proofs.lemmas.Bool.Decides.{nat_tests}
use Rattle.rules_model.specs.declared.board.Repeat.{Repeat}
use Rattle.rules_model.specs.declared.board.Side.{Side}
use Rattle.rules_model.specs.declared.board.Square.{Square}
use Rattle.rules_model.specs.declared.board.Wing.{Wing}
use Rattle.rules_model.specs.declared.board.Wing.TheVariants.{Kingside, Queenside}
use Rattle.rules_model.specs.declared.castling.CastleSquares.{CastleSquares}
use Rattle.rules_model.specs.declared.moves.Move.{Move}
use Rattle.rules_model.specs.declared.moves.Move.TheVariants.{Go, Castle, Drop}
use Rattle.rules_model.specs.declared.moves.Placed.{Placed}
use Rattle.rules_model.specs.declared.rules.Rules.{Rules}
use Rattle.rules_model.specs.Castling.{castle_by, castle_of, castle_with, castling_on, holds_right, IsFitCastle, king_file, rook_beyond, rook_file, rook_on}
use Rattle.rules_model.specs.Gating.{castle_gates}
use Rattle.rules_model.specs.Hands.{holds}
use Rattle.rules_model.specs.Moves.{IsFitPlaced}
use Rattle.rules_model.specs.Regions.{castling_rank, castling_square}
use Rattle.rules_model.proofs.CandidateLaws.{castle_gate, not_both, rook_file-some}
use Rattle.piece_moves.specs.Plain.{holds_a_right}
use Rattle.special_moves.specs.Castles.{is_open, open_castle, where_open}
use Rattle.piece_moves.specs.Taking.{IsChosen}
use Rattle.special_moves.specs.Parts.{castle_move, IsCastle, IsCastleOf, IsCastleOfSome, IsCastleTo, IsGatedCastle, IsGateOf, IsGateOn, kind_at, placed_on}
use Rattle.special_moves.proofs.SquareLemmas.{same_file, same_square}
use Rattle.special_moves.proofs.BelowLemmas.{AreApart}

-- ---- the parts of a move

to_of : Move → ℕ
to_of (Go from to promo gate) = to.0
to_of (Castle from to rook gate) = to.0
to_of (Drop kind to) = to.0

kind_in : Option Placed → ℕ
kind_in None = 0
kind_in (Some placed) = placed.kind.0

square_in : Option Placed → ℕ
square_in None = 0
square_in (Some placed) = placed.at.0

gate_of : Move → Option Placed
gate_of (Go from to promo gate) = None
gate_of (Castle from to rook gate) = gate
gate_of (Drop kind to) = None

placed_kind : (a b : Square) (i j : ℕ) (castle : CastleSquares) (m : Move) → castle_move castle (placed_on a i) ≡ m → castle_move castle (placed_on b j) ≡ m → i ≡ j
unfolding kind_in gate_of
placed_kind a b i j castle m e f = ap (λ x. kind_in (gate_of x)) (e ∙ sym f)

placed_square : (a b : Square) (i j : ℕ) (castle : CastleSquares) (m : Move) → castle_move castle (placed_on a i) ≡ m → castle_move castle (placed_on b j) ≡ m → a.0 ≡ b.0
unfolding square_in gate_of
placed_square a b i j castle m e f = ap (λ x. square_in (gate_of x)) (e ∙ sym f)

-- ---- the gates of one castle

module _ (rules : Rules) (r : Repeat) (castle : CastleSquares) where
  pub kinds-apart : AreApart (IsGateOf rules r castle)
  kinds-apart i j m (inl h) (inl k) = placed_kind castle.king castle.king i j castle m h.1 k.1
  kinds-apart i j m (inl h) (inr k) = placed_kind castle.king castle.rook i j castle m h.1 k.1
  kinds-apart i j m (inr h) (inl k) = placed_kind castle.rook castle.king i j castle m h.1 k.1
  kinds-apart i j m (inr h) (inr k) = placed_kind castle.rook castle.rook i j castle m h.1 k.1

  pub starts-apart : castle.king.0 ≢ castle.rook.0 → (k : ℕ) (m : Move) → IsGateOn rules r castle castle.king k m → IsGateOn rules r castle castle.rook k m → ⊥
  starts-apart other k m h j = other (placed_square castle.king castle.rook k k castle m h.1 j.1)

  gate_held : (at : Square) (k : ℕ) → castle_gates rules r castle.king castle.king_to castle.rook (placed_on at k) ≡ true → (rules.gate_hand && holds r.hands r.side (kind_at k)) ≡ true
  gate_held at k e = (and_parts _ _ (and_parts _ _ (and_parts _ _ e).0).0).0

  -- a kind of which none is in hand is not placed
  pub none-placed : (k : ℕ) → (rules.gate_hand && holds r.hands r.side (kind_at k)) ≡ false → (m : Move) → IsGateOf rules r castle k m → ⊥
  none-placed k none m (inl h) = not_both _ (gate_held castle.king k h.0) none
  none-placed k none m (inr h) = not_both _ (gate_held castle.rook k h.0) none

  pub gates-apart : (m : Move) → IsChosen true (castle_move castle None) m → IsGatedCastle rules r castle m → ⊥
  gates-apart m h k = elim k.is as (λ _. ⊥) [ inl g ↦ let e = h.1 in let f = g.1 in cc | inr g ↦ let e = h.1 in let f = g.1 in cc ]

  -- what a move of the castle is
  pub record IsMade (m : Move) : Type 0 where
    pub gate : Option Placed
    pub is : castle_move castle gate ≡ m
    pub may : castle_gates rules r castle.king castle.king_to castle.rook gate ≡ true
    pub fits : IsFitCastle castle → IsFitPlaced gate

  made_on : (at : Square) (k : ℕ) (m : Move) → k < 26 → (IsFitCastle castle → at.0 < 120) → IsGateOn rules r castle at k m → IsMade m
  made_on at k m l fits h = record { gate = placed_on at k; is = h.1; may = h.0; fits = λ f. (l, fits f) }

  pub made : (m : Move) → IsCastleOf rules r castle m → IsMade m
  made m (inl h) = record { gate = None; is = h.1; may = refl; fits = λ f. tt }
  made m (inr h) =
      elim h.is as (λ _. IsMade m) [
        | inl g ↦ made_on castle.king h.number m h.below (λ f. f.king) g
        | inr g ↦ made_on castle.rook h.number m h.below (λ f. f.rook) g
      ]

  pub make : (gate : Option Placed) → castle_gates rules r castle.king castle.king_to castle.rook gate ≡ true → IsFitPlaced gate → IsCastleOf rules r castle (castle_move castle gate)
  make None may fits = inl (refl, refl)
  make (Some placed) may fits =
      let at = (castle_gate rules r castle.king castle.king_to castle.rook placed may).2 in
      inr (record {
        number = placed.kind.0;
        below = fits.0;
        is = elim at as (λ _. IsGateOf rules r castle placed.kind.0 (castle_move castle (Some placed))) [
          | inl e ↦ inl (subst (λ s. IsGateOn rules r castle s placed.kind.0 (castle_move castle (Some placed))) (same_square placed.at castle.king e) (may, refl))
          | inr e ↦ inr (subst (λ s. IsGateOn rules r castle s placed.kind.0 (castle_move castle (Some placed))) (same_square placed.at castle.rook e) (may, refl))
        ];
      })

-- ---- the castle to a wing

if_some : (b : Bool) (x y : CastleSquares) → (if b then Some x else None) ≡ Some y → (b ≡ true) × (x ≡ y)
if_some true x y e = (refl, cc)
if_some false x y e = cc

if_open : (b : Bool) (o : Option CastleSquares) (y : CastleSquares) → (if b then o else None) ≡ Some y → (b ≡ true) × (o ≡ Some y)
if_open true o y e = (refl, e)
if_open false o y e = cc

opened : (rules : Rules) (r : Repeat) (o : Option CastleSquares) (y : CastleSquares) → where_open rules r o ≡ Some y → (o ≡ Some y) × (is_open rules r y ≡ true)
opened rules r None y e = cc
opened rules r (Some x) y e =
    let h = if_some (is_open rules r x) x y e in
    (ap (λ z. Some z) h.1, subst (λ z. is_open rules r z ≡ true) h.1 h.0)

with_rook : (rules : Rules) (side : Side) (wing : Wing) (o : Option ℕ) (y : CastleSquares) → castle_by rules side wing o ≡ Some y → (file : ℕ) × (o ≡ Some file) × (castle_with rules side wing file ≡ y)
with_rook rules side wing None y e = cc
with_rook rules side wing (Some file) y e = (file, refl, cc)

-- what the castle to a wing is
pub record IsOpen (rules : Rules) (r : Repeat) (wing : Wing) (castle : CastleSquares) : Type 0 where
  pub on : castling_on rules ≡ true
  pub held : holds_right r.rights r.side wing ≡ true
  pub file : ℕ
  pub rook : rook_file rules r.cells r.side wing ≡ Some file
  pub is : castle_with rules r.side wing file ≡ castle
  pub castle_is : castle_of rules r.cells r.side wing ≡ Some castle
  pub open_way : is_open rules r castle ≡ true

pub open-is : (rules : Rules) (r : Repeat) (wing : Wing) (castle : CastleSquares) → open_castle rules r wing ≡ Some castle → IsOpen rules r wing castle
unfolding open_castle
open-is rules r wing castle e =
    let a = if_open (castling_on rules && holds_right r.rights r.side wing) _ castle e in
    let b = and_parts (castling_on rules) (holds_right r.rights r.side wing) a.0 in
    let c = opened rules r (castle_of rules r.cells r.side wing) castle a.1 in
    let d = with_rook rules r.side wing (rook_file rules r.cells r.side wing) castle c.0 in
    record { on = b.0; held = b.1; file = d.0; rook = d.1; is = d.2; castle_is = c.0; open_way = c.1 }

-- where the variant has no castling there is none
none_open : (rules : Rules) (r : Repeat) (wing : Wing) (o : Option CastleSquares) (m : Move) → open_castle rules r wing ≡ o → castling_on rules ≡ false → IsCastleOfSome rules r o m → ⊥
none_open rules r wing None m e off h = h
none_open rules r wing (Some castle) m e off h = let on = (open-is rules r wing castle e).on in cc

pub no-castles : (rules : Rules) (r : Repeat) → castling_on rules ≡ false → (m : Move) → IsCastle rules r m → ⊥
no-castles rules r off m (inl h) = none_open rules r Kingside (open_castle rules r Kingside) m refl off h
no-castles rules r off m (inr h) = none_open rules r Queenside (open_castle rules r Queenside) m refl off h

-- where the side has no right to a wing there is none to it
none_held : (rules : Rules) (r : Repeat) (wing : Wing) (o : Option CastleSquares) (m : Move) → open_castle rules r wing ≡ o → holds_right r.rights r.side wing ≡ false → IsCastleOfSome rules r o m → ⊥
none_held rules r wing None m e off h = h
none_held rules r wing (Some castle) m e off h = let held = (open-is rules r wing castle e).held in cc

pub no-rights : (rules : Rules) (r : Repeat) → holds_a_right r ≡ false → (m : Move) → IsCastle rules r m → ⊥
no-rights rules r off m (inl h) = none_held rules r Kingside (open_castle rules r Kingside) m refl (or_parts _ _ off).0 h
no-rights rules r off m (inr h) = none_held rules r Queenside (open_castle rules r Queenside) m refl (or_parts _ _ off).1 h

pub lt-is : (a b : ℕ) → nat_lt a b ≡ true → a < b
lt-is a b e = grind (arith, nat_tests)

beside : (rules : Rules) (r : Repeat) (wing : Wing) (file : ℕ) → rook_beyond rules r.cells r.side wing file ≡ true → rules.castle_king ≢ file
beside rules r Kingside file e = let l = lt-is rules.castle_king file (and_parts (nat_lt rules.castle_king file) (rook_on rules r.cells r.side file) e).0 in λ same. omega (arith, l, same)
beside rules r Queenside file e = let l = lt-is file rules.castle_king (and_parts (nat_lt file rules.castle_king) (rook_on rules r.cells r.side file) e).0 in λ same. omega (arith, l, same)

-- the rook stands beside the king
pub rook-beside : (rules : Rules) (r : Repeat) (wing : Wing) (castle : CastleSquares) → IsOpen rules r wing castle → castle.king.0 ≢ castle.rook.0
rook-beside rules r wing castle h =
    subst (λ (x : CastleSquares). x.king.0 ≢ x.rook.0) h.is
    (λ e. beside rules r wing h.file (rook_file-some rules r r.side wing h.file h.rook).1 (same_file (castling_rank rules r.side) rules.castle_king h.file e))

-- ---- the two wings

far_before_near : (rules : Rules) → castling_on rules ≡ true → rules.castle_far < rules.castle_near
unfolding castling_on
far_before_near rules e =
    let a = and_parts _ (nat_lt rules.castle_king rules.castle_near) e in
    let b = and_parts _ (nat_lt rules.castle_far rules.castle_king) a.0 in
    let l = lt-is rules.castle_far rules.castle_king b.1 in
    let h = lt-is rules.castle_king rules.castle_near a.1 in
    omega (arith, l, h)

-- a move to a wing, with its castle
pub record IsMadeTo (rules : Rules) (r : Repeat) (wing : Wing) (m : Move) : Type 0 where
  pub castle : CastleSquares
  pub open_way : IsOpen rules r wing castle
  pub move : IsMade rules r castle m

made_some : (rules : Rules) (r : Repeat) (wing : Wing) (o : Option CastleSquares) (m : Move) → open_castle rules r wing ≡ o → IsCastleOfSome rules r o m → IsMadeTo rules r wing m
made_some rules r wing None m e h = absurd h
made_some rules r wing (Some castle) m e h = record { castle = castle; open_way = open-is rules r wing castle e; move = made rules r castle m h }

pub made-to : (rules : Rules) (r : Repeat) (wing : Wing) (m : Move) → IsCastleTo rules r wing m → IsMadeTo rules r wing m
made-to rules r wing m h = made_some rules r wing (open_castle rules r wing) m refl h

goes_to : (rules : Rules) (r : Repeat) (wing : Wing) (m : Move) → IsMadeTo rules r wing m → to_of m ≡ castling_square rules r.side (king_file rules wing)
unfolding to_of
goes_to rules r wing m h = sym (ap to_of h.move.is) ∙ sym (ap (λ (x : CastleSquares). x.king_to.0) h.open_way.is)

pub wings-apart : (rules : Rules) (r : Repeat) (m : Move) → IsCastleTo rules r Kingside m → IsCastleTo rules r Queenside m → ⊥
wings-apart rules r m h k =
    let a = made-to rules r Kingside m h in
    let b = made-to rules r Queenside m k in
    let same = same_file (castling_rank rules r.side) rules.castle_near rules.castle_far (sym (goes_to rules r Kingside m a) ∙ goes_to rules r Queenside m b) in
    let l = far_before_near rules a.open_way.on in
    omega (arith, same, l)

pub wing-none : (rules : Rules) (r : Repeat) (wing : Wing) → open_castle rules r wing ≡ None → (m : Move) → IsCastleTo rules r wing m → ⊥
wing-none rules r wing e m h = subst (λ o. IsCastleOfSome rules r o m) e h

pub wing-some : (rules : Rules) (r : Repeat) (wing : Wing) (castle : CastleSquares) → open_castle rules r wing ≡ Some castle → (m : Move) → IsCastleOf rules r castle m → IsCastleTo rules r wing m
wing-some rules r wing castle e m h = subst (λ o. IsCastleOfSome rules r o m) (sym e) h

pub wing-of : (rules : Rules) (r : Repeat) (wing : Wing) (castle : CastleSquares) → open_castle rules r wing ≡ Some castle → (m : Move) → IsCastleTo rules r wing m → IsCastleOf rules r castle m
wing-of rules r wing castle e m h = subst (λ o. IsCastleOfSome rules r o m) e h
