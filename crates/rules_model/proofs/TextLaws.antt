-- The texts of the legal moves of a sound position differ.
use Rattle.std.proofs.Common.{◌≡◌, ℕ, zero, suc, ◌+◌, ◌-◌, ◌*◌, ◌/◌, ◌%◌, ◌<◌, ◌≤◌, Bool, true, false, not, ◌&&◌, ◌||◌, if◌then◌else◌, cond, ◌⊎◌, inl, inr, Option, Some, None, List, [], ◌∷◌, ◌++◌, ℤ, pos, negsuc, ◌+ℤ◌, ◌*ℤ◌, refl, ap, sym, ◌∙◌, subst, arith, nat_lt, ◌==◌, is_none, append_assoc, append-nil}
use Rattle.std.proofs.lemmas.Bool.{and_from, and_parts, ltb-true, not-true, or_cases, or_left, or_right}
use Rattle.std.proofs.lemmas.Bool.Decides.{nat_tests, Decides-eqb}
use Rattle.foundation.specs.Member.{Member}
use Rattle.rules_model.specs.declared.board.Cell.{Cell}
use Rattle.rules_model.specs.declared.board.Kind.{Kind}
use Rattle.rules_model.specs.declared.board.Repeat.{Repeat}
use Rattle.rules_model.specs.declared.board.Side.{Side}
use Rattle.rules_model.specs.declared.board.Side.TheVariants.{White, Black}
use Rattle.rules_model.specs.declared.board.Square.{Square}
use Rattle.rules_model.specs.declared.board.Wing.{Wing}
use Rattle.rules_model.specs.declared.board.Wing.TheVariants.{Kingside, Queenside}
use Rattle.rules_model.specs.declared.moves.Move.{Move}
use Rattle.rules_model.specs.declared.moves.Move.TheVariants.{Go, Castle, Drop}
use Rattle.rules_model.specs.declared.moves.Placed.{Placed}
use Rattle.rules_model.specs.declared.moves.Promo.{Promo}
use Rattle.rules_model.specs.declared.moves.Promo.TheVariants.{Stays, Pawn, Plus}
use Rattle.rules_model.specs.declared.rules.Rules.{Rules}
use Rattle.rules_model.specs.declared.rules.Term.{Term}
use Rattle.rules_model.specs.Squares.{cell_at, turned, within, square_of, step_to}
use Rattle.rules_model.specs.Reach.{is_at}
use Rattle.rules_model.specs.Sides.{same_side}
use Rattle.rules_model.specs.Kinds.{board_of, is_king, is_pawn}
use Rattle.rules_model.specs.Movement.{kind_reaches}
use Rattle.rules_model.specs.Regions.{castling_rank, castling_square}
use Rattle.rules_model.specs.Attacks.{ahead, is_diagonal, is_own_king, is_own_pawn, left_ahead, pawn_ray, right_ahead}
use Rattle.rules_model.specs.Castling.{castling_on, holds_right, king_file, rook_on}
use Rattle.rules_model.specs.Pieces.{may_plus, means_castling, piece_goes, piece_moves, piece_promo, serves, to_castling_target}
use Rattle.rules_model.specs.Pawns.{is_enemy, is_ep, is_stays, may_promote, passes_by, pawn_goes, pawn_moves, pawn_promo, steps_twice}
use Rattle.rules_model.specs.Gating.{castle_gates}
use Rattle.rules_model.specs.Candidates.{is_candidate}
use Rattle.rules_model.specs.Sound.{is_sound_ep, is_sound_repeat, on_board, was_passed}
use Rattle.rules_model.specs.Fit.{IsFit}
use Rattle.rules_model.specs.Legal.{legal}
use Rattle.rules_model.specs.Moves.{IsFitMove, IsFitGate, IsFitPromo, IsFitPlaced}
use Rattle.rules_model.specs.MoveText.{gate_text, lower, promo_text, square_text, text_of, upper}
use Rattle.rules_model.proofs.CandidateLaws.{not_both, at_some, term_of_reach, legal_candidate, PieceGoes, PawnGoes, plain_go, gated_go, Castles, castle_is, rook_file-some, castle_gate}
use Rattle.rules_model.proofs.VariantLaws.{castling_on-is, sound_ep}
use Rattle.rules_model.proofs.LegalLaws.{legal-member}

-- ---- squares in a text

-- it does not go on with the digit 0
abbrev Stops : List ℕ → Type 0
Stops [] = Unit {0}
Stops (x ∷ xs) = x ≡ 48 → ⊥

goes_on : (x : ℕ) (xs ys : List ℕ) → Stops xs → xs ≡ x ∷ ys → x ≡ 48 → ⊥
goes_on x [] ys n e h = cc
goes_on x (z ∷ xs) ys n e h = n cc

first_two : (a b : ℕ) (xs ys : List ℕ) → a ∷ xs ≡ b ∷ ys → (a ≡ b) × (xs ≡ ys)
first_two a b xs ys e = (cc, cc)

below_ten : (n : ℕ) → nat_lt n 10 ≡ true → n < 10
below_ten n e = grind (arith, nat_tests)

from_ten : (n : ℕ) → nat_lt n 10 ≡ false → 10 ≤ n
from_ten n e = grind (arith, nat_tests)

abbrev digits_by : Bool → ℕ → List ℕ
digits_by b n = if b then (48 + n) ∷ [] else ((48 + n / 10) ∷ (48 + n % 10) ∷ [])

same_number : (b c : Bool) (m n : ℕ) (xs ys : List ℕ) → nat_lt m 10 ≡ b → nat_lt n 10 ≡ c → m ≤ 10 → n ≤ 10 → Stops xs → Stops ys → digits_by b m ++ xs ≡ digits_by c n ++ ys → (m ≡ n) × (xs ≡ ys)
same_number true true m n xs ys f g h k u v e = let t = first_two (48 + m) (48 + n) xs ys e in (omega (arith, t.0), t.1)
same_number true false m n xs ys f g h k u v e =
    let t = first_two (48 + m) (48 + n / 10) xs ((48 + n % 10) ∷ ys) e in
    let l = from_ten n g in
    absurd (goes_on (48 + n % 10) xs ys u t.1 (omega (arith, k, l)))
same_number false true m n xs ys f g h k u v e =
    let t = first_two (48 + m / 10) (48 + n) ((48 + m % 10) ∷ xs) ys e in
    let l = from_ten m f in
    absurd (goes_on (48 + m % 10) ys xs v (sym t.1) (omega (arith, h, l)))
same_number false false m n xs ys f g h k u v e =
    let t = first_two (48 + m / 10) (48 + n / 10) ((48 + m % 10) ∷ xs) ((48 + n % 10) ∷ ys) e in
    let s = first_two (48 + m % 10) (48 + n % 10) xs ys t.1 in
    let i = from_ten m f in
    let j = from_ten n g in
    (omega (arith, h, k, i, j), s.1)

square_is : (a b : Square) → a.0 ≡ b.0 → a ≡ b
square_is a b e = λ i. record { 0 = e i }

kind_is : (a b : Kind) → a.0 ≡ b.0 → a ≡ b
kind_is a b e = λ i. record { 0 = e i }

same_square : (a b : Square) (xs ys : List ℕ) → a.0 < 120 → b.0 < 120 → Stops xs → Stops ys → square_text a ++ xs ≡ square_text b ++ ys → (a ≡ b) × (xs ≡ ys)
same_square a b xs ys h k u v e =
    let t = first_two (97 + a.0 % 12) (97 + b.0 % 12) (digits_by (nat_lt (a.0 / 12 + 1) 10) (a.0 / 12 + 1) ++ xs) (digits_by (nat_lt (b.0 / 12 + 1) 10) (b.0 / 12 + 1) ++ ys) e in
    let s = same_number (nat_lt (a.0 / 12 + 1) 10) (nat_lt (b.0 / 12 + 1) 10) (a.0 / 12 + 1) (b.0 / 12 + 1) xs ys refl refl (omega (arith, h)) (omega (arith, k)) u v t.1 in
    (square_is a b (omega (arith, t.0, s.0)), s.1)

square_stops : (s : Square) (xs : List ℕ) → Stops (square_text s ++ xs)
square_stops s xs = λ e. omega (arith, e)

two_squares : (a b c d : Square) (xs ys : List ℕ) → a.0 < 120 → b.0 < 120 → c.0 < 120 → d.0 < 120 → Stops xs → Stops ys → square_text a ++ (square_text b ++ xs) ≡ square_text c ++ (square_text d ++ ys) → (a ≡ c) × (b ≡ d) × (xs ≡ ys)
two_squares a b c d xs ys h i j k u v e =
    let f = same_square a c (square_text b ++ xs) (square_text d ++ ys) h j (square_stops b xs) (square_stops d ys) e in
    let g = same_square b d xs ys i k u v f.1 in
    (f.0, g.0, g.1)

-- ---- the letters behind them

same_letter : (j k : Kind) → j.0 < 26 → k.0 < 26 → lower j ≡ lower k → j ≡ k
same_letter j k h l e = kind_is j k (omega (arith, h, l, e))

one_letter : (x y : ℕ) → x ∷ [] ≡ y ∷ [] → x ≡ y
one_letter x y e = cc

no_plus : (k : Kind) → lower k ≡ 43 → ⊥
no_plus k e = omega (arith, e)

same_promo_text : (p q : Promo) → IsFitPromo p → IsFitPromo q → promo_text p ++ [] ≡ promo_text q ++ [] → p ≡ q
same_promo_text Stays Stays h k e = refl
same_promo_text Stays (Pawn b) h k e = cc
same_promo_text Stays Plus h k e = cc
same_promo_text (Pawn a) Stays h k e = cc
same_promo_text (Pawn a) (Pawn b) h k e = ap (λ x. Pawn x) (same_letter a b h k (one_letter _ _ e))
same_promo_text (Pawn a) Plus h k e = absurd (no_plus a (one_letter _ _ e))
same_promo_text Plus Stays h k e = cc
same_promo_text Plus (Pawn b) h k e = absurd (no_plus b (sym (one_letter _ _ e)))
same_promo_text Plus Plus h k e = refl

-- what a piece that is not the pawn may become
abbrev OfPiece : Promo → Type 0
OfPiece Stays = Unit {0}
OfPiece (Pawn kind) = ⊥
OfPiece Plus = Unit {0}

of_piece : (rules : Rules) (may : Bool) (p : Promo) → piece_promo rules may p ≡ true → OfPiece p
of_piece rules may Stays e = tt
of_piece rules may (Pawn kind) e = cc
of_piece rules may Plus e = tt

piece_becomes : (rules : Rules) (r : Repeat) (x : Cell) (from to : Square) (p : Promo) → piece_moves rules r x from to p ≡ true → OfPiece p
unfolding piece_moves
piece_becomes rules r x from to p e =
    let a = and_parts (piece_goes rules r.cells r.side x.kind from to.0 && piece_promo rules (may_plus rules r.side x.kind from.0 to.0) p) (not (means_castling rules r x.kind from.0 to.0)) e in
    of_piece rules (may_plus rules r.side x.kind from.0 to.0) p (and_parts (piece_goes rules r.cells r.side x.kind from to.0) (piece_promo rules (may_plus rules r.side x.kind from.0 to.0) p) a.0).1

no_gate : (p q : Promo) (k : Kind) → OfPiece p → OfPiece q → promo_text p ++ [] ≡ promo_text q ++ (lower k ∷ []) → ⊥
no_gate Stays Stays k h l e = cc
no_gate Stays (Pawn b) k h l e = absurd l
no_gate Stays Plus k h l e = cc
no_gate (Pawn a) q k h l e = absurd h
no_gate Plus Stays k h l e = no_plus k (sym (one_letter _ _ e))
no_gate Plus (Pawn b) k h l e = absurd l
no_gate Plus Plus k h l e = cc

same_gated : (p q : Promo) (j k : Kind) → OfPiece p → OfPiece q → j.0 < 26 → k.0 < 26 → promo_text p ++ (lower j ∷ []) ≡ promo_text q ++ (lower k ∷ []) → (p ≡ q) × (j ≡ k)
same_gated Stays Stays j k h l u v e = (refl, same_letter j k u v (one_letter _ _ e))
same_gated Stays (Pawn b) j k h l u v e = absurd l
same_gated Stays Plus j k h l u v e = cc
same_gated (Pawn a) q j k h l u v e = absurd h
same_gated Plus Stays j k h l u v e = cc
same_gated Plus (Pawn b) j k h l u v e = absurd l
same_gated Plus Plus j k h l u v e = (refl, same_letter j k u v (one_letter _ _ (first_two _ _ _ _ e).1))

promo_stops : (p : Promo) (g : Option Kind) → Stops (promo_text p ++ gate_text g)
promo_stops Stays None = tt
promo_stops Stays (Some k) = λ e. omega (arith, e)
promo_stops (Pawn j) g = λ e. omega (arith, e)
promo_stops Plus g = λ e. omega (arith, e)

-- ---- two ordinary moves

go_spelled : (from to : Square) (p : Promo) (g : Option Kind) → text_of (Go from to p g) ≡ square_text from ++ (square_text to ++ (promo_text p ++ gate_text g))
unfolding text_of
go_spelled from to p g = append_assoc (square_text from ++ square_text to) (promo_text p) (gate_text g) ∙ append_assoc (square_text from) (square_text to) (promo_text p ++ gate_text g)

same_cell_of : (c : Option Cell) (x y : Cell) → c ≡ Some x → c ≡ Some y → x ≡ y
same_cell_of c x y e f = cc

plain_and_gated : (rules : Rules) (r : Repeat) (a b c d : Square) (p q : Promo) (k : Kind) → a ≡ c → is_candidate rules r (Go a b p None) ≡ true → is_candidate rules r (Go c d q (Some k)) ≡ true → promo_text p ++ [] ≡ promo_text q ++ (lower k ∷ []) → ⊥
plain_and_gated rules r a b c d p q k s m n e =
    let x = plain_go rules r a b p m in
    let y = gated_go rules r c d q k n in
    elim x.2 as (λ _. ⊥) [
      | inl h ↦ no_gate p q k (piece_becomes rules r x.0 a b p h.2) (piece_becomes rules r y.0 c d q y.2.2) e
      | inr h ↦
          let f : cell_at r.cells c.0 ≡ Some x.0 = subst (λ (z : Square). cell_at r.cells z.0 ≡ Some x.0) s x.1 in
          let i : x.0 ≡ y.0 = same_cell_of (cell_at r.cells c.0) x.0 y.0 f y.1 in
          not_both (is_pawn rules y.0.kind) (subst (λ (z : Cell). is_pawn rules z.kind ≡ true) i h.1) y.2.1
    ]

same_go : (rules : Rules) (r : Repeat) (a b c d : Square) (p q : Promo) (g h : Option Kind) → a ≡ c → b ≡ d → IsFitPromo p → IsFitPromo q → IsFitGate g → IsFitGate h → is_candidate rules r (Go a b p g) ≡ true → is_candidate rules r (Go c d q h) ≡ true → promo_text p ++ gate_text g ≡ promo_text q ++ gate_text h → Go a b p g ≡ Go c d q h
same_go rules r a b c d p q None None s t i j k l m n e = let f = same_promo_text p q i j e in cc
same_go rules r a b c d p q None (Some h) s t i j k l m n e = absurd (plain_and_gated rules r a b c d p q h s m n e)
same_go rules r a b c d p q (Some g) None s t i j k l m n e = absurd (plain_and_gated rules r c d a b q p g (sym s) n m (sym e))
same_go rules r a b c d p q (Some g) (Some h) s t i j k l m n e =
    let x = gated_go rules r a b p g m in
    let y = gated_go rules r c d q h n in
    let f = same_gated p q g h (piece_becomes rules r x.0 a b p x.2.2) (piece_becomes rules r y.0 c d q y.2.2) k l e in
    let u = f.0 in
    let v = f.1 in
    cc

-- ---- two castles

abbrev at_rook : Square → Option Placed → Bool
at_rook rook None = false
at_rook rook (Some placed) = placed.at.0 == rook.0

abbrev first_by : Bool → Square → Square → Square
first_by true from rook = rook
first_by false from rook = from

abbrev second_by : Bool → Square → Square → Square
second_by true from to = from
second_by false from to = to

abbrev placed_text : Option Placed → List ℕ
placed_text None = []
placed_text (Some placed) = lower placed.kind ∷ []

spelled_by : (b : Bool) (from to rook : Square) (l : ℕ) → (if b then square_text rook ++ square_text from ++ (l ∷ []) else (square_text from ++ square_text to ++ (l ∷ []))) ≡ square_text (first_by b from rook) ++ (square_text (second_by b from to) ++ (l ∷ []))
spelled_by true from to rook l = append_assoc (square_text rook) (square_text from) (l ∷ [])
spelled_by false from to rook l = append_assoc (square_text from) (square_text to) (l ∷ [])

castle_spelled : (from to rook : Square) (g : Option Placed) → text_of (Castle from to rook g) ≡ square_text (first_by (at_rook rook g) from rook) ++ (square_text (second_by (at_rook rook g) from to) ++ placed_text g)
unfolding text_of
castle_spelled from to rook None = ap (λ t. square_text from ++ t) (sym (append-nil (square_text to)))
castle_spelled from to rook (Some placed) = spelled_by (placed.at.0 == rook.0) from to rook (lower placed.kind)

placed_stops : (g : Option Placed) → Stops (placed_text g)
placed_stops None = tt
placed_stops (Some placed) = λ e. omega (arith, e)

-- the squares that a castle to a wing names
same_castle : (rules : Rules) (r : Repeat) (a b k a' b' k' : Square) (w : Wing) → Castles rules r a b k w → Castles rules r a' b' k' w → (a ≡ a') × (b ≡ b') × (k ≡ k')
same_castle rules r a b k a' b' k' w x y =
    let s : Some x.beyond ≡ Some y.beyond = sym x.file ∙ y.file in
    let f : x.beyond ≡ y.beyond = cc in
    (square_is a a' (x.start ∙ sym y.start), square_is b b' (x.target ∙ sym y.target), square_is k k' (x.rank ∙ ap (castling_square rules r.side) f ∙ sym y.rank))

apart_targets : (rules : Rules) (side : Side) → castling_on rules ≡ true → castling_square rules side rules.castle_near ≡ castling_square rules side rules.castle_far → ⊥
apart_targets rules side on e =
    let h = castling_on-is rules on in
    let i = h.4 in
    let j = h.5 in
    omega (arith, e, i, j)

by_target : (rules : Rules) (r : Repeat) (a b k a' b' k' : Square) (w v : Wing) → Castles rules r a b k w → Castles rules r a' b' k' v → b ≡ b' → w ≡ v
by_target rules r a b k a' b' k' Kingside Kingside x y e = refl
by_target rules r a b k a' b' k' Kingside Queenside x y e = absurd (apart_targets rules r.side x.on (sym x.target ∙ ap (λ (s : Square). s.0) e ∙ y.target))
by_target rules r a b k a' b' k' Queenside Kingside x y e = absurd (apart_targets rules r.side x.on (sym y.target ∙ ap (λ (s : Square). s.0) (sym e) ∙ x.target))
by_target rules r a b k a' b' k' Queenside Queenside x y e = refl

right_of_king : (rules : Rules) (r : Repeat) (a b k : Square) (x : Castles rules r a b k Kingside) → rules.castle_king < x.beyond
right_of_king rules r a b k x = ltb-true _ _ (and_parts (nat_lt rules.castle_king x.beyond) (rook_on rules r.cells r.side x.beyond) (rook_file-some rules r r.side Kingside x.beyond x.file).1).0

left_of_king : (rules : Rules) (r : Repeat) (a b k : Square) (x : Castles rules r a b k Queenside) → x.beyond < rules.castle_king
left_of_king rules r a b k x = ltb-true _ _ (and_parts (nat_lt x.beyond rules.castle_king) (rook_on rules r.cells r.side x.beyond) (rook_file-some rules r r.side Queenside x.beyond x.file).1).0

both_wings : (rules : Rules) (r : Repeat) (a b k a' b' k' : Square) → Castles rules r a b k Kingside → Castles rules r a' b' k' Queenside → k ≡ k' → ⊥
both_wings rules r a b k a' b' k' x y e =
    let h = right_of_king rules r a b k x in
    let l = left_of_king rules r a' b' k' y in
    let f : k.0 ≡ k'.0 = ap (λ (s : Square). s.0) e in
    let m = x.rank in
    let n = y.rank in
    omega (arith, h, l, f, m, n)

by_rook : (rules : Rules) (r : Repeat) (a b k a' b' k' : Square) (w v : Wing) → Castles rules r a b k w → Castles rules r a' b' k' v → k ≡ k' → w ≡ v
by_rook rules r a b k a' b' k' Kingside Kingside x y e = refl
by_rook rules r a b k a' b' k' Kingside Queenside x y e = absurd (both_wings rules r a b k a' b' k' x y e)
by_rook rules r a b k a' b' k' Queenside Kingside x y e = absurd (both_wings rules r a' b' k' a b k y x (sym e))
by_rook rules r a b k a' b' k' Queenside Queenside x y e = refl

-- the rook does not stand on the king's start
rook_apart : (rules : Rules) (r : Repeat) (a b k : Square) (w : Wing) → Castles rules r a b k w → a ≡ k → ⊥
rook_apart rules r a b k Kingside x e =
    let h = right_of_king rules r a b k x in
    let f : a.0 ≡ k.0 = ap (λ (s : Square). s.0) e in
    let m = x.start in
    let n = x.rank in
    omega (arith, h, f, m, n)
rook_apart rules r a b k Queenside x e =
    let h = left_of_king rules r a b k x in
    let f : a.0 ≡ k.0 = ap (λ (s : Square). s.0) e in
    let m = x.start in
    let n = x.rank in
    omega (arith, h, f, m, n)

-- where a castle places its piece
place_is : (rules : Rules) (r : Repeat) (a b k : Square) (placed : Placed) (at : Bool) → castle_gates rules r a b k (Some placed) ≡ true → (placed.at.0 == k.0) ≡ at → placed.at.0 ≡ (first_by at a k).0
place_is rules r a b k placed true h e = (Decides-eqb placed.at.0 k.0).0 e
place_is rules r a b k placed false h e =
    elim (castle_gate rules r a b k placed h).2 as (λ _. placed.at.0 ≡ a.0) [
      | inl f ↦ f
      | inr f ↦ absurd (not_both (placed.at.0 == k.0) ((Decides-eqb placed.at.0 k.0).1 f) e)
    ]

placed_is : (x y : Placed) → x.kind ≡ y.kind → x.at ≡ y.at → Some x ≡ Some y
placed_is x y e f = λ i. Some (record { kind = e i; at = f i })

same_gate : (rules : Rules) (r : Repeat) (a b k a' b' k' : Square) (g h : Option Placed) (at : Bool) → at_rook k g ≡ at → at_rook k' h ≡ at → first_by at a k ≡ first_by at a' k' → castle_gates rules r a b k g ≡ true → castle_gates rules r a' b' k' h ≡ true → IsFitPlaced g → IsFitPlaced h → placed_text g ≡ placed_text h → g ≡ h
same_gate rules r a b k a' b' k' None None at i j s u v l m e = refl
same_gate rules r a b k a' b' k' None (Some y) at i j s u v l m e = cc
same_gate rules r a b k a' b' k' (Some x) None at i j s u v l m e = cc
same_gate rules r a b k a' b' k' (Some x) (Some y) at i j s u v l m e =
    placed_is x y (same_letter x.kind y.kind l.0 m.0 (one_letter _ _ e))
    (square_is x.at y.at (place_is rules r a b k x at u i ∙ ap (λ (z : Square). z.0) s ∙ sym (place_is rules r a' b' k' y at v j)))

castle_from : (a b k a' b' k' : Square) (g h : Option Placed) → (a ≡ a') × (b ≡ b') × (k ≡ k') → g ≡ h → Castle a b k g ≡ Castle a' b' k' h
castle_from a b k a' b' k' g h e f = let x = e.0 in let y = e.1 in let z = e.2 in cc

one_wing : (rules : Rules) (r : Repeat) (a b k a' b' k' : Square) (w v : Wing) → Castles rules r a b k w → Castles rules r a' b' k' v → w ≡ v → (a ≡ a') × (b ≡ b') × (k ≡ k')
one_wing rules r a b k a' b' k' w v x y e = same_castle rules r a b k a' b' k' v (subst (λ z. Castles rules r a b k z) e x) y

same_castles : (rules : Rules) (r : Repeat) (a b k a' b' k' : Square) (g h : Option Placed) (w v : Wing) (s t : Bool) → Castles rules r a b k w → Castles rules r a' b' k' v → at_rook k g ≡ s → at_rook k' h ≡ t → castle_gates rules r a b k g ≡ true → castle_gates rules r a' b' k' h ≡ true → IsFitPlaced g → IsFitPlaced h → first_by s a k ≡ first_by t a' k' → second_by s a b ≡ second_by t a' b' → placed_text g ≡ placed_text h → Castle a b k g ≡ Castle a' b' k' h
same_castles rules r a b k a' b' k' g h w v true true x y i j m n p q e f z =
    castle_from a b k a' b' k' g h (one_wing rules r a b k a' b' k' w v x y (by_rook rules r a b k a' b' k' w v x y e)) (same_gate rules r a b k a' b' k' g h true i j e m n p q z)
same_castles rules r a b k a' b' k' g h w v true false x y i j m n p q e f z =
    absurd (rook_apart rules r a b k w x (square_is a a' (x.start ∙ sym y.start) ∙ sym e))
same_castles rules r a b k a' b' k' g h w v false true x y i j m n p q e f z =
    absurd (rook_apart rules r a' b' k' v y (square_is a' a (y.start ∙ sym x.start) ∙ e))
same_castles rules r a b k a' b' k' g h w v false false x y i j m n p q e f z =
    castle_from a b k a' b' k' g h (one_wing rules r a b k a' b' k' w v x y (by_target rules r a b k a' b' k' w v x y f)) (same_gate rules r a b k a' b' k' g h false i j e m n p q z)

-- ---- an ordinary move and a castle

three : (a b c : Bool) → a ≡ true → b ≡ true → c ≡ true → (a && b && c) ≡ true
three true b c e f g = rw (f, g)
three false b c e f g = cc

own_king_of : (rules : Rules) (side : Side) (o : Option Cell) (x : Cell) → o ≡ Some x → is_own_king rules side o ≡ true → (same_side x.side side ≡ true) × (is_king rules x.kind ≡ true)
own_king_of rules side o x e h = and_parts (same_side x.side side) (is_king rules x.kind) (subst (λ c. is_own_king rules side c ≡ true) e h)

own_king_cell : (rules : Rules) (side : Side) (o : Option Cell) → is_own_king rules side o ≡ true → (x : Cell) × (o ≡ Some x) × (same_side x.side side ≡ true)
own_king_cell rules side None h = cc
own_king_cell rules side (Some x) h = (x, refl, (and_parts (same_side x.side side) (is_king rules x.kind) h).0)

target_of : (rules : Rules) (r : Repeat) (a b k : Square) (w : Wing) → Castles rules r a b k w → to_castling_target rules r w a.0 b.0 ≡ true
target_of rules r a b k w x =
    three (holds_right r.rights r.side w) (a.0 == castling_square rules r.side rules.castle_king) (b.0 == castling_square rules r.side (king_file rules w))
    x.held ((Decides-eqb _ _).1 x.start) ((Decides-eqb _ _).1 x.target)

some_target : (rules : Rules) (r : Repeat) (a b k : Square) (w : Wing) → Castles rules r a b k w → (to_castling_target rules r Kingside a.0 b.0 || to_castling_target rules r Queenside a.0 b.0) ≡ true
some_target rules r a b k Kingside x = or_left (to_castling_target rules r Kingside a.0 b.0) (to_castling_target rules r Queenside a.0 b.0) (target_of rules r a b k Kingside x)
some_target rules r a b k Queenside x = or_right (to_castling_target rules r Kingside a.0 b.0) (to_castling_target rules r Queenside a.0 b.0) (target_of rules r a b k Queenside x)

-- the king's move to a castling target is no ordinary one
piece_no_castle : (rules : Rules) (r : Repeat) (x : Cell) (a b k : Square) (w : Wing) (p : Promo) → Castles rules r a b k w → cell_at r.cells a.0 ≡ Some x → piece_moves rules r x a b p ≡ true → ⊥
unfolding piece_moves
piece_no_castle rules r x a b k w p c f e =
    let n = and_parts (piece_goes rules r.cells r.side x.kind a b.0 && piece_promo rules (may_plus rules r.side x.kind a.0 b.0) p) (not (means_castling rules r x.kind a.0 b.0)) e in
    not_both (means_castling rules r x.kind a.0 b.0)
    (and_from (is_king rules x.kind) (to_castling_target rules r Kingside a.0 b.0 || to_castling_target rules r Queenside a.0 b.0) (own_king_of rules r.side (cell_at r.cells a.0) x f c.king).1 (some_target rules r a b k w c))
    (not-true (means_castling rules r x.kind a.0 b.0) n.1)

within_is_if : (n a k : ℕ) (b : Bool) → (if b then Some a else None) ≡ Some k → a ≡ k
within_is_if n a k true e = cc
within_is_if n a k false e = cc

within_is : (n : ℕ) (z : ℤ) (k : ℕ) → within n z ≡ Some k → z ≡ pos k
within_is n (pos a) k e = ap (λ x. pos x) (within_is_if n a k (nat_lt a n) e)
within_is n (negsuc a) k e = cc

file_below : (n a k : ℕ) (b : Bool) → nat_lt a n ≡ b → (if b then Some a else None) ≡ Some k → k < n
file_below n a k true t e = let f = within_is_if n a k true e in let l = ltb-true a n t in omega (arith, l, f)
file_below n a k false t e = cc

file_in : (n : ℕ) (z : ℤ) (k : ℕ) → within n z ≡ Some k → k < n
file_in n (pos a) k e = file_below n a k (nat_lt a n) refl e
file_in n (negsuc a) k e = cc

rank_is : (files : ℕ) (x : ℤ) (o u : Option ℕ) (s : ℕ) → files ≤ 12 → within files x ≡ o → square_of o u ≡ Some s → u ≡ Some (s / 12)
rank_is files x None u s h e f = cc
rank_is files x (Some file) None s h e f = cc
rank_is files x (Some file) (Some rank) s h e f =
    let l = file_in files x file e in
    let g : 12 * rank + file ≡ s = cc in
    let i : rank ≡ s / 12 = omega (arith, h, l, g) in
    ap (λ k. Some k) i

-- the rank to which a pawn goes
pawn_rank : (rules : Rules) (side : Side) (dx : ℤ) (from : Square) (k s : ℕ) → rules.files ≤ 12 → is_at s (step_to (pawn_ray (board_of rules) side dx from) k) ≡ true → (pos (from.0 / 12) +ℤ (pos k *ℤ turned side (pos 1))) ≡ pos (s / 12)
unfolding step_to
pawn_rank rules side dx from k s h e = within_is rules.ranks _ (s / 12) (rank_is rules.files _ _ _ s h refl (at_some s _ e))

by_sign : (c : Bool) (x y z : ℕ) → cond c (negsuc x) (pos y) ≡ pos z → y ≡ z
by_sign true x y z e = cc
by_sign false x y z e = cc

one_on : (side : Side) (a b : ℕ) → (pos a +ℤ (pos 1 *ℤ turned side (pos 1))) ≡ pos b → b ≡ a → ⊥
one_on White a b e f = let g : pos (a + 1) ≡ pos b = e in let h : a + 1 ≡ b = cc in omega (arith, h, f)
one_on Black zero b e f = let g : negsuc 0 ≡ pos b = e in cc
one_on Black (suc a) b e f = let h = by_sign _ _ (suc a - 1) b e in omega (arith, h, f)

two_on : (side : Side) (a b : ℕ) → (pos a +ℤ (pos 2 *ℤ turned side (pos 1))) ≡ pos b → b ≡ a → ⊥
two_on White a b e f = let g : pos (a + 2) ≡ pos b = e in let h : a + 2 ≡ b = cc in omega (arith, h, f)
two_on Black zero b e f = let g : negsuc 1 ≡ pos b = e in cc
two_on Black (suc zero) b e f = let g : negsuc 0 ≡ pos b = e in cc
two_on Black (suc (suc a)) b e f = let h = by_sign _ _ (suc (suc a) - 2) b e in omega (arith, h, f)

diagonal_leaves : (rules : Rules) (side : Side) (from : Square) (s : ℕ) → rules.files ≤ 12 → is_diagonal (board_of rules) side from s ≡ true → s / 12 ≡ from.0 / 12 → ⊥
unfolding is_diagonal
diagonal_leaves rules side from s h e f =
    elim (or_cases (is_at s (right_ahead (board_of rules) side from)) (is_at s (left_ahead (board_of rules) side from)) e) as (λ _. ⊥) [
      | inl k ↦ one_on side (from.0 / 12) (s / 12) (pawn_rank rules side (pos 1) from 1 s h k) f
      | inr k ↦ one_on side (from.0 / 12) (s / 12) (pawn_rank rules side (negsuc 0) from 1 s h k) f
    ]

goes_leaves : (rules : Rules) (r : Repeat) (from : Square) (s : ℕ) → rules.files ≤ 12 → pawn_goes rules r from s ≡ true → s / 12 ≡ from.0 / 12 → ⊥
unfolding pawn_goes
goes_leaves rules r from s h e f =
    elim (or_cases _ (is_enemy r.side (cell_at r.cells s) && is_diagonal (board_of rules) r.side from s) e) as (λ _. ⊥) [
      | inl k ↦ elim (or_cases (is_at s (ahead (board_of rules) r.side from 1)) (steps_twice rules r from s) (and_parts (is_none (cell_at r.cells s)) (is_at s (ahead (board_of rules) r.side from 1) || steps_twice rules r from s) k).1) as (λ _. ⊥) [
        | inl l ↦ one_on r.side (from.0 / 12) (s / 12) (pawn_rank rules r.side (pos 0) from 1 s h l) f
        | inr l ↦ two_on r.side (from.0 / 12) (s / 12) (pawn_rank rules r.side (pos 0) from 2 s h (and_parts _ (is_at s (ahead (board_of rules) r.side from 2)) l).1) f
      ]
      | inr k ↦ diagonal_leaves rules r.side from s h (and_parts (is_enemy r.side (cell_at r.cells s)) (is_diagonal (board_of rules) r.side from s) k).1 f
    ]

-- a pawn leaves its rank
pawn_leaves : (rules : Rules) (r : Repeat) (from to : Square) (p : Promo) → rules.files ≤ 12 → pawn_moves rules r from to p ≡ true → to.0 / 12 ≡ from.0 / 12 → ⊥
unfolding pawn_moves passes_by
pawn_leaves rules r from to p h e f =
    elim (or_cases (pawn_goes rules r from to.0 && pawn_promo rules (may_promote rules r.side to.0) p) _ e) as (λ _. ⊥) [
      | inl k ↦ goes_leaves rules r from to.0 h (and_parts (pawn_goes rules r from to.0) (pawn_promo rules (may_promote rules r.side to.0) p) k).0 f
      | inr k ↦ diagonal_leaves rules r.side from to.0 h (and_parts _ (is_diagonal (board_of rules) r.side from to.0) (and_parts _ (is_stays p) k).0).1 f
    ]

rank_same : (rank king file : ℕ) → king < 12 → file < 12 → (12 * rank + file) / 12 ≡ (12 * rank + king) / 12
rank_same rank king file h l = omega (arith, h, l)

king_file_small : (rules : Rules) (fit : IsFit rules) (w : Wing) → king_file rules w < 12
king_file_small rules fit Kingside = fit.castle_near
king_file_small rules fit Queenside = fit.castle_far

-- a castle keeps its rank
castle_rank_same : (rules : Rules) (fit : IsFit rules) (r : Repeat) (a b k : Square) (w : Wing) → Castles rules r a b k w → b.0 / 12 ≡ a.0 / 12
castle_rank_same rules fit r a b k w x =
    ap (λ n. n / 12) x.target ∙ rank_same (castling_rank rules r.side) rules.castle_king (king_file rules w) fit.castle_king (king_file_small rules fit w) ∙ ap (λ n. n / 12) (sym x.start)

-- ---- no ordinary move goes onto the king's start

serves_no_own : (side : Side) (o : Option Cell) (y : Cell) (t : Term) → o ≡ Some y → same_side y.side side ≡ true → serves side o t ≡ true → ⊥
serves_no_own side o y t e h s =
    let k : serves side (Some y) t ≡ true = subst (λ c. serves side c t ≡ true) e s in
    not_both (same_side y.side side) h (not-true (same_side y.side side) (and_parts t.takes (not (same_side y.side side)) k).1)

piece_not_on_own : (rules : Rules) (r : Repeat) (x y : Cell) (a b : Square) (p : Promo) → cell_at r.cells b.0 ≡ Some y → same_side y.side r.side ≡ true → piece_moves rules r x a b p ≡ true → ⊥
unfolding piece_moves piece_goes
piece_not_on_own rules r x y a b p f h e =
    let m = and_parts _ (not (means_castling rules r x.kind a.0 b.0)) e in
    let n = and_parts (kind_reaches rules r.cells r.side x.kind (serves r.side (cell_at r.cells b.0)) a b.0) (piece_promo rules (may_plus rules r.side x.kind a.0 b.0) p) m.0 in
    let t = term_of_reach rules r.cells r.side x.kind (serves r.side (cell_at r.cells b.0)) a b.0 n.0 in
    serves_no_own r.side (cell_at r.cells b.0) y t.0 f h t.1

none_or_some : (o : Option Cell) (y : Cell) → o ≡ Some y → is_none o ≡ true → ⊥
none_or_some o y e h = let k : is_none (Some y) ≡ true = subst (λ c. is_none c ≡ true) e h in cc

enemy_or_own : (side : Side) (o : Option Cell) (y : Cell) → o ≡ Some y → same_side y.side side ≡ true → is_enemy side o ≡ true → ⊥
enemy_or_own side o y e h n =
    let k : is_enemy side (Some y) ≡ true = subst (λ c. is_enemy side c ≡ true) e n in
    not_both (same_side y.side side) h (not-true (same_side y.side side) k)

free_second : (a b c d f g : Bool) → (a && b && c && d && f && g) ≡ true → b ≡ true
free_second true true c d f g e = refl
free_second true false c d f g e = cc
free_second false b c d f g e = cc

-- the en passant square is empty
ep_free : (rules : Rules) (r : Repeat) (o : Option Square) (s : ℕ) → is_sound_ep rules r o ≡ true → is_ep o s ≡ true → is_none (cell_at r.cells s) ≡ true
ep_free rules r None s e h = cc
ep_free rules r (Some ep) s e h =
    let k = and_parts (on_board rules ep.0) (was_passed rules r ep) e in
    let f : is_none (cell_at r.cells ep.0) ≡ true = free_second rules.double_step (is_none (cell_at r.cells ep.0)) _ _ _ _ k.1 in
    subst (λ n. is_none (cell_at r.cells n) ≡ true) ((Decides-eqb ep.0 s).0 h) f

pawn_not_on_own : (rules : Rules) (r : Repeat) (y : Cell) (a b : Square) (p : Promo) → is_sound_repeat rules r ≡ true → cell_at r.cells b.0 ≡ Some y → same_side y.side r.side ≡ true → pawn_moves rules r a b p ≡ true → ⊥
unfolding pawn_moves pawn_goes passes_by
pawn_not_on_own rules r y a b p sound f h e =
    elim (or_cases (pawn_goes rules r a b.0 && pawn_promo rules (may_promote rules r.side b.0) p) (passes_by rules r a b.0 && is_stays p) e) as (λ _. ⊥) [
      | inl k ↦ elim (or_cases (is_none (cell_at r.cells b.0) && (is_at b.0 (ahead (board_of rules) r.side a 1) || steps_twice rules r a b.0)) (is_enemy r.side (cell_at r.cells b.0) && is_diagonal (board_of rules) r.side a b.0) (and_parts (pawn_goes rules r a b.0) (pawn_promo rules (may_promote rules r.side b.0) p) k).0) as (λ _. ⊥) [
        | inl l ↦ none_or_some (cell_at r.cells b.0) y f (and_parts (is_none (cell_at r.cells b.0)) _ l).0
        | inr l ↦ enemy_or_own r.side (cell_at r.cells b.0) y f h (and_parts (is_enemy r.side (cell_at r.cells b.0)) (is_diagonal (board_of rules) r.side a b.0) l).0
      ]
      | inr k ↦
          let m = and_parts (passes_by rules r a b.0) (is_stays p) k in
          let n = and_parts (is_own_pawn rules r.side (cell_at r.cells a.0) && is_ep r.ep b.0) (is_diagonal (board_of rules) r.side a b.0) m.0 in
          let o = and_parts (is_own_pawn rules r.side (cell_at r.cells a.0)) (is_ep r.ep b.0) n.0 in
          none_or_some (cell_at r.cells b.0) y f (ep_free rules r r.ep b.0 (sound_ep rules r sound) o.1)
    ]

any_go : (rules : Rules) (r : Repeat) (a b : Square) (p : Promo) (g : Option Kind) → is_candidate rules r (Go a b p g) ≡ true → (x : Cell) × (cell_at r.cells a.0 ≡ Some x) × (PieceGoes rules r x a b p ⊎ PawnGoes rules r x a b p)
any_go rules r a b p None e = plain_go rules r a b p e
any_go rules r a b p (Some kind) e = let k = gated_go rules r a b p kind e in (k.0, k.1, inl k.2)

-- along the king's way
go_along : (rules : Rules) (fit : IsFit rules) (r : Repeat) (a b c d k : Square) (p : Promo) (g : Option Kind) (w : Wing) → Castles rules r c d k w → is_candidate rules r (Go a b p g) ≡ true → a ≡ c → b ≡ d → ⊥
go_along rules fit r a b c d k p g w x m e f =
    let y : Castles rules r a d k w = subst (λ (z : Square). Castles rules r z d k w) (sym e) x in
    let z : Castles rules r a b k w = subst (λ (z : Square). Castles rules r a z k w) (sym f) y in
    let n = any_go rules r a b p g m in
    elim n.2 as (λ _. ⊥) [
      | inl h ↦ piece_no_castle rules r n.0 a b k w p z n.1 h.2
      | inr h ↦ pawn_leaves rules r a b p fit.files_most h.2 (castle_rank_same rules fit r a b k w z)
    ]

-- from the rook's start to the king's
go_to_king : (rules : Rules) (r : Repeat) (a b c d k : Square) (p : Promo) (g : Option Kind) (w : Wing) → is_sound_repeat rules r ≡ true → Castles rules r c d k w → is_candidate rules r (Go a b p g) ≡ true → b ≡ c → ⊥
go_to_king rules r a b c d k p g w sound x m f =
    let y : Castles rules r b d k w = subst (λ (z : Square). Castles rules r z d k w) (sym f) x in
    let own = own_king_cell rules r.side (cell_at r.cells b.0) y.king in
    let n = any_go rules r a b p g m in
    elim n.2 as (λ _. ⊥) [
      | inl h ↦ piece_not_on_own rules r n.0 own.0 a b p own.1 own.2 h.2
      | inr h ↦ pawn_not_on_own rules r own.0 a b p sound own.1 own.2 h.2
    ]

go_by : (rules : Rules) (fit : IsFit rules) (r : Repeat) (a b c d k : Square) (p : Promo) (g : Option Kind) (w : Wing) (at : Bool) → is_sound_repeat rules r ≡ true → Castles rules r c d k w → is_candidate rules r (Go a b p g) ≡ true → a ≡ first_by at c k → b ≡ second_by at c d → ⊥
go_by rules fit r a b c d k p g w true sound x m e f = go_to_king rules r a b c d k p g w sound x m f
go_by rules fit r a b c d k p g w false sound x m e f = go_along rules fit r a b c d k p g w x m e f

first_small : (at : Bool) (a k : Square) → a.0 < 120 → k.0 < 120 → (first_by at a k).0 < 120
first_small true a k h l = l
first_small false a k h l = h

second_small : (at : Bool) (a b : Square) → a.0 < 120 → b.0 < 120 → (second_by at a b).0 < 120
second_small true a b h l = h
second_small false a b h l = l

go_and_castle : (rules : Rules) (fit : IsFit rules) (r : Repeat) (a b c d k : Square) (p : Promo) (g : Option Kind) (gate : Option Placed) → is_sound_repeat rules r ≡ true → IsFitMove (Go a b p g) → IsFitMove (Castle c d k gate) → is_candidate rules r (Go a b p g) ≡ true → is_candidate rules r (Castle c d k gate) ≡ true → text_of (Go a b p g) ≡ text_of (Castle c d k gate) → ⊥
go_and_castle rules fit r a b c d k p g gate sound h l m n e =
    let x = castle_is rules r c d k gate n in
    let at = at_rook k gate in
    let t = two_squares a b (first_by at c k) (second_by at c d) (promo_text p ++ gate_text g) (placed_text gate) h.0 h.1 (first_small at c k l.0 l.2) (second_small at c d l.0 l.1) (promo_stops p g) (placed_stops gate)
    (sym (go_spelled a b p g) ∙ e ∙ castle_spelled c d k gate) in
    go_by rules fit r a b c d k p g x.0.0 at sound x.0.1 m t.0 t.1

-- ---- drops

upper_apart : (k : Kind) (s : ℕ) → 97 + s % 12 ≡ upper k → ⊥
upper_apart k s e = omega (arith, e)

same_upper : (j k : Kind) → j.0 < 26 → k.0 < 26 → upper j ≡ upper k → j ≡ k
same_upper j k h l e = kind_is j k (omega (arith, h, l, e))

drop_spelled : (k : Kind) (s : Square) → text_of (Drop k s) ≡ upper k ∷ 64 ∷ square_text s
unfolding text_of
drop_spelled k s = refl

starts_apart : (a : Square) (k : Kind) (xs ys : List ℕ) → square_text a ++ xs ≡ upper k ∷ ys → ⊥
starts_apart a k xs ys e = upper_apart k a.0 (first_two _ _ _ _ e).0

same_drop : (j k : Kind) (a b : Square) → j.0 < 26 → a.0 < 120 → k.0 < 26 → b.0 < 120 → upper j ∷ 64 ∷ square_text a ≡ upper k ∷ 64 ∷ square_text b → Drop j a ≡ Drop k b
same_drop j k a b h l m n e =
    let t = first_two _ _ _ _ e in
    let u = first_two _ _ _ _ t.1 in
    let s = same_square a b [] [] l n tt tt (append-nil (square_text a) ∙ u.1 ∙ sym (append-nil (square_text b))) in
    let f : j ≡ k = same_upper j k h m t.0 in
    let g : a ≡ b = s.0 in
    cc

-- ---- the law

text_apart : (rules : Rules) (fit : IsFit rules) (r : Repeat) (x y : Move) → is_sound_repeat rules r ≡ true → IsFitMove x → IsFitMove y → is_candidate rules r x ≡ true → is_candidate rules r y ≡ true → text_of x ≡ text_of y → x ≡ y
text_apart rules fit r (Go a b p g) (Go c d q h) sound i j m n e =
    let t = two_squares a b c d (promo_text p ++ gate_text g) (promo_text q ++ gate_text h) i.0 i.1 j.0 j.1 (promo_stops p g) (promo_stops q h) (sym (go_spelled a b p g) ∙ e ∙ go_spelled c d q h) in
    same_go rules r a b c d p q g h t.0 t.1 i.2 j.2 i.3 j.3 m n t.2
text_apart rules fit r (Go a b p g) (Castle c d k h) sound i j m n e = absurd (go_and_castle rules fit r a b c d k p g h sound i j m n e)
text_apart rules fit r (Go a b p g) (Drop k s) sound i j m n e =
    absurd (starts_apart a k _ _ (sym (go_spelled a b p g) ∙ e ∙ drop_spelled k s))
text_apart rules fit r (Castle c d k h) (Go a b p g) sound i j m n e = absurd (go_and_castle rules fit r a b c d k p g h sound j i n m (sym e))
text_apart rules fit r (Castle a b k g) (Castle a' b' k' h) sound i j m n e =
    let x = castle_is rules r a b k g m in
    let y = castle_is rules r a' b' k' h n in
    let s = at_rook k g in
    let t = at_rook k' h in
    let z = two_squares (first_by s a k) (second_by s a b) (first_by t a' k') (second_by t a' b') (placed_text g) (placed_text h) (first_small s a k i.0 i.2) (second_small s a b i.0 i.1) (first_small t a' k' j.0 j.2) (second_small t a' b' j.0 j.1) (placed_stops g) (placed_stops h)
    (sym (castle_spelled a b k g) ∙ e ∙ castle_spelled a' b' k' h) in
    same_castles rules r a b k a' b' k' g h x.0.0 y.0.0 s t x.0.1 y.0.1 refl refl x.1 y.1 i.3 j.3 z.0 z.1 z.2
text_apart rules fit r (Castle a b k g) (Drop j s) sound i l m n e =
    absurd (starts_apart (first_by (at_rook k g) a k) j _ _ (sym (castle_spelled a b k g) ∙ e ∙ drop_spelled j s))
text_apart rules fit r (Drop k s) (Go a b p g) sound i j m n e =
    absurd (starts_apart a k _ _ (sym (go_spelled a b p g) ∙ sym e ∙ drop_spelled k s))
text_apart rules fit r (Drop j s) (Castle a b k g) sound i l m n e =
    absurd (starts_apart (first_by (at_rook k g) a k) j _ _ (sym (castle_spelled a b k g) ∙ sym e ∙ drop_spelled j s))
text_apart rules fit r (Drop j a) (Drop k b) sound i l m n e = same_drop j k a b i.0 i.1 l.0 l.1 (sym (drop_spelled j a) ∙ e ∙ drop_spelled k b)

-- two legal moves of a sound position with one text are one move
pub legal_texts_differ : (rules : Rules) (r : Repeat) (x y : Move) → IsFit rules → is_sound_repeat rules r ≡ true → Member x (legal rules r) → Member y (legal rules r) → text_of x ≡ text_of y → x ≡ y
legal_texts_differ rules r x y fit sound h k e =
    let i = legal-member rules r x h in
    let j = legal-member rules r y k in
    text_apart rules fit r x y sound i.0 j.0 (legal_candidate rules r x i.1) (legal_candidate rules r y j.1) e
