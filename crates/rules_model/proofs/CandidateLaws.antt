-- What stands behind a candidate, taken apart.
use Rattle.std.proofs.Common.{◌≡◌, ℕ, zero, suc, ◌<◌, Bool, true, false, not, ◌&&◌, ◌||◌, if◌then◌else◌, ◌⊎◌, inl, inr, Option, Some, None, List, [], ◌∷◌, refl, sym, ap, subst, arith, ◌==◌}
use Rattle.std.proofs.lemmas.Bool.{and_parts, not-true, or_cases}
use Rattle.std.specs.List.{list_any}
use Rattle.std.proofs.lemmas.Bool.Decides.{Decides-eqb}
use Rattle.foundation.specs.Count.{first_below, last_below, or_else}
use Rattle.rules_model.specs.declared.board.Cell.{Cell}
use Rattle.rules_model.specs.declared.board.Kind.{Kind}
use Rattle.rules_model.specs.declared.board.Repeat.{Repeat}
use Rattle.rules_model.specs.declared.board.Side.{Side}
use Rattle.rules_model.specs.declared.board.Square.{Square}
use Rattle.rules_model.specs.declared.board.Wing.{Wing}
use Rattle.rules_model.specs.declared.board.Wing.TheVariants.{Kingside, Queenside}
use Rattle.rules_model.specs.declared.moves.Move.{Move}
use Rattle.rules_model.specs.declared.moves.Move.TheVariants.{Go, Castle, Drop}
use Rattle.rules_model.specs.declared.moves.Placed.{Placed}
use Rattle.rules_model.specs.declared.moves.Promo.{Promo}
use Rattle.rules_model.specs.declared.rules.Rules.{Rules}
use Rattle.rules_model.specs.declared.rules.Term.{Term}
use Rattle.rules_model.specs.Squares.{cell_at}
use Rattle.rules_model.specs.Reach.{is_at, reaches}
use Rattle.rules_model.specs.Sides.{same_side}
use Rattle.rules_model.specs.Kinds.{board_of, is_pawn}
use Rattle.rules_model.specs.Movement.{in_mobility, kind_reaches, reaches_by, terms_from}
use Rattle.rules_model.specs.Regions.{castling_square}
use Rattle.rules_model.specs.Attacks.{is_own_king}
use Rattle.rules_model.specs.Castling.{castling_on, holds_right, king_file, rook_beyond, rook_file, rook_target, way_is_open, castle_with, castle_by, castle_of, is_castle, castles_as, castles_on, castles}
use Rattle.rules_model.specs.Pieces.{piece_moves}
use Rattle.rules_model.specs.Pawns.{pawn_moves}
use Rattle.rules_model.specs.Drops.{drops_to}
use Rattle.rules_model.specs.Hands.{holds}
use Rattle.rules_model.specs.Gating.{gates_from, castle_gates}
use Rattle.rules_model.specs.Candidates.{own_piece_moves, own_pawn_moves, is_piece_move, is_special_move, is_candidate}
use Rattle.rules_model.specs.Ends.{is_ongoing, early_end}
use Rattle.rules_model.specs.Legal.{is_allowed, is_sane}
use Rattle.rules_model.specs.Allowed.{is_legal}

-- ---- tests that are joined

pub not_both : (b : Bool) → b ≡ true → b ≡ false → ⊥
not_both b e f = cc

pub any_has : {X : Type 0} (p : X → Bool) (xs : List X) → list_any p xs ≡ true → (x : X) × (p x ≡ true)
any_has p [] e = cc
any_has {X = X} p (x ∷ xs) e = elim (or_cases (p x) (list_any p xs) e) as (λ _. (y : X) × (p y ≡ true)) [ inl h ↦ (x, h) | inr h ↦ any_has p xs h ]

pub at_some : (s : ℕ) (o : Option ℕ) → is_at s o ≡ true → o ≡ Some s
at_some s None e = cc
at_some s (Some r) e = ap (λ k. Some k) ((Decides-eqb r s).0 e)

-- ---- a legal move is a candidate

pub legal_candidate : (rules : Rules) (r : Repeat) (m : Move) → is_legal rules r m ≡ true → is_candidate rules r m ≡ true
unfolding is_legal is_allowed
legal_candidate rules r m e =
    let h = and_parts _ _ e in
    let k = and_parts (is_ongoing (early_end rules r)) _ h.0 in
    (and_parts (is_candidate rules r m) (is_sane rules r m) k.1).0

-- ---- the first and the last that pass

first_of : (o : Option ℕ) (b : Bool) (n k : ℕ) → or_else o b n ≡ Some k → (o ≡ Some k) ⊎ ((n ≡ k) × (b ≡ true))
first_of (Some j) b n k e = inl e
first_of None true n k e = inr (cc, refl)
first_of None false n k e = cc

last_of : (o : Option ℕ) (b : Bool) (n k : ℕ) → (if b then Some n else o) ≡ Some k → (o ≡ Some k) ⊎ ((n ≡ k) × (b ≡ true))
last_of o true n k e = inr (cc, refl)
last_of o false n k e = inl e

pub first_below-some : (f : ℕ → Bool) (n k : ℕ) → first_below f n ≡ Some k → (k < n) × (f k ≡ true)
unfolding first_below
first_below-some f zero k e = cc
first_below-some f (suc n) k e =
    elim (first_of (first_below f n) (f n) n k e) as (λ _. (k < suc n) × (f k ≡ true)) [
      | inl h ↦ let g = first_below-some f n k h in (omega (arith, g.0), g.1)
      | inr h ↦ (omega (arith, h.0), subst (λ j. f j ≡ true) h.0 h.1)
    ]

pub last_below-some : (f : ℕ → Bool) (n k : ℕ) → last_below f n ≡ Some k → (k < n) × (f k ≡ true)
unfolding last_below
last_below-some f zero k e = cc
last_below-some f (suc n) k e =
    elim (last_of (last_below f n) (f n) n k e) as (λ _. (k < suc n) × (f k ≡ true)) [
      | inl h ↦ let g = last_below-some f n k h in (omega (arith, g.0), g.1)
      | inr h ↦ (omega (arith, h.0), subst (λ j. f j ≡ true) h.0 h.1)
    ]

-- ---- ordinary moves

-- the term by which a kind reaches a square
pub term_of_reach : (rules : Rules) (cells : List (Option Cell)) (side : Side) (kind : Kind) (test : Term → Bool) (from : Square) (s : ℕ) → kind_reaches rules cells side kind test from s ≡ true → (t : Term) × (test t ≡ true) × (reaches (board_of rules) cells side t from s ≡ true)
unfolding kind_reaches
term_of_reach rules cells side kind test from s e =
    let a = and_parts (in_mobility rules side kind s) (list_any (reaches_by rules cells side test from s) (terms_from rules side kind from)) e in
    let t = any_has (reaches_by rules cells side test from s) (terms_from rules side kind from) a.1 in
    let b = and_parts (test t.0) (reaches (board_of rules) cells side t.0 from s) t.1 in
    (t.0, b.0, b.1)

abbrev pub PieceGoes : Rules → Repeat → Cell → Square → Square → Promo → Type 0
PieceGoes rules r x from to promo = (same_side x.side r.side ≡ true) × (is_pawn rules x.kind ≡ false) × (piece_moves rules r x from to promo ≡ true)

abbrev pub PawnGoes : Rules → Repeat → Cell → Square → Square → Promo → Type 0
PawnGoes rules r x from to promo = (same_side x.side r.side ≡ true) × (is_pawn rules x.kind ≡ true) × (pawn_moves rules r from to promo ≡ true)

piece_of : (rules : Rules) (r : Repeat) (from to : Square) (promo : Promo) (c : Option Cell) → own_piece_moves rules r from to promo c ≡ true → (x : Cell) × (c ≡ Some x) × PieceGoes rules r x from to promo
piece_of rules r from to promo None e = cc
piece_of rules r from to promo (Some x) e =
    let h = and_parts (same_side x.side r.side && not (is_pawn rules x.kind)) (piece_moves rules r x from to promo) e in
    let k = and_parts (same_side x.side r.side) (not (is_pawn rules x.kind)) h.0 in
    (x, refl, (k.0, not-true _ k.1, h.1))

pawn_of : (rules : Rules) (r : Repeat) (from to : Square) (promo : Promo) (c : Option Cell) → own_pawn_moves rules r from to promo c ≡ true → (x : Cell) × (c ≡ Some x) × PawnGoes rules r x from to promo
pawn_of rules r from to promo None e = cc
pawn_of rules r from to promo (Some x) e =
    let h = and_parts (same_side x.side r.side && is_pawn rules x.kind) (pawn_moves rules r from to promo) e in
    let k = and_parts (same_side x.side r.side) (is_pawn rules x.kind) h.0 in
    (x, refl, (k.0, k.1, h.1))

-- a piece or a pawn goes without a gate
pub plain_go : (rules : Rules) (r : Repeat) (from to : Square) (promo : Promo) → is_candidate rules r (Go from to promo None) ≡ true → (x : Cell) × (cell_at r.cells from.0 ≡ Some x) × (PieceGoes rules r x from to promo ⊎ PawnGoes rules r x from to promo)
unfolding is_candidate is_piece_move is_special_move
plain_go rules r from to promo e =
    elim (or_cases (own_piece_moves rules r from to promo (cell_at r.cells from.0)) (own_pawn_moves rules r from to promo (cell_at r.cells from.0)) e)
    as (λ _. (x : Cell) × (cell_at r.cells from.0 ≡ Some x) × (PieceGoes rules r x from to promo ⊎ PawnGoes rules r x from to promo)) [
      | inl h ↦ let k = piece_of rules r from to promo (cell_at r.cells from.0) h in (k.0, k.1, inl k.2)
      | inr h ↦ let k = pawn_of rules r from to promo (cell_at r.cells from.0) h in (k.0, k.1, inr k.2)
    ]

-- only a piece goes with one
pub gated_go : (rules : Rules) (r : Repeat) (from to : Square) (promo : Promo) (kind : Kind) → is_candidate rules r (Go from to promo (Some kind)) ≡ true → (x : Cell) × (cell_at r.cells from.0 ≡ Some x) × PieceGoes rules r x from to promo × (gates_from rules r from kind ≡ true)
unfolding is_candidate is_piece_move is_special_move
gated_go rules r from to promo kind e =
    let h = and_parts (own_piece_moves rules r from to promo (cell_at r.cells from.0)) (gates_from rules r from kind) e in
    let k = piece_of rules r from to promo (cell_at r.cells from.0) h.0 in
    (k.0, k.1, k.2, h.1)

-- ---- castling

-- what a castle to a wing asks
pub record Castles (rules : Rules) (r : Repeat) (from to rook : Square) (wing : Wing) : Type 0 where
  pub on : castling_on rules ≡ true
  pub held : holds_right r.rights r.side wing ≡ true
  pub start : from.0 ≡ castling_square rules r.side rules.castle_king
  pub king : is_own_king rules r.side (cell_at r.cells from.0) ≡ true
  pub target : to.0 ≡ castling_square rules r.side (king_file rules wing)
  pub beyond : ℕ
  pub file : rook_file rules r.cells r.side wing ≡ Some beyond
  pub rank : rook.0 ≡ castling_square rules r.side beyond
  pub way : way_is_open rules r.cells r.side (castle_with rules r.side wing beyond) ≡ true

castles_of : (rules : Rules) (r : Repeat) (from to rook : Square) (wing : Wing) (o : Option ℕ) → castling_on rules ≡ true → holds_right r.rights r.side wing ≡ true → rook_file rules r.cells r.side wing ≡ o → castles_as rules r from to rook (castle_by rules r.side wing o) ≡ true → Castles rules r from to rook wing
castles_of rules r from to rook wing None on held f e = cc
castles_of rules r from to rook wing (Some file) on held f e =
    let castle = castle_with rules r.side wing file in
    let a = and_parts _ (way_is_open rules r.cells r.side castle) e in
    let b = and_parts (is_own_king rules r.side (cell_at r.cells castle.king.0)) (is_castle castle from to rook) a.0 in
    let c = and_parts ((from.0 == castle.king.0) && (to.0 == castle.king_to.0)) (rook.0 == castle.rook.0) b.1 in
    let d = and_parts (from.0 == castle.king.0) (to.0 == castle.king_to.0) c.0 in
    let start = (Decides-eqb from.0 castle.king.0).0 d.0 in
    record {
      on = on;
      held = held;
      start = start;
      king = subst (λ s. is_own_king rules r.side (cell_at r.cells s) ≡ true) (sym start) b.0;
      target = (Decides-eqb to.0 castle.king_to.0).0 d.1;
      beyond = file;
      file = f;
      rank = (Decides-eqb rook.0 castle.rook.0).0 c.1;
      way = a.1;
    }

castles_to : (rules : Rules) (r : Repeat) (from to rook : Square) (wing : Wing) → castling_on rules ≡ true → castles_on rules r from to rook wing ≡ true → Castles rules r from to rook wing
castles_to rules r from to rook wing on e =
    let a = and_parts (holds_right r.rights r.side wing) (castles_as rules r from to rook (castle_of rules r.cells r.side wing)) e in
    castles_of rules r from to rook wing (rook_file rules r.cells r.side wing) on a.0 refl a.1

pub castle_is : (rules : Rules) (r : Repeat) (from to rook : Square) (gate : Option Placed) → is_candidate rules r (Castle from to rook gate) ≡ true → ((wing : Wing) × Castles rules r from to rook wing) × (castle_gates rules r from to rook gate ≡ true)
unfolding is_candidate is_piece_move is_special_move castles
castle_is rules r from to rook gate e =
    let a = and_parts (castling_on rules && (castles_on rules r from to rook Kingside || castles_on rules r from to rook Queenside)) (castle_gates rules r from to rook gate) e in
    let b = and_parts (castling_on rules) (castles_on rules r from to rook Kingside || castles_on rules r from to rook Queenside) a.0 in (
      elim (or_cases (castles_on rules r from to rook Kingside) (castles_on rules r from to rook Queenside) b.1) as (λ _. (wing : Wing) × Castles rules r from to rook wing) [
        | inl h ↦ (Kingside, castles_to rules r from to rook Kingside b.0 h)
        | inr h ↦ (Queenside, castles_to rules r from to rook Queenside b.0 h)
      ],
      a.1,
    )

-- the castling rook stands on the board, and beyond the king
pub rook_file-some : (rules : Rules) (r : Repeat) (side : Side) (wing : Wing) (file : ℕ) → rook_file rules r.cells side wing ≡ Some file → (file < rules.files) × (rook_beyond rules r.cells side wing file ≡ true)
unfolding rook_file
rook_file-some rules r side Kingside file e = last_below-some (rook_beyond rules r.cells side Kingside) rules.files file e
rook_file-some rules r side Queenside file e = first_below-some (rook_beyond rules r.cells side Queenside) rules.files file e

-- what a castle places comes from the hand, and to the king's or the rook's start
pub castle_gate : (rules : Rules) (r : Repeat) (from to rook : Square) (placed : Placed) → castle_gates rules r from to rook (Some placed) ≡ true → (rules.gate_hand ≡ true) × (holds r.hands r.side placed.kind ≡ true) × ((placed.at.0 ≡ from.0) ⊎ (placed.at.0 ≡ rook.0))
castle_gate rules r from to rook placed e =
    let a = and_parts _ (not (placed.at.0 == rook_target from to rook)) e in
    let b = and_parts _ (not (placed.at.0 == to.0)) a.0 in
    let c = and_parts (rules.gate_hand && holds r.hands r.side placed.kind) ((placed.at.0 == from.0) || (placed.at.0 == rook.0)) b.0 in
    let d = and_parts rules.gate_hand (holds r.hands r.side placed.kind) c.0 in (
      d.0,
      d.1,
      elim (or_cases (placed.at.0 == from.0) (placed.at.0 == rook.0) c.1) as (λ _. (placed.at.0 ≡ from.0) ⊎ (placed.at.0 ≡ rook.0)) [
        | inl h ↦ inl ((Decides-eqb _ _).0 h)
        | inr h ↦ inr ((Decides-eqb _ _).0 h)
      ],
    )

-- ---- drops

pub drop_is : (rules : Rules) (r : Repeat) (kind : Kind) (to : Square) → is_candidate rules r (Drop kind to) ≡ true → drops_to rules r kind to.0 ≡ true
unfolding is_candidate is_piece_move is_special_move
drop_is rules r kind to e = e
