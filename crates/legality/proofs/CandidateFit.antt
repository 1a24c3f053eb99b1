-- Candidates are moves on the largest board.
use Rattle.std.proofs.lemmas.List.{get_or_past}
use Rattle.std.proofs.Common.{◌≡◌, ℕ, zero, suc, ◌/◌, ◌%◌, ◌<◌, ◌≤◌, Bool, true, false, not, ◌&&◌, ◌||◌, inl, inr, nat_lt, ◌==◌, Option, Some, None, List, [], ◌∷◌, length, slice_index, slice_index_or, ℤ, pos, negsuc, sym, subst, arith}
use Rattle.std.specs.List.{list_all}
use Rattle.std.proofs.lemmas.Bool.{and_parts, or_cases, ltb-true, eqb-true}
use Rattle.std.proofs.lemmas.Bool.Decides.{nat_tests}
use Rattle.rules_model.specs.declared.board.Cell.{Cell}
use Rattle.rules_model.specs.declared.board.Kind.{Kind}
use Rattle.rules_model.specs.declared.board.Repeat.{Repeat}
use Rattle.rules_model.specs.declared.board.Side.{Side}
use Rattle.rules_model.specs.declared.board.Square.{Square}
use Rattle.rules_model.specs.declared.board.Wing.{Wing}
use Rattle.rules_model.specs.declared.board.Wing.TheVariants.{Kingside, Queenside}
use Rattle.rules_model.specs.declared.moves.Move.{Move}
use Rattle.rules_model.specs.declared.moves.Move.TheVariants.{Go, Castle, Drop}
use Rattle.rules_model.specs.declared.moves.Placed.{Placed}
use Rattle.rules_model.specs.declared.moves.Promo.{Promo}
use Rattle.rules_model.specs.declared.moves.Promo.TheVariants.{Stays, Pawn, Plus}
use Rattle.rules_model.specs.declared.rules.Rules.{Rules}
use Rattle.rules_model.specs.Squares.{cell_at, step_to}
use Rattle.rules_model.specs.Sides.{side_index}
use Rattle.rules_model.specs.Kinds.{board_of, masks}
use Rattle.rules_model.specs.Regions.{no_region, castling_square}
use Rattle.rules_model.specs.Reach.{is_at}
use Rattle.rules_model.specs.Hands.{hand_of, holds}
use Rattle.rules_model.specs.Sizes.{HasSizes}
use Rattle.rules_model.specs.Sound.{on_board}
use Rattle.rules_model.specs.Attacks.{pawn_ray, ahead, right_ahead, left_ahead, is_diagonal}
use Rattle.rules_model.specs.Pieces.{may_plus, means_castling, piece_goes, piece_moves, piece_promo, serves}
use Rattle.rules_model.specs.Pawns.{is_enemy, is_stays, pawn_goes, pawn_moves, pawn_promo, may_promote, passes_by, steps_twice}
use Rattle.rules_model.specs.Castling.{castling_on, king_file}
use Rattle.rules_model.specs.Drops.{drops_to}
use Rattle.rules_model.specs.Gating.{castle_gates}
use Rattle.rules_model.specs.Candidates.{is_candidate}
use Rattle.rules_model.specs.Fit.{IsFit}
use Rattle.rules_model.specs.Moves.{IsFitMove, IsFitPromo, IsFitPlaced}
use Rattle.rules_model.proofs.CandidateLaws.{PieceGoes, castle_gate, castle_is, drop_is, gated_go, plain_go, rook_file-some}
use Rattle.rules_model.proofs.VariantLaws.{castling_on-is, castling_square_board, kind_reaches-board, step_board}
use Rattle.sound_play.proofs.CountLaws.{cell_within}
use Rattle.square_set.proofs.Cases.{by_order}

-- ---- places of lists

-- a list that is true at a place has the place
pub set_within : (xs : List Bool) (i n : ℕ) → length xs ≡ n → slice_index_or xs i false ≡ true → i < n
set_within xs i n size e = by_order i n (i < n) (λ l. l) (λ l. absurd (let none : slice_index_or xs i false ≡ false = get_or_past xs i false (omega (arith, size, l)) in cc))

hand_short : (hands : List (List ℕ)) (i : ℕ) → list_all (λ hand. length hand == 26) hands ≡ true → length (slice_index_or hands i []) ≤ 26
hand_short [] i e = omega arith
hand_short (x ∷ hands) zero e = let h = eqb-true _ _ (and_parts (length x == 26) (list_all (λ hand. length hand == 26) hands) e).0 in omega (arith, h)
hand_short (x ∷ hands) (suc i) e = hand_short hands i (and_parts (length x == 26) (list_all (λ hand. length hand == 26) hands) e).1

held_small : (r : Repeat) (side : Side) (kind : Kind) → HasSizes r → holds r.hands side kind ≡ true → kind.0 < 26
held_small r side kind sizes e =
    by_order kind.0 26 (kind.0 < 26) (λ l. l)
    (λ l.
    let none : slice_index (hand_of r.hands side) kind.0 ≡ 0 = get_or_past (hand_of r.hands side) kind.0 0 (omega (arith, hand_short r.hands (side_index side) sizes.each_hand, l)) in
    let some = ltb-true _ _ e in
    absurd (omega (arith, none, some)))

-- ---- squares of the board

in_board : (files ranks s : ℕ) → files ≤ 12 → ranks ≤ 10 → (nat_lt (s % 12) files && nat_lt (s / 12) ranks) ≡ true → s < 120
in_board files ranks s h k e = grind (arith, nat_tests)

small : (rules : Rules) (s : ℕ) → IsFit rules → on_board rules s ≡ true → s < 120
small rules s fit e = in_board rules.files rules.ranks s fit.files_most fit.ranks_most e

step_small : (rules : Rules) (fit : IsFit rules) (side : Side) (dx : ℤ) (from : Square) (k s : ℕ) → is_at s (step_to (pawn_ray (board_of rules) side dx from) k) ≡ true → s < 120
step_small rules fit side dx from k s e = small rules s fit (step_board (pawn_ray (board_of rules) side dx from) k s fit.files_most e)

-- ---- a piece

goes_small : (rules : Rules) (fit : IsFit rules) (r : Repeat) (kind : Kind) (from : Square) (s : ℕ) → piece_goes rules r.cells r.side kind from s ≡ true → s < 120
unfolding piece_goes
goes_small rules fit r kind from s e = small rules s fit (kind_reaches-board rules r.cells r.side kind (serves r.side (cell_at r.cells s)) from s fit.files_most e)

piece_promo_fit : (rules : Rules) (may : Bool) (promo : Promo) → piece_promo rules may promo ≡ true → IsFitPromo promo
piece_promo_fit rules may Stays e = tt
piece_promo_fit rules may (Pawn kind) e = cc
piece_promo_fit rules may Plus e = tt

piece_fit : (rules : Rules) (fit : IsFit rules) (r : Repeat) (x : Cell) (from to : Square) (promo : Promo) → PieceGoes rules r x from to promo → (to.0 < 120) × IsFitPromo promo
unfolding piece_moves
piece_fit rules fit r x from to promo h =
    let a = and_parts _ (not (means_castling rules r x.kind from.0 to.0)) h.2 in
    let b = and_parts (piece_goes rules r.cells r.side x.kind from to.0) (piece_promo rules (may_plus rules r.side x.kind from.0 to.0) promo) a.0 in
    (goes_small rules fit r x.kind from to.0 b.0, piece_promo_fit rules _ promo b.1)

-- ---- a pawn

diagonal_small : (rules : Rules) (fit : IsFit rules) (side : Side) (from : Square) (s : ℕ) → is_diagonal (board_of rules) side from s ≡ true → s < 120
unfolding is_diagonal
diagonal_small rules fit side from s e =
    elim (or_cases (is_at s (right_ahead (board_of rules) side from)) (is_at s (left_ahead (board_of rules) side from)) e) as (λ _. s < 120) [
      | inl k ↦ step_small rules fit side (pos 1) from 1 s k
      | inr k ↦ step_small rules fit side (negsuc 0) from 1 s k
    ]

twice_small : (rules : Rules) (fit : IsFit rules) (r : Repeat) (from : Square) (s : ℕ) → steps_twice rules r from s ≡ true → s < 120
twice_small rules fit r from s e = step_small rules fit r.side (pos 0) from 2 s (and_parts _ (is_at s (ahead (board_of rules) r.side from 2)) e).1

pawn_goes_small : (rules : Rules) (fit : IsFit rules) (r : Repeat) (from : Square) (s : ℕ) → pawn_goes rules r from s ≡ true → s < 120
unfolding pawn_goes
pawn_goes_small rules fit r from s e =
    elim (or_cases _ (is_enemy r.side (cell_at r.cells s) && is_diagonal (board_of rules) r.side from s) e) as (λ _. s < 120) [
      | inl k ↦ elim (or_cases (is_at s (ahead (board_of rules) r.side from 1)) (steps_twice rules r from s) (and_parts _ (is_at s (ahead (board_of rules) r.side from 1) || steps_twice rules r from s) k).1) as (λ _. s < 120) [
        | inl l ↦ step_small rules fit r.side (pos 0) from 1 s l
        | inr l ↦ twice_small rules fit r from s l
      ]
      | inr k ↦ diagonal_small rules fit r.side from s (and_parts (is_enemy r.side (cell_at r.cells s)) (is_diagonal (board_of rules) r.side from s) k).1
    ]

pawn_promo_fit : (rules : Rules) (may : Bool) (promo : Promo) → length rules.promotion_kinds ≡ 26 → pawn_promo rules may promo ≡ true → IsFitPromo promo
pawn_promo_fit rules may Stays size e = tt
pawn_promo_fit rules may (Pawn kind) size e = set_within rules.promotion_kinds kind.0 26 size (and_parts may (masks rules.promotion_kinds kind) e).1
pawn_promo_fit rules may Plus size e = tt

stays_fit : (promo : Promo) → is_stays promo ≡ true → IsFitPromo promo
stays_fit Stays e = tt
stays_fit (Pawn kind) e = cc
stays_fit Plus e = tt

pawn_fit : (rules : Rules) (fit : IsFit rules) (r : Repeat) (from to : Square) (promo : Promo) → length rules.promotion_kinds ≡ 26 → pawn_moves rules r from to promo ≡ true → (to.0 < 120) × IsFitPromo promo
unfolding pawn_moves passes_by
pawn_fit rules fit r from to promo size e =
    elim (or_cases (pawn_goes rules r from to.0 && pawn_promo rules (may_promote rules r.side to.0) promo) _ e) as (λ _. (to.0 < 120) × IsFitPromo promo) [
      | inl k ↦
          let h = and_parts (pawn_goes rules r from to.0) (pawn_promo rules (may_promote rules r.side to.0) promo) k in
          (pawn_goes_small rules fit r from to.0 h.0, pawn_promo_fit rules (may_promote rules r.side to.0) promo size h.1)
      | inr k ↦
          let h = and_parts _ (is_stays promo) k in
          (diagonal_small rules fit r.side from to.0 (and_parts _ (is_diagonal (board_of rules) r.side from to.0) h.0).1, stays_fit promo h.1)
    ]

-- ---- castles

file_below : (rules : Rules) (wing : Wing) → castling_on rules ≡ true → king_file rules wing < rules.files
file_below rules Kingside e = (castling_on-is rules e).2
file_below rules Queenside e = (castling_on-is rules e).3

square_small : (rules : Rules) (fit : IsFit rules) (side : Side) (file s : ℕ) → castling_on rules ≡ true → file < rules.files → s ≡ castling_square rules side file → s < 120
square_small rules fit side file s on l e =
    small rules s fit (subst (λ t. on_board rules t ≡ true) (sym e) (castling_square_board rules fit side file (castling_on-is rules on).0 l))

placed_fit : (rules : Rules) (r : Repeat) (from to rook : Square) (gate : Option Placed) → HasSizes r → from.0 < 120 → rook.0 < 120 → castle_gates rules r from to rook gate ≡ true → IsFitPlaced gate
placed_fit rules r from to rook None sizes l m e = tt
placed_fit rules r from to rook (Some placed) sizes l m e =
    let h = castle_gate rules r from to rook placed e in (
      held_small r r.side placed.kind sizes h.1,
      elim h.2 as (λ _. placed.at.0 < 120) [ inl a ↦ omega (arith, a, l) | inr a ↦ omega (arith, a, m) ],
    )

-- ---- drops

drop_of : (a b c d f g : Bool) → (a && b && c && d && f && g) ≡ true → (b ≡ true) × (d ≡ true)
drop_of a b c d f g e =
    let h = and_parts (a && b && c && d && f) g e in
    let i = and_parts (a && b && c && d) f h.0 in
    let j = and_parts (a && b && c) d i.0 in
    let k = and_parts (a && b) c j.0 in
    ((and_parts a b k.0).1, j.1)

drop_fit : (rules : Rules) (r : Repeat) (kind : Kind) (to : Square) → HasSizes r → length (slice_index_or rules.drop_region (side_index r.side) no_region).squares ≡ 120 → drops_to rules r kind to.0 ≡ true → (kind.0 < 26) × (to.0 < 120)
unfolding drops_to
drop_fit rules r kind to sizes size e =
    let h = drop_of _ (holds r.hands r.side kind) _ _ _ _ e in
    (held_small r r.side kind sizes h.0, set_within _ to.0 120 size h.1)

-- ---- the whole

start_small : (r : Repeat) (from : Square) (x : Cell) → HasSizes r → cell_at r.cells from.0 ≡ Some x → from.0 < 120
start_small r from x sizes c = let l = cell_within r.cells from.0 x c in omega (arith, l, sizes.cells)

pub candidate_fit : (rules : Rules) (r : Repeat) (m : Move) → IsFit rules → HasSizes r → length rules.promotion_kinds ≡ 26 → length (slice_index_or rules.drop_region (side_index r.side) no_region).squares ≡ 120 → is_candidate rules r m ≡ true → IsFitMove m
candidate_fit rules r (Go from to promo None) fit sizes kinds region e =
    let g = plain_go rules r from to promo e in
    let k : (to.0 < 120) × IsFitPromo promo = elim g.2 as (λ _. (to.0 < 120) × IsFitPromo promo) [ inl h ↦ piece_fit rules fit r g.0 from to promo h | inr h ↦ pawn_fit rules fit r from to promo kinds h.2 ] in
    (start_small r from g.0 sizes g.1, k.0, k.1, tt)
candidate_fit rules r (Go from to promo (Some kind)) fit sizes kinds region e =
    let g = gated_go rules r from to promo kind e in
    let k = piece_fit rules fit r g.0 from to promo g.2 in
    (start_small r from g.0 sizes g.1, k.0, k.1, held_small r r.side kind sizes (and_parts _ (holds r.hands r.side kind) g.3).1)
candidate_fit rules r (Castle from to rook gate) fit sizes kinds region e =
    let g = castle_is rules r from to rook gate e in
    let c = g.0.1 in
    let f = square_small rules fit r.side rules.castle_king from.0 c.on (castling_on-is rules c.on).1 c.start in
    let k = square_small rules fit r.side c.beyond rook.0 c.on (rook_file-some rules r r.side g.0.0 c.beyond c.file).0 c.rank in
    (f, square_small rules fit r.side (king_file rules g.0.0) to.0 c.on (file_below rules g.0.0 c.on) c.target, k, placed_fit rules r from to rook gate sizes f k g.1)
candidate_fit rules r (Drop kind to) fit sizes kinds region e = drop_fit rules r kind to sizes region (drop_is rules r kind to e)
