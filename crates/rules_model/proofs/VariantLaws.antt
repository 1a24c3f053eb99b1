-- The legal moves of a sound position are moves of the variant.
use Rattle.std.proofs.Common.{◌≡◌, ℕ, zero, suc, ◌+◌, ◌*◌, ◌/◌, ◌%◌, ◌<◌, ◌≤◌, Bool, true, false, not, ◌&&◌, ◌||◌, if◌then◌else◌, ◌⊎◌, inl, inr, Option, Some, None, List, [], ◌∷◌, ℤ, pos, negsuc, refl, sym, subst, arith, nat_lt, nat_le, is_some, slice_index_or}
use Rattle.std.proofs.lemmas.Bool.{and_parts, leb-true, ltb-true, or_cases}
use Rattle.std.specs.List.{list_any, list_all}
use Rattle.std.proofs.lemmas.Bool.Decides.{nat_tests}
use Rattle.foundation.specs.Count.{all_below}
use Rattle.foundation.specs.Member.{Member}
use Rattle.foundation.proofs.CountLemmas.{any_below-some, all_below-each}
use Rattle.rules_model.specs.declared.board.Cell.{Cell}
use Rattle.rules_model.specs.declared.board.Kind.{Kind}
use Rattle.rules_model.specs.declared.board.Region.{Region}
use Rattle.rules_model.specs.declared.board.Repeat.{Repeat}
use Rattle.rules_model.specs.declared.board.Side.{Side}
use Rattle.rules_model.specs.declared.board.Side.TheVariants.{White, Black}
use Rattle.rules_model.specs.declared.board.Square.{Square}
use Rattle.rules_model.specs.declared.board.Wing.{Wing}
use Rattle.rules_model.specs.declared.board.Wing.TheVariants.{Kingside, Queenside}
use Rattle.rules_model.specs.declared.moves.Move.{Move}
use Rattle.rules_model.specs.declared.moves.Move.TheVariants.{Go, Castle, Drop}
use Rattle.rules_model.specs.declared.moves.Placed.{Placed}
use Rattle.rules_model.specs.declared.moves.Promo.{Promo}
use Rattle.rules_model.specs.declared.moves.Promo.TheVariants.{Stays, Pawn, Plus}
use Rattle.rules_model.specs.declared.reach.Ray.{Ray}
use Rattle.rules_model.specs.declared.rules.Rules.{Rules}
use Rattle.rules_model.specs.declared.rules.Term.{Term}
use Rattle.rules_model.specs.Squares.{cell_at, within, square_of, step_to}
use Rattle.rules_model.specs.Reach.{is_at, passes, reaches_over, reaches, ray_of}
use Rattle.rules_model.specs.Sides.{other, side_index}
use Rattle.rules_model.specs.Kinds.{board_of, has_kind, is_king, masks}
use Rattle.rules_model.specs.Movement.{kind_reaches}
use Rattle.rules_model.specs.Regions.{no_region, in_region, castling_rank, castling_square}
use Rattle.rules_model.specs.Ends.{pieces_of}
use Rattle.rules_model.specs.Attacks.{ahead, king_attacked, is_diagonal, left_ahead, pawn_ray, right_ahead}
use Rattle.rules_model.specs.Hands.{holds}
use Rattle.rules_model.specs.Gating.{castle_gates}
use Rattle.rules_model.specs.Candidates.{is_candidate}
use Rattle.rules_model.specs.Castling.{castling_on, king_file}
use Rattle.rules_model.specs.Pieces.{may_plus, means_castling, piece_goes, piece_moves, piece_promo, serves}
use Rattle.rules_model.specs.Pawns.{is_enemy, is_stays, may_promote, passes_by, pawn_goes, pawn_moves, pawn_promo, steps_twice}
use Rattle.rules_model.specs.Drops.{drops_to}
use Rattle.rules_model.specs.Sound.{has_hands, is_origin, is_sound_cell, is_sound_ep, is_sound_repeat, is_sound_side, on_board, sound_at, sound_in_hand}
use Rattle.rules_model.specs.Sizes.{has_sizes}
use Rattle.rules_model.specs.Fit.{IsFit, mask_fits, region_fits, region_fits_at}
use Rattle.rules_model.specs.Legal.{legal}
use Rattle.rules_model.specs.Moves.{IsFitMove, IsFitPromo, IsFitPlaced}
use Rattle.rules_model.specs.Promised.{IsSquareOf, IsPromoOf, IsPlacedOf, IsMoveOf}
use Rattle.rules_model.proofs.CandidateLaws.{at_some, term_of_reach, legal_candidate, PieceGoes, PawnGoes, plain_go, gated_go, castle_is, rook_file-some, castle_gate, drop_is}
use Rattle.rules_model.proofs.LegalLaws.{legal-member}

-- ---- squares on the board

within_if : (n a k : ℕ) (b : Bool) → nat_lt a n ≡ b → (if b then Some a else None) ≡ Some k → k < n
within_if n a k true t e = let f : a ≡ k = cc in let l : a < n = grind (arith, nat_tests) in omega (arith, l, f)
within_if n a k false t e = cc

within_below : (n : ℕ) (z : ℤ) (k : ℕ) → within n z ≡ Some k → k < n
within_below n (pos a) k e = within_if n a k (nat_lt a n) refl e
within_below n (negsuc a) k e = cc

board_is : (files ranks s : ℕ) → s % 12 < files → s / 12 < ranks → (nat_lt (s % 12) files && nat_lt (s / 12) ranks) ≡ true
board_is files ranks s h k = grind (arith, nat_tests)

square_in : (files ranks : ℕ) (x y : ℤ) (f r : Option ℕ) (s : ℕ) → files ≤ 12 → within files x ≡ f → within ranks y ≡ r → square_of f r ≡ Some s → (nat_lt (s % 12) files && nat_lt (s / 12) ranks) ≡ true
square_in files ranks x y None r s h e g a = cc
square_in files ranks x y (Some f) None s h e g a = cc
square_in files ranks x y (Some f) (Some r) s h e g a =
    let i = within_below files x f e in
    let j = within_below ranks y r g in
    let k : 12 * r + f ≡ s = cc in
    board_is files ranks s (omega (arith, i, h, k)) (omega (arith, i, j, h, k))

pub step_board : (ray : Ray) (k s : ℕ) → ray.board.files ≤ 12 → is_at s (step_to ray k) ≡ true → (nat_lt (s % 12) ray.board.files && nat_lt (s / 12) ray.board.ranks) ≡ true
unfolding step_to
step_board ray k s h e = square_in ray.board.files ray.board.ranks _ _ _ _ s h refl refl (at_some s _ e)

reach_board : (rules : Rules) (cells : List (Option Cell)) (side : Side) (t : Term) (from : Square) (s : ℕ) → rules.files ≤ 12 → reaches (board_of rules) cells side t from s ≡ true → on_board rules s ≡ true
unfolding reaches_over
reach_board rules cells side t from s h e =
    let k = any_below-some (reaches_over cells t.way (ray_of (board_of rules) side t from) s) t.limit e in
    step_board (ray_of (board_of rules) side t from) (suc k.0) s h (and_parts (is_at s (step_to (ray_of (board_of rules) side t from) (suc k.0))) (passes cells t.way (ray_of (board_of rules) side t from) k.0) k.2).0

diagonal_board : (rules : Rules) (side : Side) (from : Square) (s : ℕ) → rules.files ≤ 12 → is_diagonal (board_of rules) side from s ≡ true → on_board rules s ≡ true
unfolding is_diagonal
diagonal_board rules side from s h e =
    elim (or_cases (is_at s (right_ahead (board_of rules) side from)) (is_at s (left_ahead (board_of rules) side from)) e) as (λ _. on_board rules s ≡ true) [
      | inl k ↦ step_board (pawn_ray (board_of rules) side (pos 1) from) 1 s h k
      | inr k ↦ step_board (pawn_ray (board_of rules) side (negsuc 0) from) 1 s h k
    ]

-- what a kind reaches lies on the board
pub kind_reaches-board : (rules : Rules) (cells : List (Option Cell)) (side : Side) (kind : Kind) (test : Term → Bool) (from : Square) (s : ℕ) → rules.files ≤ 12 → kind_reaches rules cells side kind test from s ≡ true → on_board rules s ≡ true
kind_reaches-board rules cells side kind test from s h e =
    let t = term_of_reach rules cells side kind test from s e in
    reach_board rules cells side t.0 from s h t.2

piece_board : (rules : Rules) (r : Repeat) (x : Cell) (from to : Square) (promo : Promo) → rules.files ≤ 12 → piece_moves rules r x from to promo ≡ true → on_board rules to.0 ≡ true
unfolding piece_moves piece_goes
piece_board rules r x from to promo h e =
    let a = and_parts _ (not (means_castling rules r x.kind from.0 to.0)) e in
    let b = and_parts (kind_reaches rules r.cells r.side x.kind (serves r.side (cell_at r.cells to.0)) from to.0) (piece_promo rules (may_plus rules r.side x.kind from.0 to.0) promo) a.0 in
    kind_reaches-board rules r.cells r.side x.kind (serves r.side (cell_at r.cells to.0)) from to.0 h b.0

step_twice_board : (rules : Rules) (r : Repeat) (from : Square) (s : ℕ) → rules.files ≤ 12 → steps_twice rules r from s ≡ true → on_board rules s ≡ true
step_twice_board rules r from s h e =
    step_board (pawn_ray (board_of rules) r.side (pos 0) from) 2 s h (and_parts _ (is_at s (ahead (board_of rules) r.side from 2)) e).1

pawn_goes_board : (rules : Rules) (r : Repeat) (from : Square) (s : ℕ) → rules.files ≤ 12 → pawn_goes rules r from s ≡ true → on_board rules s ≡ true
unfolding pawn_goes
pawn_goes_board rules r from s h e =
    elim (or_cases _ (is_enemy r.side (cell_at r.cells s) && is_diagonal (board_of rules) r.side from s) e) as (λ _. on_board rules s ≡ true) [
      | inl k ↦ elim (or_cases (is_at s (ahead (board_of rules) r.side from 1)) (steps_twice rules r from s) (and_parts _ (is_at s (ahead (board_of rules) r.side from 1) || steps_twice rules r from s) k).1) as (λ _. on_board rules s ≡ true) [
        | inl l ↦ step_board (pawn_ray (board_of rules) r.side (pos 0) from) 1 s h l
        | inr l ↦ step_twice_board rules r from s h l
      ]
      | inr k ↦ diagonal_board rules r.side from s h (and_parts (is_enemy r.side (cell_at r.cells s)) (is_diagonal (board_of rules) r.side from s) k).1
    ]

pawn_board : (rules : Rules) (r : Repeat) (from to : Square) (promo : Promo) → rules.files ≤ 12 → pawn_moves rules r from to promo ≡ true → on_board rules to.0 ≡ true
unfolding pawn_moves passes_by
pawn_board rules r from to promo h e =
    elim (or_cases (pawn_goes rules r from to.0 && pawn_promo rules (may_promote rules r.side to.0) promo) _ e) as (λ _. on_board rules to.0 ≡ true) [
      | inl k ↦ pawn_goes_board rules r from to.0 h (and_parts (pawn_goes rules r from to.0) (pawn_promo rules (may_promote rules r.side to.0) promo) k).0
      | inr k ↦ diagonal_board rules r.side from to.0 h (and_parts _ (is_diagonal (board_of rules) r.side from to.0) (and_parts _ (is_stays promo) k).0).1
    ]

-- ---- kinds of the variant

kind_of_mask : (a b : Bool) → (not a || b) ≡ true → a ≡ true → b ≡ true
kind_of_mask true b e h = e
kind_of_mask false b e h = cc

promo_kind : (rules : Rules) (fit : IsFit rules) (may : Bool) (promo : Promo) → IsFitPromo promo → pawn_promo rules may promo ≡ true → IsPromoOf rules promo
unfolding mask_fits
promo_kind rules fit may Stays l e = tt
promo_kind rules fit may (Pawn kind) l e =
    kind_of_mask (masks rules.promotion_kinds kind) (has_kind rules kind) (all_below-each (mask_fits rules rules.promotion_kinds) 26 fit.promotion_kinds kind.0 l) (and_parts may (masks rules.promotion_kinds kind) e).1
promo_kind rules fit may Plus l e = tt

stays_kind : (rules : Rules) (promo : Promo) → is_stays promo ≡ true → IsPromoOf rules promo
stays_kind rules Stays e = tt
stays_kind rules (Pawn kind) e = cc
stays_kind rules Plus e = tt

piece_kind : (rules : Rules) (may : Bool) (promo : Promo) → piece_promo rules may promo ≡ true → IsPromoOf rules promo
piece_kind rules may Stays e = tt
piece_kind rules may (Pawn kind) e = cc
piece_kind rules may Plus e = tt

pawn_promo_kind : (rules : Rules) (fit : IsFit rules) (r : Repeat) (from to : Square) (promo : Promo) → IsFitPromo promo → pawn_moves rules r from to promo ≡ true → IsPromoOf rules promo
unfolding pawn_moves
pawn_promo_kind rules fit r from to promo l e =
    elim (or_cases (pawn_goes rules r from to.0 && pawn_promo rules (may_promote rules r.side to.0) promo) (passes_by rules r from to.0 && is_stays promo) e) as (λ _. IsPromoOf rules promo) [
      | inl k ↦ promo_kind rules fit (may_promote rules r.side to.0) promo l (and_parts (pawn_goes rules r from to.0) (pawn_promo rules (may_promote rules r.side to.0) promo) k).1
      | inr k ↦ stays_kind rules promo (and_parts (passes_by rules r from to.0) (is_stays promo) k).1
    ]

piece_promo_kind : (rules : Rules) (r : Repeat) (x : Cell) (from to : Square) (promo : Promo) → piece_moves rules r x from to promo ≡ true → IsPromoOf rules promo
unfolding piece_moves
piece_promo_kind rules r x from to promo e =
    let a = and_parts (piece_goes rules r.cells r.side x.kind from to.0 && piece_promo rules (may_plus rules r.side x.kind from.0 to.0) promo) (not (means_castling rules r x.kind from.0 to.0)) e in
    piece_kind rules (may_plus rules r.side x.kind from.0 to.0) promo (and_parts (piece_goes rules r.cells r.side x.kind from to.0) (piece_promo rules (may_plus rules r.side x.kind from.0 to.0) promo) a.0).1

-- ---- what soundness gives

-- the parts of soundness, one by one
pub record SoundParts (rules : Rules) (r : Repeat) : Type 0 where
  pub sizes : has_sizes r ≡ true
  pub cells : all_below (sound_at rules r.cells) 120 ≡ true
  pub white : is_sound_side rules r White ≡ true
  pub black : is_sound_side rules r Black ≡ true
  pub safe : not (king_attacked rules r.cells (other r.side)) ≡ true
  pub ep : is_sound_ep rules r r.ep ≡ true

pub sound_parts : (rules : Rules) (r : Repeat) → is_sound_repeat rules r ≡ true → SoundParts rules r
unfolding is_sound_repeat
sound_parts rules r e =
    let h = and_parts _ (is_sound_ep rules r r.ep) e in
    let i = and_parts _ (not (king_attacked rules r.cells (other r.side))) h.0 in
    let j = and_parts _ (is_sound_side rules r Black) i.0 in
    let k = and_parts _ (is_sound_side rules r White) j.0 in
    let l = and_parts _ (nat_le (pieces_of r White + pieces_of r Black) 240) k.0 in
    let m = and_parts (has_sizes r) (all_below (sound_at rules r.cells) 120) l.0 in
    record { sizes = m.0; cells = m.1; white = k.1; black = j.1; safe = i.1; ep = h.1 }

sound_cells : (rules : Rules) (r : Repeat) → is_sound_repeat rules r ≡ true → all_below (sound_at rules r.cells) 120 ≡ true
sound_cells rules r e = (sound_parts rules r e).cells

pub sound_side : (rules : Rules) (r : Repeat) (side : Side) → is_sound_repeat rules r ≡ true → is_sound_side rules r side ≡ true
sound_side rules r White e = (sound_parts rules r e).white
sound_side rules r Black e = (sound_parts rules r e).black

-- the en passant square of a sound position
pub sound_ep : (rules : Rules) (r : Repeat) → is_sound_repeat rules r ≡ true → is_sound_ep rules r r.ep ≡ true
sound_ep rules r e = (sound_parts rules r e).ep

of_hand : (a b c d f g h : Bool) → (a && b && c && d && f && g && h) ≡ true → a ≡ true
of_hand true b c d f g h e = refl
of_hand false b c d f g h e = cc

held_kind : (a h k i : Bool) → (not a || (h && k && i)) ≡ true → a ≡ true → k ≡ true
held_kind true h k i e f = (and_parts h k (and_parts (h && k) i e).0).1
held_kind false h k i e f = cc

-- a held kind is of the variant
hand_kind_of : (rules : Rules) (r : Repeat) (side : Side) (kind : Kind) → is_sound_repeat rules r ≡ true → kind.0 < 26 → holds r.hands side kind ≡ true → has_kind rules kind ≡ true
unfolding is_sound_side sound_in_hand
hand_kind_of rules r side kind e l h =
    let a = of_hand (all_below (sound_in_hand rules r.hands side) 26) _ _ _ _ _ _ (sound_side rules r side e) in
    held_kind (holds r.hands side kind) (has_hands rules) (has_kind rules kind) (not (is_king rules kind)) (all_below-each (sound_in_hand rules r.hands side) 26 a kind.0 l) h

-- a piece stands on the board
cell_board : (rules : Rules) (r : Repeat) (s : ℕ) (x : Cell) → is_sound_repeat rules r ≡ true → s < 120 → cell_at r.cells s ≡ Some x → on_board rules s ≡ true
unfolding sound_at
cell_board rules r s x e l c =
    let a : is_sound_cell rules s (cell_at r.cells s) ≡ true = all_below-each (sound_at rules r.cells) 120 (sound_cells rules r e) s l in
    let b : is_sound_cell rules s (Some x) ≡ true = subst (λ o. is_sound_cell rules s o ≡ true) c a in
    (and_parts (on_board rules s) (has_kind rules x.kind) (and_parts (on_board rules s && has_kind rules x.kind) (is_origin rules x.kind x.origin) b).0).0

-- ---- castling and drops

rank_below : (rules : Rules) (fit : IsFit rules) (side : Side) → rules.castle_rank ≤ rules.ranks → castling_rank rules side < rules.ranks
rank_below rules fit White h = let l = fit.castle_rank_least in omega (arith, h, l)
rank_below rules fit Black h = let l = fit.castle_rank_least in omega (arith, h, l)

on_rank : (files ranks file rank : ℕ) → files ≤ 12 → file < files → rank < ranks → (nat_lt ((12 * rank + file) % 12) files && nat_lt ((12 * rank + file) / 12) ranks) ≡ true
on_rank files ranks file rank h i j = board_is files ranks (12 * rank + file) (omega (arith, h, i)) (omega (arith, h, i, j))

pub castling_square_board : (rules : Rules) (fit : IsFit rules) (side : Side) (file : ℕ) → rules.castle_rank ≤ rules.ranks → file < rules.files → on_board rules (castling_square rules side file) ≡ true
castling_square_board rules fit side file h l = on_rank rules.files rules.ranks file (castling_rank rules side) fit.files_most l (rank_below rules fit side h)

nine : (a b c d e f g h i : Bool) → (a && b && c && d && e && f && g && h && i) ≡ true → (d ≡ true) × (e ≡ true) × (f ≡ true) × (g ≡ true) × (h ≡ true) × (i ≡ true)
nine a b c d e f g h i z =
    let j = and_parts (a && b && c && d && e && f && g && h) i z in
    let k = and_parts (a && b && c && d && e && f && g) h j.0 in
    let l = and_parts (a && b && c && d && e && f) g k.0 in
    let m = and_parts (a && b && c && d && e) f l.0 in
    let n = and_parts (a && b && c && d) e m.0 in
    let o = and_parts (a && b && c) d n.0 in
    (o.1, n.1, m.1, l.1, k.1, j.1)

-- the rank and the files of castling lie on the board, the king's between the other two
pub castling_on-is : (rules : Rules) → castling_on rules ≡ true → (rules.castle_rank ≤ rules.ranks) × (rules.castle_king < rules.files) × (rules.castle_near < rules.files) × (rules.castle_far < rules.files) × (rules.castle_far < rules.castle_king) × (rules.castle_king < rules.castle_near)
unfolding castling_on
castling_on-is rules e =
    let h = nine rules.castling (is_some rules.king) (list_any (λ b. b) rules.castle_rooks) _ _ _ _ _ _ e in
    (leb-true _ _ h.0, ltb-true _ _ h.1, ltb-true _ _ h.2, ltb-true _ _ h.3, ltb-true _ _ h.4, ltb-true _ _ h.5)

king_file_below : (rules : Rules) (wing : Wing) → castling_on rules ≡ true → king_file rules wing < rules.files
king_file_below rules Kingside e = (castling_on-is rules e).2
king_file_below rules Queenside e = (castling_on-is rules e).3

region_board : (rules : Rules) (regions : List Region) (i s : ℕ) → list_all (region_fits rules) regions ≡ true → s < 120 → slice_index_or (slice_index_or regions i no_region).squares s false ≡ true → on_board rules s ≡ true
unfolding region_fits_at
region_board rules [] i s h l e = cc
region_board rules (x ∷ regions) zero s h l e =
    kind_of_mask (slice_index_or x.squares s false) (on_board rules s)
    (all_below-each (region_fits_at rules x) 120 (and_parts (region_fits rules x) (list_all (region_fits rules) regions) h).0 s l) e
region_board rules (x ∷ regions) (suc i) s h l e = region_board rules regions i s (and_parts (region_fits rules x) (list_all (region_fits rules) regions) h).1 l e

drop_of : (a b c d f g : Bool) → (a && b && c && d && f && g) ≡ true → (b ≡ true) × (d ≡ true)
drop_of a b c d f g e =
    let h = and_parts (a && b && c && d && f) g e in
    let i = and_parts (a && b && c && d) f h.0 in
    let j = and_parts (a && b && c) d i.0 in
    let k = and_parts (a && b) c j.0 in
    ((and_parts a b k.0).1, j.1)

drops_kind : (rules : Rules) (r : Repeat) (kind : Kind) (s : ℕ) → drops_to rules r kind s ≡ true → (holds r.hands r.side kind ≡ true) × (in_region rules.drop_region r.side s ≡ true)
unfolding drops_to
drops_kind rules r kind s e = drop_of _ _ _ _ _ _ e

-- ---- the law

plain_of : (rules : Rules) (fit : IsFit rules) (r : Repeat) (from to : Square) (promo : Promo) (x : Cell) → is_sound_repeat rules r ≡ true → from.0 < 120 → IsFitPromo promo → cell_at r.cells from.0 ≡ Some x → PieceGoes rules r x from to promo ⊎ PawnGoes rules r x from to promo → IsSquareOf rules from × IsSquareOf rules to × IsPromoOf rules promo
plain_of rules fit r from to promo x sound l p c (inl h) =
    (cell_board rules r from.0 x sound l c, piece_board rules r x from to promo fit.files_most h.2, piece_promo_kind rules r x from to promo h.2)
plain_of rules fit r from to promo x sound l p c (inr h) =
    (cell_board rules r from.0 x sound l c, pawn_board rules r from to promo fit.files_most h.2, pawn_promo_kind rules fit r from to promo p h.2)

placed_of : (rules : Rules) (fit : IsFit rules) (r : Repeat) (from to rook : Square) (gate : Option Placed) → is_sound_repeat rules r ≡ true → IsFitPlaced gate → IsSquareOf rules from → IsSquareOf rules rook → castle_gates rules r from to rook gate ≡ true → IsPlacedOf rules gate
placed_of rules fit r from to rook None sound l f k e = tt
placed_of rules fit r from to rook (Some placed) sound l f k e =
    let h = castle_gate rules r from to rook placed e in (
      hand_kind_of rules r r.side placed.kind sound l.0 h.1,
      elim h.2 as (λ _. IsSquareOf rules placed.at) [
        | inl a ↦ subst (λ s. on_board rules s ≡ true) (sym a) f
        | inr a ↦ subst (λ s. on_board rules s ≡ true) (sym a) k
      ],
    )

candidate_of : (rules : Rules) (fit : IsFit rules) (r : Repeat) (m : Move) → is_sound_repeat rules r ≡ true → IsFitMove m → is_candidate rules r m ≡ true → IsMoveOf rules m
candidate_of rules fit r (Go from to promo None) sound h e =
    let g = plain_go rules r from to promo e in
    let k = plain_of rules fit r from to promo g.0 sound h.0 h.2 g.1 g.2 in
    (k.0, k.1, k.2, tt)
candidate_of rules fit r (Go from to promo (Some kind)) sound h e =
    let g = gated_go rules r from to promo kind e in
    let k = plain_of rules fit r from to promo g.0 sound h.0 h.2 g.1 (inl g.2) in
    let held = and_parts _ (holds r.hands r.side kind) g.3 in
    (k.0, k.1, k.2, hand_kind_of rules r r.side kind sound h.3 held.1)
candidate_of rules fit r (Castle from to rook gate) sound h e =
    let g = castle_is rules r from to rook gate e in
    let c = g.0.1 in
    let on = castling_on-is rules c.on in
    let f : IsSquareOf rules from = subst (λ s. on_board rules s ≡ true) (sym c.start) (castling_square_board rules fit r.side rules.castle_king on.0 on.1) in
    let t : IsSquareOf rules to = subst (λ s. on_board rules s ≡ true) (sym c.target) (castling_square_board rules fit r.side (king_file rules g.0.0) on.0 (king_file_below rules g.0.0 c.on)) in
    let k : IsSquareOf rules rook = subst (λ s. on_board rules s ≡ true) (sym c.rank) (castling_square_board rules fit r.side c.beyond on.0 (rook_file-some rules r r.side g.0.0 c.beyond c.file).0) in
    (f, t, k, placed_of rules fit r from to rook gate sound h.3 f k g.1)
candidate_of rules fit r (Drop kind to) sound h e =
    let d = drops_kind rules r kind to.0 (drop_is rules r kind to e) in
    (hand_kind_of rules r r.side kind sound h.0 d.0, region_board rules rules.drop_region (side_index r.side) to.0 fit.drop_region h.1 d.1)

-- the legal moves of a sound position are moves of the variant
pub legal_of_variant : (rules : Rules) (r : Repeat) (m : Move) → IsFit rules → is_sound_repeat rules r ≡ true → Member m (legal rules r) → IsMoveOf rules m
legal_of_variant rules r m fit sound h =
    let k = legal-member rules r m h in
    candidate_of rules fit r m sound k.0 (legal_candidate rules r m k.1)
