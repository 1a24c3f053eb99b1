-- The moves to the two wings are the castles of the rules.
use Rattle.std.proofs.Common.{◌≡◌, ℕ, ◌<◌, nat_lt, true, ◌&&◌, ◌||◌, ◌==◌, if◌then◌else◌, inl, inr, Option, Some, None, refl, ap, sym, ◌∙◌, subst, arith}
use Rattle.std.proofs.lemmas.Bool.{and_from, and_parts, or_cases, or_left, or_right}
use Rattle.std.proofs.lemmas.Bool.Decides.{Decides-eqb}
use Rattle.rules_model.specs.declared.board.Repeat.{Repeat}
use Rattle.rules_model.specs.declared.board.Side.{Side}
use Rattle.rules_model.specs.declared.board.Side.TheVariants.{White, Black}
use Rattle.rules_model.specs.declared.board.Square.{Square}
use Rattle.rules_model.specs.declared.board.Wing.{Wing}
use Rattle.rules_model.specs.declared.board.Wing.TheVariants.{Kingside, Queenside}
use Rattle.rules_model.specs.declared.castling.CastleSquares.{CastleSquares}
use Rattle.rules_model.specs.declared.moves.Move.{Move}
use Rattle.rules_model.specs.declared.moves.Move.TheVariants.{Castle}
use Rattle.rules_model.specs.declared.moves.Placed.{Placed}
use Rattle.rules_model.specs.declared.rules.Rules.{Rules}
use Rattle.rules_model.specs.Attacks.{is_own_king}
use Rattle.rules_model.specs.Candidates.{is_special_move}
use Rattle.rules_model.specs.Castling.{castle_of, castle_with, castles, castles_as, castles_on, castling_on, holds_right, IsFitCastle, is_castle, king_file, rook_to_file, way_is_open}
use Rattle.rules_model.specs.Fit.{IsFit}
use Rattle.rules_model.specs.Gating.{castle_gates}
use Rattle.rules_model.specs.Moves.{IsFitPlaced}
use Rattle.rules_model.specs.Regions.{castling_rank}
use Rattle.rules_model.specs.Squares.{cell_at}
use Rattle.rules_model.proofs.CandidateLaws.{rook_file-some}
use Rattle.special_moves.specs.Castles.{is_open, open_castle, where_open}
use Rattle.special_moves.specs.Parts.{castle_move, FitSpecialMoves, IsCastle, IsCastleTo}
use Rattle.special_moves.proofs.SquareLemmas.{on_board, same_square}
use Rattle.special_moves.proofs.CastleLemmas.{IsOpen, IsMadeTo, lt-is, made-to, make, wing-some}

-- ---- a castle that is open is one of the rules

same_number : (n : ℕ) → (n == n) ≡ true
same_number n = (Decides-eqb n n).1 refl

of_open : (rules : Rules) (r : Repeat) (castle : CastleSquares) → is_open rules r castle ≡ true → castles_as rules r castle.king castle.king_to castle.rook (Some castle) ≡ true
of_open rules r castle e =
    let h = and_parts (is_own_king rules r.side (cell_at r.cells castle.king.0)) (way_is_open rules r.cells r.side castle) e in
    and_from _ _ (and_from _ _ h.0 (and_from _ _ (and_from _ _ (same_number castle.king.0) (same_number castle.king_to.0)) (same_number castle.rook.0))) h.1

on_wing : (rules : Rules) (r : Repeat) (wing : Wing) (castle : CastleSquares) → IsOpen rules r wing castle → castles_on rules r castle.king castle.king_to castle.rook wing ≡ true
on_wing rules r wing castle h =
    and_from _ _ h.held (subst (λ o. castles_as rules r castle.king castle.king_to castle.rook o ≡ true) (sym h.castle_is) (of_open rules r castle h.open_way))

either_wing : (rules : Rules) (r : Repeat) (wing : Wing) (from to rook : Square) → castles_on rules r from to rook wing ≡ true → (castles_on rules r from to rook Kingside || castles_on rules r from to rook Queenside) ≡ true
either_wing rules r Kingside from to rook e = or_left _ _ e
either_wing rules r Queenside from to rook e = or_right _ _ e

open_castles : (rules : Rules) (r : Repeat) (wing : Wing) (castle : CastleSquares) → IsOpen rules r wing castle → castles rules r castle.king castle.king_to castle.rook ≡ true
unfolding castles
open_castles rules r wing castle h = and_from _ _ h.on (either_wing rules r wing castle.king castle.king_to castle.rook (on_wing rules r wing castle h))

-- ---- its squares

rank_below : (rules : Rules) (side : Side) → IsFit rules → castling_rank rules side < 10
rank_below rules White fit = omega (arith, fit.castle_rank_least, fit.castle_rank_most)
rank_below rules Black fit = omega (arith, fit.castle_rank_least, fit.ranks_most, fit.ranks_least)

king_file_below : (rules : Rules) (wing : Wing) → IsFit rules → king_file rules wing < 12
king_file_below rules Kingside fit = fit.castle_near
king_file_below rules Queenside fit = fit.castle_far

rook_file_below : (rules : Rules) (wing : Wing) → IsFit rules → castling_on rules ≡ true → rook_to_file rules wing < 12
unfolding castling_on
rook_file_below rules Kingside fit e = omega (arith, fit.castle_near)
rook_file_below rules Queenside fit e =
    let a = and_parts _ (nat_lt rules.castle_king rules.castle_near) e in
    let l = lt-is rules.castle_far rules.castle_king (and_parts _ (nat_lt rules.castle_far rules.castle_king) a.0).1 in
    omega (arith, l, fit.castle_king)

fit_with : (rules : Rules) (side : Side) (wing : Wing) (file : ℕ) → IsFit rules → castling_on rules ≡ true → file < 12 → IsFitCastle (castle_with rules side wing file)
fit_with rules side wing file fit on l =
    let rank = rank_below rules side fit in
    record {
      king = on_board _ rules.castle_king rank fit.castle_king;
      king_to = on_board _ (king_file rules wing) rank (king_file_below rules wing fit);
      rook = on_board _ file rank l;
      rook_to = on_board _ (rook_to_file rules wing) rank (rook_file_below rules wing fit on);
    }

fit_open : (rules : Rules) (r : Repeat) (wing : Wing) (castle : CastleSquares) → IsFit rules → IsOpen rules r wing castle → IsFitCastle castle
fit_open rules r wing castle fit h =
    let l = (rook_file-some rules r r.side wing h.file h.rook).0 in
    subst IsFitCastle h.is (fit_with rules r.side wing h.file fit h.on (omega (arith, l, fit.files_most)))

-- ---- there and back

special_to : (rules : Rules) (r : Repeat) (wing : Wing) (m : Move) → IsFit rules → IsMadeTo rules r wing m → FitSpecialMoves rules r m
unfolding is_special_move
special_to rules r wing m fit h =
    let f = fit_open rules r wing h.castle fit h.open_way in
    subst (FitSpecialMoves rules r) h.move.is
    ((f.king, f.king_to, f.rook, h.move.fits f), and_from _ _ (open_castles rules r wing h.castle h.open_way) h.move.may)

pub castle-special : (rules : Rules) (r : Repeat) → IsFit rules → (m : Move) → IsCastle rules r m → FitSpecialMoves rules r m
castle-special rules r fit m (inl h) = special_to rules r Kingside m fit (made-to rules r Kingside m h)
castle-special rules r fit m (inr h) = special_to rules r Queenside m fit (made-to rules r Queenside m h)

-- the castle that a move of these squares makes
pub record IsFrom (rules : Rules) (r : Repeat) (from to rook : Square) (o : Option CastleSquares) : Type 0 where
  pub castle : CastleSquares
  pub is : o ≡ Some castle
  pub open_way : is_open rules r castle ≡ true
  pub king : castle.king ≡ from
  pub king_to : castle.king_to ≡ to
  pub rook_is : castle.rook ≡ rook

from_as : (rules : Rules) (r : Repeat) (from to rook : Square) (o : Option CastleSquares) → castles_as rules r from to rook o ≡ true → IsFrom rules r from to rook o
from_as rules r from to rook None e = cc
from_as rules r from to rook (Some castle) e =
    let a = and_parts _ (way_is_open rules r.cells r.side castle) e in
    let b = and_parts (is_own_king rules r.side (cell_at r.cells castle.king.0)) (is_castle castle from to rook) a.0 in
    let c = and_parts ((from.0 == castle.king.0) && (to.0 == castle.king_to.0)) (rook.0 == castle.rook.0) b.1 in
    let d = and_parts (from.0 == castle.king.0) (to.0 == castle.king_to.0) c.0 in
    record {
      castle = castle;
      is = refl;
      open_way = and_from _ _ b.0 a.1;
      king = same_square castle.king from (sym ((Decides-eqb from.0 castle.king.0).0 d.0));
      king_to = same_square castle.king_to to (sym ((Decides-eqb to.0 castle.king_to.0).0 d.1));
      rook_is = same_square castle.rook rook (sym ((Decides-eqb rook.0 castle.rook.0).0 c.1));
    }

opens : (rules : Rules) (r : Repeat) (wing : Wing) (castle : CastleSquares) → castling_on rules ≡ true → holds_right r.rights r.side wing ≡ true → castle_of rules r.cells r.side wing ≡ Some castle → is_open rules r castle ≡ true → open_castle rules r wing ≡ Some castle
unfolding open_castle
opens rules r wing castle on held is way =
    let first : (castling_on rules && holds_right r.rights r.side wing) ≡ true = and_from _ _ on held in
    let second : where_open rules r (Some castle) ≡ Some castle = ap (λ b. if b then Some castle else None) way in
    ap (λ b. if b then where_open rules r (castle_of rules r.cells r.side wing) else None) first ∙ ap (where_open rules r) is ∙ second

to_wing : (rules : Rules) (r : Repeat) (wing : Wing) (from to rook : Square) (gate : Option Placed) → castling_on rules ≡ true → castles_on rules r from to rook wing ≡ true → castle_gates rules r from to rook gate ≡ true → IsFitPlaced gate → IsCastleTo rules r wing (Castle from to rook gate)
to_wing rules r wing from to rook gate on e may fits =
    let a = and_parts (holds_right r.rights r.side wing) (castles_as rules r from to rook (castle_of rules r.cells r.side wing)) e in
    let h = from_as rules r from to rook (castle_of rules r.cells r.side wing) a.1 in
    let castle = h.castle in
    let here =
    make rules r castle gate
    (subst (λ s. castle_gates rules r s castle.king_to castle.rook gate ≡ true) (sym h.king)
    (subst (λ s. castle_gates rules r from s castle.rook gate ≡ true) (sym h.king_to)
    (subst (λ s. castle_gates rules r from to s gate ≡ true) (sym h.rook_is) may)))
    fits
    in
    subst (λ s. IsCastleTo rules r wing (Castle s to rook gate)) h.king
    (subst (λ s. IsCastleTo rules r wing (Castle castle.king s rook gate)) h.king_to
    (subst (λ s. IsCastleTo rules r wing (Castle castle.king castle.king_to s gate)) h.rook_is
    (wing-some rules r wing castle (opens rules r wing castle on a.0 h.is h.open_way) (castle_move castle gate) here)))

pub castle-split : (rules : Rules) (r : Repeat) (from to rook : Square) (gate : Option Placed) → FitSpecialMoves rules r (Castle from to rook gate) → IsCastle rules r (Castle from to rook gate)
unfolding is_special_move castles
castle-split rules r from to rook gate h =
    let a = and_parts (castling_on rules && (castles_on rules r from to rook Kingside || castles_on rules r from to rook Queenside)) (castle_gates rules r from to rook gate) h.1 in
    let b = and_parts (castling_on rules) (castles_on rules r from to rook Kingside || castles_on rules r from to rook Queenside) a.0 in
    elim (or_cases (castles_on rules r from to rook Kingside) (castles_on rules r from to rook Queenside) b.1) as (λ _. IsCastle rules r (Castle from to rook gate)) [
      | inl e ↦ inl (to_wing rules r Kingside from to rook gate b.0 e a.1 h.0.3)
      | inr e ↦ inr (to_wing rules r Queenside from to rook gate b.0 e a.1 h.0.3)
    ]
