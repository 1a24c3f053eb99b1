-- A castle is not open where a piece that is no castling rook stands on the rook's target.
use Rattle.std.proofs.Common.{◌≡◌, ◌≢◌, ℕ, ◌<◌, ◌≤◌, nat_le, nat_lt, min, max, Bool, true, false, not, ◌&&◌, ◌==◌, if◌then◌else◌, is_some, Option, Some, None, refl, sym, arith, subst}
use Rattle.std.proofs.lemmas.Bool.{and_parts, ne_eqb}
use Rattle.std.proofs.lemmas.Bool.Decides.{nat_tests}
use Rattle.std.proofs.Math.Nat.{min-le_right, le-max_right}
use Rattle.foundation.proofs.CountLemmas.{any_below-true}
use Rattle.rules_model.specs.declared.board.Repeat.{Repeat}
use Rattle.rules_model.specs.declared.board.Wing.{Wing}
use Rattle.rules_model.specs.declared.board.Wing.TheVariants.{Kingside, Queenside}
use Rattle.rules_model.specs.declared.rules.Rules.{Rules}
use Rattle.rules_model.specs.Attacks.{is_own, is_own_king}
use Rattle.rules_model.specs.Castling.{castle_by, castle_with, castling_on, highest, holds_right, in_the_way, lowest, rook_beyond, rook_file, rook_on, rook_to_file, way_is_open}
use Rattle.rules_model.specs.Kinds.{masks}
use Rattle.rules_model.specs.Regions.{castling_rank, castling_square}
use Rattle.rules_model.specs.Squares.{cell_at}
use Rattle.rules_model.proofs.CandidateLaws.{not_both, rook_file-some}
use Rattle.special_moves.specs.Castles.{is_open, open_castle, where_open}
use Rattle.special_moves.proofs.SquareLemmas.{same_file}

rook_there : (rules : Rules) (r : Repeat) (wing : Wing) (file : ℕ) → rook_beyond rules r.cells r.side wing file ≡ true → rook_on rules r.cells r.side file ≡ true
rook_there rules r Kingside file e = (and_parts (nat_lt rules.castle_king file) (rook_on rules r.cells r.side file) e).1
rook_there rules r Queenside file e = (and_parts (nat_lt file rules.castle_king) (rook_on rules r.cells r.side file) e).1

le-true : (a b : ℕ) → a ≤ b → nat_le a b ≡ true
le-true a b l = grind (arith, nat_tests)

last_least : (a b c d : ℕ) → min (min a b) (min c d) ≤ d
last_least a b c d = let m = min-le_right (min a b) (min c d) in let n = min-le_right c d in omega (arith, m, n)

last_most : (a b c d : ℕ) → d ≤ max (max a b) (max c d)
last_most a b c d = let m = le-max_right (max a b) (max c d) in let n = le-max_right c d in omega (arith, m, n)

shut : (a b c : Bool) → b ≡ true → (a && (not b && c)) ≡ false
shut true true c e = refl
shut true false c e = cc
shut false b c e = refl

nothing : {X : Type 0} (b : Bool) (o : Option X) → o ≡ None → (if b then o else None) ≡ None
nothing true o e = e
nothing false o e = refl

module _ (rules : Rules) (r : Repeat) (wing : Wing) (apart : rook_to_file rules wing ≢ rules.castle_king) (small : castling_square rules r.side (rook_to_file rules wing) < 120)
    (stands : is_some (cell_at r.cells (castling_square rules r.side (rook_to_file rules wing))) ≡ true) (another : is_own r.side (masks rules.castle_rooks) (cell_at r.cells (castling_square rules r.side (rook_to_file rules wing))) ≡ false) where
  abbrev target : ℕ
  target = castling_square rules r.side (rook_to_file rules wing)

  not_king : (target == castling_square rules r.side rules.castle_king) ≡ false
  not_king = ne_eqb target (castling_square rules r.side rules.castle_king) (λ same. apart (same_file (castling_rank rules r.side) (rook_to_file rules wing) rules.castle_king same))

  not_rook : (file : ℕ) → rook_file rules r.cells r.side wing ≡ Some file → (target == castling_square rules r.side file) ≡ false
  unfolding rook_on
  not_rook file e =
      ne_eqb target (castling_square rules r.side file) (λ same.
      let there = rook_there rules r wing file (rook_file-some rules r r.side wing file e).1 in
      not_both (is_own r.side (masks rules.castle_rooks) (cell_at r.cells target)) (subst (λ s. is_own r.side (masks rules.castle_rooks) (cell_at r.cells s) ≡ true) (sym same) there) another)

  -- the piece on the target is in the way
  taken : (file : ℕ) → rook_file rules r.cells r.side wing ≡ Some file → in_the_way r.cells (castle_with rules r.side wing file) target ≡ true
  unfolding in_the_way
  taken file e =
      let castle = castle_with rules r.side wing file in
      let low = le-true (lowest castle) target (last_least castle.king.0 castle.king_to.0 castle.rook.0 target) in
      let high = le-true target (highest castle) (last_most castle.king.0 castle.king_to.0 castle.rook.0 target) in
      rw (low, high, not_king, not_rook file e, stands) refl

  closed : (file : ℕ) → rook_file rules r.cells r.side wing ≡ Some file → is_open rules r (castle_with rules r.side wing file) ≡ false
  unfolding way_is_open
  closed file e =
      shut (is_own_king rules r.side (cell_at r.cells (castling_square rules r.side rules.castle_king))) _ _
      (any_below-true (in_the_way r.cells (castle_with rules r.side wing file)) 120 target small (taken file e))

  by_rook : (o : Option ℕ) → rook_file rules r.cells r.side wing ≡ o → where_open rules r (castle_by rules r.side wing o) ≡ None
  by_rook None e = refl
  by_rook (Some file) e = rw (closed file e) refl

  pub blocked : open_castle rules r wing ≡ None
  unfolding open_castle
  blocked = nothing (castling_on rules && holds_right r.rights r.side wing) _ (by_rook (rook_file rules r.cells r.side wing) refl)
