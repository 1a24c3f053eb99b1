-- The squares that are listed are those of the pieces that attack a king.
use Rattle.std.proofs.Common.{◌≡◌, ◌∙◌, ℕ, zero, suc, ◌+◌, ◌<◌, ◌≤◌, ◌↔◌, Bool, true, false, ◌&&◌, ◌||◌, ◌⊎◌, inl, inr, List, [], ◌∷◌, Option, refl, arith, sym, subst, cond, true≢false}
use Rattle.std.specs.List.{filter, range_with_len}
use Rattle.std.proofs.lemmas.Bool.{and_from, and_parts, or_left, or_right}
use Rattle.std.proofs.Math.Nat.{eq-or-lt_of_le}
use Rattle.foundation.specs.Count.{any_below}
use Rattle.foundation.specs.Member.{Member}
use Rattle.foundation.proofs.CountLemmas.{any_below-some, any_below-true}
use Rattle.foundation.proofs.Members.{filter-member, member-filter}
use Rattle.rules_model.specs.declared.board.Cell.{Cell}
use Rattle.rules_model.specs.declared.board.Side.{Side}
use Rattle.rules_model.specs.declared.board.Side.TheVariants.{White, Black}
use Rattle.rules_model.specs.declared.rules.Rules.{Rules}
use Rattle.rules_model.specs.Attacks.{attacks, attacks_from, flies_to, is_own_king, king_attacked, king_attacked_at, king_faces}
use Rattle.rules_model.specs.Sides.{other}
use Rattle.rules_model.specs.Squares.{cell_at}
use Rattle.checkers.specs.Checkers.{IsAscendingFrom, attacks_king_on, checkers, is_checker}

-- ---- the squares of a board

member-range : (a n s : ℕ) → a ≤ s → s < a + n → Member s (range_with_len a n)
member-range a zero s low high = absurd (omega (arith, low, high))
member-range a (suc n) s low high =
    elim (eq-or-lt_of_le low) as (λ _. Member s (range_with_len a (suc n))) [
      | inl e ↦ inl e
      | inr l ↦ inr (member-range (a + 1) n s (omega (arith, l)) (omega (arith, high)))
    ]

range-member : (a n s : ℕ) → Member s (range_with_len a n) → s < a + n
range-member a zero s m = absurd m
range-member a (suc n) s (inl e) = omega (arith, e)
range-member a (suc n) s (inr m) = let l = range-member (a + 1) n s m in omega (arith, l)

lower : (a b : ℕ) (xs : List ℕ) → a ≤ b → IsAscendingFrom b xs → IsAscendingFrom a xs
lower a b [] le up = tt
lower a b (x ∷ xs) le up = let l = up.0 in (omega (arith, le, l), up.1)

ascending-range : (p : ℕ → Bool) (a n : ℕ) → IsAscendingFrom a (filter p (range_with_len a n))
ascending-range p a zero = tt
ascending-range p a (suc n) = go (p a) (ascending-range p (a + 1) n)
  where
    go : (b : Bool) → IsAscendingFrom (a + 1) (filter p (range_with_len (a + 1) n)) → IsAscendingFrom a (cond b (a ∷ filter p (range_with_len (a + 1) n)) (filter p (range_with_len (a + 1) n)))
    go true up = (omega arith, up)
    go false up = lower a (a + 1) (filter p (range_with_len (a + 1) n)) (omega arith) up

module _ (rules : Rules) (cells : List (Option Cell)) (side : Side) where
  -- ---- the pieces listed

  pub listed-attack : (s : ℕ) → Member s (checkers rules cells side) → is_checker rules cells side s ≡ true
  listed-attack s m = (filter-member (is_checker rules cells side) s (range_with_len 0 120) m).1

  pub attack-listed : (s : ℕ) → s < 120 → is_checker rules cells side s ≡ true → Member s (checkers rules cells side)
  attack-listed s l is = member-filter (is_checker rules cells side) s (range_with_len 0 120) (member-range 0 120 s (omega arith) (omega (arith, l))) is

  pub ascending : IsAscendingFrom 0 (checkers rules cells side)
  ascending = ascending-range (is_checker rules cells side) 0 120

  -- ---- and the king

  either : (a b : Bool) (P : Type 0) → (a ≡ true → P) → (b ≡ true → P) → (a || b) ≡ true → P
  either true b P f g h = f refl
  either false b P f g h = g h

  -- the other side of the other side
  same_king : (x : Side) (c : Option Cell) → is_own_king rules x c ≡ true → is_own_king rules (other (other x)) c ≡ true
  same_king White c e = e
  same_king Black c e = e

  -- ---- what attacks a square on which a king stands

  fly : (to : ℕ) → rules.flying ≡ true → is_own_king rules side (cell_at cells to) ≡ true → any_below (king_faces rules cells (other side) to) 120 ≡ true → flies_to rules cells (other side) to ≡ true
  unfolding flies_to
  fly to flying there faces =
      and_from (rules.flying && is_own_king rules (other (other side)) (cell_at cells to)) (any_below (king_faces rules cells (other side) to) 120)
      (and_from rules.flying (is_own_king rules (other (other side)) (cell_at cells to)) flying (same_king side (cell_at cells to) there)) faces

  faces : (to : ℕ) → flies_to rules cells (other side) to ≡ true → (rules.flying ≡ true) × (any_below (king_faces rules cells (other side) to) 120 ≡ true)
  unfolding flies_to
  faces to flies =
      let parts = and_parts (rules.flying && is_own_king rules (other (other side)) (cell_at cells to)) (any_below (king_faces rules cells (other side) to) 120) flies in
      ((and_parts rules.flying (is_own_king rules (other (other side)) (cell_at cells to)) parts.0).0, parts.1)

  by_piece : (to : ℕ) → any_below (attacks_from rules cells (other side) to) 120 ≡ true → attacks rules cells (other side) to ≡ true
  unfolding attacks
  by_piece to e = or_left (any_below (attacks_from rules cells (other side) to) 120) (flies_to rules cells (other side) to) e

  by_king : (to : ℕ) → flies_to rules cells (other side) to ≡ true → attacks rules cells (other side) to ≡ true
  unfolding attacks
  by_king to e = or_right (any_below (attacks_from rules cells (other side) to) 120) (flies_to rules cells (other side) to) e

  by_either : (to : ℕ) (P : Type 0) → (any_below (attacks_from rules cells (other side) to) 120 ≡ true → P) → (flies_to rules cells (other side) to ≡ true → P) → attacks rules cells (other side) to ≡ true → P
  unfolding attacks
  by_either to P f g e = either (any_below (attacks_from rules cells (other side) to) 120) (flies_to rules cells (other side) to) P f g e

  -- whose piece attacks a king attacks its square
  checker-attacks : (from to : ℕ) → from < 120 → attacks_king_on rules cells side from to ≡ true → king_attacked_at rules cells side to ≡ true
  unfolding attacks_king_on king_attacked_at
  checker-attacks from to l is =
      let parts = and_parts (is_own_king rules side (cell_at cells to)) (attacks_from rules cells (other side) to from || (rules.flying && king_faces rules cells (other side) to from)) is in
      and_from (is_own_king rules side (cell_at cells to)) (attacks rules cells (other side) to) parts.0
      (either (attacks_from rules cells (other side) to from) (rules.flying && king_faces rules cells (other side) to from) (attacks rules cells (other side) to ≡ true)
      (λ e. by_piece to (any_below-true (attacks_from rules cells (other side) to) 120 from l e))
      (λ e. let flying = and_parts rules.flying (king_faces rules cells (other side) to from) e in by_king to (fly to flying.0 parts.0 (any_below-true (king_faces rules cells (other side) to) 120 from l flying.1)))
      parts.1)

  -- a square that is attacked has a piece that attacks it
  abbrev Attacker : ℕ → Type 0
  Attacker to = (from : ℕ) × (from < 120) × (attacks_king_on rules cells side from to ≡ true)

  attacked-checker : (to : ℕ) → king_attacked_at rules cells side to ≡ true → Attacker to
  unfolding attacks_king_on king_attacked_at
  attacked-checker to is =
      let parts = and_parts (is_own_king rules side (cell_at cells to)) (attacks rules cells (other side) to) is in
      by_either to (Attacker to)
      (λ e.
      let some = any_below-some (attacks_from rules cells (other side) to) 120 e in
      (some.0, some.1, and_from (is_own_king rules side (cell_at cells to)) _ parts.0 (or_left (attacks_from rules cells (other side) to some.0) _ some.2)))
      (λ e.
      let flying = faces to e in
      let some = any_below-some (king_faces rules cells (other side) to) 120 flying.1 in
      (some.0, some.1, and_from (is_own_king rules side (cell_at cells to)) _ parts.0 (or_right (attacks_from rules cells (other side) to some.0) _ (and_from rules.flying _ flying.0 some.2))))
      parts.1

  pub none-safe : checkers rules cells side ≡ [] → king_attacked rules cells side ≡ false
  unfolding is_checker king_attacked
  none-safe none = go (any_below (king_attacked_at rules cells side) 120) refl
    where
      go : (b : Bool) → any_below (king_attacked_at rules cells side) 120 ≡ b → b ≡ false
      go false e = refl
      go true e =
          let king = any_below-some (king_attacked_at rules cells side) 120 e in
          let piece = attacked-checker king.0 king.2 in
          let there = attack-listed piece.0 piece.1 (any_below-true (attacks_king_on rules cells side piece.0) 120 king.0 king.1 piece.2) in
          absurd (subst (Member piece.0) none there)

  pub safe-none : king_attacked rules cells side ≡ false → checkers rules cells side ≡ []
  unfolding is_checker king_attacked
  safe-none safe = go (checkers rules cells side) refl
    where
      go : (xs : List ℕ) → checkers rules cells side ≡ xs → xs ≡ []
      go [] e = refl
      go (s ∷ xs) e =
          let there = filter-member (is_checker rules cells side) s (range_with_len 0 120) (subst (Member s) (sym e) (inl refl)) in
          let king = any_below-some (attacks_king_on rules cells side s) 120 there.1 in
          let attacked = any_below-true (king_attacked_at rules cells side) 120 king.0 king.1 (checker-attacks s king.0 (range-member 0 120 s there.0) king.2) in
          absurd (true≢false (sym attacked ∙ safe))
