-- The attacks on kings that a move leaves as they are.
use Rattle.std.proofs.Common.{◌≡◌, ◌≢◌, ℕ, ◌<◌, Bool, true, false, ◌&&◌, ◌||◌, not, ◌==◌, Option, List, inl, inr, refl, ap, sym, ◌∙◌}
use Rattle.std.proofs.lemmas.Bool.{and_cases, eq-eqb, ne_eqb, or_parts}
use Rattle.std.proofs.Math.Bool.{and-true, or-false}
use Rattle.foundation.proofs.CountLemmas.{any_below-true}
use Rattle.rules_model.specs.declared.board.Cell.{Cell}
use Rattle.rules_model.specs.declared.board.Side.{Side}
use Rattle.rules_model.specs.declared.rules.Rules.{Rules}
use Rattle.rules_model.specs.Attacks.{attacks, attacks_from, is_own_king, king_attacked, king_attacked_at}
use Rattle.rules_model.specs.Sides.{other}
use Rattle.rules_model.specs.Squares.{cell_at}
use Rattle.square_set.specs.declared.Set.{Set}
use Rattle.square_set.specs.Members.{has}
use Rattle.attack_tables.proofs.AttackLaws.{king_at}
use Rattle.pins.specs.Evasion.{AfterVainMoves, AgreeOn, AttackDependsOn, PiecesAttack}
use Rattle.pins.specs.Guards.{IsMoved}

stays_out : (a b c : Bool) → ((a || b) && c) ≡ false → ((a && c) ≡ false) × ((b && c) ≡ false)
stays_out true true c e = (e, e)
stays_out true false c e = (e, refl)
stays_out false b c e = (refl, e)

both_same : (a b : Bool) → a ≡ true → (a && not b) ≡ false → b ≡ true
both_same true true e h = refl
both_same true false e h = cc
both_same false b e h = cc

-- ---- the squares on which an attack depends

-- they are occupied as they were after a move that leaves none of them, and enters none
module _ (occupied way moved : Set) (from to : ℕ) (is : IsMoved occupied from to moved) (out : (has way from && not (from == to)) ≡ false) (far : has way to ≡ false) where
  other_target : (s : ℕ) → has way s ≡ true → s ≢ to
  other_target s e q = let here = sym (ap (has way) q) ∙ e in cc

  other_start : (s : ℕ) → has way s ≡ true → s ≢ from
  other_start s e q =
      let same = both_same (has way from) (from == to) (sym (ap (has way) q) ∙ e) out in
      let apart = ne_eqb from to (λ z. other_target s e (q ∙ z)) in
      cc

  pub unmoved : AgreeOn way occupied moved
  unmoved s e =
      let stays = ne_eqb s from (other_start s e) in
      let empty = ne_eqb s to (other_target s e) in
      sym (is s ∙ rw (stays, empty) (or-false (has occupied s && true) ∙ and-true (has occupied s)))

-- an attack stays where besides none enters the attacker's square
pub still_attacks : (rules : Rules) (by : Side) (cells : List (Option Cell)) (enemies occupied way near : Set) (king at : ℕ) → AttackDependsOn rules by cells occupied king at way → has enemies at ≡ true → at < 120 → ((s : ℕ) → has near s ≡ (has way s || (s == at))) → AfterVainMoves by cells enemies occupied way near (PiecesAttack rules by king)
still_attacks rules by cells enemies occupied way near king at attack enemy small nears = λ from to men moved board l out into taken gone is.
    let o = or_parts (has way to) (to == at) (sym (nears to) ∙ into) in
    let spared = ne_eqb at to (λ q. let met = eq-eqb to at (sym q) in let apart = o.1 in cc) in
    let man : has men at ≡ true = taken at ∙ rw (enemy, spared) refl in
    any_below-true (attacks_from rules board by king) 120 at small (attack moved board is.squares (unmoved occupied way moved from to gone out o.0) (is.same at man))

-- what holds after each move that is vain by one of two pairs of sets
pub vain_by_either : (by : Side) (cells : List (Option Cell)) (enemies occupied leave enter leave2 enter2 left entered : Set) (Holds : List (Option Cell) → Type 0) → ((s : ℕ) → has left s ≡ (has leave s || has leave2 s)) → ((s : ℕ) → has entered s ≡ (has enter s && has enter2 s)) → AfterVainMoves by cells enemies occupied leave enter Holds → AfterVainMoves by cells enemies occupied leave2 enter2 Holds → AfterVainMoves by cells enemies occupied left entered Holds
vain_by_either by cells enemies occupied leave enter leave2 enter2 left entered Holds lefts entereds one two = λ from to men moved board l out into taken gone is.
    let outs = stays_out (has leave from) (has leave2 from) (not (from == to)) (ap (λ b. b && not (from == to)) (sym (lefts from)) ∙ out) in
    elim (and_cases (has enter to) (has enter2 to) (sym (entereds to) ∙ into)) as (λ _. Holds board) [
      | inl e ↦ one from to men moved board l outs.0 e taken gone is
      | inr e ↦ two from to men moved board l outs.1 e taken gone is
    ]

-- ---- kings

-- a king of the side that pieces attack
pub attacked_by_pieces : (rules : Rules) (board : List (Option Cell)) (side : Side) (king : ℕ) → king < 120 → is_own_king rules side (cell_at board king) ≡ true → PiecesAttack rules (other side) king board → king_attacked rules board side ≡ true
unfolding king_attacked attacks
attacked_by_pieces rules board side king small own attacked = any_below-true (king_attacked_at rules board side) 120 king small (king_at rules board side king own ∙ rw attacked refl)
