-- Laws of the masks of kinds.
use Rattle.std.proofs.Common.{◌≡◌, ℕ, ◌+◌, ◌*◌, ◌/◌, ◌%◌, ◌<◌, ap, ◌∙◌, subst, arith}
use Rattle.rules_model.specs.declared.board.Side.{Side}
use Rattle.rules_model.specs.Sides.{side_index}
use Rattle.move_tables.specs.Spots.{side_of}
use Rattle.attack_tables.proofs.MaskLaws.{there}

part_place : (p k : ℕ) → k < 26 → (p * 26 + k) / 26 ≡ p
part_place p k b = omega (arith, b)

part_kind : (p k : ℕ) → k < 26 → (p * 26 + k) % 26 ≡ k
part_kind p k b = omega (arith, b)

-- what holds of the parts of the place of a kind in the list holds of them
pub there_of : (P : Side → ℕ → ℕ → Type 0) (side : Side) (f k i : ℕ) → f < 120 → k < 26 → i ≡ (side_index side * 120 + f) * 26 + k → P (side_of (i / 26 / 120)) (i / 26 % 120) (i % 26) → P side f k
there_of P side f k i l m e h =
    let place = side_index side * 120 + f in
    let At : Side → ℕ → Type 0 = λ s g. P s g k in
    let Of : ℕ → Type 0 = λ n. P (side_of (i / 26 / 120)) (i / 26 % 120) n in
    let of_place : i / 26 ≡ place = ap (λ n. n / 26) e ∙ part_place place k m in
    let of_kind : i % 26 ≡ k = ap (λ n. n % 26) e ∙ part_kind place k m in
    there At side f (i / 26) l of_place (subst Of of_kind h)
