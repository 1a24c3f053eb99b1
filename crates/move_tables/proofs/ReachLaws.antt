-- What a kind reaches lies on the largest board, and only the kinds that a variant may have reach something.
use Rattle.std.proofs.Common.{◌≡◌, ℕ, ◌<◌, ◌≤◌, ◌/◌, ◌%◌, nat_lt, true, false, Option, Some, None, List, inl, inr, pos, negsuc, refl, arith}
use Rattle.std.proofs.lemmas.Bool.{and_parts, false_from_ne_true, ltb-true, or_cases, ne_eqb}
use Rattle.std.proofs.lemmas.Option.{slice_get_past}
use Rattle.rules_model.specs.declared.board.BoardSize.{BoardSize}
use Rattle.rules_model.specs.declared.board.Cell.{Cell}
use Rattle.rules_model.specs.declared.board.Kind.{Kind}
use Rattle.rules_model.specs.declared.board.Side.{Side}
use Rattle.rules_model.specs.declared.board.Square.{Square}
use Rattle.rules_model.specs.declared.reach.Ray.{Ray}
use Rattle.rules_model.specs.declared.rules.Rules.{Rules}
use Rattle.rules_model.specs.Attacks.{is_diagonal, left_ahead, pawn_ray, right_ahead}
use Rattle.rules_model.specs.Fit.{IsFit, is_there}
use Rattle.rules_model.specs.Kinds.{board_of, has_kind, is_pawn, kind_rule, names}
use Rattle.rules_model.specs.Movement.{kind_reaches}
use Rattle.rules_model.specs.Reach.{IsOnBoard, is_at}
use Rattle.rules_model.specs.Sound.{on_board}
use Rattle.rules_model.specs.Squares.{step_to}
use Rattle.rules_model.proofs.VariantLaws.{kind_reaches-board}
use Rattle.square_set.proofs.Cases.{by_bool}
use Rattle.move_tables.specs.declared.mode.Mode.{Mode}
use Rattle.move_tables.specs.declared.mode.Mode.TheVariants.{Quiet, Take}
use Rattle.move_tables.specs.Reached.{pawn_reaches, reaches_as, serves}
use Rattle.move_tables.proofs.OrderLaws.{square_parts, within-is}
use Rattle.move_tables.proofs.RayLaws.{at_some}

-- ---- squares

small_step : (ray : Ray) (k s : ℕ) → IsOnBoard ray.board → step_to ray k ≡ Some s → s < 120
unfolding step_to
small_step ray k s on e =
    let h = square_parts _ _ s e in
    let a = within-is ray.board.files _ h.0 h.2 in
    let b = within-is ray.board.ranks _ h.1 h.3 in
    let file : h.0 < 12 = omega (arith, a.1, on.files) in
    let rank : h.1 < 10 = omega (arith, b.1, on.ranks) in
    omega (arith, file, rank, h.4)

diagonal_small : (board : BoardSize) (side : Side) (from : Square) (t : ℕ) → IsOnBoard board → is_diagonal board side from t ≡ true → t < 120
unfolding is_diagonal
diagonal_small board side from t on e =
    elim (or_cases (is_at t (right_ahead board side from)) (is_at t (left_ahead board side from)) e) as (λ _. t < 120) [
      | inl h ↦ small_step (pawn_ray board side (pos 1) from) 1 t on (at_some t _ h)
      | inr h ↦ small_step (pawn_ray board side (negsuc 0) from) 1 t on (at_some t _ h)
    ]

board_small : (rules : Rules) (t : ℕ) → rules.ranks ≤ 10 → on_board rules t ≡ true → t < 120
board_small rules t l e =
    let h = and_parts (nat_lt (t % 12) rules.files) (nat_lt (t / 12) rules.ranks) e in
    let r = ltb-true (t / 12) rules.ranks h.1 in
    omega (arith, r, l)

pawn_small : (rules : Rules) (side : Side) (from : Square) (mode : Mode) (t : ℕ) → IsFit rules → pawn_reaches (board_of rules) side from mode t ≡ true → t < 120
pawn_small rules side from Quiet t fit e = cc
pawn_small rules side from Take t fit e = diagonal_small (board_of rules) side from t (record { files = fit.files_most; ranks = fit.ranks_most }) e

-- what a kind reaches is a square of the largest board
pub reach_small : (rules : Rules) (cells : List (Option Cell)) (side : Side) (kind : Kind) (from : Square) (mode : Mode) (t : ℕ) → IsFit rules → reaches_as rules cells side kind from mode t ≡ true → t < 120
reach_small rules cells side kind from mode t fit e =
    by_bool (is_pawn rules kind) (t < 120)
    (λ p. pawn_small rules side from mode t fit (rw p at e))
    (λ p. board_small rules t fit.ranks_most (kind_reaches-board rules cells side kind (serves mode) from t fit.files_most (rw p at e)))

pub reach_beyond : (rules : Rules) (cells : List (Option Cell)) (side : Side) (kind : Kind) (from : Square) (mode : Mode) (t : ℕ) → IsFit rules → 120 ≤ t → reaches_as rules cells side kind from mode t ≡ false
reach_beyond rules cells side kind from mode t fit l = false_from_ne_true (reaches_as rules cells side kind from mode t) (λ e. let h = reach_small rules cells side kind from mode t fit e in omega (arith, h, l))

-- ---- kinds

no_rule : (rules : Rules) (kind : Kind) → IsFit rules → 26 ≤ kind.0 → kind_rule rules kind ≡ None
no_rule rules kind fit l = rw (slice_get_past rules.kinds kind.0 (omega (arith, fit.letters, l))) refl

not_named : (rules : Rules) (named : Option Kind) (kind : Kind) → IsFit rules → is_there rules named ≡ true → 26 ≤ kind.0 → names named kind ≡ false
not_named rules None kind fit e l = refl
not_named rules (Some k) kind fit e l =
    ne_eqb k.0 kind.0 (λ same.
    let none = no_rule rules k fit (omega (arith, same, l)) in
    let absent : has_kind rules k ≡ false = rw none refl in cc)

-- a kind that no letter names reaches nothing
pub no_kind : (rules : Rules) (cells : List (Option Cell)) (side : Side) (kind : Kind) (from : Square) (mode : Mode) (t : ℕ) → IsFit rules → 26 ≤ kind.0 → reaches_as rules cells side kind from mode t ≡ false
unfolding kind_reaches
no_kind rules cells side kind from mode t fit l =
    rw (not_named rules rules.pawn kind fit fit.pawn l, no_rule rules kind fit l) refl
