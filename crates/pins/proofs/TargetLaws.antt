-- What a piece reaches does not depend on what stands on the square that is reached, and no piece reaches its own square.
use Rattle.std.proofs.Common.{◌≡◌, ◌≢◌, ℕ, zero, suc, ◌/◌, ◌%◌, ◌<◌, ◌≤◌, Bool, true, false, ◌&&◌, ◌==◌, if◌then◌else◌, Option, Some, None, List, [], ◌∷◌, is_some, ℤ, pos, negsuc, nat_abs, ◌+ℤ◌, ◌*ℤ◌, refl, ap, sym, ◌∙◌, arith}
use Rattle.std.specs.List.{list_all, list_any}
use Rattle.std.proofs.lemmas.Bool.{and_parts, false_from_ne_true, le-ltb, ne_eqb}
use Rattle.std.proofs.lemmas.Int.{ints}
use Rattle.std.proofs.Math.Bool.{and-false}
use Rattle.foundation.specs.Count.{any_below}
use Rattle.foundation.proofs.CountLemmas.{any_below-none}
use Rattle.rules_model.specs.declared.board.Cell.{Cell}
use Rattle.rules_model.specs.declared.board.Kind.{Kind}
use Rattle.rules_model.specs.declared.board.Side.{Side}
use Rattle.rules_model.specs.declared.board.Square.{Square}
use Rattle.rules_model.specs.declared.reach.Ray.{Ray}
use Rattle.rules_model.specs.declared.rules.Rules.{Rules}
use Rattle.rules_model.specs.declared.rules.Term.{Term}
use Rattle.rules_model.specs.declared.rules.Way.{Way}
use Rattle.rules_model.specs.declared.rules.Way.TheVariants.{Leap, Lame, Slide, Hop, Grass}
use Rattle.rules_model.specs.Fit.{IsFit, fits_term}
use Rattle.rules_model.specs.Kinds.{board_of, is_pawn, terms_of}
use Rattle.rules_model.specs.Movement.{in_mobility, is_held_back, kind_reaches, reaches_by}
use Rattle.rules_model.specs.Reach.{IsOnBoard, block_squares, blockers, is_at, leg, long_leg, passes, ray_of, reaches_over, sign, weight}
use Rattle.rules_model.specs.Squares.{cell_at, step_to}
use Rattle.square_set.proofs.Cases.{by_bool, by_order}
use Rattle.move_tables.specs.declared.mode.Mode.{Mode}
use Rattle.move_tables.specs.Rays.{IsRay}
use Rattle.move_tables.specs.Reached.{reaches_as}
use Rattle.move_tables.specs.Spots.{diagonals, is_used}
use Rattle.move_tables.proofs.BuildLaws.{diagonals_fit, diagonals_reach, kind_terms_fit, used_terms}
use Rattle.move_tables.proofs.OrderLaws.{IsAt, is_at_step, ordered}
use Rattle.move_tables.proofs.RayLaws.{at_some, one_step, weight_is}
use Rattle.move_tables.proofs.ReachLaws.{no_kind}
use Rattle.move_tables.proofs.TermLaws.{long_moves, ray_there}

pub any_below-same : (f g : ℕ → Bool) (n : ℕ) → ((k : ℕ) → f k ≡ g k) → any_below f n ≡ any_below g n
unfolding any_below
any_below-same f g zero h = refl
any_below-same f g (suc n) h = rw (any_below-same f g n h, h n) refl

-- ---- a lame leap has its target beyond the squares that it passes

leg_long : (d o : ℤ) → nat_abs o ≤ nat_abs d → leg d o ≡ sign d
leg_long d o l = let e = le-ltb (nat_abs d) (nat_abs o) l in rw e refl

-- as many single steps as the step is long
steps_of : (f k x : ℕ) (d : ℤ) → 0 < nat_abs d → pos f +ℤ (pos 1 *ℤ d) ≡ pos x → pos f +ℤ (pos k *ℤ sign d) ≡ pos x → k ≡ nat_abs d
steps_of f k x (pos zero) some a b = absurd (omega (arith, some))
steps_of f k x (pos (suc n)) some a b = omega (arith, ints, a, b)
steps_of f k x (negsuc n) some a b = omega (arith, ints, a, b)

module _ (ray : Ray) (ok : IsRay ray) where
  long_ray : IsRay (long_leg ray)
  long_ray = record { files = ok.files; ranks = ok.ranks; step = long_moves ray.dx ray.dy ok.step }

  beyond_blocks : (to i : ℕ) → i < block_squares ray → step_to ray 1 ≡ Some to → step_to (long_leg ray) (suc i) ≢ Some to
  beyond_blocks to i l e f =
      let a = is_at_step ray ok 1 to e in
      let b = is_at_step (long_leg ray) long_ray (suc i) to f in
      let file : b.x ≡ a.x = let u = a.is in let v = b.is in let p = a.file in let q = b.file in omega (arith, u, v, p, q) in
      let rank : b.y ≡ a.y = let u = a.is in let v = b.is in let p = a.file in let q = b.file in omega (arith, u, v, p, q) in
      by_order (nat_abs ray.dy) (nat_abs ray.dx) ⊥
      (λ m.
      let there = ap (λ d. pos (ray.from.0 % 12) +ℤ (pos (suc i) *ℤ d)) (sym (leg_long ray.dx ray.dy (omega (arith, m)))) ∙ b.across ∙ ap pos file in
      let n = steps_of (ray.from.0 % 12) (suc i) a.x ray.dx (omega (arith, m)) a.across there in
      omega (arith, n, l, m))
      (λ m.
      let there = ap (λ d. pos (ray.from.0 / 12) +ℤ (pos (suc i) *ℤ d)) (sym (leg_long ray.dy ray.dx m)) ∙ b.up ∙ ap pos rank in
      let n = steps_of (ray.from.0 / 12) (suc i) a.y ray.dy (omega (arith, m, l)) a.up there in
      omega (arith, n, l, m))

  -- the steps to a square are on others
  before_target : (to j : ℕ) → step_to ray (suc j) ≡ Some to → (i : ℕ) → i < j → step_to ray (suc i) ≢ Some to
  before_target to j e i l f = let q = one_step ray ok (suc i) (suc j) to f e in omega (arith, q, l)

  -- no step leads back to the start
  leads_away : (j : ℕ) → step_to ray (suc j) ≢ Some ray.from.0
  leads_away j e =
      let b = is_at_step ray ok (suc j) ray.from.0 e in
      let is = b.is in
      let file = b.file in
      let rank = b.rank in
      let start : IsAt ray 0 ray.from.0 = record {
        x = ray.from.0 % 12;
        y = ray.from.0 / 12;
        across = omega (arith, ints);
        up = omega (arith, ints);
        file = omega arith;
        rank = omega (arith, is, file, rank);
        is = omega arith;
      } in
      let later = ordered ray ok 0 (suc j) ray.from.0 ray.from.0 (omega arith) start b in
      omega (arith, later)

-- ---- two boards that have pieces on the same squares but the one that is reached

module _ (a b : List (Option Cell)) (to : ℕ) (alike : (s : ℕ) → s ≢ to → is_some (cell_at a s) ≡ is_some (cell_at b s)) where
  same_weight : (o : Option ℕ) → o ≢ Some to → weight a o ≡ weight b o
  same_weight None e = refl
  same_weight (Some s) e = weight_is (cell_at a s) ∙ ap (λ x. if x then 1 else 0) (alike s (λ q. e (ap Some q))) ∙ sym (weight_is (cell_at b s))

  same_blockers : (line : Ray) (k : ℕ) → ((i : ℕ) → i < k → step_to line (suc i) ≢ Some to) → blockers a line k ≡ blockers b line k
  unfolding blockers
  same_blockers line zero h = refl
  same_blockers line (suc k) h =
      let rest = same_blockers line k (λ i l. h i (omega (arith, l))) in
      let last = same_weight (step_to line (suc k)) (h k (omega arith)) in
      rw (rest, last) refl

  module _ (ray : Ray) (ok : IsRay ray) where
    same_passes : (way : Way) (j : ℕ) → step_to ray (suc j) ≡ Some to → passes a way ray j ≡ passes b way ray j
    unfolding passes blockers
    same_passes Leap j e = refl
    same_passes Lame zero e = ap (λ n. n == 0) (same_blockers (long_leg ray) (block_squares ray) (λ i l. beyond_blocks ray ok to i l e))
    same_passes Lame (suc j) e = let no = ne_eqb (suc j) 0 (λ z. omega (arith, z)) in rw no refl
    same_passes Slide j e = ap (λ n. n == 0) (same_blockers ray j (before_target ray ok to j e))
    same_passes Hop j e = ap (λ n. n == 1) (same_blockers ray j (before_target ray ok to j e))
    same_passes Grass zero e = refl
    same_passes Grass (suc j) e =
        let count = same_blockers ray (suc j) (before_target ray ok to (suc j) e) in
        let last = same_weight (step_to ray (suc j)) (before_target ray ok to (suc j) e j (omega arith)) in
        ap (λ n. (n == 1) && (weight a (step_to ray (suc j)) == 1)) count ∙ ap (λ n. (blockers b ray (suc j) == 1) && (n == 1)) last

    same_over : (way : Way) (j : ℕ) → reaches_over a way ray to j ≡ reaches_over b way ray to j
    unfolding reaches_over
    same_over way j =
        by_bool (is_at to (step_to ray (suc j))) (reaches_over a way ray to j ≡ reaches_over b way ray to j)
        (λ e. ap (λ x. is_at to (step_to ray (suc j)) && x) (same_passes way j (at_some to (step_to ray (suc j)) e)))
        (λ e. rw e refl)

  module _ (rules : Rules) (fit : IsFit rules) (side : Side) where
    on_board : IsOnBoard (board_of rules)
    on_board = record { files = fit.files_most; ranks = fit.ranks_most }

    same_terms : (test : Term → Bool) (from : Square) (terms : List Term) → list_all fits_term terms ≡ true → list_any (reaches_by rules a side test from to) terms ≡ list_any (reaches_by rules b side test from to) terms
    same_terms test from [] e = refl
    same_terms test from (t ∷ ts) e =
        let h = and_parts (fits_term t) (list_all fits_term ts) e in
        let ray = ray_there (board_of rules) side t from on_board h.0 in
        let here = any_below-same (reaches_over a t.way (ray_of (board_of rules) side t from) to) (reaches_over b t.way (ray_of (board_of rules) side t from) to) t.limit (same_over (ray_of (board_of rules) side t from) ray t.way) in
        rw (here, same_terms test from ts h.1) refl

    -- a kind reaches the square on both boards or on neither
    same_reach : (kind : Kind) (from : Square) (mode : Mode) → kind.0 < 26 → reaches_as rules a side kind from mode to ≡ reaches_as rules b side kind from mode to
    unfolding kind_reaches
    same_reach kind from mode l =
        by_bool (is_pawn rules kind) (reaches_as rules a side kind from mode to ≡ reaches_as rules b side kind from mode to)
        (λ e. rw e refl)
        (λ e.
        let held = is_held_back rules side kind from in
        let terms = same_terms (is_used mode held) from (terms_of rules kind) (kind_terms_fit rules kind fit l) in
        let both = sym (used_terms rules a side kind mode from to) ∙ terms ∙ used_terms rules b side kind mode from to in
        rw (e, both) refl)

    pub reach_of_both : (kind : Kind) (from : Square) (mode : Mode) → reaches_as rules a side kind from mode to ≡ reaches_as rules b side kind from mode to
    reach_of_both kind from mode =
        by_order kind.0 26 (reaches_as rules a side kind from mode to ≡ reaches_as rules b side kind from mode to)
        (λ l. same_reach kind from mode l)
        (λ l. no_kind rules a side kind from mode to fit l ∙ sym (no_kind rules b side kind from mode to fit l))

-- ---- the square of the piece itself

module _ (rules : Rules) (fit : IsFit rules) (cells : List (Option Cell)) (side : Side) (from : Square) where
  no_term_back : (test : Term → Bool) (terms : List Term) → list_all fits_term terms ≡ true → list_any (reaches_by rules cells side test from from.0) terms ≡ false
  unfolding reaches_over
  no_term_back test [] e = refl
  no_term_back test (t ∷ ts) e =
      let h = and_parts (fits_term t) (list_all fits_term ts) e in
      let on : IsOnBoard (board_of rules) = record { files = fit.files_most; ranks = fit.ranks_most } in
      let line = ray_of (board_of rules) side t from in
      let ray = ray_there (board_of rules) side t from on h.0 in
      let here = any_below-none (reaches_over cells t.way line from.0) t.limit (λ j l. ap (λ x. x && passes cells t.way line j)
      (false_from_ne_true (is_at from.0 (step_to line (suc j))) (λ q. leads_away line ray j (at_some from.0 (step_to line (suc j)) q)))) in
      rw (here, and-false (test t), no_term_back test ts h.1) refl

  -- no kind reaches the square on which it stands
  pub not_itself : (kind : Kind) (mode : Mode) → reaches_as rules cells side kind from mode from.0 ≡ false
  unfolding kind_reaches
  not_itself kind mode =
      by_order kind.0 26 (reaches_as rules cells side kind from mode from.0 ≡ false)
      (λ l. by_bool (is_pawn rules kind) (reaches_as rules cells side kind from mode from.0 ≡ false)
      (λ e. rw e (sym (diagonals_reach rules cells side from mode from.0) ∙ no_term_back (is_used mode false) diagonals diagonals_fit))
      (λ e.
      let held = is_held_back rules side kind from in
      let none = sym (used_terms rules cells side kind mode from from.0) ∙ no_term_back (is_used mode held) (terms_of rules kind) (kind_terms_fit rules kind fit l) in
      rw (e, none) (and-false (in_mobility rules side kind from.0))))
      (λ l. no_kind rules cells side kind from mode from.0 fit l)
