-- The en passant square after a legal move of a sound position, in every variant that fits.
use Rattle.std.proofs.Common.{◌≡◌, ◌≢◌, ℕ, ◌/◌, ◌%◌, ◌<◌, ◌≤◌, Bool, true, false, ◌&&◌, ◌||◌, if◌then◌else◌, inl, inr, Option, Some, None, length, pos, negsuc, refl, ap, sym, ◌∙◌, subst, arith, nat_lt, is_none}
use Rattle.std.proofs.lemmas.Bool.{and_from, and_parts, false_from_ne_true, ltb-true, or_cases}
use Rattle.std.proofs.lemmas.Bool.Decides.{nat_tests}
use Rattle.rules_model.specs.declared.board.BoardSize.{BoardSize}
use Rattle.rules_model.specs.declared.board.Cell.{Cell}
use Rattle.rules_model.specs.declared.board.Kind.{Kind}
use Rattle.rules_model.specs.declared.board.Repeat.{Repeat}
use Rattle.rules_model.specs.declared.board.Side.{Side}
use Rattle.rules_model.specs.declared.board.Side.TheVariants.{White, Black}
use Rattle.rules_model.specs.declared.board.Square.{Square}
use Rattle.rules_model.specs.declared.moves.Move.{Move}
use Rattle.rules_model.specs.declared.moves.Move.TheVariants.{Go, Castle, Drop}
use Rattle.rules_model.specs.declared.moves.Promo.{Promo}
use Rattle.rules_model.specs.declared.moves.Promo.TheVariants.{Stays, Pawn, Plus}
use Rattle.rules_model.specs.declared.rules.Rules.{Rules}
use Rattle.rules_model.specs.Squares.{cell_at}
use Rattle.rules_model.specs.Reach.{is_at}
use Rattle.rules_model.specs.Sides.{other, same_side}
use Rattle.rules_model.specs.Kinds.{board_of, is_pawn}
use Rattle.rules_model.specs.Regions.{in_region}
use Rattle.rules_model.specs.Attacks.{ahead, is_diagonal, is_own_pawn, left_ahead, pawn_at, pawn_could_take, right_ahead}
use Rattle.rules_model.specs.Pawns.{is_enemy, is_free, is_stays, may_promote, passes_by, pawn_goes, pawn_moves, pawn_promo, steps_twice}
use Rattle.rules_model.specs.Next.{cells_after, ep_after, ep_where, is_double_step, square_at}
use Rattle.rules_model.specs.Sound.{is_sound_ep, lies_in, on_board, was_passed}
use Rattle.rules_model.proofs.CandidateLaws.{at_some, gated_go, not_both, plain_go}
use Rattle.sound_play.proofs.AfterLaws.{IsLegalHere}
use Rattle.sound_play.proofs.CellLemmas.{moved, moved-from, moved-other, moved-to}
use Rattle.sound_play.proofs.PassingLaws.{advances, ahead_one, same_file_one, same_file_two, step_one, step_two}
use Rattle.sound_play.proofs.TargetLaws.{other_twice}
use Rattle.sound_play.proofs.TestLemmas.{none_from}

-- ---- a double step is what its name says

one_or_two : (side : Side) (a b : ℕ) → advances side a b 1 → advances side a b 2 → ⊥
one_or_two White a b e f = omega (arith, e, f)
one_or_two Black a b e f = omega (arith, e, f)

not_diagonal : (board : BoardSize) (side : Side) (from : Square) (to : ℕ) → board.files ≤ 12 → is_at to (ahead board side from 2) ≡ true → is_diagonal board side from to ≡ true → ⊥
unfolding is_diagonal
not_diagonal board side from to few e h =
    let far = step_two board side (pos 0) from to few (at_some to _ e) in
    elim (or_cases (is_at to (right_ahead board side from)) (is_at to (left_ahead board side from)) h) as (λ _. ⊥) [
      | inl k ↦ one_or_two side _ _ (step_one board side (pos 1) from to few (at_some to _ k)) far
      | inr k ↦ one_or_two side _ _ (step_one board side (negsuc 0) from to few (at_some to _ k)) far
    ]

passing_off : (rules : Rules) (r : Repeat) (from to : Square) → rules.files ≤ 12 → is_at to.0 (ahead (board_of rules) r.side from 2) ≡ true → passes_by rules r from to.0 ≡ true → ⊥
unfolding passes_by
passing_off rules r from to few e h = not_diagonal (board_of rules) r.side from to.0 few e (and_parts _ (is_diagonal (board_of rules) r.side from to.0) h).1

goes_twice : (rules : Rules) (r : Repeat) (from to : Square) → rules.files ≤ 12 → is_at to.0 (ahead (board_of rules) r.side from 2) ≡ true → pawn_goes rules r from to.0 ≡ true → (steps_twice rules r from to.0 ≡ true) × (cell_at r.cells to.0 ≡ None)
unfolding pawn_goes
goes_twice rules r from to few e h =
    elim (or_cases (is_none (cell_at r.cells to.0) && (is_at to.0 (ahead (board_of rules) r.side from 1) || steps_twice rules r from to.0)) (is_enemy r.side (cell_at r.cells to.0) && is_diagonal (board_of rules) r.side from to.0) h) as (λ _. (steps_twice rules r from to.0 ≡ true) × (cell_at r.cells to.0 ≡ None)) [
      | inl k ↦
          let a = and_parts (is_none (cell_at r.cells to.0)) (is_at to.0 (ahead (board_of rules) r.side from 1) || steps_twice rules r from to.0) k in
          elim (or_cases (is_at to.0 (ahead (board_of rules) r.side from 1)) (steps_twice rules r from to.0) a.1) as (λ _. (steps_twice rules r from to.0 ≡ true) × (cell_at r.cells to.0 ≡ None)) [
            | inl l ↦ absurd (one_or_two r.side _ _ (step_one (board_of rules) r.side (pos 0) from to.0 few (at_some to.0 _ l)) (step_two (board_of rules) r.side (pos 0) from to.0 few (at_some to.0 _ e)))
            | inr l ↦ (l, none_from _ a.0)
          ]
      | inr k ↦ absurd (not_diagonal (board_of rules) r.side from to.0 few e (and_parts (is_enemy r.side (cell_at r.cells to.0)) (is_diagonal (board_of rules) r.side from to.0) k).1)
    ]

moves_twice : (rules : Rules) (r : Repeat) (from to : Square) (promo : Promo) → rules.files ≤ 12 → is_at to.0 (ahead (board_of rules) r.side from 2) ≡ true → pawn_moves rules r from to promo ≡ true → (steps_twice rules r from to.0 ≡ true) × (cell_at r.cells to.0 ≡ None)
unfolding pawn_moves
moves_twice rules r from to promo few e h =
    elim (or_cases (pawn_goes rules r from to.0 && pawn_promo rules (may_promote rules r.side to.0) promo) (passes_by rules r from to.0 && is_stays promo) h) as (λ _. (steps_twice rules r from to.0 ≡ true) × (cell_at r.cells to.0 ≡ None)) [
      | inl k ↦ goes_twice rules r from to few e (and_parts (pawn_goes rules r from to.0) (pawn_promo rules (may_promote rules r.side to.0) promo) k).0
      | inr k ↦ absurd (passing_off rules r from to few e (and_parts (passes_by rules r from to.0) (is_stays promo) k).0)
    ]

stays_is : (promo : Promo) → is_stays promo ≡ true → promo ≡ Stays
stays_is Stays e = refl
stays_is (Pawn kind) e = cc
stays_is Plus e = cc

-- a pawn has made a double step
pub record StepsTwice (rules : Rules) (r : Repeat) (x : Cell) (from to : Square) (passed : ℕ) : Type 0 where
  pub here : cell_at r.cells from.0 ≡ Some x
  pub own : is_own_pawn rules r.side (Some x) ≡ true
  pub far : ahead (board_of rules) r.side from 2 ≡ Some to.0
  pub near : ahead (board_of rules) r.side from 1 ≡ Some passed
  pub on : rules.double_step ≡ true
  pub region : in_region rules.double_region r.side from.0 ≡ true
  pub free : cell_at r.cells passed ≡ None

twice_of : (rules : Rules) (r : Repeat) (x : Cell) (from to : Square) (passed : ℕ) → cell_at r.cells from.0 ≡ Some x → is_own_pawn rules r.side (cell_at r.cells from.0) ≡ true → is_at to.0 (ahead (board_of rules) r.side from 2) ≡ true → ahead (board_of rules) r.side from 1 ≡ Some passed → steps_twice rules r from to.0 ≡ true → StepsTwice rules r x from to passed
twice_of rules r x from to passed here own far near e =
    let a = and_parts _ (is_at to.0 (ahead (board_of rules) r.side from 2)) e in
    let b = and_parts _ (is_free r.cells (ahead (board_of rules) r.side from 1)) a.0 in
    let c = and_parts rules.double_step (in_region rules.double_region r.side from.0) b.0 in
    let d : is_free r.cells (Some passed) ≡ true = subst (λ o. is_free r.cells o ≡ true) near b.1 in
    record {
      here = here;
      own = subst (λ c. is_own_pawn rules r.side c ≡ true) here own;
      far = at_some to.0 _ far;
      near = near;
      on = c.0;
      region = c.1;
      free = none_from _ d;
    }

plain_cells : (rules : Rules) (r : Repeat) (x : Cell) (from to : Square) → passes_by rules r from to.0 ≡ false → cell_at r.cells from.0 ≡ Some x → cells_after rules r (Go from to Stays None) ≡ moved r.cells from.0 to.0 x
unfolding cells_after
plain_cells rules r x from to e here = rw (e, here)

-- ---- what it leaves

back_one : (side : Side) (a b : ℕ) → advances side a b 1 → advances (other side) b a 1
back_one White a b e = omega (arith, e)
back_one Black a b e = omega (arith, e)

second_one : (side : Side) (a b c : ℕ) → advances side a b 1 → advances side a c 2 → advances side b c 1
second_one White a b c e f = omega (arith, e, f)
second_one Black a b c e f = omega (arith, e, f)

rank_apart : (side : Side) (s t : ℕ) → advances side (s / 12) (t / 12) 1 → s ≢ t
rank_apart White s t e f = let g = ap (λ n. n / 12) f in omega (arith, e, g)
rank_apart Black s t e f = let g = ap (λ n. n / 12) f in omega (arith, e, g)

-- the square that was passed is the en passant square of a sound position
passed_sound : (rules : Rules) (r q : Repeat) (x : Cell) (from to : Square) (passed : ℕ) → rules.files ≤ 12 → on_board rules from.0 ≡ true → from.0 < length r.cells → to.0 < length r.cells → StepsTwice rules r x from to passed → q.cells ≡ moved r.cells from.0 to.0 x → q.side ≡ other r.side → pawn_could_take rules q.cells (other r.side) (record { 0 = passed }) ≡ true → is_sound_ep rules q (Some (record { 0 = passed })) ≡ true
passed_sound rules r q x from to passed few on l k s cells side could =
    let board = board_of rules in
    let one = step_one board r.side (pos 0) from passed few s.near in
    let two = step_two board r.side (pos 0) from to.0 few s.far in
    let file = same_file_one board r.side from passed few s.near in
    let file' = same_file_two board r.side from to.0 few s.far in
    let next = second_one r.side _ _ _ one two in
    let start_on = and_parts (nat_lt (from.0 % 12) rules.files) (nat_lt (from.0 / 12) rules.ranks) on in
    let f0 = file.0 in
    let f1 = file'.0 in
    let lf = ltb-true _ _ start_on.0 in
    let back : ahead board q.side (record { 0 = passed }) 1 ≡ Some from.0 = subst (λ t. ahead board t (record { 0 = passed }) 1 ≡ Some from.0) (sym side)
    (ahead_one board (other r.side) (record { 0 = passed }) from.0 (sym f0) (back_one r.side _ _ one) lf (ltb-true _ _ start_on.1)) in
    let front : ahead board (other q.side) (record { 0 = passed }) 1 ≡ Some to.0 = subst (λ t. ahead board t (record { 0 = passed }) 1 ≡ Some to.0) (sym (ap other side ∙ other_twice r.side))
    (ahead_one board r.side (record { 0 = passed }) to.0 (f1 ∙ sym f0) next (omega (arith, f1, lf)) file'.1) in
    let from_passed = rank_apart r.side from.0 passed one in
    let passed_to = rank_apart r.side passed to.0 next in
    let to_from : to.0 ≢ from.0 = λ e. far_apart r.side from.0 to.0 two (sym e) in
    let free : is_none (cell_at q.cells passed) ≡ true = subst (λ c. is_none c ≡ true) (sym (ap (λ cs. cell_at cs passed) cells ∙ moved-other r.cells from.0 to.0 passed x from_passed (λ e. passed_to (sym e)) ∙ s.free)) refl in
    let empty : is_free q.cells (ahead board q.side (record { 0 = passed }) 1) ≡ true = subst (λ o. is_free q.cells o ≡ true) (sym back)
    (subst (λ c. is_none c ≡ true) (sym (ap (λ cs. cell_at cs from.0) cells ∙ moved-from r.cells from.0 to.0 x l to_from)) refl) in
    let region : lies_in rules.double_region (other q.side) (ahead board q.side (record { 0 = passed }) 1) ≡ true = subst (λ o. lies_in rules.double_region (other q.side) o ≡ true) (sym back)
    (subst (λ t. in_region rules.double_region t from.0 ≡ true) (sym (ap other side ∙ other_twice r.side)) s.region) in
    let pawn : pawn_at rules q.cells (other q.side) (ahead board (other q.side) (record { 0 = passed }) 1) ≡ true = subst (λ o. pawn_at rules q.cells (other q.side) o ≡ true) (sym front)
    (subst (λ t. is_own_pawn rules t (cell_at q.cells to.0) ≡ true) (sym (ap other side ∙ other_twice r.side))
    (subst (λ c. is_own_pawn rules r.side c ≡ true) (sym (ap (λ cs. cell_at cs to.0) cells ∙ moved-to r.cells from.0 to.0 x k)) s.own)) in
    let take : pawn_could_take rules q.cells q.side (record { 0 = passed }) ≡ true = subst (λ t. pawn_could_take rules q.cells t (record { 0 = passed }) ≡ true) (sym side) could in
    let there : on_board rules passed ≡ true = on_there (omega (arith, f0, lf)) file.1 in
    and_from (on_board rules passed) (was_passed rules q (record { 0 = passed })) there
    (and_from _ _ (and_from _ _ (and_from _ _ (and_from _ _ (and_from _ _ s.on free) empty) region) pawn) take)
  where
    far_apart : (side : Side) (a b : ℕ) → advances side (a / 12) (b / 12) 2 → a ≢ b
    far_apart White a b e f = let g = ap (λ n. n / 12) f in omega (arith, e, g)
    far_apart Black a b e f = let g = ap (λ n. n / 12) f in omega (arith, e, g)

    on_there : passed % 12 < rules.files → passed / 12 < rules.ranks → on_board rules passed ≡ true
    on_there a b = grind (arith, nat_tests)

-- ---- the law

where_sound : (rules : Rules) (q : Repeat) (side : Side) (at : Option ℕ) → ((s : ℕ) → at ≡ Some s → pawn_could_take rules q.cells (other side) (record { 0 = s }) ≡ true → is_sound_ep rules q (Some (record { 0 = s })) ≡ true) → is_sound_ep rules q (ep_where rules side q.cells (square_at at)) ≡ true
where_sound rules q side None h = refl
where_sound rules q side (Some s) h =
    elim (pawn_could_take rules q.cells (other side) (record { 0 = s })) as (λ b. pawn_could_take rules q.cells (other side) (record { 0 = s }) ≡ b → is_sound_ep rules q (if b then Some (record { 0 = s }) else None) ≡ true) [
      | true ↦ λ e. h s refl e
      | false ↦ λ e. refl
    ] refl

if_sound : (rules : Rules) (q : Repeat) (b : Bool) (o : Option Square) → (b ≡ true → is_sound_ep rules q o ≡ true) → is_sound_ep rules q (if b then o else None) ≡ true
if_sound rules q true o h = h refl
if_sound rules q false o h = refl

piece_is_pawn : (rules : Rules) (side : Side) (x : Cell) (c : Option Cell) → c ≡ Some x → is_own_pawn rules side c ≡ true → is_pawn rules x.kind ≡ true
piece_is_pawn rules side x c e h = (and_parts (same_side x.side side) (is_pawn rules x.kind) (subst (λ o. is_own_pawn rules side o ≡ true) e h)).1

step_sound : (rules : Rules) (r q : Repeat) (from to : Square) (promo : Promo) (passed : ℕ) → IsLegalHere rules r (Go from to promo None) → q.cells ≡ cells_after rules r (Go from to promo None) → q.side ≡ other r.side → is_double_step rules r from to promo ≡ true → ahead (board_of rules) r.side from 1 ≡ Some passed → pawn_could_take rules q.cells (other r.side) (record { 0 = passed }) ≡ true → is_sound_ep rules q (Some (record { 0 = passed })) ≡ true
step_sound rules r q from to promo passed ready cells side e near could =
    let a = and_parts (is_own_pawn rules r.side (cell_at r.cells from.0) && is_stays promo) (is_at to.0 (ahead (board_of rules) r.side from 2)) e in
    let b = and_parts (is_own_pawn rules r.side (cell_at r.cells from.0)) (is_stays promo) a.0 in
    let g = plain_go rules r from to promo ready.candidate in
    let few = ready.fit.files_most in
    let size = ready.cells in
    let l = ready.fit_move.0 in
    let k = ready.fit_move.1 in
    elim g.2 as (λ _. is_sound_ep rules q (Some (record { 0 = passed })) ≡ true) [
      | inl h ↦ absurd (not_both _ (piece_is_pawn rules r.side g.0 _ g.1 b.0) h.1)
      | inr h ↦
          let t = moves_twice rules r from to promo few a.1 h.2 in
          let s = twice_of rules r g.0 from to passed g.1 b.0 a.1 near t.0 in
          let off : passes_by rules r from to.0 ≡ false = false_from_ne_true _ (passing_off rules r from to few a.1) in
          let plain : q.cells ≡ moved r.cells from.0 to.0 g.0 = cells ∙ ap (λ p. cells_after rules r (Go from to p None)) (stays_is promo b.1) ∙ plain_cells rules r g.0 from to off g.1 in
          passed_sound rules r q g.0 from to passed few ready.of_variant.0 (omega (arith, l, size)) (omega (arith, k, size)) s plain side could
    ]

gated_off : (rules : Rules) (r : Repeat) (from to : Square) (promo : Promo) (kind : Kind) → IsLegalHere rules r (Go from to promo (Some kind)) → is_double_step rules r from to promo ≡ true → ⊥
gated_off rules r from to promo kind ready e =
    let a = and_parts (is_own_pawn rules r.side (cell_at r.cells from.0) && is_stays promo) (is_at to.0 (ahead (board_of rules) r.side from 2)) e in
    let b = and_parts (is_own_pawn rules r.side (cell_at r.cells from.0)) (is_stays promo) a.0 in
    let g = gated_go rules r from to promo kind ready.candidate in
    not_both _ (piece_is_pawn rules r.side g.0 _ g.1 b.0) g.2.1

pub ep_after-sound : (rules : Rules) (r q : Repeat) (m : Move) → IsLegalHere rules r m → q.cells ≡ cells_after rules r m → q.side ≡ other r.side → is_sound_ep rules q (ep_after rules r m q.cells) ≡ true
unfolding ep_after
ep_after-sound rules r q (Go from to promo None) ready cells side =
    if_sound rules q (is_double_step rules r from to promo) _ (λ e. where_sound rules q r.side (ahead (board_of rules) r.side from 1) (λ s near could. step_sound rules r q from to promo s ready cells side e near could))
ep_after-sound rules r q (Go from to promo (Some kind)) ready cells side =
    if_sound rules q (is_double_step rules r from to promo) _ (λ e. absurd (gated_off rules r from to promo kind ready e))
ep_after-sound rules r q (Castle from to rook gate) ready cells side = refl
ep_after-sound rules r q (Drop kind to) ready cells side = refl
