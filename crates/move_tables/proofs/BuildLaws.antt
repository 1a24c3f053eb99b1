-- The spots of terms and kinds.
use Rattle.std.proofs.Common.{◌≡◌, ◌≢◌, ℕ, ◌+◌, ◌*◌, ◌/◌, ◌%◌, ◌==◌, nat_lt, ◌<◌, ◌≤◌, Bool, true, false, ◌&&◌, ◌||◌, Option, Some, None, List, [], ◌∷◌, ◌++◌, length, take, get_or, pos, negsuc, refl, ap, sym, ◌∙◌, subst, arith}
use Rattle.std.specs.List.{list_all, list_any, filter}
use Rattle.std.proofs.lemmas.List.Folds.{list_any_more}
use Rattle.std.proofs.Math.Bool.{and-false, and-true, or-false, or-true}
use Rattle.std.proofs.Math.ListN.{get_or-append}
use Rattle.std.proofs.Math.Seq.{get_or-append_seam}
use Rattle.std.proofs.lemmas.Bool.{lt-ltb, le-ltb}
use Rattle.std.proofs.lemmas.List.{get_or_past}
use Rattle.std.proofs.lemmas.Option.{slice_get_past}
use Rattle.foundation.proofs.CountLemmas.{all_below-each}
use Rattle.rules_model.specs.declared.board.BoardSize.{BoardSize}
use Rattle.rules_model.specs.declared.board.Cell.{Cell}
use Rattle.rules_model.specs.declared.board.Kind.{Kind}
use Rattle.rules_model.specs.declared.board.Side.{Side}
use Rattle.rules_model.specs.declared.board.Side.TheVariants.{White, Black}
use Rattle.rules_model.specs.declared.board.Square.{Square}
use Rattle.rules_model.specs.declared.rules.KindRule.{KindRule}
use Rattle.rules_model.specs.declared.rules.Rules.{Rules}
use Rattle.rules_model.specs.declared.rules.Term.{Term}
use Rattle.rules_model.specs.Attacks.{is_diagonal, left_ahead, pawn_ray, right_ahead}
use Rattle.rules_model.specs.Fit.{IsFit, fits_rule, fits_term, kind_fits}
use Rattle.rules_model.specs.Kinds.{board_of, kind_rule, rule_terms, terms_of}
use Rattle.rules_model.specs.Movement.{is_held_back, is_straight, reaches_by, terms_from}
use Rattle.rules_model.specs.Reach.{is_at, reaches}
use Rattle.rules_model.specs.Sides.{side_index}
use Rattle.rules_model.specs.Squares.{cell_at}
use Rattle.square_set.proofs.Cases.{by_bool, by_equal, by_order}
use Rattle.move_tables.specs.declared.mode.Mode.{Mode}
use Rattle.move_tables.specs.declared.mode.Mode.TheVariants.{Quiet, Take}
use Rattle.move_tables.specs.declared.spot.Spot.{Spot}
use Rattle.move_tables.specs.Reached.{pawn_reaches, serves}
use Rattle.move_tables.specs.Spots.{IsOfKind, IsSpotAt, diagonals, is_used, mode_number, mode_of, side_of, spot_place}
use Rattle.move_tables.proofs.TermLaws.{leap_reaches}

below_step : (t i : ℕ) → t ≢ i → nat_lt t i ≡ nat_lt t (i + 1)
below_step t i v = by_order t i (nat_lt t i ≡ nat_lt t (i + 1)) (λ m. lt-ltb t i m ∙ sym (lt-ltb t (i + 1) (omega (arith, m)))) (λ m. le-ltb t i m ∙ sym (le-ltb t (i + 1) (omega (arith, m, v))))

-- one more term of a list
pub gather_term : (rules : Rules) (board : BoardSize) (cells : List (Option Cell)) (side : Side) (test : Term → Bool) (from : Square) (terms : List Term) (k : ℕ) (d : Term) (t : ℕ) (new old : Bool) → board ≡ board_of rules → k < length terms → old ≡ list_any (reaches_by rules cells side test from t) (take k terms) → test (get_or terms k d) ≡ true → new ≡ (old || reaches board cells side (get_or terms k d) from t) → new ≡ list_any (reaches_by rules cells side test from t) (take (k + 1) terms)
gather_term rules board cells side test from terms k d t new old b l e s n =
    n ∙ ap (λ x. old || reaches x cells side (get_or terms k d) from t) b ∙ ap (λ x. x || reaches (board_of rules) cells side (get_or terms k d) from t) e ∙ ap (λ a. list_any (reaches_by rules cells side test from t) (take k terms) || (a && reaches (board_of rules) cells side (get_or terms k d) from t)) (sym s) ∙ sym (list_any_more (reaches_by rules cells side test from t) terms k d l)

pub gather_other : (rules : Rules) (cells : List (Option Cell)) (side : Side) (test : Term → Bool) (from : Square) (terms : List Term) (k : ℕ) (d : Term) (t : ℕ) (old : Bool) → k < length terms → old ≡ list_any (reaches_by rules cells side test from t) (take k terms) → test (get_or terms k d) ≡ false → old ≡ list_any (reaches_by rules cells side test from t) (take (k + 1) terms)
gather_other rules cells side test from terms k d t old l e s =
    e ∙ sym (or-false (list_any (reaches_by rules cells side test from t) (take k terms))) ∙ ap (λ a. list_any (reaches_by rules cells side test from t) (take k terms) || (a && reaches (board_of rules) cells side (get_or terms k d) from t)) (sym s) ∙ sym (list_any_more (reaches_by rules cells side test from t) terms k d l)

-- ---- the terms that are used

used_free : (mode : Mode) (term : Term) → is_used mode false term ≡ serves mode term
used_free mode term = and-true (serves mode term)

same_any : {X : Type 0} (f g : X → Bool) (xs : List X) → ((x : X) → f x ≡ g x) → list_any f xs ≡ list_any g xs
same_any f g [] h = refl
same_any f g (x ∷ xs) h = rw (h x, same_any f g xs h) refl

straight_any : (rules : Rules) (cells : List (Option Cell)) (side : Side) (mode : Mode) (from : Square) (t : ℕ) (terms : List Term) → list_any (reaches_by rules cells side (is_used mode true) from t) terms ≡ list_any (reaches_by rules cells side (serves mode) from t) (filter is_straight terms)
straight_any rules cells side mode from t [] = refl
straight_any rules cells side mode from t (x ∷ xs) =
    by_bool (is_straight x) (list_any (reaches_by rules cells side (is_used mode true) from t) (x ∷ xs) ≡ list_any (reaches_by rules cells side (serves mode) from t) (filter is_straight (x ∷ xs)))
    (λ e. rw (e, and-true (serves mode x), straight_any rules cells side mode from t xs) refl)
    (λ e. rw (e, and-false (serves mode x), straight_any rules cells side mode from t xs) refl)

-- what the terms reach that a kind uses from a square
pub used_terms : (rules : Rules) (cells : List (Option Cell)) (side : Side) (kind : Kind) (mode : Mode) (from : Square) (t : ℕ) → list_any (reaches_by rules cells side (is_used mode (is_held_back rules side kind from)) from t) (terms_of rules kind) ≡ list_any (reaches_by rules cells side (serves mode) from t) (terms_from rules side kind from)
used_terms rules cells side kind mode from t =
    by_bool (is_held_back rules side kind from) (list_any (reaches_by rules cells side (is_used mode (is_held_back rules side kind from)) from t) (terms_of rules kind) ≡ list_any (reaches_by rules cells side (serves mode) from t) (terms_from rules side kind from))
    (λ e. rw e (straight_any rules cells side mode from t (terms_of rules kind)))
    (λ e. rw e (same_any (reaches_by rules cells side (is_used mode false) from t) (reaches_by rules cells side (serves mode) from t) (terms_of rules kind) (λ x. ap (λ b. b && reaches (board_of rules) cells side x from t) (used_free mode x))))

-- ---- the pawn

pub diagonals_reach : (rules : Rules) (cells : List (Option Cell)) (side : Side) (from : Square) (mode : Mode) (t : ℕ) → list_any (reaches_by rules cells side (is_used mode false) from t) diagonals ≡ pawn_reaches (board_of rules) side from mode t
unfolding is_diagonal
diagonals_reach rules cells side from Quiet t = refl
diagonals_reach rules cells side from Take t =
    let a = leap_reaches cells (pawn_ray (board_of rules) side (pos 1) from) t in
    let b = leap_reaches cells (pawn_ray (board_of rules) side (negsuc 0) from) t in
    rw (a, b) (ap (λ x. is_at t (right_ahead (board_of rules) side from) || x) (or-false (is_at t (left_ahead (board_of rules) side from))))

pub diagonals_fit : list_all fits_term diagonals ≡ true
unfolding fits_term
diagonals_fit = refl

rule_terms_fit : (rules : Rules) (kind : Kind) (rule : Option KindRule) → fits_rule rules kind rule ≡ true → list_all fits_term (rule_terms rule) ≡ true
rule_terms_fit rules kind None e = refl
rule_terms_fit rules kind (Some rule) e = grind arith

pub kind_terms_fit : (rules : Rules) (kind : Kind) → IsFit rules → kind.0 < 26 → list_all fits_term (terms_of rules kind) ≡ true
unfolding kind_fits
kind_terms_fit rules kind fit l = rule_terms_fit rules kind (kind_rule rules kind) (all_below-each (kind_fits rules) 26 fit.kinds kind.0 l)

-- one item more, where each item is what its place asks
pub more_items : {X : Type 0} (P : ℕ → X → Type 0) (xs : List X) (x : X) (i : ℕ) → length xs ≡ i → ((k : ℕ) → k < i → (d : X) → P k (get_or xs k d)) → P i x → (k : ℕ) → k < i + 1 → (d : X) → P k (get_or (xs ++ x ∷ []) k d)
more_items {X} P xs x i n old new k l d =
    let At : X → Type 0 = λ y. P k y in
    by_equal k i (P k (get_or (xs ++ x ∷ []) k d))
    (λ e q.
    let Of : ℕ → Type 0 = λ j. P j x in
    subst At (sym (ap (λ j. get_or (xs ++ x ∷ []) j d) (q ∙ sym n) ∙ get_or-append_seam xs x [] d)) (subst Of (sym q) new))
    (λ e q. subst At (sym (get_or-append xs (x ∷ []) d k (omega (arith, l, q, n)))) (old k (omega (arith, l, q)) d))

-- ---- the place of a spot

pub side_back : (side : Side) → side_of (side_index side) ≡ side
side_back White = refl
side_back Black = refl

mode_back : (mode : Mode) → mode_of (mode_number mode) ≡ mode
mode_back Quiet = refl
mode_back Take = refl

mode_small : (mode : Mode) → mode_number mode < 2
mode_small Quiet = omega arith
mode_small Take = omega arith

part_side : (s k m f : ℕ) → k < 26 → m < 2 → f < 120 → (((s * 26 + k) * 2 + m) * 120 + f) / 6240 ≡ s
part_side s k m f a b c = omega (arith, a, b, c)

part_kind : (s k m f : ℕ) → k < 26 → m < 2 → f < 120 → (((s * 26 + k) * 2 + m) * 120 + f) / 240 % 26 ≡ k
part_kind s k m f a b c = omega (arith, a, b, c)

part_mode : (s k m f : ℕ) → k < 26 → m < 2 → f < 120 → (((s * 26 + k) * 2 + m) * 120 + f) / 120 % 2 ≡ m
part_mode s k m f a b c = omega (arith, a, b, c)

part_from : (s k m f : ℕ) → k < 26 → m < 2 → f < 120 → (((s * 26 + k) * 2 + m) * 120 + f) % 120 ≡ f
part_from s k m f a b c = omega (arith, a, b, c)

pub spot_there : (rules : Rules) (side : Side) (kind : Kind) (mode : Mode) (from : Square) (i : ℕ) (spot : Spot) → kind.0 < 26 → from.0 < 120 → i ≡ spot_place (side_index side) kind.0 (mode_number mode) from.0 → IsSpotAt rules i spot → IsOfKind rules side kind from mode spot
spot_there rules side kind mode from i spot k f e h =
    let P : Side → ℕ → ℕ → Mode → Type 0 = λ s k f m. IsOfKind rules s (record { 0 = k }) (record { 0 = f }) m spot in
    let m = mode_small mode in
    let a : side_of (i / 6240) ≡ side = rw (e, part_side (side_index side) kind.0 (mode_number mode) from.0 k m f) (side_back side) in
    let b : i / 240 % 26 ≡ kind.0 = rw (e, part_kind (side_index side) kind.0 (mode_number mode) from.0 k m f) refl in
    let c : i % 120 ≡ from.0 = rw (e, part_from (side_index side) kind.0 (mode_number mode) from.0 k m f) refl in
    let d : mode_of (i / 120 % 2) ≡ mode = rw (e, part_mode (side_index side) kind.0 (mode_number mode) from.0 k m f) (mode_back mode) in
    let h1 = let Q : Side → Type 0 = λ s. P s (i / 240 % 26) (i % 120) (mode_of (i / 120 % 2)) in subst Q a h in
    let h2 = let Q : ℕ → Type 0 = λ n. P side n (i % 120) (mode_of (i / 120 % 2)) in subst Q b h1 in
    let h3 = let Q : ℕ → Type 0 = λ n. P side kind.0 n (mode_of (i / 120 % 2)) in subst Q c h2 in
    let Q : Mode → Type 0 = λ n. P side kind.0 from.0 n in subst Q d h3

-- ---- the squares that pass a test

-- one square more of a set
pub member_step : (f : ℕ → Bool) (t i : ℕ) → f i ≡ true → ((nat_lt t i && f t) || (t == i)) ≡ (nat_lt t (i + 1) && f t)
member_step f t i e =
    by_equal t i (((nat_lt t i && f t) || (t == i)) ≡ (nat_lt t (i + 1) && f t))
    (λ q v. let l : nat_lt t (i + 1) ≡ true = lt-ltb t (i + 1) (omega (arith, v)) in rw (q, l, ap f v ∙ e, or-true (nat_lt t i && true)) refl)
    (λ q v. rw (q, or-false (nat_lt t i && f t)) (ap (λ b. b && f t) (below_step t i v)))

pub other_step : (f : ℕ → Bool) (t i : ℕ) → f i ≡ false → (nat_lt t i && f t) ≡ (nat_lt t (i + 1) && f t)
other_step f t i e =
    by_equal t i ((nat_lt t i && f t) ≡ (nat_lt t (i + 1) && f t))
    (λ q v. rw (ap f v ∙ e, and-false (nat_lt t i), and-false (nat_lt t (i + 1))) refl)
    (λ q v. ap (λ b. b && f t) (below_step t i v))

-- a test of what stands on a square, beyond the last square of a board
pub beyond : (f : Option Cell → Bool) → f None ≡ false → (cells : List (Option Cell)) (t i : ℕ) → length cells ≤ i → (nat_lt t i && f (cell_at cells t)) ≡ f (cell_at cells t)
beyond f none cells t i l =
    by_order t i ((nat_lt t i && f (cell_at cells t)) ≡ f (cell_at cells t))
    (λ m. rw (lt-ltb t i m) refl)
    (λ m. rw (slice_get_past cells t (omega (arith, l, m)), none, and-false (nat_lt t i)) refl)

pub region_beyond : (squares : List Bool) (t i : ℕ) → length squares ≤ i → (nat_lt t i && get_or squares t false) ≡ get_or squares t false
region_beyond squares t i l =
    by_order t i ((nat_lt t i && get_or squares t false) ≡ get_or squares t false)
    (λ m. rw (lt-ltb t i m) refl)
    (λ m. rw (get_or_past squares t false (omega (arith, l, m)), and-false (nat_lt t i)) refl)
