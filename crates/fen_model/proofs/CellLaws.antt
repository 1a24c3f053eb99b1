-- The pieces that a placement says are those of the variant, and stand on its board.
use Rattle.std.proofs.Common.{◌≡◌, ℕ, zero, suc, ◌+◌, ◌-◌, ◌/◌, ◌%◌, ◌<◌, ◌≤◌, max, nat_lt, nat_le, ◌==◌, Bool, true, false, ◌&&◌, List, [], ◌∷◌, ◌++◌, length, get_or, replicate, reverse, Option, Some, None, Ok, Err, refl, sym, ap, ◌∙◌, arith, ⊎_elim, subst}
use Rattle.std.specs.declared.result.Result.{Result}
use Rattle.std.specs.List.{list_all, slice_split}
use Rattle.std.proofs.Math.ListN.{get_or-eq_default}
use Rattle.std.proofs.lemmas.Bool.{cases_Bool, le-leb, leb-true, le-ltb, ltb-true, ltb-false, eqb-true, eq-eqb, and_from, and_parts, or_left, or_right}
use Rattle.std.proofs.lemmas.List.{get_or-reverse, length-reverse}
use Rattle.std.proofs.lemmas.List.Folds.{list_all-append, list_all_at}
use Rattle.std.proofs.lemmas.Nat.Bits.{bit_at-zero}
use Rattle.std.proofs.lemmas.List.FromFn.{get_or-map-range_with_len, length-map-range_with_len}
use Rattle.foundation.specs.Count.{all_below}
use Rattle.foundation.proofs.CountLemmas.{all_below-each, all_below-true}
use Rattle.rules_model.specs.declared.board.Cell.{Cell}
use Rattle.rules_model.specs.declared.board.Kind.{Kind}
use Rattle.rules_model.specs.declared.board.Position.{Position}
use Rattle.rules_model.specs.declared.board.Side.{Side}
use Rattle.rules_model.specs.declared.board.Side.TheVariants.{White, Black}
use Rattle.rules_model.specs.declared.board.Wing.{Wing}
use Rattle.rules_model.specs.declared.board.Wing.TheVariants.{Kingside, Queenside}
use Rattle.rules_model.specs.declared.rules.Rules.{Rules}
use Rattle.rules_model.specs.Attacks.{king_attacked}
use Rattle.rules_model.specs.Ends.{pieces_of}
use Rattle.rules_model.specs.declared.rules.KindRule.{KindRule}
use Rattle.rules_model.specs.Fit.{IsFit, fits_rule, is_there, kind_fits}
use Rattle.rules_model.specs.Kinds.{has_kind, is_pawn, kind_rule, masks, names, promoted_of, rule_promoted}
use Rattle.rules_model.specs.Repeats.{repeat_of}
use Rattle.rules_model.specs.Sides.{other}
use Rattle.rules_model.specs.Sound.{has_its_king, is_origin, is_sound, is_sound_cell, is_sound_repeat, is_sound_side, on_board, sound_at, sound_gate, sound_in_hand, sound_right}
use Rattle.rules_model.specs.Squares.{cell_at}
use Rattle.fen_model.specs.declared.fault.FenFault.{FenFault}
use Rattle.fen_model.specs.Board.{cells_from, cells_of, is_slash, marked_cell, one_square, pawn_cell, plain_cell, promoted_cell, ranks_of, row_of, rows_of, run_squares, said_at, sized, squares_of}
use Rattle.fen_model.specs.Chain.{◌>>=◌}
use Rattle.fen_model.specs.Counts.{count_of, up_to_most}
use Rattle.foundation.specs.Numbers.{begins_with_zero, number_of, value_of}
use Rattle.fen_model.specs.Pocket.{no_hands}
use Rattle.fen_model.specs.Reading.{judged}
use Rattle.fen_model.specs.Tokens.{Token, run, piece, tilde, stray, is_letter, letter_kind, letter_side, tokens_of}
use Rattle.fen_model.proofs.ChainLaws.{then_ok}
use Rattle.fen_model.proofs.TokenLemmas.{HasLetters, kind_below, tokens_have}

-- ---- squares

-- a piece of the variant
abbrev pub is_good : Rules → Option Cell → Bool
is_good rules None = true
is_good rules (Some c) = has_kind rules c.kind && is_origin rules c.kind c.origin

good_append : (rules : Rules) (xs ys : List (Option Cell)) → list_all (is_good rules) xs ≡ true → list_all (is_good rules) ys ≡ true → list_all (is_good rules) (xs ++ ys) ≡ true
good_append rules xs ys h k = list_all-append (is_good rules) xs ys ∙ and_from _ _ h k

good_free : (rules : Rules) (n : ℕ) → list_all (is_good rules) (replicate n None) ≡ true
good_free rules zero = refl
good_free rules (suc n) = good_free rules n

good_run : (rules : Rules) (digits : List ℕ) (squares : List (Option Cell)) → run_squares digits ≡ Ok squares → list_all (is_good rules) squares ≡ true
good_run rules digits squares h =
    ⊎_elim
    (λ y. let e = rw y at h in cc)
    (λ n. let e : replicate (value_of digits) None ≡ squares = (let k = rw n at h in cc) in subst (λ xs. list_all (is_good rules) xs ≡ true) e (good_free rules (value_of digits)))
    (cases_Bool (begins_with_zero digits))

good_one : (rules : Rules) (o : Option Cell) (squares : List (Option Cell)) → is_good rules o ≡ true → one_square o ≡ Ok squares → list_all (is_good rules) squares ≡ true
good_one rules None squares g h = cc
good_one rules (Some c) squares g h =
    let e : Some c ∷ [] ≡ squares = cc in subst (λ xs. list_all (is_good rules) xs ≡ true) e (and_from _ _ g refl)

good_plain : (rules : Rules) (side : Side) (kind : Kind) → is_good rules (plain_cell rules side kind) ≡ true
good_plain rules side kind = ⊎_elim (λ y. rw y (rw y refl)) (λ n. rw n refl) (cases_Bool (has_kind rules kind))

there_of : (rules : Rules) (kind : Kind) (o : Option Kind) → o ≡ Some kind → is_there rules o ≡ true → has_kind rules kind ≡ true
there_of rules kind None e h = cc
there_of rules kind (Some named) e h = let same : named ≡ kind = cc in subst (λ k. has_kind rules k ≡ true) same h

promoted_in : (rules : Rules) (origin kind : Kind) (o : Option KindRule) → fits_rule rules origin o ≡ true → rule_promoted o ≡ Some kind → has_kind rules kind ≡ true
promoted_in rules origin kind None fits e = cc
promoted_in rules origin kind (Some rule) fits e = there_of rules kind rule.promoted e (and_parts _ _ fits).1

-- a promoted kind is one of the variant
promoted_there : (rules : Rules) → IsFit rules → (origin kind : Kind) → origin.0 < 26 → promoted_of rules origin ≡ Some kind → has_kind rules kind ≡ true
unfolding kind_fits
promoted_there rules fit origin kind below e =
    promoted_in rules origin kind (kind_rule rules origin) (all_below-each (kind_fits rules) 26 fit.kinds origin.0 below) e

good_promoted : (rules : Rules) → IsFit rules → (side : Side) (origin : Kind) (o : Option Kind) → origin.0 < 26 → promoted_of rules origin ≡ o → is_good rules (promoted_cell rules side origin o) ≡ true
good_promoted rules fit side origin None below e = refl
good_promoted rules fit side origin (Some kind) below e =
    let has = promoted_there rules fit origin kind below e in
    let named : names (promoted_of rules origin) kind ≡ true = rw e (eq-eqb kind.0 kind.0 refl) in
    and_from _ _ has (or_right _ _ named)

good_pawn : (rules : Rules) (side : Side) (kind : Kind) (o : Option Kind) → rules.pawn ≡ o → is_good rules (pawn_cell rules side kind o) ≡ true
good_pawn rules side kind None e = refl
good_pawn rules side kind (Some pawn) e =
    let named : is_pawn rules pawn ≡ true = rw e (eq-eqb pawn.0 pawn.0 refl) in
    ⊎_elim
    (λ y. let a = and_parts (rules.to_hand && has_kind rules kind) (masks rules.promotion_kinds kind) y in
    let b = and_parts rules.to_hand (has_kind rules kind) a.0 in
    rw y (and_from _ _ b.1 (or_left (rules.to_hand && is_pawn rules pawn && masks rules.promotion_kinds kind) (names (promoted_of rules pawn) kind) (and_from _ _ (and_from _ _ b.0 named) a.1))))
    (λ n. rw n refl)
    (cases_Bool (rules.to_hand && has_kind rules kind && masks rules.promotion_kinds kind))

good_marked : (rules : Rules) → IsFit rules → (before : Bool) (c : ℕ) (after : Bool) → is_letter c ≡ true → is_good rules (marked_cell rules before (letter_side c) (letter_kind c) after) ≡ true
good_marked rules fit false c false letter = good_plain rules (letter_side c) (letter_kind c)
good_marked rules fit true c false letter = good_promoted rules fit (letter_side c) (letter_kind c) (promoted_of rules (letter_kind c)) (kind_below c letter) refl
good_marked rules fit false c true letter = good_pawn rules (letter_side c) (letter_kind c) rules.pawn refl
good_marked rules fit true c true letter = refl

good_joined : (rules : Rules) (first squares : List (Option Cell)) (others : Result (List (Option Cell)) FenFault) → list_all (is_good rules) first ≡ true
    → ((more : List (Option Cell)) → others ≡ Ok more → list_all (is_good rules) more ≡ true) → (others >>= (λ more. Ok (first ++ more))) ≡ Ok squares → list_all (is_good rules) squares ≡ true
good_joined rules first squares (Err e) g k h = cc
good_joined rules first squares (Ok more) g k h =
    let e : first ++ more ≡ squares = cc in subst (λ xs. list_all (is_good rules) xs ≡ true) e (good_append rules first more g (k more refl))

good_then : (rules : Rules) (r others : Result (List (Option Cell)) FenFault) (squares : List (Option Cell)) → ((first : List (Option Cell)) → r ≡ Ok first → list_all (is_good rules) first ≡ true)
    → ((more : List (Option Cell)) → others ≡ Ok more → list_all (is_good rules) more ≡ true) → (r >>= (λ first. others >>= (λ more. Ok (first ++ more)))) ≡ Ok squares → list_all (is_good rules) squares ≡ true
good_then rules (Err e) others squares g k h = cc
good_then rules (Ok first) others squares g k h = good_joined rules first squares others (g first refl) k h

-- the squares of tokens hold pieces of the variant alone
good_squares : (rules : Rules) → IsFit rules → (tokens : List Token) (squares : List (Option Cell)) → HasLetters tokens → squares_of rules tokens ≡ Ok squares → list_all (is_good rules) squares ≡ true
unfolding squares_of HasLetters
good_squares rules fit [] squares letters h = let e : [] ≡ squares = cc in subst (λ xs. list_all (is_good rules) xs ≡ true) e refl
good_squares rules fit (run digits ∷ tokens) squares letters h =
    good_then rules (run_squares digits) (squares_of rules tokens) squares (good_run rules digits) (λ more k. good_squares rules fit tokens more letters k) h
good_squares rules fit (piece before c after ∷ tokens) squares letters h =
    good_then rules (one_square (marked_cell rules before (letter_side c) (letter_kind c) after)) (squares_of rules tokens) squares
    (λ first. good_one rules (marked_cell rules before (letter_side c) (letter_kind c) after) first (good_marked rules fit before c after letters.0))
    (λ more k. good_squares rules fit tokens more letters.1 k) h
good_squares rules fit (tilde ∷ tokens) squares letters h = cc
good_squares rules fit (stray ∷ tokens) squares letters h = cc

-- ---- rows

pub record IsRow (rules : Rules) (row : List (Option Cell)) : Type 0 where
  pub good : list_all (is_good rules) row ≡ true
  pub long : length row ≡ rules.files

sized_ok : (rules : Rules) (squares row : List (Option Cell)) → sized rules squares ≡ Ok row → (squares ≡ row) × (length squares ≡ rules.files)
sized_ok rules squares row h =
    ⊎_elim
    (λ y. let k = rw y at h in (cc, eqb-true _ _ y))
    (λ n. let k = rw n at h in cc)
    (cases_Bool (length squares == rules.files))

row_good : (rules : Rules) → IsFit rules → (text : List ℕ) (row : List (Option Cell)) → row_of rules text ≡ Ok row → IsRow rules row
unfolding row_of
row_good rules fit text row h =
    let said = then_ok (squares_of rules (tokens_of text)) (sized rules) row h in
    let all = sized_ok rules said.0 row said.2 in
    record {
      good = subst (λ xs. list_all (is_good rules) xs ≡ true) all.0 (good_squares rules fit (tokens_of text) said.0 (tokens_have text) said.1);
      long = sym (ap length all.0) ∙ all.1;
    }

abbrev pub AreRows : Rules → List (List (Option Cell)) → Type 0
AreRows rules [] = Unit {0}
AreRows rules (row ∷ rows) = IsRow rules row × AreRows rules rows

rows_good : (rules : Rules) → IsFit rules → (ranks : List (List ℕ)) (rows : List (List (Option Cell))) → rows_of rules ranks ≡ Ok rows → AreRows rules rows × (length rows ≡ length ranks)
unfolding rows_of
rows_good rules fit [] rows h = let e : [] ≡ rows = cc in subst (λ xs. AreRows rules xs × (length xs ≡ 0)) e (tt, refl)
rows_good rules fit (rank ∷ ranks) rows h =
    let first = then_ok (row_of rules rank) (λ row. rows_of rules ranks >>= (λ others. Ok (row ∷ others))) rows h in
    let more = then_ok (rows_of rules ranks) (λ others. Ok (first.0 ∷ others)) rows first.2 in
    let rest = rows_good rules fit ranks more.0 more.1 in
    let e : first.0 ∷ more.0 ≡ rows = cc (more.2) in
    subst (λ xs. AreRows rules xs × (length xs ≡ suc (length ranks))) e ((row_good rules fit rank first.0 first.1, rest.0), ap suc rest.1)

row_there : (rules : Rules) (rows : List (List (Option Cell))) (k : ℕ) → AreRows rules rows → k < length rows → IsRow rules (get_or rows k [])
row_there rules [] k are below = absurd (omega arith)
row_there rules (row ∷ rows) zero are below = are.0
row_there rules (row ∷ rows) (suc k) are below = row_there rules rows k are.1 (omega arith)

-- ---- cells

pub cell_at-get_or : (cells : List (Option Cell)) (s : ℕ) → cell_at cells s ≡ get_or cells s None
cell_at-get_or [] s = refl
cell_at-get_or (c ∷ cells) zero = refl
cell_at-get_or (c ∷ cells) (suc s) = cell_at-get_or cells s

good_there : (rules : Rules) (s : ℕ) (o : Option Cell) → on_board rules s ≡ true → is_good rules o ≡ true → is_sound_cell rules s o ≡ true
good_there rules s None b g = refl
good_there rules s (Some c) b g = rw b g

good_at : (rules : Rules) (row : List (Option Cell)) (k : ℕ) → list_all (is_good rules) row ≡ true → k < length row → is_good rules (get_or row k None) ≡ true
good_at rules row k g below =
    ⊎_elim (λ y. y) (λ n. let bad = list_all_at (is_good rules) row k None below n in cc) (cases_Bool (is_good rules (get_or row k None)))

sound_said : (rules : Rules) (rows : List (List (Option Cell))) (s : ℕ) → AreRows rules rows → length rows ≡ rules.ranks → is_sound_cell rules s (said_at rows s) ≡ true
sound_said rules rows s are count =
    ⊎_elim
    (λ y. let low : s / 12 < rules.ranks = ltb-true _ _ y in
    let row = row_there rules rows (length rows - 1 - s / 12) are (omega arith) in
    let there : get_or (reverse rows) (s / 12) [] ≡ get_or rows (length rows - 1 - s / 12) [] = get_or-reverse rows (s / 12) [] (omega arith) in
    subst (λ squares. is_sound_cell rules s (get_or squares (s % 12) None) ≡ true) (sym there)
    (⊎_elim
    (λ z. let short : s % 12 < rules.files = ltb-true _ _ z in
    good_there rules s (get_or (get_or rows (length rows - 1 - s / 12) []) (s % 12) None) (and_from _ _ z y) (good_at rules _ (s % 12) row.good (omega (arith, row.long))))
    (λ m. let wide : rules.files ≤ s % 12 = ltb-false _ _ m in
    subst (λ o. is_sound_cell rules s o ≡ true) (sym (get_or-eq_default (get_or rows (length rows - 1 - s / 12) []) None {n = s % 12} (omega (arith, row.long)))) refl)
    (cases_Bool (nat_lt (s % 12) rules.files))))
    (λ n. let high : rules.ranks ≤ s / 12 = ltb-false _ _ n in
    let none : get_or (reverse rows) (s / 12) [] ≡ [] = get_or-eq_default (reverse rows) [] {n = s / 12} (omega (arith, length-reverse rows)) in
    subst (λ squares. is_sound_cell rules s (get_or squares (s % 12) None) ≡ true) (sym none) refl)
    (cases_Bool (nat_lt (s / 12) rules.ranks))

ranks_ok : (rules : Rules) (ranks : List (List ℕ)) (rows : List (List (Option Cell))) → ranks_of rules ranks ≡ Ok rows → (rows_of rules ranks ≡ Ok rows) × (length ranks ≡ rules.ranks)
ranks_ok rules ranks rows h =
    ⊎_elim
    (λ y. (rw y at h, eqb-true _ _ y))
    (λ n. let k = rw n at h in cc)
    (cases_Bool (length ranks == rules.ranks))

-- the cells that a placement says are sound
pub sound_cells : (rules : Rules) → IsFit rules → (board : List ℕ) (cells : List (Option Cell)) → cells_of rules board ≡ Ok cells → all_below (sound_at rules cells) 120 ≡ true
unfolding cells_of cells_from sound_at
sound_cells rules fit board cells h =
    let said = then_ok (ranks_of rules (slice_split is_slash board)) (λ rows. Ok (cells_from rows)) cells h in
    let rows = ranks_ok rules (slice_split is_slash board) said.0 said.1 in
    let all = rows_good rules fit (slice_split is_slash board) said.0 rows.0 in
    let e : cells_from said.0 ≡ cells = cc (said.2) in
    subst (λ xs. all_below (sound_at rules xs) 120 ≡ true) e
    (all_below-true (sound_at rules (cells_from said.0)) 120 (λ s below.
    subst (λ o. is_sound_cell rules s o ≡ true)
    (sym (cell_at-get_or (cells_from said.0) s ∙ get_or-map-range_with_len (said_at said.0) 0 120 s s None below (omega arith)))
    (sound_said rules said.0 s all.0 (all.1 ∙ rows.1))))

-- and there is one for each square
pub long_cells : (rules : Rules) (board : List ℕ) (cells : List (Option Cell)) → cells_of rules board ≡ Ok cells → length cells ≡ 120
unfolding cells_of cells_from
long_cells rules board cells h =
    let said = then_ok (ranks_of rules (slice_split is_slash board)) (λ rows. Ok (cells_from rows)) cells h in
    let e : cells_from said.0 ≡ cells = cc (said.2) in
    sym (ap length e) ∙ length-map-range_with_len (said_at said.0) 0 120
