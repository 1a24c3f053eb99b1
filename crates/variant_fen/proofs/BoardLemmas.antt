-- The ranks of a board, one after another.
use Rattle.std.proofs.Common.{◌≡◌, ◌≢◌, ℕ, ◌+◌, ◌-◌, ◌*◌, ◌/◌, ◌%◌, ◌<◌, ◌≤◌, nat_lt, ◌==◌, true, false, List, [], ◌∷◌, ◌++◌, length, get_or, replicate, reverse, Option, None, Ok, Err, refl, sym, ap, ◌∙◌, arith, ⊎_elim, append_assoc}
use Rattle.std.specs.declared.result.Result.{Result}
use Rattle.std.specs.List.{slice_split}
use Rattle.std.proofs.Math.ListN.{get_or-eq_default}
use Rattle.std.proofs.lemmas.Bool.{cases_Bool, ltb-true, ltb-false, eqb-true, eqb-false, eq-eqb, ne_eqb}
use Rattle.std.proofs.lemmas.List.{append-nil, get_or-replicate, get_or-reverse, length-replicate, length-reverse}
use Rattle.std.proofs.lemmas.List.FromFn.{length-map-range_with_len, get_or-map-range_with_len, map-range_with_len_more, fill_by_all}
use Rattle.rules_model.specs.declared.board.Cell.{Cell}
use Rattle.rules_model.specs.declared.rules.Rules.{Rules}
use Rattle.fen_model.specs.declared.fault.FenFault.{FenFault}
use Rattle.fen_model.specs.declared.fault.FenFault.TheVariants.{Rank}
use Rattle.fen_model.specs.Board.{cells_from, cells_of, is_slash, row_at, row_of, rows_at, rows_of, said_at}
use Rattle.fen_model.specs.Chain.{◌>>=◌}
use Rattle.variant_fen.specs.Cells.{IsFreeFrom, IsSameBut}
use Rattle.fen_model.proofs.BoardLaws.{cells_from-rows_at, IsFreeAbove, IsFreeBeside, rows_at-more, rows_at-same}
use Rattle.fen_model.proofs.RowLaws.{same-row_at}

-- ---- reading

-- the rows read so far stand on the board, and these follow
unfoldable pub after_rows : Rules → List (Option Cell) → ℕ → Result (List (List (Option Cell))) FenFault → Result (List (List (Option Cell))) FenFault
after_rows rules cells n others = others >>= (λ rows. Ok (rows_at rules cells n ++ rows))

pub after_none : (rules : Rules) (cells : List (Option Cell)) (others : Result (List (List (Option Cell))) FenFault) → others ≡ after_rows rules cells 0 others
unfolding after_rows rows_at
after_none rules cells (Err fault) = refl
after_none rules cells (Ok rows) = refl

one_row : (rules : Rules) (cells new : List (Option Cell)) (n rank : ℕ) (others : Result (List (List (Option Cell))) FenFault) → rank ≡ rules.ranks - 1 - n → n < rules.ranks → rules.files ≤ 12 → IsSameBut rank cells new
    → (others >>= (λ rows. Ok (row_at new rank rules.files ∷ rows))) >>= (λ rows. Ok (rows_at rules cells n ++ rows)) ≡ after_rows rules new (n + 1) others
unfolding after_rows
one_row rules cells new n rank (Err fault) is below few same = refl
one_row rules cells new n rank (Ok rows) is below few same =
    let there : row_at new rank rules.files ≡ row_at new (rules.ranks - 1 - n) rules.files = ap (λ r. row_at new r rules.files) is in
    let others : rows_at rules cells n ≡ rows_at rules new n =
    rows_at-same rules cells new n (λ k lower. same-row_at cells new (rules.ranks - 1 - k) rules.files (λ f short. sym (same (12 * (rules.ranks - 1 - k) + f) (omega arith)))) in
    ap Ok (ap (λ front. front ++ row_at new rank rules.files ∷ rows) others
    ∙ ap (λ row. rows_at rules new n ++ row ∷ rows) there
    ∙ sym (append_assoc (rows_at rules new n) (row_at new (rules.ranks - 1 - n) rules.files ∷ []) rows)
    ∙ ap (λ front. front ++ rows) (sym (rows_at-more rules new n)))

-- one more rank
pub step_row : (rules : Rules) (cells new : List (Option Cell)) (n rank : ℕ) (text : List ℕ) (parts : List (List ℕ)) → rank ≡ rules.ranks - 1 - n → n < rules.ranks → rules.files ≤ 12 → IsSameBut rank cells new
    → row_of rules text ≡ Ok (row_at new rank rules.files)
    → after_rows rules cells n (rows_of rules (text ∷ parts)) ≡ after_rows rules new (n + 1) (rows_of rules parts)
unfolding after_rows rows_of
step_row rules cells new n rank text parts is below few same read = rw read (one_row rules cells new n rank (rows_of rules parts) is below few same)

pub step_row_fault : (rules : Rules) (cells : List (Option Cell)) (n : ℕ) (text : List ℕ) (parts : List (List ℕ)) (fault : FenFault) → row_of rules text ≡ Err fault → after_rows rules cells n (rows_of rules (text ∷ parts)) ≡ Err fault
unfolding after_rows rows_of
step_row_fault rules cells n text parts fault read = rw read refl

-- all rows are read
pub all_rows : (rules : Rules) (cells : List (Option Cell)) (board : List ℕ) → length (slice_split is_slash board) ≡ rules.ranks
    → rows_of rules (slice_split is_slash board) ≡ after_rows rules cells rules.ranks (rows_of rules [])
    → length cells ≡ 120 → IsFreeBeside rules.files cells → IsFreeAbove rules.ranks cells → cells_of rules board ≡ Ok cells
unfolding cells_of after_rows rows_of
all_rows rules cells board ranks read long beside above =
    let test : (length (slice_split is_slash board) == rules.ranks) ≡ true = eq-eqb _ _ ranks in
    rw (test, read) (ap Ok (ap cells_from (append-nil (rows_at rules cells rules.ranks)) ∙ cells_from-rows_at rules cells long beside above))

pub rank_fault : (rules : Rules) (board : List ℕ) → length (slice_split is_slash board) ≢ rules.ranks → cells_of rules board ≡ Err Rank
unfolding cells_of
rank_fault rules board h = let test : (length (slice_split is_slash board) == rules.ranks) ≡ false = ne_eqb _ _ h in rw test refl

pub row_fault : (rules : Rules) (board : List ℕ) (fault : FenFault) → length (slice_split is_slash board) ≡ rules.ranks → rows_of rules (slice_split is_slash board) ≡ Err fault → cells_of rules board ≡ Err fault
unfolding cells_of
row_fault rules board fault ranks read = let test : (length (slice_split is_slash board) == rules.ranks) ≡ true = eq-eqb _ _ ranks in rw (test, read) refl

-- ---- what stays free

pub none_anywhere : (n s : ℕ) → get_or (replicate {A = Option Cell} n None) s None ≡ None
none_anywhere n s =
    ⊎_elim
    (λ y. get_or-replicate n s None None (ltb-true _ _ y))
    (λ m. get_or-eq_default (replicate {A = Option Cell} n None) None {n = s} (let from : n ≤ s = ltb-false _ _ m in omega (arith, length-replicate {A = Option Cell} n None)))
    (cases_Bool (nat_lt s n))

pub empty_anywhere : (cells : List (Option Cell)) → cells ≡ replicate 120 None → (s : ℕ) → get_or cells s None ≡ None
empty_anywhere cells is s = ap (λ xs. get_or xs s None) is ∙ none_anywhere 120 s

pub beside_after : (files rank : ℕ) (old new : List (Option Cell)) → IsSameBut rank old new → IsFreeFrom new rank files → IsFreeBeside files old → IsFreeBeside files new
beside_after files rank old new same beyond beside = λ s from.
    ⊎_elim
    (λ y. let here : s / 12 ≡ rank = eqb-true _ _ y in
    ap (λ n. get_or new n None) (let at : s ≡ 12 * rank + s % 12 = omega arith in at) ∙ beyond (s % 12) from (omega arith))
    (λ n. same s (eqb-false _ _ n) ∙ beside s from)
    (cases_Bool (s / 12 == rank))
