-- One rank, square by square.
use Rattle.std.proofs.Common.{◌≡◌, ◌≢◌, ℕ, ◌+◌, ◌-◌, ◌*◌, ◌<◌, ◌≤◌, nat_lt, nat_le, ◌==◌, min, true, false, if◌then◌else◌, List, [], ◌∷◌, ◌++◌, length, get_or, set, replicate, take, drop, Option, Some, None, Ok, Err, refl, sym, ap, ◌∙◌, arith, ⊎_elim, length-append, append_assoc}
use Rattle.std.specs.declared.result.Result.{Result}
use Rattle.std.specs.List.{prefix_len}
use Rattle.std.proofs.lemmas.Bool.{cases_Bool, ltb-true, ltb-false, eqb-true, eqb-false, eq-eqb, leb-true, leb-false}
use Rattle.std.proofs.lemmas.Grind.{common_steps}
use Rattle.std.proofs.lemmas.List.{append-nil, get_or-append_right, get_or_append_left, get_or-set_other, get_or-set_same, get_or-replicate, length-replicate}
use Rattle.std.proofs.lemmas.List.FromFn.{length-map-range_with_len, get_or-map-range_with_len, fill_by_all}
use Rattle.rules_model.specs.declared.board.Cell.{Cell}
use Rattle.rules_model.specs.declared.rules.Rules.{Rules}
use Rattle.fen_model.specs.declared.fault.FenFault.{FenFault}
use Rattle.fen_model.specs.declared.fault.FenFault.TheVariants.{Letter, Width}
use Rattle.fen_model.specs.Board.{one_square, row_at, row_of, run_squares, sized, squares_of}
use Rattle.fen_model.specs.Chain.{◌>>=◌}
use Rattle.foundation.specs.Numbers.{begins_with_zero, is_digit, value_of}
use Rattle.variant_fen.specs.Cells.{put_at, IsFreeFrom, IsSameBut}
use Rattle.variant_fen.specs.Pieces.{piece_first}
use Rattle.fen_model.specs.Tokens.{tokens_of}
use Rattle.fen_model.proofs.TokenLemmas.{joined, run_then}
use Rattle.fen_model.proofs.RowLaws.{get_or-row_at, is-row_at, length-row_at, row_at-none}

-- one more square
row_at-put : (cells : List (Option Cell)) (rank file : ℕ) (c : Option Cell) → 12 * rank + file < length cells
    → row_at cells rank file ++ c ∷ [] ≡ row_at (set cells (12 * rank + file) c) rank (file + 1)
row_at-put cells rank file c within =
    is-row_at _ rank (file + 1) _ (omega (arith, length-append (row_at cells rank file) (c ∷ []), length-row_at cells rank file))
    (λ k below. ⊎_elim
    (λ y. let before : k < file = ltb-true _ _ y in let at : k < length (row_at cells rank file) = omega (arith, length-row_at cells rank file) in
    get_or_append_left (row_at cells rank file) (c ∷ []) None k at ∙ get_or-row_at cells rank file k before
    ∙ sym (get_or-set_other cells (12 * rank + file) (12 * rank + k) c None (omega arith)))
    (λ n. let from : file ≤ k = ltb-false _ _ n in let here : k ≡ file = omega arith in
    rw here (get_or-append_right (row_at cells rank file) (c ∷ []) file file None (length-row_at cells rank file) (omega arith)
    ∙ (let none : file - file ≡ 0 = omega arith in rw none (sym (get_or-set_same cells (12 * rank + file) c None within)))))
    (cases_Bool (nat_lt k file)))

-- empty squares
row_at-free : (cells : List (Option Cell)) (rank file n : ℕ) → IsFreeFrom cells rank file → file + n ≤ 12
    → row_at cells rank file ++ replicate n None ≡ row_at cells rank (file + n)
row_at-free cells rank file n free short =
    is-row_at cells rank (file + n) _ (omega (arith, length-append (row_at cells rank file) (replicate n None), length-row_at cells rank file, length-replicate {A = Option Cell} n None))
    (λ k below. ⊎_elim
    (λ y. let before : k < file = ltb-true _ _ y in let at : k < length (row_at cells rank file) = omega (arith, length-row_at cells rank file) in
    get_or_append_left (row_at cells rank file) (replicate n None) None k at ∙ get_or-row_at cells rank file k before)
    (λ m. let from : file ≤ k = ltb-false _ _ m in
    get_or-append_right (row_at cells rank file) (replicate n None) file k None (length-row_at cells rank file) from
    ∙ get_or-replicate n (k - file) None None (omega arith) ∙ sym (free k from (omega arith)))
    (cases_Bool (nat_lt k file)))

-- ---- what a row says, read up to a file

abbrev pub closed : Rules → List (Option Cell) → ℕ → ℕ → List (Option Cell) → Result (List (Option Cell)) FenFault
closed rules cells rank file more = if nat_le file rules.files then sized rules (row_at cells rank file ++ more) else Err Width

-- the squares read so far stand on the rank, and these follow
unfoldable pub ended : Rules → List (Option Cell) → ℕ → ℕ → Result (List (Option Cell)) FenFault → Result (List (Option Cell)) FenFault
ended rules cells rank file others = others >>= closed rules cells rank file

wrong_size : (rules : Rules) (squares : List (Option Cell)) → length squares ≢ rules.files → sized rules squares ≡ Err Width
wrong_size rules squares h = grind (arith, common_steps)

too_far : (rules : Rules) (cells : List (Option Cell)) (rank file : ℕ) (more : List (Option Cell)) → rules.files < file + length more → closed rules cells rank file more ≡ Err Width
too_far rules cells rank file more h =
    let longer : length (row_at cells rank file ++ more) ≢ rules.files = omega (arith, length-append (row_at cells rank file) more, length-row_at cells rank file) in
    let wrong = wrong_size rules (row_at cells rank file ++ more) longer in
    ⊎_elim (λ y. rw y wrong) (λ n. rw n refl) (cases_Bool (nat_le file rules.files))

nothing_yet : (rules : Rules) (cells : List (Option Cell)) (rank : ℕ) (others : Result (List (Option Cell)) FenFault) → (others >>= sized rules) ≡ ended rules cells rank 0 others
unfolding ended
nothing_yet rules cells rank (Err fault) = refl
nothing_yet rules cells rank (Ok more) = let none = row_at-none cells rank in rw none (let least : nat_le 0 rules.files ≡ true = grind (arith, common_steps) in rw least refl)

-- nothing is read yet
pub ended_none : (rules : Rules) (cells : List (Option Cell)) (rank : ℕ) (text : List ℕ) → row_of rules text ≡ ended rules cells rank 0 (squares_of rules (tokens_of text))
unfolding row_of ended
ended_none rules cells rank text = nothing_yet rules cells rank (squares_of rules (tokens_of text))

within : (rules : Rules) (cells : List (Option Cell)) (rank file : ℕ) (more : List (Option Cell)) → file ≤ rules.files → closed rules cells rank file more ≡ sized rules (row_at cells rank file ++ more)
within rules cells rank file more h = let test : nat_le file rules.files ≡ true = grind (arith, common_steps) in rw test refl

beyond : (rules : Rules) (cells : List (Option Cell)) (rank file : ℕ) (more : List (Option Cell)) → rules.files < file → closed rules cells rank file more ≡ Err Width
beyond rules cells rank file more h = let test : nat_le file rules.files ≡ false = grind (arith, common_steps) in rw test refl

closed_put : (rules : Rules) (cells : List (Option Cell)) (rank file : ℕ) (c : Cell) (more : List (Option Cell)) → rules.files ≤ 12 → rank < 10 → length cells ≡ 120
    → closed rules cells rank file (Some c ∷ more) ≡ closed rules (put_at rules cells rank file c) rank (min (file + 1) 65535) more
closed_put rules cells rank file c more few low long =
    ⊎_elim
    (λ y. let below : file < rules.files = ltb-true _ _ y in
    let next : min (file + 1) 65535 ≡ file + 1 = omega arith in
    rw (y, next) (within rules cells rank file (Some c ∷ more) (omega arith)
    ∙ ap (sized rules) (sym (append_assoc (row_at cells rank file) (Some c ∷ []) more) ∙ ap (λ squares. squares ++ more) (row_at-put cells rank file (Some c) (omega arith)))
    ∙ sym (within rules (set cells (12 * rank + file) (Some c)) rank (file + 1) more (omega arith))))
    (λ n. let from : rules.files ≤ file = ltb-false _ _ n in
    rw n (too_far rules cells rank file (Some c ∷ more) (omega arith) ∙ sym (beyond rules cells rank (min (file + 1) 65535) more (omega arith))))
    (cases_Bool (nat_lt file rules.files))

closed_run : (rules : Rules) (cells : List (Option Cell)) (rank file n : ℕ) (more : List (Option Cell)) → rules.files ≤ 12 → IsFreeFrom cells rank file
    → closed rules cells rank file (replicate n None ++ more) ≡ closed rules cells rank (min (file + min 10000 n) 65535) more
closed_run rules cells rank file n more few free =
    ⊎_elim
    (λ y. let fits : file + n ≤ rules.files = leb-true _ _ y in
    let next : min (file + min 10000 n) 65535 ≡ file + n = omega arith in
    rw next (within rules cells rank file (replicate n None ++ more) (omega arith)
    ∙ ap (sized rules) (sym (append_assoc (row_at cells rank file) (replicate n None) more) ∙ ap (λ squares. squares ++ more) (row_at-free cells rank file n free (omega arith)))
    ∙ sym (within rules cells rank (file + n) more fits)))
    (λ m. let over : rules.files < file + n = leb-false _ _ m in
    too_far rules cells rank file (replicate n None ++ more) (omega (arith, length-append (replicate {A = Option Cell} n None) more, length-replicate {A = Option Cell} n None))
    ∙ sym (beyond rules cells rank (min (file + min 10000 n) 65535) more (omega arith)))
    (cases_Bool (nat_le (file + n) rules.files))

-- a piece is put on its file
pub ended_put : (rules : Rules) (cells : List (Option Cell)) (rank file : ℕ) (c : Cell) (others : Result (List (Option Cell)) FenFault)
    → rules.files ≤ 12 → rank < 10 → length cells ≡ 120
    → ended rules cells rank file (joined (one_square (Some c)) others) ≡ ended rules (put_at rules cells rank file c) rank (min (file + 1) 65535) others
unfolding ended
ended_put rules cells rank file c (Err fault) few low long = refl
ended_put rules cells rank file c (Ok more) few low long = closed_put rules cells rank file c more few low long

-- empty squares are passed over
pub ended_run : (rules : Rules) (cells : List (Option Cell)) (rank file n : ℕ) (others : Result (List (Option Cell)) FenFault)
    → rules.files ≤ 12 → IsFreeFrom cells rank file
    → ended rules cells rank file (joined (Ok (replicate n None)) others) ≡ ended rules cells rank (min (file + min 10000 n) 65535) others
unfolding ended
ended_run rules cells rank file n (Err fault) few free = refl
ended_run rules cells rank file n (Ok more) few free = closed_run rules cells rank file n more few free

-- all is read
pub ended_all : (rules : Rules) (cells : List (Option Cell)) (rank file : ℕ) → ended rules cells rank file (squares_of rules (tokens_of []))
    ≡ (if file == rules.files then Ok (row_at cells rank rules.files) else Err Width)
unfolding ended squares_of tokens_of
ended_all rules cells rank file =
    ⊎_elim
    (λ y. let same : file ≡ rules.files = eqb-true _ _ y in
    rw (y, same) (within rules cells rank rules.files [] (omega arith) ∙ ap (sized rules) (append-nil (row_at cells rank rules.files))
    ∙ (let test : (length (row_at cells rank rules.files) == rules.files) ≡ true = eq-eqb _ _ (length-row_at cells rank rules.files) in rw test refl)))
    (λ n. rw n (⊎_elim
    (λ m. within rules cells rank file [] (leb-true _ _ m)
    ∙ wrong_size rules (row_at cells rank file ++ []) (let differs : file ≢ rules.files = eqb-false _ _ n in omega (arith, length-append (row_at cells rank file) [], length-row_at cells rank file)))
    (λ m. beyond rules cells rank file [] (leb-false _ _ m))
    (cases_Bool (nat_le file rules.files))))
    (cases_Bool (file == rules.files))

-- ---- one step of reading

ended_letter : (rules : Rules) (cells : List (Option Cell)) (rank file : ℕ) → ended rules cells rank file (Err Letter) ≡ Err Letter
unfolding ended
ended_letter rules cells rank file = refl

some_digits : (b : ℕ) (bs : List ℕ) → is_digit b ≡ true → 0 < prefix_len is_digit (b ∷ bs)
some_digits b bs y = rw y (omega arith)

no_zero : (digits : List ℕ) → begins_with_zero digits ≡ false → run_squares digits ≡ Ok (replicate (value_of digits) None)
no_zero digits n = rw n refl

zero_first : (digits : List ℕ) → begins_with_zero digits ≡ true → run_squares digits ≡ Err Width
zero_first digits y = rw y refl

ended_fault : (rules : Rules) (cells : List (Option Cell)) (rank file : ℕ) (fault : FenFault) (others : Result (List (Option Cell)) FenFault) → ended rules cells rank file (joined (Err fault) others) ≡ Err fault
unfolding ended
ended_fault rules cells rank file fault others = refl

-- a run
pub step_run : (rules : Rules) (cells : List (Option Cell)) (rank file b : ℕ) (bs text : List ℕ) → rules.files ≤ 12 → IsFreeFrom cells rank file → text ≡ b ∷ bs → is_digit b ≡ true
    → begins_with_zero (take (prefix_len is_digit text) text) ≡ false
    → ended rules cells rank file (squares_of rules (tokens_of text)) ≡ ended rules cells rank (min (file + min 10000 (value_of (take (prefix_len is_digit text) text))) 65535) (squares_of rules (tokens_of (drop (prefix_len is_digit text) text)))
step_run rules cells rank file b bs text few free is y n =
    let some : 0 < prefix_len is_digit text = rw is (some_digits b bs y) in
    ap (ended rules cells rank file) (run_then rules text some)
    ∙ ap (λ first. ended rules cells rank file (joined first (squares_of rules (tokens_of (drop (prefix_len is_digit text) text))))) (no_zero (take (prefix_len is_digit text) text) n)
    ∙ ended_run rules cells rank file (value_of (take (prefix_len is_digit text) text)) (squares_of rules (tokens_of (drop (prefix_len is_digit text) text))) few free

-- a run that begins with 0
pub step_zero : (rules : Rules) (cells : List (Option Cell)) (rank file b : ℕ) (bs text : List ℕ) → text ≡ b ∷ bs → is_digit b ≡ true
    → begins_with_zero (take (prefix_len is_digit text) text) ≡ true
    → ended rules cells rank file (squares_of rules (tokens_of text)) ≡ Err Width
step_zero rules cells rank file b bs text is y z =
    let some : 0 < prefix_len is_digit text = rw is (some_digits b bs y) in
    ap (ended rules cells rank file) (run_then rules text some)
    ∙ ap (λ first. ended rules cells rank file (joined first (squares_of rules (tokens_of (drop (prefix_len is_digit text) text))))) (zero_first (take (prefix_len is_digit text) text) z)
    ∙ ended_fault rules cells rank file Width (squares_of rules (tokens_of (drop (prefix_len is_digit text) text)))

-- a piece
pub step_put : (rules : Rules) (cells : List (Option Cell)) (rank file : ℕ) (text rest : List ℕ) (c : Cell) → rules.files ≤ 12 → rank < 10 → length cells ≡ 120
    → squares_of rules (tokens_of text) ≡ piece_first rules c rest
    → ended rules cells rank file (squares_of rules (tokens_of text)) ≡ ended rules (put_at rules cells rank file c) rank (min (file + 1) 65535) (squares_of rules (tokens_of rest))
step_put rules cells rank file text rest c few low long said =
    ap (ended rules cells rank file) said ∙ ended_put rules cells rank file c (squares_of rules (tokens_of rest)) few low long

-- no piece
pub step_bad : (rules : Rules) (cells : List (Option Cell)) (rank file : ℕ) (text : List ℕ) → squares_of rules (tokens_of text) ≡ Err Letter
    → ended rules cells rank file (squares_of rules (tokens_of text)) ≡ Err Letter
step_bad rules cells rank file text said = ap (ended rules cells rank file) said ∙ ended_letter rules cells rank file

-- the squares ahead stay free, and the other ranks as they were
pub free_put : (rules : Rules) (cells : List (Option Cell)) (rank file : ℕ) (c : Cell) → IsFreeFrom cells rank file → IsFreeFrom (put_at rules cells rank file c) rank (min (file + 1) 65535)
free_put rules cells rank file c free = λ f from below.
    let ahead : file + 1 ≤ f = omega arith in
    ⊎_elim
    (λ y. rw y (get_or-set_other cells (12 * rank + file) (12 * rank + f) (Some c) None (omega arith) ∙ free f (omega arith) below))
    (λ n. rw n (free f (omega arith) below))
    (cases_Bool (nat_lt file rules.files))

pub same_put : (rules : Rules) (first cells : List (Option Cell)) (rank file : ℕ) (c : Cell) → rules.files ≤ 12 → IsSameBut rank first cells → IsSameBut rank first (put_at rules cells rank file c)
same_put rules first cells rank file c few same = λ s differs.
    ⊎_elim
    (λ y. let below : file < rules.files = ltb-true _ _ y in
    rw y (get_or-set_other cells (12 * rank + file) s (Some c) None (omega arith) ∙ same s differs))
    (λ n. rw n (same s differs))
    (cases_Bool (nat_lt file rules.files))

-- at the end the row is there, or the rank has the wrong width
pub step_end : (rules : Rules) (cells : List (Option Cell)) (rank file : ℕ) (text : List ℕ) → text ≡ []
    → ended rules cells rank file (squares_of rules (tokens_of text)) ≡ (if file == rules.files then Ok (row_at cells rank rules.files) else Err Width)
step_end rules cells rank file text is = ap (λ t. ended rules cells rank file (squares_of rules (tokens_of t))) is ∙ ended_all rules cells rank file

pub free_after : (rules : Rules) (cells new : List (Option Cell)) (rank file next : ℕ) (c : Cell) → new ≡ put_at rules cells rank file c → next ≡ min (file + 1) 65535 → IsFreeFrom cells rank file → IsFreeFrom new rank next
free_after rules cells new rank file next c is step free = λ f from below. rw is (free_put rules cells rank file c free f (omega arith) below)

pub same_after : (rules : Rules) (first cells new : List (Option Cell)) (rank file : ℕ) (c : Cell) → new ≡ put_at rules cells rank file c → rules.files ≤ 12 → IsSameBut rank first cells → IsSameBut rank first new
same_after rules first cells new rank file c is few same = λ s differs. rw is (same_put rules first cells rank file c few same s differs)

pub no_bytes : (text : List ℕ) → length text ≡ 0 → text ≡ []
no_bytes [] h = refl
no_bytes (b ∷ bs) h = absurd (omega arith)
