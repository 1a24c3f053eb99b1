-- Lists of words, moves and plies, as loops go over them.
use Rattle.std.proofs.Common.{◌≡◌, ◌∙◌, ℕ, zero, suc, ◌+◌, ◌-◌, ◌≤◌, ◌<◌, List, [], ◌∷◌, ◌++◌, length, take, filter, Bool, true, false, Option, Some, None, Result, Ok, Err, if◌then◌else◌, slice_get, inl, inr, refl, sym, ap, arith, append_assoc}
use Rattle.std.specs.Prelude.{nat_lt, codes}
use Rattle.std.specs.List.{join_with_byte}
use Rattle.std.proofs.lemmas.List.{length-take}
use Rattle.std.proofs.lemmas.List.Elements.{filter-append}
use Rattle.foundation.specs.Member.{Member}
use Rattle.foundation.specs.Tests.{is_nil}
use Rattle.io_ports.specs.Lines.{Line}
use Rattle.rules_model.specs.declared.moves.Move.{Move}
use Rattle.game_play.specs.Played.{Played, longer}
use Rattle.game_text.specs.Playing.{goes_on, move_of, most_plies, play}
use Rattle.game_text.specs.declared.fault.GameFault.{GameFault}
use Rattle.game_text.specs.declared.fault.GameFault.TheVariants.{TooManyMoves}
use Rattle.session_model.specs.CecpState.{State, Answer, error, illegal, played, result_line, result_of, says, user_move, with_played}
use Rattle.session_model.specs.UciGo.{Go, is_named, or_all, roots_of}

-- ---- words

pub join_snoc : (c : ℕ) (xs : List (List ℕ)) (x : List ℕ)
    → join_with_byte c (xs ++ x ∷ []) ≡ (if is_nil xs then x else join_with_byte c xs ++ c ∷ x)
join_snoc c [] x = refl
join_snoc c (y ∷ []) x = refl
join_snoc c (y ∷ z ∷ xs) x = ap (λ more. y ++ c ∷ more) (join_snoc c (z ∷ xs) x) ∙ sym (append_assoc y (c ∷ join_with_byte c (z ∷ xs)) (c ∷ x))

-- ---- the first elements

take_suc : {X : Type 0} (i : ℕ) (xs : List X) (x : X) → slice_get xs i ≡ Some x → take (suc i) xs ≡ take i xs ++ x ∷ []
take_suc i [] x h = cc
take_suc zero (y ∷ ys) x h = let is : y ≡ x = cc in ap (λ z. z ∷ []) is
take_suc (suc i) (y ∷ ys) x h = ap (λ more. y ∷ more) (take_suc i ys x h)

pub take_more : {X : Type 0} (i : ℕ) (xs : List X) (x : X) → slice_get xs i ≡ Some x → take (i + 1) xs ≡ take i xs ++ x ∷ []
take_more i xs x h = let next : i + 1 ≡ suc i = omega arith in ap (λ n. take n xs) next ∙ take_suc i xs x h

pub filter_take : {X : Type 0} (p : X → Bool) (i : ℕ) (xs : List X) (x : X) → slice_get xs i ≡ Some x
    → filter p (take (i + 1) xs) ≡ filter p (take i xs) ++ (if p x then x ∷ [] else [])
filter_take p i xs x h = ap (λ ys. filter p ys) (take_more i xs x h) ∙ filter-append p (take i xs) (x ∷ [])

take_within : {X : Type 0} (i j : ℕ) (xs : List X) → i ≤ j → take i (take j xs) ≡ take i xs
take_within zero j xs h = refl
take_within (suc i) zero xs h = absurd (omega arith)
take_within (suc i) (suc j) [] h = refl
take_within (suc i) (suc j) (x ∷ xs) h = ap (λ more. x ∷ more) (take_within i j xs (omega arith))

-- two elements are taken from the end, one after the other
pub take_twice : {X : Type 0} (xs : List X) → 2 ≤ length xs
    → take (length (take (length xs - 1) xs) - 1) (take (length xs - 1) xs) ≡ take (length xs - 2) xs
take_twice xs h =
    let count : length (take (length xs - 1) xs) ≡ length xs - 1 = length-take (length xs - 1) xs ∙ omega arith in
    let less : length xs - 1 - 1 ≡ length xs - 2 = omega arith in
    rw (count, less) (take_within (length xs - 2) (length xs - 1) xs (omega arith))

-- ---- root moves

if_member : {X : Type 0} (b : Bool) (x y : X) (kept ys : List X) → (Member x kept → Member x ys) → Member x (if b then y ∷ kept else kept) → Member x (y ∷ ys)
if_member true x y kept ys from (inl is) = inl is
if_member true x y kept ys from (inr there) = inr (from there)
if_member false x y kept ys from there = inr (from there)

pub filter_member : {X : Type 0} (p : X → Bool) (xs : List X) (x : X) → Member x (filter p xs) → Member x xs
filter_member p [] x h = h
filter_member p (y ∷ ys) x h = if_member (p y) x y (filter p ys) ys (filter_member p ys x) h

pub roots_legal : (go : Go) (legal : List Move) (m : Move) → Member m (roots_of go legal) → Member m legal
unfolding roots_of
roots_legal go legal m h = by_named (filter (is_named go.searchmoves) legal) (filter_member (is_named go.searchmoves) legal m) h
  where
    by_named : (named : List Move) → (Member m named → Member m legal) → Member m (or_all named legal) → Member m legal
    by_named [] from h = h
    by_named (first ∷ more) from h = from h

pub roots_some : (go : Go) (first : Move) (legal : List Move) → 0 < length (roots_of go (first ∷ legal))
unfolding roots_of
roots_some go first legal = by_named (filter (is_named go.searchmoves) (first ∷ legal))
  where
    by_named : (named : List Move) → 0 < length (or_all named (first ∷ legal))
    by_named [] = omega arith
    by_named (m ∷ more) = omega arith

-- ---- a move that is played by its text

-- the answer to a user's move, by what `play` answers
abbrev pub played_or : State → Line → List ℕ → Result Played GameFault → Answer
played_or state line text (Ok g) = says (with_played state g) (result_line (result_of g))
played_or state line text (Err TooManyMoves) = says state (error (codes "too many moves") line)
played_or state line text (Err fault) = says state (illegal text)

pub user_move_of_play : (state : State) (line : Line) (text : List ℕ)
    → user_move state line text (move_of state.game text) ≡ played_or state line text (play state.game text)
unfolding play
user_move_of_play state line text = by_move (move_of state.game text)
  where
    by_move : (m : Option Move) → user_move state line text m ≡ played_or state line text (goes_on state.game text m)
    by_move None = refl
    by_move (Some m) = by_room m (nat_lt (length state.game.moves) most_plies)
      where
        by_room : (m : Move) (b : Bool) → (if b then played state m else says state (error (codes "too many moves") line)) ≡ played_or state line text (if b then Ok (longer state.game m) else Err TooManyMoves)
        by_room m true = refl
        by_room m false = refl
