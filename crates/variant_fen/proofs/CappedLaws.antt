-- A cap on the numbers of pieces in hand changes no judgement of a position.
use Rattle.std.proofs.Common.{◌≡◌, ◌⊎◌, inl, inr, ℕ, ◌+◌, ◌<◌, ◌≤◌, min, max, nat_lt, ◌==◌, Bool, true, false, ◌&&◌, ◌||◌, not, List, [], ◌∷◌, length, get_or, map, sum, Option, Ok, Err, if◌then◌else◌, refl, sym, ap, ◌∙◌, arith, ⊎_elim}
use Rattle.std.specs.declared.result.Result.{Result}
use Rattle.std.proofs.lemmas.Bool.{cases_Bool, lt-ltb, ltb-true, ltb-false}
use Rattle.std.proofs.lemmas.List.Sums.{sum_by-append}
use Rattle.rules_model.specs.declared.board.Cell.{Cell}
use Rattle.rules_model.specs.declared.board.Position.{Position}
use Rattle.rules_model.specs.declared.board.Side.{Side}
use Rattle.rules_model.specs.declared.board.Side.TheVariants.{White, Black}
use Rattle.rules_model.specs.declared.board.Square.{Square}
use Rattle.rules_model.specs.declared.rules.Rules.{Rules}
use Rattle.rules_model.specs.Ends.{pieces_of}
use Rattle.rules_model.specs.Hands.{hand_of}
use Rattle.rules_model.specs.Repeats.{repeat_of}
use Rattle.rules_model.specs.Sound.{has_its_king}
use Rattle.fen_model.specs.declared.fault.FenFault.{FenFault}
use Rattle.fen_model.specs.declared.fault.FenFault.TheVariants.{Kings, TooMany}
use Rattle.fen_model.specs.declared.held.Held.{Held}
use Rattle.fen_model.specs.Counts.{count_of}
use Rattle.fen_model.specs.Fields.{Fields}
use Rattle.fen_model.specs.Reading.{judged, position_with, said_by}
use Rattle.fen_model.proofs.HandLaws.{sound_hands}
use Rattle.variant_fen.proofs.SaidLaws.{Begun, GoneOn, said_all}
use Rattle.variant_fen.specs.Hands.{capped}

sum-cons : (x : ℕ) (xs : List ℕ) → sum (x ∷ xs) ≡ x + sum xs
sum-cons x xs =
    let all : sum (x ∷ xs) ≡ sum (x ∷ []) + sum xs = sum_by-append (λ y. y) (x ∷ []) xs in
    let one : sum (x ∷ []) ≡ x = (let e : 0 + x ≡ x = omega arith in e) in
    omega (arith, all, one)

-- a cap lowers a sum only where it leaves it above 254
capped_or_many : (hand : List ℕ) → (capped hand ≡ hand) ⊎ (255 ≤ sum (capped hand))
capped_or_many [] = inl refl
capped_or_many (x ∷ hand) =
    let whole = sum-cons (min 255 x) (capped hand) in
    ⊎_elim
    (λ (y : nat_lt x 255 ≡ true).
    let small : min 255 x ≡ x = (let below : x < 255 = ltb-true _ _ y in omega (arith, below)) in
    ⊎_elim
    (λ same. inl (ap (λ z. z ∷ capped hand) small ∙ ap (λ zs. x ∷ zs) same))
    (λ many. inr (omega (arith, whole, many)))
    (capped_or_many hand))
    (λ (n : nat_lt x 255 ≡ false).
    let large : min 255 x ≡ 255 = (let from : 255 ≤ x = ltb-false _ _ n in omega (arith, from)) in inr (omega (arith, whole, large)))
    (cases_Bool (nat_lt x 255))

capped_less : (hand : List ℕ) → sum (capped hand) ≤ sum hand
capped_less [] = omega arith
capped_less (x ∷ hand) =
    let more = capped_less hand in
    let one = sum-cons x hand in
    let other = sum-cons (min 255 x) (capped hand) in
    omega (arith, more, one, other)

-- too many pieces are too many whatever the hands are
abbrev many_fault : Bool → Result Position FenFault
many_fault kings = if not kings then Err Kings else Err TooMany

judged_many : (rules : Rules) (p : Position) → 240 < pieces_of (repeat_of p) White + pieces_of (repeat_of p) Black → judged rules p ≡ many_fault (has_its_king rules p.cells White && has_its_king rules p.cells Black)
unfolding judged
judged_many rules p many = let test = lt-ltb _ _ many in rw test refl

in_hand_few : (p : Position) (side : Side) → sum (hand_of p.hands side) ≤ pieces_of (repeat_of p) side
unfolding pieces_of
in_hand_few p side = omega arith

both_many : (rules : Rules) (p q : Position) (side : Side) → p.cells ≡ q.cells → 255 ≤ sum (hand_of p.hands side) → 255 ≤ sum (hand_of q.hands side) → judged rules p ≡ judged rules q
both_many rules p q White same a b =
    let first = in_hand_few p White in
    let second = in_hand_few q White in
    judged_many rules p (omega (arith, a, first)) ∙ ap (λ cells. many_fault (has_its_king rules cells White && has_its_king rules cells Black)) same ∙ sym (judged_many rules q (omega (arith, b, second)))
both_many rules p q Black same a b =
    let first = in_hand_few p Black in
    let second = in_hand_few q Black in
    judged_many rules p (omega (arith, a, first)) ∙ ap (λ cells. many_fault (has_its_king rules cells White && has_its_king rules cells Black)) same ∙ sym (judged_many rules q (omega (arith, b, second)))

judged_two : (rules : Rules) (p : Position) (white black : List ℕ) → judged rules (record p { hands = white ∷ black ∷ [] }) ≡ judged rules (record p { hands = capped white ∷ capped black ∷ [] })
judged_two rules p white black =
    ⊎_elim
    (λ (w : capped white ≡ white). ⊎_elim
    (λ (b : capped black ≡ black). ap (λ x. judged rules (record p { hands = x ∷ black ∷ [] })) (sym w) ∙ ap (λ y. judged rules (record p { hands = capped white ∷ y ∷ [] })) (sym b))
    (λ (many : 255 ≤ sum (capped black)). let less = capped_less black in
    both_many rules (record p { hands = white ∷ black ∷ [] }) (record p { hands = capped white ∷ capped black ∷ [] }) Black refl (omega (arith, many, less)) many)
    (capped_or_many black))
    (λ (many : 255 ≤ sum (capped white)). let less = capped_less white in
    both_many rules (record p { hands = white ∷ black ∷ [] }) (record p { hands = capped white ∷ capped black ∷ [] }) White refl (omega (arith, many, less)) many)
    (capped_or_many white)

-- a position is judged as it is with capped hands
pub judged_capped : (rules : Rules) (p : Position) (said : List (List ℕ)) → length said ≡ 2 → judged rules (record p { hands = said }) ≡ judged rules (record p { hands = map capped said })
judged_capped rules p [] two = absurd (omega arith)
judged_capped rules p (white ∷ []) two = absurd (omega arith)
judged_capped rules p (white ∷ black ∷ []) two = judged_two rules p white black
judged_capped rules p (white ∷ black ∷ other ∷ said) two = absurd (omega arith)

-- what the fields say is judged with capped hands
pub said_judged : (rules : Rules) (f : Fields) (cells : List (Option Cell)) (hands said : List (List ℕ)) (side : Side) (held : Held) (ep : Option Square) (checks : List ℕ) (counter number n : ℕ) (r : Result Position FenFault)
    → Begun rules f cells said side → GoneOn rules f cells side held ep checks → count_of f.halfmoves ≡ Ok counter → count_of f.number ≡ Ok number → hands ≡ map capped said → n ≡ max number 1
    → judged rules (position_with cells hands side held ep checks counter n) ≡ r → said_by rules f ≡ r
said_judged rules f cells hands said side held ep checks counter number n r begun gone half whole cap least is =
    said_all rules f cells said side held ep checks counter number begun gone half whole
    ∙ judged_capped rules (position_with cells said side held ep checks counter (max number 1)) said (sound_hands rules f.pocket said begun.hands_read).0.two
    ∙ ap (λ h. judged rules (position_with cells h side held ep checks counter (max number 1))) (sym cap)
    ∙ ap (λ k. judged rules (position_with cells hands side held ep checks counter k)) (sym least)
    ∙ is
