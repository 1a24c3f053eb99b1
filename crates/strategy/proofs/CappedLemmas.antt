-- Numbers above 2^64 - 1, which code counts as that one, change no answer.
use Rattle.std.proofs.Common.{◌≡◌, ℕ, ◌<◌, ◌≤◌, ◌-◌, ◌≢◌, ◌==◌, nat_lt, nat_le, Bool, true, false, ◌&&◌, List, Option, Some, None, Err, length, if◌then◌else◌, refl, sym, ap, ◌∙◌, arith, true≢false}
use Rattle.std.specs.Option.{option_map}
use Rattle.std.specs.Prelude.{slice_get}
use Rattle.std.proofs.lemmas.Bool.{and_parts, eq-eqb, eqb-true, leb-true, le-leb, lt-ltb, ltb-true, le-ltb, ne_eqb}
use Rattle.fen_model.specs.Reading.{fen_of}
use Rattle.move_text.specs.Read.{move_said}
use Rattle.rules_model.specs.declared.rules.Rules.{Rules}
use Rattle.strategy.specs.declared.fault.StrategyFault.TheVariants.{BadNumber}
use Rattle.strategy.specs.declared.nodes.Node.{Node}
use Rattle.strategy.specs.declared.reader.Reader.{Reader}
use Rattle.strategy.specs.Said.{Said, node_line, edge_line, end_line, said}
use Rattle.foundation.specs.Numbers.{capped}
use Rattle.strategy.specs.SaidView.{said_capped}
use Rattle.strategy.specs.Reading.{is_next, with_position, with_node, with_move, edge_from, with_edge, with_said, with_text}

same_test : (s t : Bool) → (s ≡ true → t ≡ true) → (t ≡ true → s ≡ true) → s ≡ t
same_test true true f g = refl
same_test false false f g = refl
same_test true false f g = sym (f refl)
same_test false true f g = g refl

eq_capped : (n k : ℕ) → k < 18446744073709551615 → (capped n == k) ≡ (n == k)
eq_capped n k small =
    same_test (capped n == k) (n == k)
    (λ e. let is = eqb-true (capped n) k e in eq-eqb n k (omega (arith, is)))
    (λ e. let is = eqb-true n k e in eq-eqb (capped n) k (omega (arith, is)))

le_capped : (n k : ℕ) → k < 18446744073709551615 → nat_le (capped n) k ≡ nat_le n k
le_capped n k small =
    same_test (nat_le (capped n) k) (nat_le n k)
    (λ e. let is = leb-true (capped n) k e in le-leb n k (omega (arith, is)))
    (λ e. let is = leb-true n k e in le-leb (capped n) k (omega (arith, is)))

lt_capped : (n k : ℕ) → k ≤ 18446744073709551615 → nat_lt (capped n) k ≡ nat_lt n k
lt_capped n k small =
    same_test (nat_lt (capped n) k) (nat_lt n k)
    (λ e. let is = ltb-true (capped n) k e in lt-ltb n k (omega (arith, is)))
    (λ e. let is = ltb-true n k e in lt-ltb (capped n) k (omega (arith, is)))

three_same : (a a' b c c' : Bool) → (b ≡ true → a ≡ a') → c ≡ c' → (a && b && c) ≡ (a' && b && c')
three_same a a' true c c' f e = ap (λ x. x && true && c) (f refl) ∙ ap (λ x. a' && true && x) e
three_same true true false c c' f e = refl
three_same true false false c c' f e = refl
three_same false true false c c' f e = refl
three_same false false false c c' f e = refl

next_capped : (b : Reader) (number rank : ℕ) → b.announced ≤ 18446744073709551615 → is_next b (capped number) (capped rank) ≡ is_next b number rank
next_capped b number rank small =
    three_same (capped number == length b.nodes) (number == length b.nodes) (nat_lt (length b.nodes) b.announced) (nat_le (capped rank) 65535) (nat_le rank 65535)
    (λ below. let less = ltb-true (length b.nodes) b.announced below in eq_capped number (length b.nodes) (omega (arith, less)))
    (le_capped rank 65535 (omega arith))

next_rank : (b : Reader) (number rank : ℕ) → is_next b number rank ≡ true → capped rank ≡ rank
next_rank b number rank next =
    let small = leb-true rank 65535 (and_parts ((number == length b.nodes) && nat_lt (length b.nodes) b.announced) (nat_le rank 65535) next).1 in
    omega (arith, small)

node_if : (rules : Rules) (b : Reader) (number rank : ℕ) (fen : List ℕ) (t : Bool) → is_next b number rank ≡ t
    → (if t then with_position b (capped rank) (fen_of rules fen) else Err (BadNumber b.line)) ≡ (if t then with_position b rank (fen_of rules fen) else Err (BadNumber b.line))
node_if rules b number rank fen false next = refl
node_if rules b number rank fen true next = ap (λ r. with_position b r (fen_of rules fen)) (next_rank b number rank next)

node_capped : (rules : Rules) (b : Reader) (number rank : ℕ) (fen : List ℕ) → b.announced ≤ 18446744073709551615
    → with_node rules b (capped number) (capped rank) fen ≡ with_node rules b number rank fen
unfolding with_node
node_capped rules b number rank fen small =
    ap (λ t. if t then with_position b (capped rank) (fen_of rules fen) else Err (BadNumber b.line)) (next_capped b number rank small)
    ∙ node_if rules b number rank fen (is_next b number rank) refl

edge_if : (rules : Rules) (b : Reader) (v : Node) (chosen : List ℕ) (to : ℕ) (t : Bool) → nat_lt to b.announced ≡ t → b.announced ≤ 18446744073709551615
    → (if t then with_move b (capped to) (move_said rules v.position chosen) else Err (BadNumber b.line)) ≡ (if t then with_move b to (move_said rules v.position chosen) else Err (BadNumber b.line))
edge_if rules b v chosen to false below small = refl
edge_if rules b v chosen to true below small =
    let less = ltb-true to b.announced below in
    let is : capped to ≡ to = omega (arith, less) in
    ap (λ n. with_move b n (move_said rules v.position chosen)) is

edge_capped_from : (rules : Rules) (b : Reader) (chosen : List ℕ) (to : ℕ) (o : Option Node) → b.announced ≤ 18446744073709551615
    → edge_from rules b chosen (capped to) o ≡ edge_from rules b chosen to o
edge_capped_from rules b chosen to None small = refl
edge_capped_from rules b chosen to (Some v) small =
    ap (λ t. if t then with_move b (capped to) (move_said rules v.position chosen) else Err (BadNumber b.line)) (lt_capped to b.announced small)
    ∙ edge_if rules b v chosen to (nat_lt to b.announced) refl small

edge_capped : (rules : Rules) (b : Reader) (chosen : List ℕ) (to : ℕ) → b.announced ≤ 18446744073709551615
    → with_edge rules b chosen (capped to) ≡ with_edge rules b chosen to
unfolding with_edge
edge_capped rules b chosen to small = edge_capped_from rules b chosen to (slice_get b.nodes (length b.nodes - 1)) small

pub said-capped : (rules : Rules) (b : Reader) (o : Option Said) → b.announced ≤ 18446744073709551615 → with_said rules b (option_map said_capped o) ≡ with_said rules b o
unfolding with_said
said-capped rules b None small = refl
said-capped rules b (Some (node_line number rank fen)) small = node_capped rules b number rank fen small
said-capped rules b (Some (edge_line chosen to)) small = edge_capped rules b chosen to small
said-capped rules b (Some end_line) small = refl

five_tests : {A : Type 0} (s t u v w : Bool) (a b c d e f : A) → s ≡ false → t ≡ false → u ≡ false → v ≡ false → w ≡ false → (if s then a else if t then b else if u then c else if v then d else if w then e else f) ≡ f
five_tests false false false false false a b c d e f hs ht hu hv hw = refl
five_tests true t u v w a b c d e f hs ht hu hv hw = absurd (true≢false hs)
five_tests false true u v w a b c d e f hs ht hu hv hw = absurd (true≢false ht)
five_tests false false true v w a b c d e f hs ht hu hv hw = absurd (true≢false hu)
five_tests false false false true w a b c d e f hs ht hu hv hw = absurd (true≢false hv)
five_tests false false false false true a b c d e f hs ht hu hv hw = absurd (true≢false hw)

pub text-later : (rules : Rules) (b : Reader) (text : List ℕ) → length text ≤ 2048 → b.is_ended ≡ false → b.line ≢ 1 → b.line ≢ 2 → b.line ≢ 3 → with_text rules b text ≡ with_said rules b (said text)
unfolding with_text
text-later rules b text short open_yet one two three =
    five_tests (nat_lt 2048 (length text)) b.is_ended (b.line == 1) (b.line == 2) (b.line == 3) _ _ _ _ _ _
    (le-ltb 2048 (length text) short) open_yet (ne_eqb b.line 1 one) (ne_eqb b.line 2 two) (ne_eqb b.line 3 three)

-- what a line says, where it is not one of the header or after the end
pub text-said : (rules : Rules) (b : Reader) (text : List ℕ) (o : Option Said) → o ≡ option_map said_capped (said text) → b.announced ≤ 18446744073709551615 → length text ≤ 2048 → b.is_ended ≡ false
    → b.line ≢ 1 → b.line ≢ 2 → b.line ≢ 3 → with_said rules b o ≡ with_text rules b text
text-said rules b text o is small short open_yet one two three =
    ap (with_said rules b) is ∙ said-capped rules b (said text) small ∙ sym (text-later rules b text short open_yet one two three)
