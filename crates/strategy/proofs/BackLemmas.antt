-- The text of a strategy is read back: what its lines say.
use Rattle.std.proofs.Common.{◌≡◌, ℕ, ◌+◌, ◌/◌, ◌%◌, ◌^◌, ◌<◌, ◌≤◌, ◌==◌, nat_lt, nat_le, Bool, true, false, not, List, [], ◌∷◌, ◌++◌, length, take, drop, Option, Some, None, Ok, Err, if◌then◌else◌, slice_index, refl, sym, ap, ◌∙◌, arith, append_assoc, length-append, true≢false}
use Rattle.std.specs.Prelude.{Result, codes, position}
use Rattle.std.specs.Fmt.{decimal}
use Rattle.std.specs.List.{list_all, position_or_len}
use Rattle.std.proofs.Math.Seq.{drop-append-add, take-append_seam}
use Rattle.std.proofs.lemmas.Bool.{and_from, and_parts, eq-eqb, leb-true, lt-ltb, ltb-false, ltb-true}
use Rattle.std.proofs.lemmas.Fmt.{length-decimal-le}
use Rattle.std.proofs.lemmas.List.Folds.{list_all-append}
use Rattle.foundation.specs.Count.{all_below}
use Rattle.foundation.proofs.CountLemmas.{all_below-each}
use Rattle.rules_model.specs.declared.board.Kind.{Kind}
use Rattle.rules_model.specs.declared.board.Position.{Position}
use Rattle.rules_model.specs.declared.board.Side.{Side}
use Rattle.rules_model.specs.declared.board.Side.TheVariants.{White, Black}
use Rattle.rules_model.specs.declared.board.Square.{Square}
use Rattle.rules_model.specs.declared.moves.Move.{Move}
use Rattle.rules_model.specs.declared.moves.Move.TheVariants.{Go, Castle, Drop}
use Rattle.rules_model.specs.declared.moves.Placed.{Placed}
use Rattle.rules_model.specs.declared.moves.Promo.{Promo}
use Rattle.rules_model.specs.declared.moves.Promo.TheVariants.{Stays, Pawn, Plus}
use Rattle.rules_model.specs.declared.rules.Rules.{Rules}
use Rattle.rules_model.specs.Fit.{IsFit}
use Rattle.rules_model.specs.MoveText.{castle_text, gate_text, lower, promo_text, square_text, text_of}
use Rattle.rules_model.specs.Repeats.{repeat_of}
use Rattle.rules_model.specs.Sound.{is_sound}
use Rattle.fen_model.specs.declared.fault.FenFault.TheVariants.{Length}
use Rattle.fen_model.specs.declared.fault.FenFault.{FenFault}
use Rattle.fen_model.specs.Chain as fen
use Rattle.fen_model.specs.Fields.{Fields, fields_of}
use Rattle.foundation.specs.Numbers.{is_digit, number_of}
use Rattle.fen_model.specs.Printing.{board_text, ep_text, fen_text, field_texts, pocket_text, side_text}
use Rattle.fen_model.specs.Reading.{fen_of, said_by}
use Rattle.fen_model.proofs.BackLaws.{board-bytes, good-board, is_board_byte}
use Rattle.fen_model.proofs.DecimalLaws.{decimal-writes, number-back}
use Rattle.fen_model.proofs.HandBack.{is_pocket_byte, pocket-bytes}
use Rattle.fen_model.proofs.HeldBack.{rights-all}
use Rattle.fen_model.proofs.JoinLaws.{Each, Lacks, join-all, lacks-from}
use Rattle.fen_model.proofs.SoundParts.{Parts, parts}
use Rattle.foundation.specs.Cuts.{cut, cut_where}
use Rattle.strategy.specs.Said.{count_after, count_said, edge_after, edge_line, edge_said, edge_to, node_after, node_line, node_ranked, node_said, node_with, said, said_after}
use Rattle.strategy.specs.declared.nodes.Edge.{Edge}
use Rattle.strategy.specs.declared.nodes.Node.{Node}
use Rattle.strategy.specs.Writing.{count_text, edge_text, node_text}

-- ---- bytes of texts

-- the bytes are above n: above 32 in words, which have no blank, and above 13 in lines, which have no end of a line
abbrev pub Above : ℕ → List ℕ → Type 0
Above n text = list_all (λ b. nat_lt n b) text ≡ true

weaker : (q r : ℕ → Bool) → ((b : ℕ) → q b ≡ true → r b ≡ true) → (text : List ℕ) → list_all q text ≡ true → list_all r text ≡ true
weaker q r f [] all = refl
weaker q r f (b ∷ text) all =
    let both = and_parts (q b) (list_all q text) all in
    and_from _ _ (f b both.0) (weaker q r f text both.1)

pub lower-above : (text : List ℕ) → Above 32 text → Above 13 text
lower-above text all = weaker (λ b. nat_lt 32 b) (λ b. nat_lt 13 b) (λ b h. let less = ltb-true 32 b h in lt-ltb 13 b (omega (arith, less))) text all

pub above-append : (n : ℕ) (xs ys : List ℕ) → Above n xs → Above n ys → Above n (xs ++ ys)
above-append n xs ys f g = list_all-append (λ b. nat_lt n b) xs ys ∙ and_from _ _ f g

pub above-lacks : (n byte : ℕ) (text : List ℕ) → nat_lt n byte ≡ false → Above n text → Lacks byte text
above-lacks n byte text not_above all = lacks-from (λ b. nat_lt n b) byte text not_above all

-- a test that no byte up to 13 passes
high_if : (q : ℕ → Bool) (b : ℕ) (t : Bool) → nat_lt 13 b ≡ t → all_below (λ k. not (q k)) 14 ≡ true → q b ≡ true → nat_lt 13 b ≡ true
high_if q b true is none passes = is
high_if q b false is none passes =
    let small = ltb-false 13 b is in
    let not_passed = all_below-each (λ k. not (q k)) 14 none b (omega (arith, small)) in
    absurd (true≢false (sym not_passed ∙ ap not passes))

from_test : (q : ℕ → Bool) (text : List ℕ) → all_below (λ k. not (q k)) 14 ≡ true → list_all q text ≡ true → Above 13 text
from_test q text none all = weaker q (λ b. nat_lt 13 b) (λ b passes. high_if q b (nat_lt 13 b) refl none passes) text all

digit_above : (b : ℕ) → is_digit b ≡ true → nat_lt 32 b ≡ true
digit_above b h = let least = leb-true 48 b (and_parts (nat_le 48 b) (nat_le b 57) h).0 in lt-ltb 32 b (omega (arith, least))

pub decimal-above : (n : ℕ) → n < 2 ^ 64 → Above 32 (decimal n)
decimal-above n small = weaker is_digit (λ b. nat_lt 32 b) digit_above (decimal n) (decimal-writes n small).digits

pub decimal-short : (n : ℕ) → n < 2 ^ 64 → length (decimal n) ≤ 20
decimal-short n small = length-decimal-le 20 n (omega arith) (omega arith) small

-- ---- moves

above_one : (b : ℕ) → 32 < b → Above 32 (b ∷ [])
above_one b h = and_from _ _ (lt-ltb 32 b h) refl

digits_if : (n : ℕ) (t : Bool) → Above 32 (if t then (48 + n) ∷ [] else ((48 + n / 10) ∷ (48 + n % 10) ∷ []))
digits_if n true = above_one (48 + n) (omega arith)
digits_if n false = and_from _ _ (lt-ltb 32 (48 + n / 10) (omega arith)) (above_one (48 + n % 10) (omega arith))

square-above : (s : Square) → Above 32 (square_text s)
square-above s = and_from _ _ (lt-ltb 32 (97 + s.0 % 12) (omega arith)) (digits_if (s.0 / 12 + 1) (nat_lt (s.0 / 12 + 1) 10))

lower_above : (kind : Kind) → Above 32 (lower kind ∷ [])
lower_above kind = above_one (97 + kind.0 % 26) (omega arith)

promo-above : (promo : Promo) → Above 32 (promo_text promo)
promo-above Stays = refl
promo-above (Pawn kind) = lower_above kind
promo-above Plus = refl

gate-above : (gate : Option Kind) → Above 32 (gate_text gate)
gate-above None = refl
gate-above (Some kind) = lower_above kind

two_squares-above : (s t : Square) → Above 32 (square_text s ++ square_text t)
two_squares-above s t = above-append 32 (square_text s) (square_text t) (square-above s) (square-above t)

placed_if-above : (from to rook : Square) (kind : Kind) (t : Bool)
    → Above 32 (if t then square_text rook ++ square_text from ++ (lower kind ∷ []) else (square_text from ++ square_text to ++ (lower kind ∷ [])))
placed_if-above from to rook kind true = above-append 32 (square_text rook ++ square_text from) (lower kind ∷ []) (two_squares-above rook from) (lower_above kind)
placed_if-above from to rook kind false = above-append 32 (square_text from ++ square_text to) (lower kind ∷ []) (two_squares-above from to) (lower_above kind)

castle-above : (from to rook : Square) (gate : Option Placed) → Above 32 (castle_text from to rook gate)
castle-above from to rook None = two_squares-above from to
castle-above from to rook (Some placed) = placed_if-above from to rook placed.kind (placed.at.0 == rook.0)

pub move-above : (m : Move) → Above 32 (text_of m)
unfolding text_of
move-above (Go from to promo gate) =
    above-append 32 (square_text from ++ square_text to ++ promo_text promo) (gate_text gate)
    (above-append 32 (square_text from ++ square_text to) (promo_text promo) (two_squares-above from to) (promo-above promo)) (gate-above gate)
move-above (Castle from to rook gate) = castle-above from to rook gate
move-above (Drop kind to) = and_from _ _ (lt-ltb 32 (65 + kind.0 % 26) (omega arith)) (and_from _ _ refl (square-above to))

short_if : (n : ℕ) (t : Bool) → length (if t then (48 + n) ∷ [] else ((48 + n / 10) ∷ (48 + n % 10) ∷ [])) ≤ 2
short_if n true = omega arith
short_if n false = omega arith

square-short : (s : Square) → length (square_text s) ≤ 3
square-short s = let short = short_if (s.0 / 12 + 1) (nat_lt (s.0 / 12 + 1) 10) in omega (arith, short)

promo-short : (promo : Promo) → length (promo_text promo) ≤ 1
promo-short Stays = omega arith
promo-short (Pawn kind) = omega arith
promo-short Plus = omega arith

gate-short : (gate : Option Kind) → length (gate_text gate) ≤ 1
gate-short None = omega arith
gate-short (Some kind) = omega arith

two-short : (s t : Square) → length (square_text s ++ square_text t) ≤ 6
two-short s t = omega (arith, square-short s, square-short t, length-append (square_text s) (square_text t))

placed_if-short : (from to rook : Square) (kind : Kind) (t : Bool)
    → length (if t then square_text rook ++ square_text from ++ (lower kind ∷ []) else (square_text from ++ square_text to ++ (lower kind ∷ []))) ≤ 8
placed_if-short from to rook kind true = omega (arith, two-short rook from, length-append (square_text rook ++ square_text from) (lower kind ∷ []))
placed_if-short from to rook kind false = omega (arith, two-short from to, length-append (square_text from ++ square_text to) (lower kind ∷ []))

castle-short : (from to rook : Square) (gate : Option Placed) → length (castle_text from to rook gate) ≤ 8
castle-short from to rook None = let short = two-short from to in omega (arith, short)
castle-short from to rook (Some placed) = placed_if-short from to rook placed.kind (placed.at.0 == rook.0)

pub move-short : (m : Move) → length (text_of m) ≤ 8
unfolding text_of
move-short (Go from to promo gate) =
    omega (arith, two-short from to, promo-short promo, gate-short gate, length-append (square_text from ++ square_text to) (promo_text promo), length-append (square_text from ++ square_text to ++ promo_text promo) (gate_text gate))
move-short (Castle from to rook gate) = castle-short from to rook gate
move-short (Drop kind to) = let short = square-short to in omega (arith, short)

-- ---- FEN

board_high : all_below (λ k. not (is_board_byte k)) 14 ≡ true
unfolding all_below
board_high = refl

pocket_high : all_below (λ k. not (is_pocket_byte k)) 14 ≡ true
unfolding all_below
pocket_high = refl

abbrev held_soundly : (rules : Rules) (p : Position) → Parts rules p → Type 0
held_soundly rules p o = list_all is_pocket_byte (pocket_text rules p.hands) ≡ true

pocket_all : (rules : Rules) (p : Position) (o : Parts rules p) → held_soundly rules p o
pocket_all rules p o = pocket-bytes rules p.hands (λ side k below. all_below-each _ 26 (o.hand side) k below)

side-above : (side : Side) → Above 13 (side_text side)
side-above White = refl
side-above Black = refl

ep-above : (ep : Option Square) → Above 13 (ep_text ep)
ep-above None = refl
ep-above (Some s) = lower-above (square_text s) (square-above s)

number-above : (n : ℕ) → n ≤ 9999 → Above 13 (decimal n)
number-above n small = lower-above (decimal n) (decimal-above n (omega arith))

counts_if : (t : Bool) (white black counter number : ℕ) → white ≤ 99 → black ≤ 99 → counter ≤ 9999 → number ≤ 9999
    → Each (Above 13) ((if t then (decimal white ++ 43 ∷ decimal black) ∷ [] else []) ++ decimal counter ∷ decimal number ∷ [])
counts_if true white black counter number w b c n =
    (above-append 13 (decimal white) (43 ∷ decimal black) (number-above white (omega arith)) (and_from _ _ refl (number-above black (omega arith))), (number-above counter c, (number-above number n, tt)))
counts_if false white black counter number w b c n = (number-above counter c, (number-above number n, tt))

fen_above : (rules : Rules) (p : Position) → IsFit rules → Parts rules p → Above 13 (fen_text rules p)
unfolding fen_text field_texts
fen_above rules p fit o =
    join-all (λ b. nat_lt 13 b) 32 (field_texts rules p) refl (
      above-append 13 (board_text rules p.cells) (pocket_text rules p.hands)
          (from_test is_board_byte (board_text rules p.cells) board_high (board-bytes rules p.cells fit (good-board rules p o)))
          (from_test is_pocket_byte (pocket_text rules p.hands) pocket_high (pocket_all rules p o)),
      (
        side-above p.side,
        (
          rights-all (λ b. nat_lt 13 b) rules (repeat_of p) refl refl,
          (ep-above p.ep, counts_if rules.check_counting (slice_index p.checks 0) (slice_index p.checks 1) p.counter p.number (o.checks White) (o.checks Black) o.counter o.most),
        ),
      ),
    )

pub fen-above : (rules : Rules) (p : Position) → IsFit rules → is_sound rules p ≡ true → Above 13 (fen_text rules p)
fen-above rules p fit sound = fen_above rules p fit (parts rules p sound)

within_if : (rules : Rules) (t : Bool) (r : Result Fields FenFault) (p : Position) → fen.◌>>=◌ (if t then Err Length else r) (said_by rules) ≡ Ok p → t ≡ false
within_if rules true r p is = absurd (cc)
within_if rules false r p is = refl

pub fen-short : (rules : Rules) (text : List ℕ) (p : Position) → fen_of rules text ≡ Ok p → length text ≤ 1024
unfolding fen_of fields_of
fen-short rules text p is = ltb-false 1024 (length text) (within_if rules (nat_lt 1024 (length text)) _ p is)

-- ---- words

abbrev is_byte : ℕ → ℕ → Bool
is_byte byte b = b == byte

module _ (byte : ℕ) where
  place_at : (text rest : List ℕ) → Lacks byte text → position_or_len (is_byte byte) (text ++ byte ∷ rest) ≡ length text
  place_at [] rest lacks =
      let here : (byte == byte) ≡ true = eq-eqb byte byte refl in
      rw here refl
  place_at (b ∷ text) rest lacks =
      let both = and_parts (not (b == byte)) (list_all (λ c. not (c == byte)) text) lacks in
      let here = both.0 in
      let more = place_at text rest both.1 in
      rw here (omega (arith, more))

  place_is : (text : List ℕ) (n : ℕ) → position_or_len (is_byte byte) text ≡ n → n < length text → position (is_byte byte) text ≡ Some n
  place_is text n is below =
      let within : nat_lt n (length text) ≡ true = lt-ltb n (length text) below in
      rw is (rw within refl)

  cut_at : (text : List ℕ) (n : ℕ) → position (is_byte byte) text ≡ Some n → cut byte text ≡ (take n text, Some (drop (n + 1) text))
  unfolding cut
  cut_at text n is = ap (cut_where text) is

  -- a text is cut after a word without the byte
  pub cut-word : (word rest : List ℕ) → Lacks byte word → cut byte (word ++ byte ∷ rest) ≡ (word, Some rest)
  cut-word word rest lacks =
      let front = take-append_seam word (byte ∷ rest) in
      let back : drop (length word + 1) (word ++ byte ∷ rest) ≡ rest = drop-append-add word (byte ∷ rest) 1 in
      cut_at (word ++ byte ∷ rest) (length word) (place_is (word ++ byte ∷ rest) (length word) (place_at word rest lacks) (omega (arith, length-append word (byte ∷ rest))))
      ∙ ap (λ w. (w, Some (drop (length word + 1) (word ++ byte ∷ rest)))) front
      ∙ ap (λ r. (word, Some r)) back

-- ---- lines

abbrev words_of : (a b c : List ℕ) → List ℕ
words_of a b c = a ++ 32 ∷ (b ++ 32 ∷ c)

node_words : (a b c : List ℕ) → codes "node " ++ a ++ codes " " ++ b ++ codes " " ++ c ≡ codes "node" ++ 32 ∷ words_of a b c
node_words a b c =
    append_assoc (codes "node " ++ a ++ codes " " ++ b) (codes " ") c
    ∙ append_assoc (codes "node " ++ a ++ codes " ") b (32 ∷ c)
    ∙ append_assoc (codes "node " ++ a) (codes " ") (b ++ 32 ∷ c)
    ∙ append_assoc (codes "node ") a (32 ∷ (b ++ 32 ∷ c))

edge_words : (a b : List ℕ) → codes "edge " ++ a ++ codes " " ++ b ≡ codes "edge" ++ 32 ∷ (a ++ 32 ∷ b)
edge_words a b =
    append_assoc (codes "edge " ++ a) (codes " ") b
    ∙ append_assoc (codes "edge ") a (32 ∷ b)

said_node : (rest : List ℕ) → said (codes "node" ++ 32 ∷ rest) ≡ node_said rest
unfolding said
said_node rest = ap (λ c. said_after c.0 c.1) (cut-word 32 (codes "node") rest refl)

said_edge : (rest : List ℕ) → said (codes "edge" ++ 32 ∷ rest) ≡ edge_said rest
unfolding said
said_edge rest = ap (λ c. said_after c.0 c.1) (cut-word 32 (codes "edge") rest refl)

decimal_lacks : (n : ℕ) → n < 2 ^ 64 → Lacks 32 (decimal n)
decimal_lacks n small = above-lacks 32 32 (decimal n) refl (decimal-above n small)

node_with-back : (number rank : ℕ) (fen : List ℕ) → number < 2 ^ 64 → rank < 2 ^ 64 → node_with (number_of (decimal number)) (number_of (decimal rank)) fen ≡ Some (node_line number rank fen)
node_with-back number rank fen n r =
    ap (λ o. node_with o (number_of (decimal rank)) fen) (number-back number n)
    ∙ ap (λ o. node_with (Some number) o fen) (number-back rank r)

node_said-back : (number rank : ℕ) (fen : List ℕ) → number < 2 ^ 64 → rank < 2 ^ 64 → node_said (words_of (decimal number) (decimal rank) fen) ≡ Some (node_line number rank fen)
unfolding node_said
node_said-back number rank fen n r =
    ap (λ c. node_after c.0 c.1) (cut-word 32 (decimal number) (decimal rank ++ 32 ∷ fen) (decimal_lacks number n))
    ∙ ap (λ c. node_ranked (decimal number) c.0 c.1) (cut-word 32 (decimal rank) fen (decimal_lacks rank r))
    ∙ node_with-back number rank fen n r

pub node-said : (rules : Rules) (number : ℕ) (v : Node) → number < 2 ^ 64 → v.rank < 2 ^ 64 → said (node_text rules number v) ≡ Some (node_line number v.rank (fen_text rules v.position))
unfolding node_text
node-said rules number v n r =
    ap said (node_words (decimal number) (decimal v.rank) (fen_text rules v.position))
    ∙ said_node (words_of (decimal number) (decimal v.rank) (fen_text rules v.position))
    ∙ node_said-back number v.rank (fen_text rules v.position) n r

edge_said-back : (chosen : List ℕ) (to : ℕ) → Lacks 32 chosen → to < 2 ^ 64 → edge_said (chosen ++ 32 ∷ decimal to) ≡ Some (edge_line chosen to)
unfolding edge_said
edge_said-back chosen to lacks small =
    ap (λ c. edge_after c.0 c.1) (cut-word 32 chosen (decimal to) lacks)
    ∙ ap (edge_to chosen) (number-back to small)

pub edge-said : (e : Edge) → e.to < 2 ^ 64 → said (edge_text e) ≡ Some (edge_line (text_of e.chosen) e.to)
unfolding edge_text
edge-said e small =
    ap said (edge_words (text_of e.chosen) (decimal e.to))
    ∙ said_edge (text_of e.chosen ++ 32 ∷ decimal e.to)
    ∙ edge_said-back (text_of e.chosen) e.to (above-lacks 32 32 (text_of e.chosen) refl (move-above e.chosen)) small

pub count-said : (n : ℕ) → n < 2 ^ 64 → count_said (count_text n) ≡ Some n
unfolding count_said
count-said n small = ap (λ c. count_after c.0 c.1) (cut-word 32 (codes "nodes") (decimal n) refl) ∙ number-back n small

-- ---- how long the lines are, and their bytes

pub edge-short : (e : Edge) → e.to < 2 ^ 64 → length (edge_text e) ≤ 2048
unfolding edge_text
edge-short e small =
    omega (arith, move-short e.chosen, decimal-short e.to small, length-append (codes "edge ") (text_of e.chosen), length-append (codes "edge " ++ text_of e.chosen) (codes " "), length-append (codes "edge " ++ text_of e.chosen ++ codes " ") (decimal e.to))

pub edge-above : (e : Edge) → e.to < 2 ^ 64 → Above 13 (edge_text e)
unfolding edge_text
edge-above e small =
    above-append 13 (codes "edge " ++ text_of e.chosen ++ codes " ") (decimal e.to)
    (above-append 13 (codes "edge " ++ text_of e.chosen) (codes " ")
    (above-append 13 (codes "edge ") (text_of e.chosen) refl (lower-above (text_of e.chosen) (move-above e.chosen))) refl)
    (lower-above (decimal e.to) (decimal-above e.to small))

abbrev node_front : ℕ → Node → List ℕ
node_front number v = codes "node " ++ decimal number ++ codes " " ++ decimal v.rank ++ codes " "

front-short : (number : ℕ) (v : Node) → number < 2 ^ 64 → v.rank < 2 ^ 64 → length (node_front number v) ≤ 47
front-short number v n r =
    omega (arith, decimal-short number n, decimal-short v.rank r, length-append (codes "node ") (decimal number), length-append (codes "node " ++ decimal number) (codes " "), length-append (codes "node " ++ decimal number ++ codes " ") (decimal v.rank), length-append (codes "node " ++ decimal number ++ codes " " ++ decimal v.rank) (codes " "))

pub node-short : (rules : Rules) (number : ℕ) (v : Node) → number < 2 ^ 64 → v.rank < 2 ^ 64 → length (fen_text rules v.position) ≤ 1024 → length (node_text rules number v) ≤ 2048
unfolding node_text
node-short rules number v n r short =
    let front = front-short number v n r in
    omega (arith, front, short, length-append (node_front number v) (fen_text rules v.position))

pub node-above : (rules : Rules) (number : ℕ) (v : Node) → number < 2 ^ 64 → v.rank < 2 ^ 64 → Above 13 (fen_text rules v.position) → Above 13 (node_text rules number v)
unfolding node_text
node-above rules number v n r above =
    above-append 13 (node_front number v) (fen_text rules v.position)
    (above-append 13 (codes "node " ++ decimal number ++ codes " " ++ decimal v.rank) (codes " ")
    (above-append 13 (codes "node " ++ decimal number ++ codes " ") (decimal v.rank)
    (above-append 13 (codes "node " ++ decimal number) (codes " ")
    (above-append 13 (codes "node ") (decimal number) refl (lower-above (decimal number) (decimal-above number n))) refl)
    (lower-above (decimal v.rank) (decimal-above v.rank r))) refl)
    above

pub count-short : (n : ℕ) → n < 2 ^ 64 → length (count_text n) ≤ 2048
count-short n small = omega (arith, decimal-short n small, length-append (codes "nodes ") (decimal n))

pub count-above : (n : ℕ) → n < 2 ^ 64 → Above 13 (count_text n)
count-above n small = above-append 13 (codes "nodes ") (decimal n) refl (lower-above (decimal n) (decimal-above n small))
