-- Texts that are written as lines are the lines of the whole.
use Rattle.std.proofs.Common.{◌≡◌, ℕ, ◌+◌, ◌-◌, ◌^◌, ◌<◌, ◌≤◌, ◌==◌, nat_lt, Bool, true, false, not, ◌&&◌, List, [], ◌∷◌, ◌++◌, length, map, take, slice_index, if◌then◌else◌, refl, sym, ap, ◌∙◌, arith, append_assoc, length-append, true≢false, get_or, Ok}
use Rattle.std.specs.Prelude.{All, codes}
use Rattle.std.specs.Io.BufRead.{ends_with_byte, strip_last}
use Rattle.std.specs.List.{list_all}
use Rattle.std.proofs.Math.Seq.{get_or-append_seam, take-append_seam}
use Rattle.std.proofs.lemmas.Bool.{and_from, and_parts, eq-eqb, le-ltb, lt-ltb, ltb-true, ne_eqb, not-true}
use Rattle.std.proofs.lemmas.List.Folds.{list_all_at}
use Rattle.io_ports.specs.declared.line.TheConstants.{MAX_LINE}
use Rattle.io_ports.specs.Lines.{Text, TooLong, line_of, lines_of, onto_first, pieces_of, text_of}
use Rattle.rules_model.specs.declared.rules.Rules.{Rules}
use Rattle.rules_model.specs.declared.board.Side.{Side}
use Rattle.rules_model.specs.declared.board.Side.TheVariants.{White, Black}
use Rattle.rules_model.specs.Fit.{IsFit}
use Rattle.rules_model.specs.Sound.{is_sound}
use Rattle.fen_model.specs.Printing.{fen_text}
use Rattle.fen_model.proofs.GivesBack.{gives-back}
use Rattle.fen_model.proofs.JoinLaws.{Each, Lacks}
use Rattle.fen_model.proofs.SoundParts.{parts}
use Rattle.strategy.specs.declared.nodes.Edge.{Edge}
use Rattle.strategy.specs.declared.nodes.Node.{Node}
use Rattle.strategy.specs.declared.nodes.Strategy.{Strategy}
use Rattle.strategy.specs.Reading.{AreSound, strategy_of}
use Rattle.strategy.specs.Writing.{AreReadable, IsReadBack, IsReadable, attacker_text, count_text, edge_text, ended_lines, header_texts, node_text, nodes_texts, strategy_text, strategy_texts}
use Rattle.strategy.proofs.BackLemmas.{Above, above-lacks, count-above, count-short, edge-above, edge-short, fen-above, fen-short, node-above, node-short}
use Rattle.strategy.proofs.BackLaws.{all_first, all_others, texts-back}

-- a text of one line: it has no line feed, its end is no carriage return, and it is not too long
pub record IsLine (text : List ℕ) : Type 0 where
  pub no_feed : Lacks 10 text
  pub no_return : ends_with_byte 13 text ≡ false
  pub short : length text ≤ 131072

-- ---- one line

piece_if : (b : ℕ) (text rest : List ℕ) (pieces : List (List ℕ)) (t : Bool) → (b == 10) ≡ t → t ≡ false → pieces_of (text ++ 10 ∷ rest) ≡ (text ++ 10 ∷ []) ∷ pieces
    → (if t then (b ∷ []) ∷ pieces_of (text ++ 10 ∷ rest) else onto_first b (pieces_of (text ++ 10 ∷ rest))) ≡ (b ∷ text ++ 10 ∷ []) ∷ pieces
piece_if b text rest pieces false is other more = ap (onto_first b) more
piece_if b text rest pieces true is other more = absurd (true≢false other)

piece_first : (text rest : List ℕ) → Lacks 10 text → pieces_of (text ++ 10 ∷ rest) ≡ (text ++ 10 ∷ []) ∷ pieces_of rest
piece_first [] rest lacks = refl
piece_first (b ∷ text) rest lacks =
    let both = and_parts (not (b == 10)) (list_all (λ c. not (c == 10)) text) lacks in
    piece_if b text rest (pieces_of rest) (b == 10) refl (not-true (b == 10) both.0) (piece_first text rest both.1)

ends_with : (text : List ℕ) → ends_with_byte 10 (text ++ 10 ∷ []) ≡ true
ends_with text =
    let longer = length-append text (10 ∷ []) in
    let place : length (text ++ 10 ∷ []) - 1 ≡ length text = omega (arith, longer) in
    and_from _ _ (lt-ltb 0 (length (text ++ 10 ∷ [])) (omega (arith, longer)))
    (eq-eqb (get_or (text ++ 10 ∷ []) (length (text ++ 10 ∷ []) - 1) 0) 10 (ap (λ n. get_or (text ++ 10 ∷ []) n 0) place ∙ get_or-append_seam text 10 [] 0))

strip_if : (byte : ℕ) (text : List ℕ) (t : Bool) → ends_with_byte byte text ≡ t → strip_last byte text ≡ (if t then take (length text - 1) text else text)
strip_if byte text t is = ap (λ u. if u then take (length text - 1) text else text) is

strip_feed : (text : List ℕ) → strip_last 10 (text ++ 10 ∷ []) ≡ text
strip_feed text =
    let place : length (text ++ 10 ∷ []) - 1 ≡ length text = omega (arith, length-append text (10 ∷ [])) in
    strip_if 10 (text ++ 10 ∷ []) true (ends_with text)
    ∙ ap (λ n. take n (text ++ 10 ∷ [])) place
    ∙ take-append_seam text (10 ∷ [])

text_is : (text : List ℕ) → IsLine text → text_of (text ++ 10 ∷ []) ≡ text
text_is text line = ap (strip_last 13) (strip_feed text) ∙ strip_if 13 text false line.no_return

line_is : (text : List ℕ) → IsLine text → line_of (text ++ 10 ∷ []) ≡ Text text
line_is text line =
    let fits : nat_lt MAX_LINE (length text) ≡ false = le-ltb 131072 (length text) line.short in
    ap (λ t. if nat_lt MAX_LINE (length t) then TooLong else Text t) (text_is text line)
    ∙ ap (λ u. if u then TooLong else Text text) fits

-- ---- bytes above 13 end no line

high_at : (text : List ℕ) (k : ℕ) (t : Bool) → nat_lt 13 (get_or text k 0) ≡ t → k < length text → Above 13 text → nat_lt 13 (get_or text k 0) ≡ true
high_at text k true is below above = is
high_at text k false is below above = absurd (true≢false (sym above ∙ list_all_at (λ b. nat_lt 13 b) text k 0 below is))

ends_if : (text : List ℕ) (t : Bool) → nat_lt 0 (length text) ≡ t → Above 13 text → (t && (slice_index text (length text - 1) == 13)) ≡ false
ends_if text false is above = refl
ends_if text true is above =
    let some = ltb-true 0 (length text) is in
    let high = high_at text (length text - 1) (nat_lt 13 (get_or text (length text - 1) 0)) refl (omega (arith, some)) above in
    let less = ltb-true 13 (slice_index text (length text - 1)) high in
    ne_eqb (slice_index text (length text - 1)) 13 (λ e. absurd (omega (arith, less, e)))

pub high-line : (text : List ℕ) → Above 13 text → length text ≤ 2048 → IsLine text
high-line text above few = record {
  no_feed = above-lacks 13 10 text refl above;
  no_return = ends_if text (nat_lt 0 (length text)) refl above;
  short = omega (arith, few);
}

-- ---- lines

lines_first : (text rest : List ℕ) → IsLine text → lines_of ((text ++ 10 ∷ []) ++ rest) ≡ Text text ∷ lines_of rest
lines_first text rest line =
    ap lines_of (append_assoc text (10 ∷ []) rest)
    ∙ ap (map line_of) (piece_first text rest line.no_feed)
    ∙ ap (λ l. l ∷ lines_of rest) (line_is text line)

pub lines-back : (texts : List (List ℕ)) → Each IsLine texts → lines_of (ended_lines texts) ≡ map Text texts
unfolding ended_lines
lines-back [] each = refl
lines-back (text ∷ texts) each = lines_first text (ended_lines texts) each.0 ∙ ap (λ ls. Text text ∷ ls) (lines-back texts each.1)

pub each-append : {A : Type 0} (P : A → Type 0) (xs ys : List A) → Each P xs → Each P ys → Each P (xs ++ ys)
each-append P [] ys f g = g
each-append P (x ∷ xs) ys f g = (f.0, each-append P xs ys f.1 g)

-- ---- the lines of a strategy

edges_lines : (rules : Rules) (count : ℕ) (v : Node) (es : List Edge) → count < 2 ^ 64 → All (IsReadBack rules count v.position) es → Each IsLine (map edge_text es)
edges_lines rules count v [] few back = tt
edges_lines rules count v (e ∷ es) few back =
    let leads = (all_first (IsReadBack rules count v.position) e es back).leads in
    let small : e.to < 2 ^ 64 = omega (arith, leads, few) in
    (high-line (edge_text e) (edge-above e small) (edge-short e small), edges_lines rules count v es few (all_others (IsReadBack rules count v.position) e es back))

node_line_is : (rules : Rules) (number : ℕ) (v : Node) → IsFit rules → is_sound rules v.position ≡ true → number < 2 ^ 64 → v.rank < 2 ^ 64 → IsLine (node_text rules number v)
node_line_is rules number v fit sound n r =
    high-line (node_text rules number v)
    (node-above rules number v n r (fen-above rules v.position fit sound))
    (node-short rules number v n r (fen-short rules (fen_text rules v.position) v.position (gives-back rules v.position fit (parts rules v.position sound))))

nodes_lines : (rules : Rules) (count number : ℕ) (vs : List Node) → IsFit rules → AreSound rules vs → count < 2 ^ 64 → number + length vs ≡ count → All (IsReadable rules count) vs → Each IsLine (nodes_texts rules number vs)
unfolding nodes_texts
nodes_lines rules count number [] fit sound few all readable = tt
nodes_lines rules count number (v ∷ vs) fit sound few all readable =
    let here = all_first (IsReadable rules count) v vs readable in
    let rank = here.rank in (
      node_line_is rules number v fit (all_first (λ (u : Node). is_sound rules u.position ≡ true) v vs sound) (omega (arith, all, few)) (omega (arith, rank)),
      each-append IsLine (map edge_text v.edges) _ (edges_lines rules count v v.edges few here.edges)
          (nodes_lines rules count _ vs fit (all_others (λ (u : Node). is_sound rules u.position ≡ true) v vs sound) few (omega (arith, all)) (all_others (IsReadable rules count) v vs readable)),
    )

attacker_line : (side : Side) → IsLine (attacker_text side)
attacker_line White = high-line (attacker_text White) refl (omega arith)
attacker_line Black = high-line (attacker_text Black) refl (omega arith)

pub strategy-lines : (rules : Rules) (s : Strategy) → IsFit rules → AreSound rules s.nodes → AreReadable rules s.nodes → length s.nodes < 2 ^ 64 → Each IsLine (strategy_texts rules s)
unfolding strategy_texts
strategy-lines rules s fit sound readable few =
    each-append IsLine (header_texts s ++ nodes_texts rules 0 s.nodes) (codes "end" ∷ [])
    (each-append IsLine (header_texts s) (nodes_texts rules 0 s.nodes)
    (high-line (codes "strategy 1") refl (omega arith), (attacker_line s.attacker, (high-line (count_text (length s.nodes)) (count-above (length s.nodes) few) (count-short (length s.nodes) few), tt)))
    (nodes_lines rules (length s.nodes) 0 s.nodes fit sound few (omega arith) readable))
    (high-line (codes "end") refl (omega arith), tt)

-- reading what was written gives the strategy back
pub strategy-back : (rules : Rules) (s : Strategy) → IsFit rules → AreSound rules s.nodes → AreReadable rules s.nodes → length s.nodes < 2 ^ 64 → strategy_of rules (lines_of (strategy_text rules s)) ≡ Ok s
unfolding strategy_text
strategy-back rules s fit sound readable few =
    ap (strategy_of rules) (lines-back (strategy_texts rules s) (strategy-lines rules s fit sound readable few))
    ∙ texts-back rules s fit sound readable few
