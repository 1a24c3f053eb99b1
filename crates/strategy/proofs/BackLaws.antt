-- Reading what was written gives the strategy back.
use Rattle.std.proofs.Common.{◌≡◌, ℕ, suc, ◌+◌, ◌-◌, ◌^◌, ◌<◌, ◌≤◌, ◌==◌, nat_lt, true, false, List, [], ◌∷◌, ◌++◌, length, map, Some, Ok, Err, if◌then◌else◌, refl, sym, ap, ◌∙◌, arith, append_assoc, append-nil, length-append}
use Rattle.std.specs.Prelude.{All, Result, codes, slice_get}
use Rattle.std.proofs.Math.Seq.{get_or-append_seam, set-append_seam}
use Rattle.std.proofs.lemmas.Bool.{and_from, eq-eqb, le-leb, le-ltb, lt-ltb}
use Rattle.std.proofs.lemmas.List.{map-append}
use Rattle.std.proofs.lemmas.Option.{slice_get-get_or}
use Rattle.io_ports.specs.Lines.{Line, Text}
use Rattle.rules_model.specs.declared.board.Position.{Position}
use Rattle.rules_model.specs.declared.board.Side.{Side}
use Rattle.rules_model.specs.declared.board.Side.TheVariants.{White, Black}
use Rattle.rules_model.specs.declared.rules.Rules.{Rules}
use Rattle.rules_model.specs.Fit.{IsFit}
use Rattle.rules_model.specs.MoveText.{text_of}
use Rattle.rules_model.specs.Sound.{is_sound}
use Rattle.fen_model.specs.Printing.{fen_text}
use Rattle.fen_model.specs.Reading.{fen_of}
use Rattle.fen_model.proofs.GivesBack.{gives-back}
use Rattle.fen_model.proofs.SoundParts.{parts}
use Rattle.move_text.specs.Read.{move_said}
use Rattle.move_text.proofs.ReadLaws.{names-read}
use Rattle.strategy.specs.declared.fault.StrategyFault.{StrategyFault}
use Rattle.strategy.specs.declared.fault.StrategyFault.TheVariants.{BadNumber}
use Rattle.strategy.specs.declared.nodes.Edge.{Edge}
use Rattle.strategy.specs.declared.nodes.Node.{Node}
use Rattle.strategy.specs.declared.nodes.Strategy.{Strategy}
use Rattle.strategy.specs.declared.reader.Reader.{Reader}
use Rattle.foundation.specs.Cuts.{cut}
use Rattle.foundation.specs.Numbers.{capped}
use Rattle.strategy.specs.Said.{attacker_said, count_said, end_line, said}
use Rattle.strategy.specs.Reading.{◌>>=◌, AreSound, begun, counted, edge_at, edge_from, finished, is_next, more_edges, step, strategy_of, taken, with_count, with_edge, with_last_edge, with_move, with_node, with_position, with_said, with_text}
use Rattle.strategy.specs.Writing.{AreReadable, IsReadBack, IsReadable, attacker_text, count_text, edge_text, header_texts, node_text, nodes_texts, strategy_texts}
use Rattle.strategy.proofs.BackLemmas.{count-said, count-short, edge-said, edge-short, fen-short, node-said, node-short}
use Rattle.strategy.proofs.CappedLemmas.{text-later}

-- ---- lists

pub all_first : {X : Type 0} (P : X → Type 0) (x : X) (xs : List X) → All P (x ∷ xs) → P x
all_first P x xs all = all 0 x (omega arith)

pub all_others : {X : Type 0} (P : X → Type 0) (x : X) (xs : List X) → All P (x ∷ xs) → All P xs
all_others P x xs all = λ k d below. all (suc k) d (omega (arith, below))

one_less : {X : Type 0} (pre : List X) (v : X) → length (pre ++ v ∷ []) - 1 ≡ length pre
one_less pre v = omega (arith, length-append pre (v ∷ []))

last_there : (pre : List Node) (v : Node) → slice_get (pre ++ v ∷ []) (length pre) ≡ Some v
last_there pre v =
    slice_get-get_or (pre ++ v ∷ []) (length pre) v (omega (arith, length-append pre (v ∷ [])))
    ∙ ap Some (get_or-append_seam pre v [] v)

last_get : (pre : List Node) (v : Node) → slice_get (pre ++ v ∷ []) (length (pre ++ v ∷ []) - 1) ≡ Some v
last_get pre v = ap (slice_get (pre ++ v ∷ [])) (one_less pre v) ∙ last_there pre v

last_edge-append : (pre : List Node) (v : Node) (e : Edge) → with_last_edge (pre ++ v ∷ []) e ≡ pre ++ more_edges v e ∷ []
unfolding with_last_edge
last_edge-append pre v e =
    ap (λ n. edge_at (pre ++ v ∷ []) n e (slice_get (pre ++ v ∷ []) n)) (one_less pre v)
    ∙ ap (edge_at (pre ++ v ∷ []) (length pre) e) (last_there pre v)
    ∙ set-append_seam pre v [] (more_edges v e)

-- ---- steps

-- the reader at a line after the header
abbrev at : Side → ℕ → ℕ → List Node → Reader
at a count line nodes = record { line = line; attacker = a; announced = count; nodes = nodes; is_ended = false }

abbrev rest_of : Rules → List Line → Reader → Result Reader StrategyFault
rest_of rules lines next = taken rules next lines

taken_next : (rules : Rules) (b next : Reader) (text : List ℕ) (lines : List Line) → step rules b (Text text) ≡ Ok next → taken rules b (Text text ∷ lines) ≡ taken rules next lines
unfolding taken
taken_next rules b next text lines is = ap (λ r. r >>= rest_of rules lines) is

step_text : (rules : Rules) (b next : Reader) (text : List ℕ) → with_text rules b text ≡ Ok next → step rules b (Text text) ≡ counted next
unfolding step
step_text rules b next text is = ap (λ r. r >>= counted) is

-- a line after the header
module _ (rules : Rules) (a : Side) (count : ℕ) where
  said_step : (line : ℕ) (nodes : List Node) (text : List ℕ) (next : Reader) → 3 < line → length text ≤ 2048 → with_said rules (at a count line nodes) (said text) ≡ Ok next
      → step rules (at a count line nodes) (Text text) ≡ counted next
  said_step line nodes text next later short is =
      step_text rules (at a count line nodes) next text
      (text-later rules (at a count line nodes) text short refl (λ e. absurd (omega (arith, later, e))) (λ e. absurd (omega (arith, later, e))) (λ e. absurd (omega (arith, later, e))) ∙ is)

  -- from a line with these nodes the texts lead to a line with those
  record Leads (line : ℕ) (nodes : List Node) (texts : List (List ℕ)) (others : List Node) : Type 0 where
    to : ℕ
    later : 3 < to
    goes : (lines : List Line) → taken rules (at a count line nodes) (map Text texts ++ lines) ≡ taken rules (at a count to others) lines

  -- ---- edges

  edge_with : (line : ℕ) (pre : List Node) (v : Node) (e : Edge) → e.to < count → move_said rules v.position (text_of e.chosen) ≡ Some e.chosen
      → with_edge rules (at a count line (pre ++ v ∷ [])) (text_of e.chosen) e.to ≡ Ok (at a count line (pre ++ more_edges v e ∷ []))
  unfolding with_edge
  edge_with line pre v e below named =
      let less : nat_lt e.to count ≡ true = lt-ltb e.to count below in
      ap (edge_from rules (at a count line (pre ++ v ∷ [])) (text_of e.chosen) e.to) (last_get pre v)
      ∙ ap (λ t. if t then with_move (at a count line (pre ++ v ∷ [])) e.to (move_said rules v.position (text_of e.chosen)) else Err (BadNumber line)) less
      ∙ ap (with_move (at a count line (pre ++ v ∷ [])) e.to) named
      ∙ ap (λ nodes. Ok (at a count line nodes)) (last_edge-append pre v e)

  with_edge-said : (b : Reader) (e : Edge) → e.to < 2 ^ 64 → with_said rules b (said (edge_text e)) ≡ with_edge rules b (text_of e.chosen) e.to
  unfolding with_said
  with_edge-said b e small = ap (with_said rules b) (edge-said e small)

  edge_step : (line : ℕ) (pre : List Node) (v : Node) (e : Edge) → IsFit rules → is_sound rules v.position ≡ true → count < 2 ^ 64 → 3 < line → IsReadBack rules count v.position e
      → step rules (at a count line (pre ++ v ∷ [])) (Text (edge_text e)) ≡ Ok (at a count (line + 1) (pre ++ more_edges v e ∷ []))
  edge_step line pre v e fit sound few later back =
      let below = back.leads in
      let named = names-read rules v.position (text_of e.chosen) e.chosen fit sound back.named in
      said_step line (pre ++ v ∷ []) (edge_text e) (at a count line (pre ++ more_edges v e ∷ [])) later (edge-short e (omega (arith, below, few)))
      (with_edge-said (at a count line (pre ++ v ∷ [])) e (omega (arith, below, few)) ∙ edge_with line pre v e below named)

  abbrev with_edges : Node → List Edge → Node
  with_edges v es = record v { edges = v.edges ++ es }

  edges_lead : (es : List Edge) (line : ℕ) (pre : List Node) (v : Node) → IsFit rules → is_sound rules v.position ≡ true → count < 2 ^ 64 → 3 < line → All (IsReadBack rules count v.position) es
      → Leads line (pre ++ v ∷ []) (map edge_text es) (pre ++ with_edges v es ∷ [])
  edges_lead [] line pre v fit sound few later back = record {
    to = line;
    later = later;
    goes = λ lines. ap (λ es. taken rules (at a count line (pre ++ record v { edges = es } ∷ [])) lines) (sym (append-nil v.edges));
  }
  edges_lead (e ∷ es) line pre v fit sound few later back =
      let next = edges_lead es (line + 1) pre (more_edges v e) fit sound few (omega (arith, later)) (all_others (IsReadBack rules count v.position) e es back) in
      record {
        to = next.to;
        later = next.later;
        goes = λ lines.
            taken_next rules _ _ (edge_text e) (map Text (map edge_text es) ++ lines) (edge_step line pre v e fit sound few later (all_first (IsReadBack rules count v.position) e es back))
            ∙ next.goes lines
            ∙ ap (λ xs. taken rules (at a count next.to (pre ++ record v { edges = xs } ∷ [])) lines) (append_assoc v.edges (e ∷ []) es);
      }

  -- ---- nodes

  next_is : (line : ℕ) (pre : List Node) (rank : ℕ) → length pre < count → rank ≤ 65535 → is_next (at a count line pre) (length pre) rank ≡ true
  next_is line pre rank below small = and_from _ _ (and_from _ _ (eq-eqb (length pre) (length pre) refl) (lt-ltb (length pre) count below)) (le-leb rank 65535 small)

  same_number : (p : Position) → p.number ≡ 1 → record p { number = 1 } ≡ p
  same_number p is = ap (λ n. record p { number = n }) (sym is)

  abbrev bare : Node → Node
  bare v = record v { edges = [] }

  node_with : (line : ℕ) (pre : List Node) (v : Node) → length pre < count → IsReadable rules count v → fen_of rules (fen_text rules v.position) ≡ Ok v.position
      → with_node rules (at a count line pre) (length pre) v.rank (fen_text rules v.position) ≡ Ok (at a count line (pre ++ bare v ∷ []))
  unfolding with_node
  node_with line pre v below readable back =
      ap (λ t. if t then with_position (at a count line pre) v.rank (fen_of rules (fen_text rules v.position)) else Err (BadNumber line)) (next_is line pre v.rank below readable.rank)
      ∙ ap (with_position (at a count line pre) v.rank) back
      ∙ ap (λ p. Ok (at a count line (pre ++ record { position = p; rank = v.rank; edges = [] } ∷ []))) (same_number v.position readable.number)

  with_node-said : (b : Reader) (number : ℕ) (v : Node) → number < 2 ^ 64 → v.rank < 2 ^ 64 → with_said rules b (said (node_text rules number v)) ≡ with_node rules b number v.rank (fen_text rules v.position)
  unfolding with_said
  with_node-said b number v n r = ap (with_said rules b) (node-said rules number v n r)

  node_step : (line : ℕ) (pre : List Node) (v : Node) → IsFit rules → is_sound rules v.position ≡ true → count < 2 ^ 64 → 3 < line → length pre < count → IsReadable rules count v
      → step rules (at a count line pre) (Text (node_text rules (length pre) v)) ≡ Ok (at a count (line + 1) (pre ++ bare v ∷ []))
  node_step line pre v fit sound few later below readable =
      let back : fen_of rules (fen_text rules v.position) ≡ Ok v.position = gives-back rules v.position fit (parts rules v.position sound) in
      let rank = readable.rank in
      said_step line pre (node_text rules (length pre) v) (at a count line (pre ++ bare v ∷ [])) later
      (node-short rules (length pre) v (omega (arith, below, few)) (omega (arith, rank)) (fen-short rules (fen_text rules v.position) v.position back))
      (with_node-said (at a count line pre) (length pre) v (omega (arith, below, few)) (omega (arith, rank)) ∙ node_with line pre v below readable back)

  nodes_lead : (vs : List Node) (line : ℕ) (pre : List Node) → IsFit rules → AreSound rules vs → count < 2 ^ 64 → 3 < line → length pre + length vs ≡ count → All (IsReadable rules count) vs
      → Leads line pre (nodes_texts rules (length pre) vs) (pre ++ vs)
  unfolding nodes_texts
  nodes_lead [] line pre fit sound few later all readable = record {
    to = line;
    later = later;
    goes = λ lines. ap (λ nodes. taken rules (at a count line nodes) lines) (sym (append-nil pre));
  }
  nodes_lead (v ∷ vs) line pre fit sound few later all readable =
      let here = all_first (IsReadable rules count) v vs readable in
      let at_v = all_first (λ (u : Node). is_sound rules u.position ≡ true) v vs sound in
      let edges = edges_lead v.edges (line + 1) pre (bare v) fit at_v few (omega (arith, later)) here.edges in
      let longer = length-append pre (v ∷ []) in
      let number : length (pre ++ v ∷ []) ≡ suc (length pre) = omega (arith, longer) in
      let others = nodes_lead vs edges.to (pre ++ v ∷ []) fit (all_others (λ (u : Node). is_sound rules u.position ≡ true) v vs sound) few edges.later (omega (arith, longer, all)) (all_others (IsReadable rules count) v vs readable) in
      record {
        to = others.to;
        later = others.later;
        goes = λ lines.
            ap (λ ts. taken rules (at a count line pre) (Text (node_text rules (length pre) v) ∷ ts ++ lines)) (map-append Text (map edge_text v.edges) (nodes_texts rules (suc (length pre)) vs))
            ∙ ap (λ ts. taken rules (at a count line pre) (Text (node_text rules (length pre) v) ∷ ts)) (append_assoc (map Text (map edge_text v.edges)) (map Text (nodes_texts rules (suc (length pre)) vs)) lines)
            ∙ taken_next rules _ _ (node_text rules (length pre) v) _ (node_step line pre v fit at_v few later (omega (arith, all)) here)
            ∙ edges.goes (map Text (nodes_texts rules (suc (length pre)) vs) ++ lines)
            ∙ ap (λ n. taken rules (at a count edges.to (pre ++ v ∷ [])) (map Text (nodes_texts rules n vs) ++ lines)) (sym number)
            ∙ others.goes lines
            ∙ ap (λ nodes. taken rules (at a count others.to nodes) lines) (append_assoc pre (v ∷ []) vs);
      }

-- ---- the header

version_step : (rules : Rules) → step rules begun (Text (codes "strategy 1")) ≡ Ok (record begun { line = 2 })
unfolding step with_text
version_step rules = refl

attacker_step : (rules : Rules) (a : Side) → step rules (record begun { line = 2 }) (Text (attacker_text a)) ≡ Ok (record begun { line = 3; attacker = a })
unfolding step with_text attacker_said
attacker_step rules White = refl
attacker_step rules Black = refl

count_text-with : (rules : Rules) (a : Side) (n : ℕ) → n < 2 ^ 64 → with_text rules (record begun { line = 3; attacker = a }) (count_text n) ≡ with_count (record begun { line = 3; attacker = a }) (count_said (count_text n))
unfolding with_text
count_text-with rules a n small = let short : nat_lt 2048 (length (count_text n)) ≡ false = le-ltb _ _ (count-short n small) in rw short refl

count_step : (rules : Rules) (a : Side) (n : ℕ) → n < 2 ^ 64 → step rules (record begun { line = 3; attacker = a }) (Text (count_text n)) ≡ Ok (at a n 4 [])
count_step rules a n small =
    let as_is : capped n ≡ n = omega arith in
    step_text rules (record begun { line = 3; attacker = a }) (at a n 3 []) (count_text n)
    (count_text-with rules a n small
    ∙ ap (with_count (record begun { line = 3; attacker = a })) (count-said n small)
    ∙ ap (λ k. Ok (at a k 3 [])) as_is)

-- ---- the end

end_said : said (codes "end") ≡ Some end_line
unfolding said cut
end_said = refl

end_with : (rules : Rules) (a : Side) (line : ℕ) (nodes : List Node) → with_said rules (at a (length nodes) line nodes) (said (codes "end")) ≡ Ok (record (at a (length nodes) line nodes) { is_ended = true })
unfolding with_said
end_with rules a line nodes =
    let all : (length nodes == length nodes) ≡ true = eq-eqb (length nodes) (length nodes) refl in
    ap (with_said rules (at a (length nodes) line nodes)) end_said
    ∙ ap (λ t. if t then Ok (record (at a (length nodes) line nodes) { is_ended = true }) else Err (BadNumber line)) all

end_taken : (rules : Rules) (a : Side) (line : ℕ) (nodes : List Node) → 3 < line → taken rules (at a (length nodes) line nodes) (Text (codes "end") ∷ []) ≡ Ok (record (at a (length nodes) (line + 1) nodes) { is_ended = true })
unfolding taken
end_taken rules a line nodes later =
    taken_next rules (at a (length nodes) line nodes) _ (codes "end") []
    (said_step rules a (length nodes) line nodes (codes "end") _ later (omega arith) (end_with rules a line nodes))

-- ---- the whole

header_taken : (rules : Rules) (s : Strategy) (lines : List Line) → length s.nodes < 2 ^ 64 → taken rules begun (map Text (header_texts s) ++ lines) ≡ taken rules (at s.attacker (length s.nodes) 4 []) lines
header_taken rules s lines few =
    taken_next rules _ _ (codes "strategy 1") _ (version_step rules)
    ∙ taken_next rules _ _ (attacker_text s.attacker) _ (attacker_step rules s.attacker)
    ∙ taken_next rules _ _ (count_text (length s.nodes)) lines (count_step rules s.attacker (length s.nodes) few)

texts_split : (rules : Rules) (s : Strategy) → map Text (strategy_texts rules s) ≡ map Text (header_texts s) ++ (map Text (nodes_texts rules 0 s.nodes) ++ Text (codes "end") ∷ [])
unfolding strategy_texts
texts_split rules s =
    map-append Text (header_texts s ++ nodes_texts rules 0 s.nodes) (codes "end" ∷ [])
    ∙ ap (λ ts. ts ++ Text (codes "end") ∷ []) (map-append Text (header_texts s) (nodes_texts rules 0 s.nodes))
    ∙ append_assoc (map Text (header_texts s)) (map Text (nodes_texts rules 0 s.nodes)) (Text (codes "end") ∷ [])

-- the lines that are written say the strategy
pub texts-back : (rules : Rules) (s : Strategy) → IsFit rules → AreSound rules s.nodes → AreReadable rules s.nodes → length s.nodes < 2 ^ 64 → strategy_of rules (map Text (strategy_texts rules s)) ≡ Ok s
unfolding strategy_of
texts-back rules s fit sound readable few =
    let lead = nodes_lead rules s.attacker (length s.nodes) s.nodes 4 [] fit sound few (omega arith) (omega arith) readable in
    ap (λ lines. taken rules begun lines >>= finished) (texts_split rules s)
    ∙ ap (λ r. r >>= finished)
    (header_taken rules s (map Text (nodes_texts rules 0 s.nodes) ++ Text (codes "end") ∷ []) few
    ∙ lead.goes (Text (codes "end") ∷ [])
    ∙ end_taken rules s.attacker lead.to s.nodes lead.later)
