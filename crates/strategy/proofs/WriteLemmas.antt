-- Texts piece by piece.
use Rattle.std.proofs.Common.{◌≡◌, ℕ, suc, ◌+◌, ◌/◌, ◌%◌, ◌^◌, ◌<◌, ◌≤◌, List, [], ◌∷◌, ◌++◌, length, get_or, drop, map, refl, sym, ap, ◌∙◌, arith, append_assoc, append-nil, add-one}
use Rattle.std.specs.Prelude.{codes}
use Rattle.std.specs.Fmt.{decimal}
use Rattle.std.proofs.Math.Seq.{drop-cons}
use Rattle.std.proofs.lemmas.Fmt.{decimal_digit, decimal_step}
use Rattle.std.proofs.lemmas.Grind.{flat_map-append}
use Rattle.std.proofs.lemmas.List.{drop_all}
use Rattle.rules_model.specs.declared.rules.Rules.{Rules}
use Rattle.strategy.specs.declared.nodes.Edge.{Edge}
use Rattle.strategy.specs.declared.nodes.Node.{Node}
use Rattle.strategy.specs.declared.nodes.Strategy.{Strategy}
use Rattle.strategy.specs.Writing.{edge_text, ended_line, ended_lines, header_texts, node_texts, nodes_texts, strategy_text, strategy_texts}

-- ---- numbers

pub one_digit : (n : ℕ) → n < 10 → decimal n ≡ (48 + n % 10) ∷ []
one_digit n h = decimal_digit n h ∙ ap (λ d. (48 + d) ∷ []) (let e : n ≡ n % 10 = omega arith in e)

pub more_digits : (n : ℕ) → 10 ≤ n → n < 2 ^ 64 → decimal n ≡ decimal (n / 10) ++ (48 + n % 10) ∷ []
more_digits n h small = decimal_step n h small

-- ---- lines

pub ended_lines-append : (xs ys : List (List ℕ)) → ended_lines (xs ++ ys) ≡ ended_lines xs ++ ended_lines ys
unfolding ended_lines
ended_lines-append xs ys = flat_map-append ended_line xs ys

ended_lines-cons : (text : List ℕ) (texts : List (List ℕ)) → ended_lines (text ∷ texts) ≡ ended_line text ++ ended_lines texts
unfolding ended_lines
ended_lines-cons text texts = refl

pub ended_lines-none : ended_lines [] ≡ []
unfolding ended_lines
ended_lines-none = refl

-- ---- edges

pub edges-next : (edges : List Edge) (i : ℕ) (d : Edge) (text more : List ℕ) → i < length edges → more ≡ text ++ ended_line (edge_text (get_or edges i d))
    → text ++ ended_lines (map edge_text (drop i edges)) ≡ more ++ ended_lines (map edge_text (drop (suc i) edges))
edges-next edges i d text more below is =
    ap (λ es. text ++ ended_lines (map edge_text es)) (drop-cons edges i d below)
    ∙ ap (λ t. text ++ t) (ended_lines-cons (edge_text (get_or edges i d)) (map edge_text (drop (suc i) edges)))
    ∙ sym (append_assoc text (ended_line (edge_text (get_or edges i d))) (ended_lines (map edge_text (drop (suc i) edges))))
    ∙ ap (λ t. t ++ ended_lines (map edge_text (drop (suc i) edges))) (sym is)

pub edges-last : (edges : List Edge) (i : ℕ) (text : List ℕ) → length edges ≤ i → text ++ ended_lines (map edge_text (drop i edges)) ≡ text
edges-last edges i text all =
    ap (λ es. text ++ ended_lines (map edge_text es)) (drop_all i edges all)
    ∙ ap (λ t. text ++ t) ended_lines-none
    ∙ append-nil text

-- ---- nodes

nodes_texts-cons : (rules : Rules) (number : ℕ) (v : Node) (vs : List Node) → nodes_texts rules number (v ∷ vs) ≡ node_texts rules number v ++ nodes_texts rules (suc number) vs
unfolding nodes_texts
nodes_texts-cons rules number v vs = refl

nodes_texts-none : (rules : Rules) (number : ℕ) → nodes_texts rules number [] ≡ []
unfolding nodes_texts
nodes_texts-none rules number = refl

nodes-next : (rules : Rules) (nodes : List Node) (i : ℕ) (d : Node) (text more : List ℕ) → i < length nodes → more ≡ text ++ ended_lines (node_texts rules i (get_or nodes i d))
    → text ++ ended_lines (nodes_texts rules i (drop i nodes)) ≡ more ++ ended_lines (nodes_texts rules (suc i) (drop (suc i) nodes))
nodes-next rules nodes i d text more below is =
    ap (λ vs. text ++ ended_lines (nodes_texts rules i vs)) (drop-cons nodes i d below)
    ∙ ap (λ ts. text ++ ended_lines ts) (nodes_texts-cons rules i (get_or nodes i d) (drop (suc i) nodes))
    ∙ ap (λ t. text ++ t) (ended_lines-append (node_texts rules i (get_or nodes i d)) (nodes_texts rules (suc i) (drop (suc i) nodes)))
    ∙ sym (append_assoc text (ended_lines (node_texts rules i (get_or nodes i d))) (ended_lines (nodes_texts rules (suc i) (drop (suc i) nodes))))
    ∙ ap (λ t. t ++ ended_lines (nodes_texts rules (suc i) (drop (suc i) nodes))) (sym is)

pub nodes-more : (rules : Rules) (nodes : List Node) (i : ℕ) (d : Node) (text more : List ℕ) → i < length nodes → more ≡ text ++ ended_lines (node_texts rules i (get_or nodes i d))
    → text ++ ended_lines (nodes_texts rules i (drop i nodes)) ≡ more ++ ended_lines (nodes_texts rules (i + 1) (drop (i + 1) nodes))
nodes-more rules nodes i d text more below is = rw add-one (nodes-next rules nodes i d text more below is)

pub nodes-last : (rules : Rules) (nodes : List Node) (i : ℕ) (text : List ℕ) → length nodes ≤ i → text ++ ended_lines (nodes_texts rules i (drop i nodes)) ≡ text
nodes-last rules nodes i text all =
    ap (λ vs. text ++ ended_lines (nodes_texts rules i vs)) (drop_all i nodes all)
    ∙ ap (λ ts. text ++ ended_lines ts) (nodes_texts-none rules i)
    ∙ ap (λ t. text ++ t) ended_lines-none
    ∙ append-nil text

-- ---- the whole

abbrev end_texts : List (List ℕ)
end_texts = codes "end" ∷ []

end_line_is : ended_lines end_texts ≡ ended_line (codes "end")
unfolding ended_lines
end_line_is = refl

pub strategy-pushed : (rules : Rules) (s : Strategy) (empty header nodes whole : List ℕ) → empty ≡ [] → header ≡ empty ++ ended_lines (header_texts s) → nodes ≡ header ++ ended_lines (nodes_texts rules 0 s.nodes)
    → whole ≡ nodes ++ ended_line (codes "end") → whole ≡ strategy_text rules s
unfolding strategy_text strategy_texts
strategy-pushed rules s empty header nodes whole none first later last =
    last
    ∙ ap (λ t. nodes ++ t) (sym end_line_is)
    ∙ ap (λ t. t ++ ended_lines end_texts) later
    ∙ ap (λ t. (t ++ ended_lines (nodes_texts rules 0 s.nodes)) ++ ended_lines end_texts) first
    ∙ ap (λ t. ((t ++ ended_lines (header_texts s)) ++ ended_lines (nodes_texts rules 0 s.nodes)) ++ ended_lines end_texts) none
    ∙ ap (λ t. t ++ ended_lines end_texts) (sym (ended_lines-append (header_texts s) (nodes_texts rules 0 s.nodes)))
    ∙ sym (ended_lines-append (header_texts s ++ nodes_texts rules 0 s.nodes) end_texts)
