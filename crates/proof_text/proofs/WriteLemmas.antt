-- Proof texts piece by piece.
use Rattle.std.proofs.Common.{◌≡◌, ℕ, ◌+◌, ◌<◌, ◌≤◌, List, [], ◌∷◌, ◌++◌, Option, length, get_or, map, take, drop}
use Rattle.std.proofs.Common.{refl, sym, ap, ◌∙◌, arith, append_assoc, append-nil}
use Rattle.std.specs.Prelude.{codes}
use Rattle.std.specs.Fmt.{decimal}
use Rattle.std.specs.List.{flat_map}
use Rattle.std.proofs.lemmas.Grind.{flat_map-append}
use Rattle.std.proofs.lemmas.List.{length-append, length-map, take_all, take_more}
use Rattle.rules_model.specs.declared.board.Position.{Position}
use Rattle.rules_model.specs.declared.rules.Rules.{Rules}
use Rattle.rules_model.specs.Games.{history}
use Rattle.variant_ini.specs.Section.{Section}
use Rattle.variant_ini.specs.declared.line.Pair.{Pair}
use Rattle.variant_ini.specs.LineView.{pair_view}
use Rattle.variant_options.specs.Keys.{ordered_keys}
use Rattle.variant_options.proofs.KeyLemmas.{keys_long}
use Rattle.variant_model.specs.Told.{told, told_of, told_value, with_value}
use Rattle.game_play.specs.Played.{Played, story}
use Rattle.game_play.proofs.StoryLemmas.{history-first, history-length}
use Rattle.strategy.specs.declared.nodes.Strategy.{Strategy}
use Rattle.strategy.specs.Writing.{ended_line, ended_lines, strategy_text, strategy_texts}
use Rattle.strategy.proofs.WriteLemmas.{ended_lines-append}
use Rattle.proof_text.specs.Writing.{body_texts, game_texts, goal_text, pair_text, proof_text, proof_texts, rules_texts, section_text}

-- ---- lines

-- a line, and lines after it
pub line-lines : (line : List ℕ) (lines : List (List ℕ)) (old mid new : List ℕ) → mid ≡ old ++ ended_line line
    → new ≡ mid ++ ended_lines lines → new ≡ old ++ ended_lines (line ∷ lines)
unfolding ended_lines
line-lines line lines old mid new first later =
    later ∙ ap (λ t. t ++ ended_lines lines) first ∙ append_assoc old (ended_line line) (ended_lines lines)

-- lines, and lines after them
pub lines-lines : (lines more : List (List ℕ)) (old mid new : List ℕ) → mid ≡ old ++ ended_lines lines
    → new ≡ mid ++ ended_lines more → new ≡ old ++ ended_lines (lines ++ more)
lines-lines lines more old mid new first later =
    later
    ∙ ap (λ t. t ++ ended_lines more) first
    ∙ append_assoc old (ended_lines lines) (ended_lines more)
    ∙ ap (λ t. old ++ t) (sym (ended_lines-append lines more))

-- ---- what is told

-- one key more
pub told-next : (sections : List Section) (section k : ℕ) (pairs more : List (List ℕ × List ℕ)) (key : List ℕ)
    (value : Option (List ℕ)) → k < 213 → pairs ≡ flat_map (told_of sections section) (take k ordered_keys)
    → key ≡ get_or ordered_keys k [] → value ≡ told_value sections section key
    → more ≡ pairs ++ with_value key value → more ≡ flat_map (told_of sections section) (take (k + 1) ordered_keys)
unfolding told_of
told-next sections section k pairs more key value small so is said pushed =
    let below : k < length ordered_keys = omega (arith, keys_long, small) in
    pushed
    ∙ ap (λ v. pairs ++ with_value key v) said
    ∙ ap (λ w. pairs ++ told_of sections section w) is
    ∙ ap (λ ps. ps ++ told_of sections section (get_or ordered_keys k [])) so
    ∙ sym
    (ap (flat_map (told_of sections section)) (take_more ordered_keys k [] below)
    ∙ flat_map-append (told_of sections section) (take k ordered_keys) (get_or ordered_keys k [] ∷ [])
    ∙ ap (λ t. flat_map (told_of sections section) (take k ordered_keys) ++ t)
    (append-nil (told_of sections section (get_or ordered_keys k []))))

-- all keys
pub told-all : (sections : List Section) (section k : ℕ) → 213 ≤ k
    → flat_map (told_of sections section) (take k ordered_keys) ≡ told sections section
unfolding told
told-all sections section k all =
    let none : length ordered_keys ≤ k = omega (arith, keys_long, all) in
    ap (flat_map (told_of sections section)) (take_all k ordered_keys none)

-- ---- the rules

pairs-texts : (pairs : List Pair) → map (λ pair. pair_text (pair_view pair)) pairs ≡ map pair_text (map pair_view pairs)
pairs-texts [] = refl
pairs-texts (pair ∷ pairs) = ap (λ t. pair_text (pair_view pair) ∷ t) (pairs-texts pairs)

pub rules-pushed : (pairs : List Pair) (old mid new : List ℕ)
    → mid ≡ old ++ ended_line (codes "rules " ++ decimal (length pairs))
    → new ≡ mid ++ ended_lines (map (λ pair. pair_text (pair_view pair)) pairs)
    → new ≡ old ++ ended_lines (rules_texts (map pair_view pairs))
rules-pushed pairs old mid new first later =
    line-lines (codes "rules " ++ decimal (length (map pair_view pairs))) (map pair_text (map pair_view pairs))
    old mid new
    (first ∙ ap (λ n. old ++ ended_line (codes "rules " ++ decimal n)) (sym (length-map pairs pair_view)))
    (later ∙ ap (λ ts. mid ++ ended_lines ts) (pairs-texts pairs))

pub section-pushed : (sections : List Section) (section : ℕ) (pairs : List Pair) (old new : List ℕ)
    → map pair_view pairs ≡ told sections section → old ≡ []
    → new ≡ old ++ ended_lines (map (λ pair. pair_text (pair_view pair)) pairs)
    → new ≡ section_text sections section
unfolding section_text
section-pushed sections section pairs old new said empty pushed =
    pushed
    ∙ ap (λ text. text ++ ended_lines (map (λ pair. pair_text (pair_view pair)) pairs)) empty
    ∙ ap ended_lines (pairs-texts pairs)
    ∙ ap (λ ps. ended_lines (map pair_text ps)) said

-- ---- the start

pub start-first : (g : Played) (d : Position) → get_or (history (story g)) 0 d ≡ g.start
start-first g d = history-first g.rules (record { earlier = []; last = g.start }) g.moves d

pub some-history : (g : Played) → 0 < length (history (story g))
some-history g =
    let long = history-length g.rules (record { earlier = []; last = g.start }) g.moves in
    omega (arith, long)

-- ---- the strategy

abbrev first_line : List ℕ
first_line = codes "strategy 1\n"

cut_first : (rules : Rules) (s : Strategy) → strategy_text rules s ≡ first_line ++ ended_lines (body_texts rules s)
unfolding strategy_text strategy_texts ended_lines
cut_first rules s = refl

pub body-after : (rules : Rules) (s : Strategy) (text : List ℕ) → text ≡ strategy_text rules s
    → drop 11 text ≡ ended_lines (body_texts rules s)
unfolding strategy_text strategy_texts ended_lines
body-after rules s text is = ap (drop 11) is

pub body-within : (rules : Rules) (s : Strategy) (text : List ℕ) → text ≡ strategy_text rules s → 11 ≤ length text
body-within rules s text is =
    let long = ap length (is ∙ cut_first rules s) ∙ length-append first_line (ended_lines (body_texts rules s)) in
    omega (arith, long)

-- ---- the whole

pub proof-pushed : (sections : List Section) (section : ℕ) (g : Played) (n : ℕ) (s : Strategy)
    (none version rules game goal whole : List ℕ) → none ≡ [] → version ≡ none ++ ended_line (codes "strategy 2")
    → rules ≡ version ++ ended_lines (rules_texts (told sections section))
    → game ≡ rules ++ ended_lines (game_texts g) → goal ≡ game ++ ended_line (goal_text s.attacker n)
    → whole ≡ goal ++ ended_lines (body_texts g.rules s) → whole ≡ proof_text sections section g n s
unfolding proof_text proof_texts
proof-pushed sections section g n s none version rules game goal whole empty a b c d e =
    let said = rules_texts (told sections section) in
    let head = line-lines (codes "strategy 2") said none version rules a b in
    let played = lines-lines (codes "strategy 2" ∷ said) (game_texts g) none rules game head c in
    let rest = line-lines (goal_text s.attacker n) (body_texts g.rules s) game goal whole d e in
    lines-lines ((codes "strategy 2" ∷ said) ++ game_texts g) (goal_text s.attacker n ∷ body_texts g.rules s) none game
    whole played rest
    ∙ ap (λ t. t ++ ended_lines (proof_texts sections section g n s)) empty
