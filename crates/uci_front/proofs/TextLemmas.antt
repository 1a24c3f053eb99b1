-- The choices among variants, one after another.
use Rattle.std.proofs.Common.{◌≡◌, ◌<◌, ◌+◌, ℕ, zero, suc, List, [], ◌∷◌, ◌++◌, length, take, Bool, true, false, Result, Ok, Err, refl, sym, ap, ◌∙◌, append_assoc, add-one, arith}
use Rattle.std.specs.Prelude.{codes, if◌then◌else◌, OnOk}
use Rattle.std.specs.Result.{is_ok}
use Rattle.std.specs.List.{filter, flat_map}
use Rattle.std.specs.Fmt.{decimal}
use Rattle.std.proofs.lemmas.List.{append-nil, take_all}
use Rattle.game_play.specs.Played.{Played}
use Rattle.rules_model.specs.declared.moves.Move.{Move}
use Rattle.rules_model.specs.MoveText.{text_of}
use Rattle.session_model.specs.Thinking.{Mates}
use Rattle.strategy.specs.declared.nodes.Strategy.{Strategy}
use Rattle.game_text.specs.GameTexts.{perft_of}
use Rattle.variant_ini.specs.Section.{Section}
use Rattle.variant_rules.specs.Entries.{Named, entries, is_accepted}
use Rattle.session_model.specs.UciTexts.{depth_line, introduction, option_line, options_text, perft_line, uci_text, variant_choice}
use Rattle.uci_front.specs.TextView.{choice_at, choice_of}

choices-more : (variants : List Named) (place : ℕ) → place < length variants
    → flat_map choice_of (take (suc place) variants) ≡ flat_map choice_of (take place variants) ++ choice_at variants place
choices-more [] place below = absurd (omega arith)
choices-more (v ∷ vs) zero below = append-nil (choice_of v)
choices-more (v ∷ vs) (suc place) below =
    let less : place < length vs = omega arith in
    ap (λ (l : List ℕ). choice_of v ++ l) (choices-more vs place less)
    ∙ sym (append_assoc (choice_of v) (flat_map choice_of (take place vs)) (choice_at vs place))

-- the choices up to a place, and that of the one there
pub choices_more : (old text after : List ℕ) (variants : List Named) (place : ℕ) → place < length variants
    → text ≡ old ++ flat_map choice_of (take place variants) → after ≡ text ++ choice_at variants place
    → after ≡ old ++ flat_map choice_of (take (place + 1) variants)
choices_more old text after variants place below is here =
    here ∙ ap (λ (l : List ℕ). l ++ choice_at variants place) is
    ∙ append_assoc old (flat_map choice_of (take place variants)) (choice_at variants place)
    ∙ ap (λ (l : List ℕ). old ++ l) (sym (rw add-one (choices-more variants place below)))

accepted_choices : (variants : List Named) → flat_map choice_of variants ≡ flat_map variant_choice (filter is_accepted variants)
accepted_choices [] = refl
accepted_choices (v ∷ vs) = by_verdict (is_accepted v) (accepted_choices vs)
  where
    by_verdict : (b : Bool) → flat_map choice_of vs ≡ flat_map variant_choice (filter is_accepted vs)
        → (if b then variant_choice v else []) ++ flat_map choice_of vs
        ≡ flat_map variant_choice (if b then v ∷ filter is_accepted vs else filter is_accepted vs)
    by_verdict true later = ap (λ (l : List ℕ). variant_choice v ++ l) later
    by_verdict false later = later

-- all of them
pub choices_all : (old text : List ℕ) (variants : List Named) (n : ℕ) → n ≡ length variants
    → text ≡ old ++ flat_map choice_of (take n variants)
    → text ≡ old ++ flat_map variant_choice (filter is_accepted variants)
choices_all old text variants n all is =
    is ∙ ap (λ (l : List ℕ). old ++ l) (ap (flat_map choice_of) (take_all n variants (omega (arith, all))) ∙ accepted_choices variants)

-- the line of an option: what every one begins with, its name and what is said of its values
pub option_said : {T E : Type 0} (appended : Result T E) (old first second last name values : List ℕ)
    → first ≡ old ++ codes "option name " → second ≡ first ++ name
    → last ≡ (if is_ok appended then second ++ values else second)
    → OnOk appended (last ≡ old ++ option_line name values)
unfolding option_line
option_said (Ok done) old first second last name values one two three =
    three ∙ ap (λ t. t ++ values) (two ∙ ap (λ t. t ++ name) one)
    ∙ append_assoc (old ++ codes "option name ") name values
    ∙ append_assoc old (codes "option name ") (name ++ values)
option_said (Err why) old first second last name values one two three = tt

-- an introduction, the options, the choices and the end
pub introduced : (variants : List Named) (sections : List Section) (first second third last : List ℕ) → variants ≡ entries sections
    → first ≡ introduction → second ≡ first ++ options_text
    → third ≡ second ++ flat_map variant_choice (filter is_accepted variants)
    → last ≡ third ++ codes "\nuciok\n" → last ≡ uci_text sections
introduced variants sections first second third last is one two three four =
    let choices : List ℕ = flat_map variant_choice (filter is_accepted variants) in
    four
    ∙ ap (λ t. t ++ codes "\nuciok\n") (three ∙ ap (λ t. t ++ choices) (two ∙ ap (λ t. t ++ options_text) one))
    ∙ append_assoc (introduction ++ options_text) choices (codes "\nuciok\n")
    ∙ append_assoc introduction options_text (choices ++ codes "\nuciok\n")
    ∙ ap (λ vs. introduction ++ (options_text ++ (flat_map variant_choice (filter is_accepted vs) ++ codes "\nuciok\n"))) is

-- a count behind its introduction
pub perft_said : (plies : ℕ) (g : Played) (first count whole : List ℕ)
    → first ≡ codes "info string perft " ++ (decimal plies ++ codes " ") → count ≡ perft_of plies g
    → whole ≡ first ++ count → whole ≡ perft_line plies g
unfolding perft_line
perft_said plies g first count whole one two three =
    three ∙ ap (λ t. t ++ count) one
    ∙ append_assoc (codes "info string perft ") (decimal plies ++ codes " ") count
    ∙ ap (λ t. codes "info string perft " ++ t) (append_assoc (decimal plies) (codes " ") count)
    ∙ ap (λ t. codes "info string perft " ++ (decimal plies ++ (codes " " ++ t))) two

regrouped : (a d b b' n p t l : List ℕ)
    → ((a ++ (d ++ ((b ++ b') ++ (n ++ p)))) ++ t) ++ l ≡ a ++ (d ++ (b ++ ((b' ++ n) ++ (p ++ (t ++ l)))))
regrouped a d b b' n p t l = simp append_assoc

-- the line of a mate
pub mate_said : (d n : ℕ) (s : Strategy) (best : Move) (first text second whole : List ℕ)
    → first ≡ codes "info depth " ++ (decimal d ++ (codes " score mate " ++ (decimal n ++ codes " pv "))) → text ≡ text_of best
    → second ≡ first ++ text → whole ≡ second ++ codes "\n" → whole ≡ depth_line d (Mates n s) best
mate_said d n s best first text second whole one two three four =
    four ∙ ap (λ t. t ++ codes "\n") (three ∙ ap (λ f. f ++ text) one ∙ ap (λ t. (codes "info depth " ++ (decimal d ++ (codes " score mate " ++ (decimal n ++ codes " pv ")))) ++ t) two)
    ∙ regrouped (codes "info depth ") (decimal d) (codes " score ") (codes "mate ") (decimal n) (codes " pv ") (text_of best) (codes "\n")
