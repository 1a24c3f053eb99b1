-- `generate NAME START N`: a game of random legal moves, and what is printed of it.
use Rattle.std.specs.Prelude.{◌≡◌, ℕ, zero, suc, ◌%◌, List, [], ◌∷◌, ◌++◌, length, codes, Option, Some, None, Result, Ok, Err, slice_get, if◌then◌else◌}
use Rattle.std.specs.Fmt.{decimal, signed_decimal}
use Rattle.rand_pcg.specs.Lcg.{Lcg, increment_of, started as seeded}
use Rattle.rand_pcg.specs.Pcg.{multiplier_64, pcg32}
use Rattle.rules_model.specs.declared.moves.Move.{Move}
use Rattle.rules_model.specs.declared.rules.Rules.{Rules}
use Rattle.rules_model.specs.Ends.{is_ongoing}
use Rattle.rules_model.specs.Games.{result}
use Rattle.variant_ini.specs.Section.{Section}
use Rattle.variant_model.specs.declared.fault.SectionFault.{SectionFault}
use Rattle.variant_rules.specs.Entries.{entries, found}
use Rattle.game_play.specs.Played.{Played, legal_in, longer, story}
use Rattle.game_text.specs.Fault.{fault_text}
use Rattle.game_text.specs.declared.fault.GameFault.TheVariants.{UnknownVariant, RefusedVariant}
use Rattle.game_text.specs.GameText.{started}
use Rattle.fen_model.specs.Printing.{fen_text}
use Rattle.game_text.specs.GameTexts.{perft_of}
use Rattle.game_text.specs.OutcomeText.{outcome_text}
use Rattle.one_shot_checks.specs.Fault.{error_line}
use Rattle.evaluation.specs.Values.{value_of}

-- ---- the game

abbrev pub goes_on : Played → Option Move → (Played → Played) → Played
goes_on g None more = g
goes_on g (Some m) more = more (longer g m)

-- the legal move that a random word picks
abbrev pub picked : Played → ℕ → Option Move
picked g word = slice_get (legal_in g) (word % length (legal_in g))

-- up to so many more plies, while the game is ongoing: a word of the generator picks each move
unfoldable pub random_game : ℕ → Lcg → Played → Played
random_game zero generator g = g
random_game (suc plies) generator g =
    if is_ongoing (result g.rules (story g)) then
    goes_on g (picked g (pcg32 generator).0) (random_game plies (pcg32 generator).1) else g

-- the generator of a number
abbrev pub generator_of : ℕ → Lcg
generator_of number = seeded 64 multiplier_64 number (increment_of 64 0)

abbrev pub generated : Rules → ℕ → ℕ → Played
generated rules number plies = random_game plies (generator_of number) (started rules rules.start)

-- ---- the text

abbrev pub value_text : Played → List Move → List ℕ
value_text g [] = codes "none"
value_text g (m ∷ ms) = signed_decimal (value_of g.rules 2 (story g) (m ∷ ms))

-- the name, the number and the plies; the last position; how the game stands; its lines of two moves; and its value
-- at depth 2
unfoldable pub generated_text : List ℕ → ℕ → Played → List ℕ
generated_text name number g =
    codes "generated "
    ++ (name ++ (codes " " ++ (decimal number ++ (codes " " ++ (decimal (length g.moves) ++ (codes "\n"
    ++ (fen_text g.rules (story g).last ++ (codes "\n" ++ (outcome_text (result g.rules (story g)) ++ (codes "\nperft2 "
    ++ (perft_of 2 g ++ (codes "value2 " ++ (value_text g (legal_in g) ++ codes "\n")))))))))))))

-- a fault of the variant, or the text
abbrev pub SaysGenerated : List ℕ → ℕ → ℕ → Option (Result Rules SectionFault) → ℕ → List ℕ → Type 0
SaysGenerated name number plies None status text =
    (status ≡ 3) × (text ≡ error_line (fault_text (UnknownVariant name)))
SaysGenerated name number plies (Some (Err fault)) status text =
    (status ≡ 3) × (text ≡ error_line (fault_text (RefusedVariant fault)))
SaysGenerated name number plies (Some (Ok rules)) status text =
    (status ≡ 0) × (text ≡ generated_text name number (generated rules number plies))

-- the answer to `generate`, where there are these sections
unfoldable pub SaysGenerate : List Section → List ℕ → ℕ → ℕ → ℕ → List ℕ → Type 0
SaysGenerate sections name number plies status text =
    SaysGenerated name number plies (found (entries sections) name) status text
