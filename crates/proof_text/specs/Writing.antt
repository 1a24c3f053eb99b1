-- The text of a proof, version 2.
use Rattle.std.specs.Prelude.{ℕ, List, ◌∷◌, ◌++◌, drop, length, map, codes}
use Rattle.std.specs.Fmt.{decimal}
use Rattle.rules_model.specs.declared.board.Position.{Position}
use Rattle.rules_model.specs.declared.board.Side.{Side}
use Rattle.rules_model.specs.declared.board.Side.TheVariants.{White, Black}
use Rattle.rules_model.specs.declared.moves.Move.{Move}
use Rattle.rules_model.specs.declared.rules.Rules.{Rules}
use Rattle.rules_model.specs.MoveText.{text_of}
use Rattle.fen_model.specs.Printing.{fen_text}
use Rattle.variant_ini.specs.Section.{Section}
use Rattle.variant_model.specs.Told.{told}
use Rattle.game_play.specs.Played.{Played}
use Rattle.strategy.specs.declared.nodes.Strategy.{Strategy}
use Rattle.strategy.specs.Writing.{ended_line, ended_lines, strategy_texts}
use Rattle.proof_text.specs.declared.proof.Proof.{Proof}

-- ---- the rules

-- `key = value`
abbrev pub pair_text : List ℕ × List ℕ → List ℕ
pair_text pair = pair.0 ++ codes " = " ++ pair.1

-- the lines of pairs
abbrev pub pair_texts : List (List ℕ × List ℕ) → List (List ℕ)
pair_texts pairs = map pair_text pairs

-- `rules K`, and the K pairs
abbrev pub rules_texts : List (List ℕ × List ℕ) → List (List ℕ)
rules_texts pairs = (codes "rules " ++ decimal (length pairs)) ∷ pair_texts pairs

-- the lines of the pairs that a section tells: those that a proof text of it has after `rules K`
abbrev pub section_texts : List Section → ℕ → List (List ℕ)
section_texts sections place = pair_texts (told sections place)

unfoldable pub section_text : List Section → ℕ → List ℕ
section_text sections place = ended_lines (section_texts sections place)

-- `[name]`
abbrev pub header_text : List ℕ → List ℕ
header_text name = codes "[" ++ (name ++ codes "]")

-- a variants file of one section, which has this name and no parent, and tells what the section at the place tells
abbrev pub told_file : List ℕ → List Section → ℕ → List ℕ
told_file name sections place = ended_line (header_text name) ++ section_text sections place

-- ---- the game

-- `start FEN`
abbrev pub start_line : Rules → Position → List ℕ
start_line rules start = codes "start " ++ fen_text rules start

-- `history N`, and the N moves
abbrev pub history_texts : List Move → List (List ℕ)
history_texts moves = (codes "history " ++ decimal (length moves)) ∷ map text_of moves

-- the lines of a game: its start and its moves
abbrev pub game_texts : Played → List (List ℕ)
game_texts g = start_line g.rules g.start ∷ history_texts g.moves

-- `goal SIDE N`
abbrev pub goal_text : Side → ℕ → List ℕ
goal_text White n = codes "goal white " ++ decimal n
goal_text Black n = codes "goal black " ++ decimal n

-- ---- the whole

-- the lines of a strategy after its first, `strategy 1`
abbrev pub body_texts : Rules → Strategy → List (List ℕ)
body_texts rules s = drop 1 (strategy_texts rules s)

-- the lines of a proof text
unfoldable pub proof_texts : List Section → ℕ → Played → ℕ → Strategy → List (List ℕ)
proof_texts sections place g n s =
    (codes "strategy 2" ∷ rules_texts (told sections place))
    ++ game_texts g
    ++ (goal_text s.attacker n ∷ body_texts g.rules s)

-- the text of the rules of a section, of a game by them, of the goal to win it within N moves, and of a strategy for it
unfoldable pub proof_text : List Section → ℕ → Played → ℕ → Strategy → List ℕ
proof_text sections place g n s = ended_lines (proof_texts sections place g n s)

-- what such a text states
abbrev pub proof_with : Played → ℕ → Strategy → Proof
proof_with g n s = record { game = g; attacker = s.attacker; n = n; strategy = s }
