-- Castling rights and gates: what the letters of the field say, and whether it may be held.
use Rattle.std.specs.Prelude.{ℕ, zero, suc, ◌+◌, ◌^◌, nat_lt, Bool, false, ◌&&◌, ◌||◌, ◌==◌, List, [], ◌∷◌, Option, None, Result, Ok, Err, if◌then◌else◌, codes, length, count_by}
use Rattle.std.specs.List.{list_all, list_any}
use Rattle.foundation.specs.Count.{all_below}
use Rattle.rules_model.specs.declared.board.Cell.{Cell}
use Rattle.rules_model.specs.declared.board.Repeat.{Repeat}
use Rattle.rules_model.specs.declared.board.Side.{Side}
use Rattle.rules_model.specs.declared.board.Side.TheVariants.{White, Black}
use Rattle.rules_model.specs.declared.board.Wing.{Wing}
use Rattle.rules_model.specs.declared.board.Wing.TheVariants.{Kingside, Queenside}
use Rattle.rules_model.specs.declared.rules.Rules.{Rules}
use Rattle.rules_model.specs.Reach.{is_at}
use Rattle.rules_model.specs.Castling.{rook_file}
use Rattle.rules_model.specs.Sound.{sound_gate, sound_right}
use Rattle.fen_model.specs.declared.fault.FenFault.{FenFault}
use Rattle.fen_model.specs.declared.fault.FenFault.TheVariants.{Rights}
use Rattle.fen_model.specs.declared.held.Held.{Held}
use Rattle.fen_model.specs.Fields.{says_none}

-- ---- letters

-- `K` and `Q`, in lower case for Black
abbrev pub right_letter : Side → Wing → ℕ
right_letter White Kingside = 75
right_letter White Queenside = 81
right_letter Black Kingside = 107
right_letter Black Queenside = 113

-- the letter of a file, in upper case for White
abbrev pub gate_letter : Side → ℕ → ℕ
gate_letter White file = 65 + file
gate_letter Black file = 97 + file

-- the letters of rights and gates, in the order in which they are printed. Gates have those of the first ten files: the
-- next one is that of a castling right
abbrev pub held_letters : List ℕ
held_letters = codes "KQABCDEFGHIJkqabcdefghij"

unfoldable pub has : ℕ → List ℕ → Bool
has letter text = list_any (λ b. b == letter) text

abbrev pub stands_once : List ℕ → ℕ → Bool
stands_once text b = count_by (λ c. c == b) text == 1

-- one such letter or more, each once
unfoldable pub are_letters : List ℕ → Bool
are_letters text = nat_lt 0 (length text) && list_all (λ b. has b held_letters && stands_once text b) text

-- ---- what they say

-- the right gives the gates of the king and of its rook
abbrev pub right_gives : Rules → List (Option Cell) → Side → Wing → ℕ → Bool
right_gives rules cells side wing file = file == rules.castle_king || is_at file (rook_file rules cells side wing)

-- the text says the right, which gives the gate
abbrev pub right_says : Rules → List (Option Cell) → List ℕ → Side → ℕ → Wing → Bool
right_says rules cells text side file wing = has (right_letter side wing) text && right_gives rules cells side wing file

-- the text has the letter of the gate, or where the variant has gates a right that gives it
unfoldable pub gate_said : Rules → List (Option Cell) → List ℕ → Side → ℕ → Bool
gate_said rules cells text side file =
    has (gate_letter side file) text
    || (rules.gating && (right_says rules cells text side file Kingside
    || right_says rules cells text side file Queenside))

-- bit f for each file f below n that passes
unfoldable pub bits_of : (ℕ → Bool) → ℕ → ℕ
bits_of test zero = 0
bits_of test (suc n) = bits_of test n + (if test n then 2 ^ n else 0)

abbrev pub rights_said : List ℕ → Side → List Bool
rights_said text side = has (right_letter side Kingside) text ∷ has (right_letter side Queenside) text ∷ []

abbrev pub held_said : Rules → List (Option Cell) → List ℕ → Held
held_said rules cells text = record {
  rights = rights_said text White ∷ rights_said text Black ∷ [];
  gates = bits_of (gate_said rules cells text White) 10 ∷ bits_of (gate_said rules cells text Black) 10 ∷ [];
}

-- ---- what may be held

-- the parts of a position that soundness looks at for rights and gates
abbrev pub held_on : List (Option Cell) → Held → Repeat
held_on cells held = record {
  cells = cells;
  hands = [];
  gates = held.gates;
  rights = held.rights;
  checks = [];
  ep = None;
  side = White;
}

abbrev pub side_may_hold : Rules → Repeat → Side → Bool
side_may_hold rules r side =
    sound_right rules r side Kingside && sound_right rules r side Queenside && all_below (sound_gate rules r side) 16

-- rights and gates have their pieces in place
unfoldable pub may_hold : Rules → List (Option Cell) → Held → Bool
may_hold rules cells held =
    side_may_hold rules (held_on cells held) White && side_may_hold rules (held_on cells held) Black

abbrev pub nothing_held : Held
nothing_held = record {
  rights = (false ∷ false ∷ []) ∷ (false ∷ false ∷ []) ∷ [];
  gates = 0 ∷ 0 ∷ [];
}

-- what a text says to be held: `-` for nothing
unfoldable pub held_of : Rules → List (Option Cell) → List ℕ → Result Held FenFault
held_of rules cells text =
    if says_none text then Ok nothing_held
    else if are_letters text && may_hold rules cells (held_said rules cells text) then Ok (held_said rules cells text)
    else Err Rights
