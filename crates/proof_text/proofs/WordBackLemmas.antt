-- The lines of the head that are written say what they were written for.
use Rattle.std.proofs.Common.{◌≡◌, ℕ, ◌^◌, ◌<◌, ◌≤◌, nat_le, ◌&&◌, true, List, ◌++◌, Some, None, if◌then◌else◌, refl, ap, ◌∙◌, arith}
use Rattle.std.specs.Prelude.{codes, option_and_then}
use Rattle.std.specs.Fmt.{decimal}
use Rattle.std.proofs.lemmas.Bool.{and_from, le-leb}
use Rattle.foundation.specs.Numbers.{number_of, number_within, within}
use Rattle.rules_model.specs.declared.board.Side.{Side}
use Rattle.rules_model.specs.declared.board.Side.TheVariants.{White, Black}
use Rattle.fen_model.proofs.DecimalLaws.{number-back}
use Rattle.game_play.specs.declared.game.TheConstants.{MOST_PLIES}
use Rattle.game_text.specs.Goal.{within as goal_within}
use Rattle.proof_text.specs.Words.{goal_said, history_said, rules_said, start_said}
use Rattle.proof_text.specs.Writing.{goal_text}

in-range : (low high n : ℕ) → low ≤ n → n ≤ high → (nat_le low n && nat_le n high) ≡ true
in-range low high n least most = and_from _ _ (le-leb low n least) (le-leb n high most)

within-back : (low high n : ℕ) → low ≤ n → n ≤ high → n < 2 ^ 64 → number_within low high (decimal n) ≡ Some n
within-back low high n least most small =
    ap (option_and_then (within low high)) (number-back n small)
    ∙ ap (λ t. if t then Some n else None) (in-range low high n least most)

pub rules-said : (count : ℕ) → 1 ≤ count → count ≤ 512 → rules_said (codes "rules " ++ decimal count) ≡ Some count
unfolding rules_said
rules-said count some few = within-back 1 512 count some few (omega (arith, few))

pub start-said : (fen : List ℕ) → start_said (codes "start " ++ fen) ≡ Some fen
unfolding start_said
start-said fen = refl

pub history-said : (count : ℕ) → count ≤ MOST_PLIES → history_said (codes "history " ++ decimal count) ≡ Some count
unfolding history_said
history-said count few = within-back 0 MOST_PLIES count (omega arith) few (omega (arith, few))

goal-within : (side : Side) (n : ℕ) → 1 ≤ n → n ≤ 100
    → goal_within side (number_of (decimal n)) ≡ Some (record { attacker = side; moves = n })
goal-within side n some few =
    ap (goal_within side) (number-back n (omega (arith, few)))
    ∙ ap (λ t. if t then Some (record { attacker = side; moves = n }) else None) (in-range 1 100 n some few)

pub goal-said : (side : Side) (n : ℕ) → 1 ≤ n → n ≤ 100
    → goal_said (goal_text side n) ≡ Some (record { attacker = side; moves = n })
unfolding goal_said
goal-said White n some few = goal-within White n some few
goal-said Black n some few = goal-within Black n some few
