-- Lines of the head and texts that are nearly such lines.
use Rattle.std.proofs.Common.{◌≡◌, [], ◌∷◌, Some, None, refl}
use Rattle.std.specs.Prelude.{codes}
use Rattle.rules_model.specs.declared.board.Side.TheVariants.{Black}
use Rattle.foundation.specs.Numbers.{are_digits, value_after, is_number, number_of}
use Rattle.io_ports.specs.Lines.{Text, TooLong}
use Rattle.proof_text.specs.Lines.{first_text}
use Rattle.proof_text.specs.Words.{rules_said, start_said, history_said, goal_said}

most_rules : rules_said (codes "rules 512") ≡ Some 512
unfolding are_digits value_after is_number number_of rules_said
most_rules = refl

too_many_rules : rules_said (codes "rules 513") ≡ None
unfolding are_digits value_after is_number number_of rules_said
too_many_rules = refl

no_rules : rules_said (codes "rules 0") ≡ None
unfolding are_digits value_after is_number number_of rules_said
no_rules = refl

leading_zero : rules_said (codes "rules 08") ≡ None
unfolding are_digits value_after is_number number_of rules_said
leading_zero = refl

blank_after : rules_said (codes "rules 8 ") ≡ None
unfolding are_digits value_after is_number number_of rules_said
blank_after = refl

-- what the FEN says is judged later
start : start_said (codes "start 8/8 w") ≡ Some (codes "8/8 w")
unfolding start_said
start = refl

empty_start : start_said (codes "start ") ≡ Some []
unfolding start_said
empty_start = refl

no_start : start_said (codes "start") ≡ None
unfolding start_said
no_start = refl

most_moves : history_said (codes "history 8192") ≡ Some 8192
unfolding are_digits value_after is_number number_of history_said
most_moves = refl

too_many_moves : history_said (codes "history 8193") ≡ None
unfolding are_digits value_after is_number number_of history_said
too_many_moves = refl

no_moves : history_said (codes "history 0") ≡ Some 0
unfolding are_digits value_after is_number number_of history_said
no_moves = refl

goal : goal_said (codes "goal black 100") ≡ Some (record { attacker = Black; moves = 100 })
unfolding are_digits value_after is_number number_of goal_said
goal = refl

far_goal : goal_said (codes "goal black 101") ≡ None
unfolding are_digits value_after is_number number_of goal_said
far_goal = refl

no_goal : goal_said (codes "goal white 0") ≡ None
unfolding are_digits value_after is_number number_of goal_said
no_goal = refl

-- the goal of a problem
other_goal : goal_said (codes "mate white 2") ≡ None
unfolding are_digits value_after is_number number_of goal_said
other_goal = refl

-- the first line, where it is not too long
first : first_text (Text (codes "a") ∷ TooLong ∷ []) ≡ Some (codes "a")
first = refl

no_line : first_text [] ≡ None
no_line = refl

long : first_text (TooLong ∷ Text (codes "b") ∷ []) ≡ None
long = refl
