-- Verdicts on the certificates of a toy game. From the start one side chooses a move: the first leads to a state with two replies, each of
-- which wins, and the second loses at once.
use Rattle.std.proofs.Common.{◌≡◌, ℕ, zero, suc, Bool, true, false, List, [], ◌∷◌, Option, Some, None, refl}
use Rattle.rules_model.specs.declared.moves.Move.{Move}
use Rattle.rules_model.specs.declared.moves.Move.TheVariants.{Drop}
use Rattle.rules_model.specs.Moves.{same_move}
use Rattle.forced_wins.specs.Contests.{Contest}
use Rattle.stipulation.specs.declared.cert.Step.{Step}
use Rattle.stipulation.specs.declared.verdict.CertVerdict.{CertVerdict}
use Rattle.stipulation.specs.declared.verdict.CertVerdict.TheVariants.{Holds, BadPly, BadMove, TooDeep, NotMate, MissingReply, Unfinished}
use Rattle.stipulation.specs.Searches.{all_of, first_of, found, least_found, step}
use Rattle.stipulation.specs.Trees.{game_at, moves_at}
use Rattle.stipulation.specs.Verdicts.{first_missing, is_bad_move, plies_verdict, step_verdict, steps_verdict, tree_verdict}

abbrev a : Move
a = Drop (record { 0 = 0 }) (record { 0 = 0 })

abbrev b : Move
b = Drop (record { 0 = 1 }) (record { 0 = 0 })

-- the start, the replies, the won end and the lost one
data State : Type 0 where
  start : State
  replies : State
  won : State
  lost : State

abbrev ended : State → Option Bool
ended start = None
ended replies = None
ended won = Some true
ended lost = Some false

abbrev chooses : State → Bool
chooses start = true
chooses replies = false
chooses won = false
chooses lost = false

-- by the number of the move's kind
abbrev first_to : ℕ → State
first_to zero = replies
first_to (suc n) = lost

abbrev kind_of : Move → ℕ
kind_of (Drop kind to) = kind.0
kind_of m = 0

abbrev played : State → Move → State
played start m = first_to (kind_of m)
played replies m = won
played won m = won
played lost m = lost

abbrev toy : Contest State Move
toy = record { end = ended; attacking = chooses; moves = λ x. a ∷ b ∷ []; after = played }

unfoldable verdicts_opened : Unit {0}
unfolding plies_verdict step_verdict steps_verdict tree_verdict is_bad_move first_missing game_at moves_at found first_of all_of least_found same_move
verdicts_opened = tt

abbrev on : ℕ → List Step → CertVerdict
on n steps = tree_verdict toy n start steps

good : on 1 (step 1 a ∷ step 2 a ∷ step 2 b ∷ []) ≡ Holds
unfolding verdicts_opened
good = refl

-- each reply is asked for
reply_missing : on 1 (step 1 a ∷ step 2 a ∷ []) ≡ MissingReply 1 b
unfolding verdicts_opened
reply_missing = refl

nothing_chosen : on 1 [] ≡ Unfinished 0
unfolding verdicts_opened
nothing_chosen = refl

wrong_end : on 1 (step 1 b ∷ []) ≡ NotMate 1
unfolding verdicts_opened
wrong_end = refl

-- a ply more than one above the step before, whatever else is wrong
ply_left_out : on 1 (step 1 b ∷ step 3 a ∷ []) ≡ BadPly 2
unfolding verdicts_opened
ply_left_out = refl

-- a second choice, a reply twice, and a move after the end
two_choices : on 1 (step 1 a ∷ step 2 a ∷ step 2 b ∷ step 1 b ∷ []) ≡ BadMove 4
unfolding verdicts_opened
two_choices = refl

reply_twice : on 1 (step 1 a ∷ step 2 a ∷ step 2 b ∷ step 2 a ∷ []) ≡ BadMove 4
unfolding verdicts_opened
reply_twice = refl

after_end : on 2 (step 1 a ∷ step 2 a ∷ step 3 a ∷ step 2 b ∷ []) ≡ BadMove 3
unfolding verdicts_opened
after_end = refl

-- the parent of the third step is the first one, and not the second
parents : game_at toy start (step 2 a ∷ step 1 a ∷ []) 1 ≡ replies
unfolding verdicts_opened
parents = refl

too_deep : on 0 (step 1 a ∷ step 2 a ∷ step 2 b ∷ []) ≡ TooDeep 1
unfolding verdicts_opened
too_deep = refl

-- the search finds the certificate within two plies, and nothing within one
found_it : found toy 2 0 start ≡ Some (step 1 a ∷ step 2 a ∷ step 2 b ∷ [])
unfolding verdicts_opened
found_it = refl

too_few : found toy 1 0 start ≡ None
unfolding verdicts_opened
too_few = refl

least : least_found toy 3 1 start ≡ Some (step 1 a ∷ step 2 a ∷ step 2 b ∷ [])
unfolding verdicts_opened
least = refl

none_left : least_found toy 1 1 start ≡ None
unfolding verdicts_opened
none_left = refl
