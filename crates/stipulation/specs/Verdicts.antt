-- The verdict on a certificate: the first failure, every step being tested for its ply first, then the root and the
-- steps in order for the others.
use Rattle.std.specs.Prelude.{ℕ, ◌+◌, ◌*◌, ◌==◌, nat_lt, List, [], ◌∷◌, ◌++◌, Bool, true, false, not, ◌&&◌, ◌||◌, is_some, Option, Some, None, codes, if◌then◌else◌}
use Rattle.std.specs.Fmt.{decimal}
use Rattle.std.specs.List.{list_any}
use Rattle.foundation.specs.Tests.{is_nil}
use Rattle.rules_model.specs.declared.moves.Move.{Move}
use Rattle.rules_model.specs.declared.rules.Rules.{Rules}
use Rattle.rules_model.specs.Games.{Story}
use Rattle.rules_model.specs.Moves.{same_move}
use Rattle.rules_model.specs.MoveText.{text_of}
use Rattle.forced_wins.specs.Contests.{Contest}
use Rattle.stipulation.specs.declared.cert.Step.{Step}
use Rattle.stipulation.specs.declared.verdict.CertVerdict.{CertVerdict}
use Rattle.stipulation.specs.declared.verdict.CertVerdict.TheVariants.{Holds, BadPly, BadMove, TooDeep, NotMate, MissingReply, Unfinished}
use Rattle.stipulation.specs.Stipulations.{self_games, help_games}
use Rattle.stipulation.specs.Trees.{parent_game, siblings, children}

-- the first that is a failure
abbrev pub or_verdict : CertVerdict → CertVerdict → CertVerdict
or_verdict Holds later = later
or_verdict (BadPly i) later = BadPly i
or_verdict (BadMove i) later = BadMove i
or_verdict (TooDeep i) later = TooDeep i
or_verdict (NotMate i) later = NotMate i
or_verdict (MissingReply i m) later = MissingReply i m
or_verdict (Unfinished i) later = Unfinished i

abbrev pub fault_if : Bool → CertVerdict → CertVerdict
fault_if true fault = fault
fault_if false fault = Holds

-- ---- 1: plies

-- the ply cannot follow the one before: it is 0, or more than one above
abbrev pub is_bad_ply : ℕ → ℕ → Bool
is_bad_ply before ply = (ply == 0) || nat_lt (before + 1) ply

-- of the steps from the number i on, the first of which follows this ply
unfoldable pub plies_verdict : ℕ → ℕ → List Step → CertVerdict
plies_verdict i before [] = Holds
plies_verdict i before (s ∷ later) =
    or_verdict (fault_if (is_bad_ply before s.ply) (BadPly i)) (plies_verdict (i + 1) s.ply later)

-- ---- 2: moves

-- the parent's game is ended; or the move is not legal there; or it is a sibling's; or it has a sibling where one move
-- is to be chosen
unfoldable pub is_bad_move : {X : Type 0} → Contest X Move → X → List Move → Move → Bool
is_bad_move c parent siblings m =
    is_some (c.end parent)
    || (not (list_any (same_move m) (c.moves parent))
    || (list_any (same_move m) siblings || (c.attacking parent && not (is_nil siblings))))

-- ---- 4, 5 and 6: the game of a step or of the root, and the moves of the children

-- the first of the moves that is none of the children's
unfoldable pub first_missing : List Move → List Move → Option Move
first_missing children [] = None
first_missing children (m ∷ ms) = if list_any (same_move m) children then first_missing children ms else Some m

abbrev pub missing : ℕ → Option Move → CertVerdict
missing i None = Holds
missing i (Some m) = MissingReply i m

-- by the end of the game, and whether one move is to be chosen
abbrev pub end_verdict : ℕ → Option Bool → Bool → List Move → List Move → CertVerdict
end_verdict i (Some true) attacking legal children = Holds
end_verdict i (Some false) attacking legal children = NotMate i
end_verdict i None true legal children = fault_if (is_nil children) (Unfinished i)
end_verdict i None false legal children = missing i (first_missing children legal)

abbrev pub game_verdict : {X : Type 0} → Contest X Move → ℕ → X → List Move → CertVerdict
game_verdict c i x children = end_verdict i (c.end x) (c.attacking x) (c.moves x) children

-- ---- all together

-- of the step with the number i, between the earlier ones and the later ones
unfoldable pub step_verdict : {X : Type 0} → Contest X Move → ℕ → X → ℕ → List Step → Step → List Step → CertVerdict
step_verdict c n root i earlier s later =
    let parent = parent_game c root earlier s.ply in
    or_verdict (fault_if (is_bad_move c parent (siblings earlier s.ply) s.chosen) (BadMove i))
    (or_verdict (fault_if (nat_lt (2 * n) s.ply) (TooDeep i))
    (game_verdict c i (c.after parent s.chosen) (children s.ply later)))

-- of the steps from the number i on
unfoldable pub steps_verdict : {X : Type 0} → Contest X Move → ℕ → X → ℕ → List Step → List Step → CertVerdict
steps_verdict c n root i earlier [] = Holds
steps_verdict c n root i earlier (s ∷ later) =
    or_verdict (step_verdict c n root i earlier s later) (steps_verdict c n root (i + 1) (s ∷ earlier) later)

-- of the root and the steps, for n moves
unfoldable pub tree_verdict : {X : Type 0} → Contest X Move → ℕ → X → List Step → CertVerdict
tree_verdict c n root steps =
    or_verdict (plies_verdict 1 0 steps)
    (or_verdict (game_verdict c 0 root (children 0 steps)) (steps_verdict c n root 1 [] steps))

-- the verdict on the steps as a selfmate of the side to move within n moves
abbrev pub self_verdict : Rules → ℕ → Story → List Step → CertVerdict
self_verdict rules n g steps = tree_verdict (self_games rules g.last.side) n g steps

-- the game is ended, and there is no step
abbrev pub is_empty_end : {X : Type 0} → Contest X Move → X → List Step → Bool
is_empty_end c root steps = is_nil steps && is_some (c.end root)

-- the verdict on the steps as a helpmate within n moves
abbrev pub help_verdict : Rules → ℕ → Story → List Step → CertVerdict
help_verdict rules n g steps =
    or_verdict (fault_if (is_empty_end (help_games rules g.last.side) g steps) (NotMate 0))
    (tree_verdict (help_games rules g.last.side) n g steps)

-- ---- how a verdict prints

-- the type's name, the verdict's number, its name, and the step and the move that it names
abbrev pub verdict_text : CertVerdict → List ℕ
verdict_text Holds = codes "CertVerdict 0 Holds"
verdict_text (BadPly i) = codes "CertVerdict 1 BadPly " ++ decimal i
verdict_text (BadMove i) = codes "CertVerdict 2 BadMove " ++ decimal i
verdict_text (TooDeep i) = codes "CertVerdict 3 TooDeep " ++ decimal i
verdict_text (NotMate i) = codes "CertVerdict 4 NotMate " ++ decimal i
verdict_text (MissingReply i m) = codes "CertVerdict 5 MissingReply " ++ decimal i ++ codes " " ++ text_of m
verdict_text (Unfinished i) = codes "CertVerdict 6 Unfinished " ++ decimal i
