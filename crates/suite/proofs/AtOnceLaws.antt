-- Winning without another move of one's own, and games that go on by a move.
use Rattle.std.proofs.Common.{◌≡◌, ◌∙◌, ◌-◌, ◌<◌, arith, Bool, false, [], ◌∷◌, ◌++◌, length, take, Option, Some, None, refl, sym, ap, length-append, if◌then◌else◌}
use Rattle.std.proofs.Math.Seq.{take-append_seam}
use Rattle.std.specs.Prelude.{unwrap_or}
use Rattle.rules_model.specs.declared.board.Side.{Side}
use Rattle.rules_model.specs.declared.board.Side.TheVariants.{White, Black}
use Rattle.rules_model.specs.declared.moves.Move.{Move}
use Rattle.rules_model.specs.declared.moves.Outcome.{Outcome}
use Rattle.rules_model.specs.declared.rules.Rules.{Rules}
use Rattle.rules_model.specs.Games.{Story, played, result}
use Rattle.rules_model.specs.Legal.{legal}
use Rattle.rules_model.specs.Repeats.{repeat_of}
use Rattle.rules_model.specs.Sides.{other, same_side}
use Rattle.rules_model.proofs.PlayLaws.{next-side}
use Rattle.forced_wins.specs.Contests.{attacks_by, decided, forced, replies}
use Rattle.forced_wins.specs.Views.{won_by}
use Rattle.forced_wins.specs.Wins.{games, wins}
use Rattle.game_play.specs.Played.{Played, longer, shorter, story}
use Rattle.game_play.proofs.StoryLemmas.{story-push}
use Rattle.suite.specs.AtOnce.{all_end_won, is_won}

-- ---- the other side is to move

-- without a move of its own the side has won where the game has ended so, or each reply ends it so
pub at-once : (rules : Rules) (g : Story) (a : Side) → same_side g.last.side a ≡ false
    → wins rules 0 g a ≡ decided (won_by a (result rules g)) (all_end_won rules g a (legal rules (repeat_of g.last)))
unfolding forced replies attacks_by
at-once rules g a turn =
    ap (λ (t : Bool). if t then attacks_by (games rules a) 0 g else replies (games rules a) (attacks_by (games rules a) 0) g) turn

pub ended-once : (rules : Rules) (g : Story) (a : Side) (won : Bool) → same_side g.last.side a ≡ false
    → won_by a (result rules g) ≡ Some won → won ≡ wins rules 0 g a
ended-once rules g a won turn is =
    sym (at-once rules g a turn ∙ ap (λ o. decided o (all_end_won rules g a (legal rules (repeat_of g.last)))) is)

pub replied-once : (rules : Rules) (g : Story) (a : Side) (all : Bool) → same_side g.last.side a ≡ false
    → won_by a (result rules g) ≡ None → all ≡ all_end_won rules g a (legal rules (repeat_of g.last)) → all ≡ wins rules 0 g a
replied-once rules g a all turn is all_is =
    all_is ∙ sym (at-once rules g a turn ∙ ap (λ o. decided o (all_end_won rules g a (legal rules (repeat_of g.last)))) is)

-- ---- one move longer

pub story-longer : (g : Played) (m : Move) → story (longer g m) ≡ played g.rules (story g) m
story-longer g m = story-push g.rules (record { earlier = []; last = g.start }) g.moves m

pub taken-back : (g : Played) (m : Move) → shorter (longer g m) ≡ g
taken-back g m =
    let back : length (g.moves ++ m ∷ []) - 1 ≡ length g.moves = omega (arith, length-append g.moves (m ∷ [])) in
    let same : take (length (g.moves ++ m ∷ []) - 1) (g.moves ++ m ∷ []) ≡ g.moves =
    ap (λ n. take n (g.moves ++ m ∷ [])) back ∙ take-append_seam g.moves (m ∷ []) in
    λ i. record { rules = g.rules; start = g.start; moves = same i }

pub some-longer : (g : Played) (m : Move) → 0 < length (longer g m).moves
some-longer g m = omega (arith, length-append g.moves (m ∷ []))

-- the side that has moved is not to move
not_other : (s : Side) → same_side (other s) s ≡ false
not_other White = refl
not_other Black = refl

pub turn-over : (rules : Rules) (g : Story) (m : Move) → same_side (played rules g m).last.side g.last.side ≡ false
turn-over rules g m = ap (λ s. same_side s g.last.side) (next-side rules g.last m) ∙ not_other g.last.side

-- ---- how it stands then

or_false : (o : Option Bool) → unwrap_or o false ≡ decided o false
or_false None = refl
or_false (Some won) = refl

pub ended-is : (g h : Played) (m : Move) (a : Side) (o : Outcome) (w : Option Bool) (won : Bool) → h ≡ longer g m
    → o ≡ result h.rules (story h) → w ≡ won_by a o → won ≡ unwrap_or w false
    → won ≡ is_won g.rules (played g.rules (story g) m) a
ended-is g h m a o w won after stands by is =
    is
    ∙ ap (λ x. unwrap_or x false) (by ∙ ap (won_by a) stands)
    ∙ or_false (won_by a (result h.rules (story h)))
    ∙ ap (λ (x : Played). is_won x.rules (story x) a) after
    ∙ ap (λ s. is_won g.rules s a) (story-longer g m)
