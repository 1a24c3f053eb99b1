use Rattle.std.proofs.Common.{◌≡◌, ℕ, suc, ◌<◌, false, Some, slice_get}
use Rattle.game_play.specs.Played.{story}
use Rattle.rules_model.specs.Games.{same_repeat}
use Rattle.rules_model.specs.Repeats.{repeat_of}
use Rattle.strategy.specs.declared.nodes.Node.{Node}
use Rattle.mate_showing.specs.Counts.{is_often}
use Rattle.mate_showing.proofs.judging.judge.Given as goal

abbrev pub invariant-loop-i : goal.invariant-loop-i
invariant-loop-i l =
    (j : ℕ) (v : Node) → suc j < l.i → slice_get l.nodes.items (suc j) ≡ Some v
    → (same_repeat (repeat_of v.position) (repeat_of (story l.game).last) ≡ false)
    × (is_often l.frame.rules.n_fold (story l.game) l.nodes.items (repeat_of v.position) ≡ false)
