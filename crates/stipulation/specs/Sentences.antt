-- The sentences on selfmates, one by one.
use Rattle.std.specs.Prelude.{◌≡◌, ℕ, suc, true, false}
use Rattle.std.specs.List.{list_any, list_all}
use Rattle.rules_model.specs.declared.board.Side.{Side}
use Rattle.rules_model.specs.declared.moves.Cause.TheVariants.{Checkmate}
use Rattle.rules_model.specs.declared.moves.Outcome.TheVariants.{Ongoing, Won}
use Rattle.rules_model.specs.declared.rules.Rules.{Rules}
use Rattle.rules_model.specs.Games.{Story, played, result}
use Rattle.rules_model.specs.Legal.{legal}
use Rattle.rules_model.specs.Repeats.{repeat_of}
use Rattle.rules_model.specs.Sides.{other, same_side}
use Rattle.stipulation.specs.Stipulations.{self_wins}

-- by how the game stands, and by who is to move where it is ongoing
pub record SelfSentences (rules : Rules) (n : ℕ) (g : Story) (a : Side) : Type 0 where
  pub mated : result rules g ≡ Won (other a) Checkmate → self_wins rules n g a ≡ true
  pub ended : (result rules g ≡ Ongoing → ⊥) → (result rules g ≡ Won (other a) Checkmate → ⊥)
      → self_wins rules n g a ≡ false
  pub no_move_left : result rules g ≡ Ongoing → same_side g.last.side a ≡ true → self_wins rules 0 g a ≡ false
  pub some_move : result rules g ≡ Ongoing → same_side g.last.side a ≡ true →
      self_wins rules (suc n) g a ≡ list_any
      (λ m. self_wins rules n (played rules g m) a) (legal rules (repeat_of g.last))
  pub each_reply : result rules g ≡ Ongoing → same_side g.last.side a ≡ false →
      self_wins rules n g a ≡ list_all (λ m. self_wins rules n (played rules g m) a) (legal rules (repeat_of g.last))
