-- Moves that are settled without being entered.
use Rattle.std.proofs.Common.{◌≡◌, true, false, None, refl, ap, sym, subst, arith}
use Rattle.std.specs.Prelude.{ℤ, neg_ℤ, ◌≤ℤ◌}
use Rattle.std.proofs.lemmas.Int.{ints}
use Rattle.foundation.specs.Member.{Member}
use Rattle.rules_model.specs.declared.board.Position.{Position}
use Rattle.rules_model.specs.declared.board.Repeat.{Repeat}
use Rattle.rules_model.specs.declared.moves.Move.{Move}
use Rattle.rules_model.specs.declared.rules.Rules.{Rules}
use Rattle.rules_model.specs.Ends.{early_end, is_ongoing}
use Rattle.rules_model.specs.Games.{played}
use Rattle.rules_model.specs.Legal.{is_stuck, legal}
use Rattle.rules_model.specs.Next.{next, next_repeat}
use Rattle.rules_model.specs.Repeats.{repeat_of}
use Rattle.rules_model.specs.Sides.{other}
use Rattle.rules_model.proofs.PlayLaws.{next-is}
use Rattle.check_moves.specs.Flights.{IsMet, repeat_after}
use Rattle.evaluation.specs.Evaluation.{evaluation}
use Rattle.evaluation.specs.Values.{play, quiet, worth}
use Rattle.game_line.specs.Lined.{EndsByStuckAlone, Lined, stance_of_line, story_of_line}
use Rattle.negamax.specs.Settling.{GoesOn, ScoresMost}
use Rattle.negamax.proofs.CopyLaws.{no_nil}
use Rattle.negamax.proofs.NodeLaws.{quiet_floor}

some_legal : (rules : Rules) (r : Repeat) (m : Move) → Member m (legal rules r) → is_stuck rules r ≡ false
unfolding is_stuck
some_legal rules r m there = no_nil m (legal rules r) there

module _ (l : Lined) (m : Move) where
  -- a move that is met leaves the game going on
  pub goes_on_met : EndsByStuckAlone l → IsMet (stance_of_line l) m → GoesOn l m
  goes_on_met ends met =
      let then = repeat_after (stance_of_line l) m in
      let on : is_ongoing (early_end l.rules then) ≡ true = ap is_ongoing (ends.early then) in
      let same = sym (next-is l.rules (story_of_line l).last m) in
      let reply = subst (λ (r : Repeat). Member met.reply (legal l.rules r)) same (met.legal on) in
      ends.later m (some_legal l.rules (repeat_of (next l.rules (story_of_line l).last m)) met.reply reply)

  -- then it scores no more than what the position is worth at a glance
  pub scores_most : (v most : ℤ) → GoesOn l m → v ≡ evaluation l.rules (next l.rules (story_of_line l).last m) → most ≡ neg_ℤ v
      → ScoresMost l m most
  scores_most v most on is e limit ply =
      let g = played l.rules (story_of_line l) m in
      let ended : (play l.rules).ended g ply ≡ None = ap (worth g.last.side ply) on in
      let floor : evaluation l.rules (next l.rules (story_of_line l).last m) ≤ℤ quiet (play l.rules) limit ply g = quiet_floor (play l.rules) limit ply g ended in
      let above : v ≤ℤ quiet (play l.rules) limit ply g = subst (λ x. x ≤ℤ quiet (play l.rules) limit ply g) (sym is) floor in
      omega (arith, ints)

pub other-moves : (rules : Rules) (p : Position) (m : Move) → (next rules p m).side ≡ other p.side
unfolding next next_repeat
other-moves rules p m = refl
