use Rattle.std.proofs.Common.{◌+◌, ◌<◌, ◌++◌, ◌∷◌, [], nat_le, length, get_or, ap, sym, ◌∙◌, arith}
use Rattle.rules_model.specs.Games.{times}
use Rattle.rules_model.specs.Repeats.{repeat_of}
use Rattle.game_play.proofs.RepetitionLemmas.{blank, chosen-none, chosen-yes, chosen-no}
use Rattle.game_play.proofs.repetition.blocked_by.Goals as goal
use Rattle.game_play.proofs.repetition.blocked_by.Goals.{then-opens_block+in_ok-push, else-opens_block}

pub loop-at-init : goal.loop-at-init
loop-at-init c = c.new-items.ensures.items ∙ sym (chosen-none (λ x. nat_le c.args.fold (times x c.args.standings.now + 1)) c.args.standings.now)

pub loop-at-preserved : goal.loop-at-preserved
loop-at-preserved c =
    let ps = c.args.standings.now in
    let i = c.loop-at.at in
    let all = c.positions-positions.ensures.is in
    let there : i < length ps = let same = ap length all in omega arith in
    elim c.if-opens_block.branch [
      | then-opens_block+in_ok-push w ↦
          rw w.items-is
          (chosen-yes c.args.fold ps i blank there (sym (w.if-opens_block.ensures blank)) c.loop-at.items.items _ c.loop-at.invariant
          (w.in_ok-push.ensures.items ∙ ap (λ y. c.loop-at.items.items ++ y ∷ []) (w.repeat_of.ensures ∙ ap (λ qs. repeat_of (get_or qs i blank)) all)))
      | else-opens_block w ↦
          rw w.items-is (chosen-no c.args.fold ps i blank there (sym (w.if-opens_block.ensures blank)) c.loop-at.items.items _ c.loop-at.invariant (λ _. c.loop-at.items.items))
    ]
