use Rattle.std.proofs.Common.{◌≡◌, ◌-◌, ◌^◌, ◌<◌, ◌≤◌, min, drop, get_or, length, arith, ap, ◌∙◌}
use Rattle.std.specs.List.{sum_by}
use Rattle.std.proofs.lemmas.List.{take_all, length-drop}
use Rattle.foundation.specs.Member.{Member}
use Rattle.rules_model.specs.declared.moves.Move.{Move}
use Rattle.rules_model.specs.Legal.{legal}
use Rattle.rules_model.specs.Next.{next}
use Rattle.rules_model.specs.Repeats.{repeat_of}
use Rattle.game_play.specs.Perft.{perft}
use Rattle.game_play.proofs.PerftLemmas.{perft-last, appended-at, sum-more, listed-perft}
use Rattle.game_play.proofs.perft.+count_lines.Goals as goal
use Rattle.game_play.proofs.perft.+count_lines.Goals.{then-plies-eq2, else-plies-eq2+in_ok-lines}

pub apply_with-next_sets-requires-clause-legal : goal.apply_with-next_sets-requires-clause-legal
apply_with-next_sets-requires-clause-legal t c =
    let low : length c.args.moves.now ≤ c.loop-i.i = omega arith in
    let high : c.loop-i.i < length c.loop-i.moves = omega arith in
    appended-at (λ m. Member m (legal c.args.tables.now (repeat_of c.args.p.now))) c.args.moves.now c.loop-i.moves c.loop-i.invariant.listed c.loop-i.i c.index.result.now low high
    (c.index.ensures ∙ ap (λ ms. get_or ms c.loop-i.i c.index.result.now) c.moves-in-loop-i.view_is)

pub loop-i-preserved : goal.loop-i-preserved
loop-i-preserved t c =
    let rules = c.args.tables.now in
    let f = λ (m : Move). perft rules (c.args.plies - 1) (next rules c.args.p.now m) in
    let joined : (c.if-plies-eq2.moves ≡ c.loop-i.moves) × (c.if-plies-eq2.lines ≡ min (f c.index.result.now) (2 ^ 128 - 1)) =
    elim c.if-plies-eq2.branch [
      | then-plies-eq2 w ↦
          let one : c.args.plies - 1 ≡ 1 = let two = w.if-plies-eq2.true in omega (arith, two) in
          (w.moves-is, w.lines-is ∙ perft-last rules (c.args.plies - 1) _ _ _ (2 ^ 128 - 1) one c.apply_with-next_sets.ensures.next w.count_moves-lines.ensures)
      | else-plies-eq2+in_ok-lines w ↦ (
        w.moves-is ∙ w.in_ok-lines.ensures.kept,
        w.lines-is ∙ w.in_ok-lines.ensures.count ∙ ap (λ q. min (perft rules (c.args.plies - 1) q) (2 ^ 128 - 1)) c.apply_with-next_sets.ensures.next,
      )
    ] in
    let element : c.index.result.now ≡ get_or c.loop-i.moves c.loop-i.i c.index.result.now = c.index.ensures ∙ ap (λ ms. get_or ms c.loop-i.i c.index.result.now) c.moves-in-loop-i.view_is in
    let low : c.len-first.result ≤ c.loop-i.i = omega arith in
    let high : c.loop-i.i < length c.loop-i.moves = omega arith in
    let total = sum-more f c.loop-i.moves c.len-first.result c.loop-i.i (2 ^ 128 - 1) c.loop-i.total c.if-plies-eq2.lines c.saturating_add-total.result c.index.result.now low high element c.loop-i.invariant.total joined.1 c.saturating_add-total.ensures in
    rw joined.0 (record { first = c.loop-i.invariant.first; end = c.loop-i.invariant.end; listed = c.loop-i.invariant.listed; total = total })

pub returns-clause-count : goal.returns-clause-count
returns-clause-count t c =
    let rules = c.args.tables.now in
    let f = λ (m : Move). perft rules (c.args.plies - 1) (next rules c.args.p.now m) in
    let l = length-drop c.len-first.result c.loop-i.moves in
    let all : length (drop c.len-first.result c.loop-i.moves) ≤ c.loop-i.i - c.len-first.result = omega arith in
    let pos : 0 < c.args.plies = omega arith in
    c.loop-i.invariant.total
    ∙ ap (λ n. min n (2 ^ 128 - 1)) (ap (sum_by f) (take_all (c.loop-i.i - c.len-first.result) (drop c.len-first.result c.loop-i.moves) all)
    ∙ ap (λ k. sum_by f (drop k c.loop-i.moves)) c.loop-i.invariant.first
    ∙ listed-perft rules c.args.p.now c.args.plies c.args.moves.now c.loop-i.moves c.loop-i.invariant.listed pos)
