use Rattle.std.proofs.Common.{◌≡◌, ◌+◌, ◌<◌, true, false, length, get_or, ap, sym, ◌∙◌, arith}
use Rattle.std.proofs.lemmas.List.{get_or-map, length-map}
use Rattle.rules_model.specs.declared.board.Position.{Position}
use Rattle.rules_model.specs.Games.{same_repeat}
use Rattle.rules_model.specs.Repeats.{repeat_of}
use Rattle.position_key.specs.Key.{key_of}
use Rattle.game_play.proofs.KeyLemmas.{keys-at}
use Rattle.game_play.proofs.RepetitionLemmas.{times-zero, times-yes, times-no}
use Rattle.legality.specs.Stance.{Stance}
use Rattle.game_line.specs.Lined.{positions_of}
use Rattle.game_line.proofs.results.standings.Goals as goal
use Rattle.game_line.proofs.results.standings.Goals.{then-is_standing, else-is_standing}

pub loop-i-init : goal.loop-i-init
loop-i-init c = record { count = sym (times-zero (repeat_of c.args.p.now) (positions_of c.args.boards.now)); few = omega arith }

pub is_standing-requires-clause-board_key : goal.is_standing-requires-clause-board_key
is_standing-requires-clause-board_key c =
    let boards = c.args.boards.now in
    let b = c.index-boards-i.result in
    let i = c.loop-i.i in
    let long = length-map boards (λ (s : Stance). s.position) in
    let lt = c.loop-i-test.true in
    let at = get_or-map (λ (s : Stance). s.position) boards i b b.position lt ∙ ap (λ (s : Stance). s.position) (sym c.index-boards-i.is) in
    ap (λ ks. get_or ks i 0) c.requires.keys ∙ keys-at (positions_of boards) i 0 b.position (omega arith) ∙ ap (λ (p : Position). key_of (repeat_of p)) at

pub loop-i-preserved : goal.loop-i-preserved
loop-i-preserved c =
    let boards = c.args.boards.now in
    let b = c.index-boards-i.result in
    let i = c.loop-i.i in
    let ps = positions_of boards in
    let r = repeat_of c.args.p.now in
    let long = length-map boards (λ (s : Stance). s.position) in
    let lt = c.loop-i-test.true in
    let within : i < length ps = omega arith in
    let at = get_or-map (λ (s : Stance). s.position) boards i b b.position lt ∙ ap (λ (s : Stance). s.position) (sym c.index-boards-i.is) in
    elim c.if-is_standing.branch [
      | then-is_standing w ↦
          let e : same_repeat (repeat_of (get_or ps i b.position)) r ≡ true = ap (λ (p : Position). same_repeat (repeat_of p) r) at ∙ sym c.is_standing.ensures ∙ w.if-is_standing.true in
          rw w.count-is (record { count = ap (λ n. n + 1) c.loop-i.invariant.count ∙ sym (times-yes r ps i b.position within e); few = omega arith })
      | else-is_standing w ↦
          let e : same_repeat (repeat_of (get_or ps i b.position)) r ≡ false = ap (λ (p : Position). same_repeat (repeat_of p) r) at ∙ sym c.is_standing.ensures ∙ w.if-is_standing.false in
          rw w.count-is (record { count = c.loop-i.invariant.count ∙ sym (times-no r ps i b.position within e); few = omega arith })
    ]
