use Rattle.std.proofs.Common.{◌≡◌, ◌-◌, List, length, take, drop, ap, sym, ◌∙◌, arith}
use Rattle.std.proofs.lemmas.List.{take_rest, length-drop}
use Rattle.rules_model.specs.declared.board.Position.{Position}
use Rattle.rules_model.specs.Games.{history, times}
use Rattle.rules_model.specs.Repeats.{repeat_of}
use Rattle.game_play.specs.Played.{story, keys_of}
use Rattle.legality.specs.Stance.{Stance}
use Rattle.game_line.specs.Lined.{positions_of, story_of_line}
use Rattle.game_line.proofs.HeldLemmas.{held-count, later-keys, line-times}
use Rattle.game_line.proofs.line.Line.last_standings.Goals as goal

pub standings-since-requires-clause-keys : goal.standings-since-requires-clause-keys
standings-since-requires-clause-keys c =
    let i = c.self.inside in
    take_rest c.deref-2.result.now 1
    ∙ ap (drop 1) c.deref-2.ensures.value
    ∙ later-keys i.game.now i.moves.items i.room i.boards.items i.keys.items c.self.invariant.0 c.args.self.now c.self.view_is
    ∙ ap (λ (cs : List Stance). keys_of (positions_of (drop 1 cs))) (sym c.deref.ensures.value)
    ∙ ap (λ (cs : List Stance). keys_of (positions_of cs)) (sym (take_rest c.deref.result.now 1))

pub standings-since-requires-clause-few : goal.standings-since-requires-clause-few
standings-since-requires-clause-few c =
    let i = c.self.inside in
    let count = (held-count i.game.now.rules (story i.game.now).last i.moves.items i.boards.items i.keys.items c.self.invariant.0).0 in
    let few = c.self.invariant.1.few in
    let small = c.self.invariant.1.small in
    let same = ap length c.deref.ensures.value in
    let rest = ap length (take_rest c.deref.result.now 1) in
    let dropped = length-drop 1 c.deref.result.now in
    omega arith

pub returns : goal.returns
returns c =
    let i = c.self.inside in
    let p = c.position-last.result.now in
    let l = c.args.self.now in
    let h = history (story_of_line l) in
    let is : p ≡ (story_of_line l).last = c.position-last.ensures ∙ ap (λ (s : Stance). s.position) c.board.ensures in
    let here : times (repeat_of (story_of_line l).last) h ≡ times (repeat_of p) h = ap (λ (q : Position). times (repeat_of q) h) (sym is) in
    let part : positions_of (take (length c.deref.result.now - 1) (drop 1 c.deref.result.now)) ≡ positions_of (drop 1 i.boards.items) =
    ap positions_of (take_rest c.deref.result.now 1 ∙ ap (drop 1) c.deref.ensures.value) in
    let since = c.standings-since.ensures.is ∙ ap (times (repeat_of p)) part in
    let before = c.repeats_by_key-before.ensures.is in
    let all = line-times i.game.now i.moves.items i.room i.boards.items i.keys.items c.self.invariant.0 l c.self.view_is (repeat_of p) in
    omega arith
