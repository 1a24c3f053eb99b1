use Rattle.std.proofs.Common.{◌≡◌, length, ap, arith}
use Rattle.game_play.specs.Played.{story}
use Rattle.game_line.specs.Lined.{Lined}
use Rattle.game_line.proofs.HeldLemmas.{held-count, held-front}
use Rattle.game_line.proofs.SlotLaws.{apart-back, slots-back, slots-some}
use Rattle.game_line.proofs.line.Line.back.Goals as goal
use Rattle.game_line.proofs.line.Line.back.Goals.{then-known-plies, else-known-plies}

pub invariant_of-self : goal.invariant_of-self
invariant_of-self c =
    let i = c.self.inside in
    let has = c.self.invariant.1 in
    let moves : length i.moves.items ≡ length c.args.self.now.moves = ap (λ (l : Lined). length l.moves) c.self.view_is in
    let some = c.requires.some in
    let count = (held-count i.game.now.rules (story i.game.now).last i.moves.items i.boards.items i.keys.items c.self.invariant.0).1 in (
      held-front i.game.now.rules (story i.game.now).last i.moves.items i.boards.items i.keys.items c.self.invariant.0 c.len-plies.result (omega arith) (omega arith)
          _ _ _ c.truncate-2.ensures.items c.truncate.ensures.items c.truncate-3.ensures.items,
      record {
        short = has.short;
        small = has.small;
        few = (let n = c.truncate.ensures.len in let few = has.few in let ok = i.moves.ok.0 in let ok2 = c.truncate.new.self.ok.0 in omega arith);
        for_boards = (let a = has.for_boards in let b = c.truncate-2.ensures.capacity in omega arith);
        for_moves = (let a = has.for_moves in let b = c.truncate.ensures.capacity in omega arith);
        for_keys = (let a = has.for_keys in let b = c.truncate-3.ensures.capacity in omega arith);
      },
      slots-back (story i.game.now) i.keys.items i.slots c.self.invariant.2 c.len-plies.result _ (omega arith) c.index.ensures _ _ c.truncate-3.ensures.items c.uncount.ensures,
      elim c.if-known-plies.branch [
        | then-known-plies w ↦
            let over = w.if-known-plies.true in
            rw w.apart-is (apart-back (story i.game.now) i.keys.items i.apart c.self.invariant.3 c.len-plies.result c.len-plies.result _ c.truncate-3.ensures.items (omega arith) (omega arith) (omega (arith, over)))
        | else-known-plies w ↦
            let most = w.if-known-plies.false in
            rw w.apart-is (apart-back (story i.game.now) i.keys.items i.apart c.self.invariant.3 c.len-plies.result i.apart _ c.truncate-3.ensures.items (omega arith) (omega (arith, most)) (omega arith))
      ],
    )

pub uncount-requires : goal.uncount-requires
uncount-requires c =
    let i = c.self.inside in
    let count = (held-count i.game.now.rules (story i.game.now).last i.moves.items i.boards.items i.keys.items c.self.invariant.0).1 in
    slots-some (story i.game.now) i.keys.items i.slots c.self.invariant.2 c.len-plies.result _ (omega arith) c.index.ensures

pub index-requires : goal.index-requires
index-requires c =
    let i = c.self.inside in
    let count = (held-count i.game.now.rules (story i.game.now).last i.moves.items i.boards.items i.keys.items c.self.invariant.0).1 in
    let ok = i.keys.ok.0 in
    omega arith
