use Rattle.std.proofs.Common.{ℕ, List, sym, subst, ◌∙◌, arith}
use Rattle.std.proofs.lemmas.Bool.{OnTrue_at}
use Rattle.game_play.specs.Played.{story}
use Rattle.game_line.specs.Slots.{AreCounts}
use Rattle.game_line.proofs.HeldLemmas.{held-new}
use Rattle.game_line.proofs.SlotLaws.{apart-new, apart-unknown, counts-new, short-new}
use Rattle.game_line.proofs.line.Line.new.Goals as goal
use Rattle.game_line.proofs.line.Line.new.Goals.{then-keep_apart, else-keep_apart}

pub invariant_of-result : goal.invariant_of-result
invariant_of-result c =
    let game = c.args.game.now in (
      rw (c.push_reserved-2.ensures.items, c.in_ok-boards.ensures.items, c.push_reserved.ensures.items, c.in_ok-keys.ensures.items, c.in_ok-moves.ensures.items, c.key.ensures, c.new-board.ensures, c.tables.ensures, c.position.ensures.is)
          (held-new game.rules (story game).last),
      record {
        short = short-new (story game) _ c.keys.ensures.is c.keys.ensures.few;
        small = c.requires.small;
        few = rw c.in_ok-moves.ensures.items (omega arith);
        for_boards = (let a = c.push_reserved-2.ensures.capacity in let b = c.in_ok-boards.ensures.capacity in omega arith);
        for_moves = c.in_ok-moves.ensures.capacity;
        for_keys = (let a = c.push_reserved.ensures.capacity in let b = c.in_ok-keys.ensures.capacity in omega arith);
      },
      rw (c.push_reserved.ensures.items, c.in_ok-keys.ensures.items, c.key.ensures, c.new-board.ensures, c.position.ensures.is)
          (counts-new (story game) _ c.in_ok-slots.slots c.keys.ensures.is c.in_ok-slots.ensures),
      rw (c.push_reserved.ensures.items, c.in_ok-keys.ensures.items, c.key.ensures, c.new-board.ensures, c.position.ensures.is)
          (elim c.if-keep_apart.branch [
            | then-keep_apart w ↦ rw w.apart-is (apart-new (story game) _ c.keys-2.ensures.is (OnTrue_at w.if-keep_apart.true c.keep_apart.ensures))
            | else-keep_apart w ↦ rw w.apart-is (apart-unknown (story game) _)
          ]),
    )

pub keep_apart-requires : goal.keep_apart-requires
keep_apart-requires c = subst (λ (ks : List ℕ). AreCounts ks c.in_ok-slots.slots) (c.keys.ensures.is ∙ sym c.keys-2.ensures.is) c.in_ok-slots.ensures
