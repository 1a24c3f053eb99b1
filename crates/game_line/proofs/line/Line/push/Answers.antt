use Rattle.std.proofs.Common.{◌≡◌, ℕ, List, [], ◌∷◌, ◌++◌, length, ap, sym, subst, arith, ◌∙◌}
use Rattle.std.proofs.lemmas.Bool.{OnTrue_at}
use Rattle.foundation.specs.Member.{Member}
use Rattle.game_play.specs.Played.{story}
use Rattle.legality.specs.Stance.{Stance, after}
use Rattle.legality.specs.Stance as Stance
use Rattle.game_line.specs.Lined.{Lined}
use Rattle.game_line.specs.Slots.{AreApart}
use Rattle.game_line.proofs.HeldLemmas.{line-stance, line-legal, held-last, held-push, held-count}
use Rattle.game_line.proofs.SlotLaws.{apart-more, apart-same, line-keys, slots-few, slots-push}
use Rattle.game_line.proofs.line.Line.push.Goals as goal
use Rattle.game_line.proofs.line.Line.push.Goals.{then-stays_apart, else-stays_apart}

pub after-next-requires : goal.after-next-requires
after-next-requires c =
    let i = c.self.inside in
    let last = line-stance i.game.now i.moves.items i.room i.boards.items i.keys.items c.self.invariant.0 c.args.self.now c.self.view_is c.len.result c.index.result.now (omega arith) c.index.ensures in
    subst (λ (s : Stance). Member c.args.m.now (Stance.legal_in s)) (sym last) c.requires.legal

pub push_reserved-requires : goal.push_reserved-requires
push_reserved-requires c =
    let i = c.self.inside in
    let moves : length i.moves.items ≡ length c.args.self.now.moves = ap (λ (l : Lined). length l.moves) c.self.view_is in
    let room : i.room ≡ c.args.self.now.room = ap (λ (l : Lined). l.room) c.self.view_is in
    let lt = c.requires.room in
    let count = (held-count i.game.now.rules (story i.game.now).last i.moves.items i.boards.items i.keys.items c.self.invariant.0).1 in
    let cap = c.self.invariant.1.for_keys in
    let ok = i.keys.ok.0 in
    omega arith

pub push_reserved-requires-2 : goal.push_reserved-requires-2
push_reserved-requires-2 c =
    let i = c.self.inside in
    let moves : length i.moves.items ≡ length c.args.self.now.moves = ap (λ (l : Lined). length l.moves) c.self.view_is in
    let room : i.room ≡ c.args.self.now.room = ap (λ (l : Lined). l.room) c.self.view_is in
    let lt = c.requires.room in
    let count = (held-count i.game.now.rules (story i.game.now).last i.moves.items i.boards.items i.keys.items c.self.invariant.0).0 in
    let cap = c.self.invariant.1.for_boards in
    let ok = i.boards.ok.0 in
    omega arith

pub invariant_of-self : goal.invariant_of-self
invariant_of-self c =
    let i = c.self.inside in
    let held = c.self.invariant.0 in
    let has = c.self.invariant.1 in
    let moves : length i.moves.items ≡ length c.args.self.now.moves = ap (λ (l : Lined). length l.moves) c.self.view_is in
    let room : i.room ≡ c.args.self.now.room = ap (λ (l : Lined). l.room) c.self.view_is in
    let lt = c.requires.room in
    let last = held-last i.game.now.rules (story i.game.now).last i.moves.items i.boards.items i.keys.items held c.len.result c.index.result.now (omega arith) c.index.ensures in
    let legal = line-legal i.game.now i.moves.items i.room i.boards.items i.keys.items held c.args.self.now c.self.view_is c.args.m.now c.requires.legal in (
      held-push i.game.now.rules (story i.game.now).last i.moves.items i.boards.items i.keys.items held c.args.m.now legal c.after-next.result c.key-key.result (c.after-next.ensures ∙ ap (λ (s : Stance). after s c.args.m.now) last) c.key-key.ensures
          _ _ _ c.push_reserved-2.ensures.items c.push_reserved-3.ensures.items c.push_reserved.ensures.items,
      record {
        short = has.short;
        small = has.small;
        few = (let a = ap length c.push_reserved-3.ensures.items in let n = c.push_reserved-3.ensures.len in let ok = i.moves.ok.0 in let ok2 = c.push_reserved-3.new.self.ok.0 in omega arith);
        for_boards = (let a = has.for_boards in let b = c.push_reserved-2.ensures.capacity in omega arith);
        for_moves = (let a = has.for_moves in let b = c.push_reserved-3.ensures.capacity in omega arith);
        for_keys = (let a = has.for_keys in let b = c.push_reserved.ensures.capacity in omega arith);
      },
      slots-push (story i.game.now) i.keys.items i.slots c.self.invariant.2 c.key-key.result _ _ c.push_reserved.ensures.items c.count.ensures,
      elim c.if-stays_apart.branch [
        | then-stays_apart w ↦
            let keys = line-keys i.game.now i.moves.items i.room i.boards.items i.keys.items i.slots held c.self.invariant.2 c.args.self.now c.self.view_is in
            let apart = subst (λ (ks : List ℕ). AreApart (ks ++ c.key-key.result ∷ [])) keys (OnTrue_at w.if-stays_apart.true c.stays_apart.ensures) in
            rw w.apart-is (apart-more (story i.game.now) i.keys.items c.key-key.result _ _ c.push_reserved.ensures.items (omega arith) apart)
        | else-stays_apart w ↦ rw w.apart-is (apart-same (story i.game.now) i.keys.items i.apart c.self.invariant.3 c.key-key.result _ c.push_reserved.ensures.items)
      ],
    )

pub count-requires : goal.count-requires
count-requires c =
    let i = c.self.inside in
    let has = c.self.invariant.1 in
    let count = (held-count i.game.now.rules (story i.game.now).last i.moves.items i.boards.items i.keys.items c.self.invariant.0).1 in
    let short = has.short in let few = has.few in let small = has.small in
    let most = slots-few (story i.game.now) i.keys.items i.slots c.self.invariant.2 c.key-key.result in
    omega arith
