use Rattle.std.proofs.Common.{◌≡◌, ◌+◌, ◌-◌, not, take, get_or, IfOk, sym, ◌∙◌, subst, arith, rules}
use Rattle.std.proofs.lemmas.List.{take_all}
use Rattle.foundation.specs.Member.{Member, Lists}
use Rattle.rules_model.specs.Next.{next_repeat}
use Rattle.legality.specs.Stance.{legal_in, repeat_in}
use Rattle.stipulation.specs.declared.task.Task.{Task}
use Rattle.stipulation.specs.Bare.{reaches, IsOf}
use Rattle.stipulation.proofs.BareLaws.{after-reaches, any-stuck, ended-reaches, legal-listed, listed-legal, member-next, next-told, none-tells, one-tells}
use Rattle.stipulation.proofs.CheckLaws.{quiet-move}
use Rattle.stipulation.proofs.SearchLemmas.{listed-at, no_move}
use Rattle.stipulation.proofs.reach_facts.ReachFacts.+reach.Goals as goal

pub by_move-returns-then-not-gives_check-clause-is : goal.by_move-returns-then-not-gives_check-clause-is
by_move-returns-then-not-gives_check-clause-is t c =
    sym (quiet-move c.args.self.now c.args.board.now c.args.plies c.args.m.now c.gives_check.result c.requires.rules c.if-plies-eq0.true c.gives_check.ensures c.if-not-gives_check.true)

pub by_move-returns-clause-is : goal.by_move-returns-clause-is
by_move-returns-clause-is t c =
    subst (λ x. IfOk c.reaches.result (λ b. b ≡ x)) (after-reaches c.args.self.now c.args.board.now c.requires.rules c.after-next.result c.args.plies c.args.m.now c.after-next.ensures) c.reaches.ensures.is

pub by_moves-by_move-requires : goal.by_moves-by_move-requires
by_moves-by_move-requires t c = (
  omega (arith, c.decreases),
  (
    subst (λ (u : Task). IsOf u c.args.board.now) (sym c.loop-m.invariant.same) c.requires.rules,
    c.requires.listed.sound (get_or c.args.moves.now c.loop-m.m-index no_move) (listed-at c.args.moves.now c.loop-m.m-index no_move c.loop-m-test.true),
  ),
)

pub by_moves-returns-then-branch-choosing-clause-is : goal.by_moves-returns-then-branch-choosing-clause-is
by_moves-returns-then-branch-choosing-clause-is t c =
    let f = c.args.self.now in
    let s = c.args.board.now in
    let m = get_or c.args.moves.now c.loop-m.m-index no_move in
    let listed = listed-at c.args.moves.now c.loop-m.m-index no_move c.loop-m-test.true in
    let said = subst (λ (u : Task). c.in_ok-by_move.field-0 ≡ reaches u c.args.plies (next_repeat u.game.now.rules (repeat_in s) m)) c.loop-m.invariant.same c.in_ok-by_move.ensures.is in
    sym (one-tells f (repeat_in s) c.args.plies c.is_choosing-choosing.result m c.requires.ongoing c.is_choosing-choosing.ensures
    (listed-legal f s c.requires.rules c.args.moves.now m c.requires.listed listed) (sym said ∙ search rules))

pub by_moves-loop-m-preserved : goal.by_moves-loop-m-preserved
by_moves-loop-m-preserved t c =
    let s = c.args.board.now in
    let ms = c.args.moves.now in
    let i = c.loop-m.m-index in
    let m = get_or ms i no_move in
    let said = subst (λ (u : Task). c.in_ok-by_move.field-0 ≡ reaches u c.args.plies (next_repeat u.game.now.rules (repeat_in s) m)) c.loop-m.invariant.same c.in_ok-by_move.ensures.is in
    let this : reaches c.args.self.now c.args.plies (next_repeat c.args.self.now.game.now.rules (repeat_in s) m) ≡ not c.is_choosing-choosing.result = sym said ∙ search rules in
    record {
      same = c.in_ok-by_move.ensures.same ∙ c.loop-m.invariant.same;
      told = λ n k. next-told c.args.self.now s c.args.plies c.is_choosing-choosing.result ms i n this c.loop-m.invariant.told (member-next ms i no_move n c.loop-m-test.true k);
    }

pub by_moves-returns-clause-is : goal.by_moves-returns-clause-is
by_moves-returns-clause-is t c =
    let f = c.args.self.now in
    let s = c.args.board.now in
    let ms = c.args.moves.now in
    let all : take c.loop-m.m-index ms ≡ ms = take_all c.loop-m.m-index ms (search rules) in
    sym (none-tells f (repeat_in s) c.args.plies c.is_choosing-choosing.result c.requires.ongoing c.is_choosing-choosing.ensures
    (λ n k. c.loop-m.invariant.told n (subst (λ us. Member n us) (sym all) (legal-listed f s c.requires.rules ms n c.requires.listed k))))

pub settle-end_where-requires : goal.settle-end_where-requires
settle-end_where-requires t c =
    let same : c.as_slice-moves.result.now ≡ c.in_ok-moves.moves = search rules in
    let stuck = any-stuck c.args.self.now c.args.board.now c.requires.rules c.as_slice-moves.result.now
    (subst (λ ms. Lists (λ m. Member m (legal_in c.args.board.now)) ms) (sym same) c.in_ok-moves.ensures) in
    search (rules, stuck)

pub settle-by_moves-requires : goal.settle-by_moves-requires
settle-by_moves-requires t c =
    let same : c.as_slice-moves.result.now ≡ c.in_ok-moves.moves = search rules in (
      omega (arith, c.decreases),
      (
        c.requires.rules,
        (
          sym c.ended.ensures ∙ c.in-None.is,
          subst (λ ms. Lists (λ m. Member m (legal_in c.args.board.now)) ms) (sym same) c.in_ok-moves.ensures,
        ),
      ),
    )

pub settle-returns-in-Some-clause-is : goal.settle-returns-in-Some-clause-is
settle-returns-in-Some-clause-is t c =
    sym (ended-reaches c.args.self.now (repeat_in c.args.board.now) c.args.plies c.in-Some.won (sym c.ended.ensures ∙ c.in-Some.is))

pub settle-returns-clause-is : goal.settle-returns-clause-is
settle-returns-clause-is t c =
    let back : c.args.plies - 1 + 1 ≡ c.args.plies = omega arith in
    subst (λ k. IfOk c.by_moves.result (λ b. b ≡ reaches c.args.self.now k (repeat_in c.args.board.now))) back c.by_moves.ensures.is
