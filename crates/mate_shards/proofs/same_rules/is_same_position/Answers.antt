use Rattle.std.proofs.Common.{ap}
use Rattle.rules_model.specs.declared.board.Position.{Position}
use Rattle.rules_model.specs.Repeats.{repeat_of}
use Rattle.mate_shards.proofs.SameLemmas.{position-from}
use Rattle.mate_shards.proofs.same_rules.is_same_position.Goals as goal

pub returns-then-is_same_repeat : goal.returns-then-is_same_repeat
returns-then-is_same_repeat c =
    let a = c.args.a.now in
    let b = c.args.b.now in
    let same = c.is_same_repeat.ensures.0 c.if-is_same_repeat.true in (
      λ t. let counts = c.are_same_counts.ensures.0 t in position-from a b same counts.0 counts.1,
      λ e. c.are_same_counts.ensures.1 (ap (λ (p : Position). p.counter) e, ap (λ (p : Position). p.number) e),
    )

pub returns-else-is_same_repeat : goal.returns-else-is_same_repeat
returns-else-is_same_repeat c = (
  λ t. let f = c.if-is_same_repeat.false in absurd (cc),
  λ e. c.is_same_repeat.ensures.1 (ap repeat_of e),
)
