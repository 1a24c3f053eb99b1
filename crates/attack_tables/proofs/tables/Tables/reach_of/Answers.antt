use Rattle.std.proofs.Common.{◌==◌, rules, ap, sym, ◌∙◌}
use Rattle.std.proofs.lemmas.Nat.Bits.{bit_at-zero}
use Rattle.rules_model.specs.Fit.{IsFit}
use Rattle.move_tables.proofs.ReachLaws.{no_kind}
use Rattle.attack_tables.proofs.tables.Tables.reach_of.Goals as goal

pub returns-else-piece-lt26 : goal.returns-else-piece-lt26
returns-else-piece-lt26 c = λ cells is s.
    let fit : IsFit c.args.self.now = rw (sym c.self.view_is) c.self.invariant.0 in
    ap (λ x. x == 1) (bit_at-zero s) ∙ sym (no_kind c.args.self.now cells c.args.piece.side c.args.piece.kind c.args.from c.args.mode s fit (search rules))
