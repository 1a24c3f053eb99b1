use Rattle.std.proofs.Common.{◌∙◌}
use Rattle.mate_settle.proofs.settling.by_one.Goals as goal

pub by_move_within-requires : goal.by_move_within-requires
by_move_within-requires c =
    let d = c.requires.decides in
    let wins = c.if-attacking.true in
    record {
      attack = record { ongoing = d.ongoing; turn = d.turn ∙ wins };
      legal = d.legal;
      won = d.after ∙ wins;
      short = c.requires.short wins;
    }

pub refuted_by_move_within-requires : goal.refuted_by_move_within-requires
refuted_by_move_within-requires c =
    let d = c.requires.decides in
    let loses = c.if-attacking.false in
    record {
      defence = record { ongoing = d.ongoing; turn = d.turn ∙ loses };
      legal = d.legal;
      refuted = d.after ∙ loses;
    }
