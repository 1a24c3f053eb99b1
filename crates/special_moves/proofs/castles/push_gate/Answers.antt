use Rattle.special_moves.proofs.castles.push_gate.Goals as goal

pub returns-clause-ok : goal.returns-clause-ok
returns-clause-ok g c = rw (c.castle_gates-may.ensures, c.castle_move.ensures) at c.push_if.ensures.ok

pub returns-clause-err : goal.returns-clause-err
returns-clause-err g c = rw (c.castle_gates-may.ensures, c.castle_move.ensures) at c.push_if.ensures.err
