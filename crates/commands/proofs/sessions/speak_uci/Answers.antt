use Rattle.std.proofs.lemmas.Result.{err_from_is_err_and}
use Rattle.io_ports.proofs.Asked.{reads_none}
use Rattle.io_ports.specs.declared.dialect.Dialect.TheVariants.{Uci}
use Rattle.commands.proofs.SessionLemmas.{broke_none}
use Rattle.commands.proofs.sessions.speak_uci.Goals as goal

pub returns-in_err-variants-clause-talks : goal.returns-in_err-variants-clause-talks
returns-in_err-variants-clause-talks g c =
    let p = err_from_is_err_and c.from_residual.result c.from_residual.ensures.1 in
    rw p.1 (broke_none _ _ _ _ _ Uci c.args.sections c.args.threads _ _ _ _ _ c.requires.begins (reads_none _))

pub returns-in_err-session-clause-talks : goal.returns-in_err-session-clause-talks
returns-in_err-session-clause-talks g c =
    let p = err_from_is_err_and c.from_residual-in_err-session.result c.from_residual-in_err-session.ensures.1 in
    rw p.1 (broke_none _ _ _ _ _ Uci c.args.sections c.args.threads _ _ _ _ _ c.requires.begins (reads_none _))
