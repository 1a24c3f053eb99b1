use Rattle.std.proofs.lemmas.Result.{err_from_is_err_and}
use Rattle.io_ports.proofs.Asked.{reads_none}
use Rattle.io_ports.specs.declared.dialect.Dialect.TheVariants.{Cecp}
use Rattle.commands.proofs.SessionLemmas.{broke_none, cecp_broke, cecp_spoke}
use Rattle.commands.proofs.sessions.speak_cecp.Goals as goal

pub returns-in_err-variants-clause-talks : goal.returns-in_err-variants-clause-talks
returns-in_err-variants-clause-talks g c =
    let p = err_from_is_err_and c.from_residual.result c.from_residual.ensures.1 in
    rw p.1 (broke_none _ _ _ _ _ Cecp c.args.sections c.args.threads _ _ _ _ _ c.requires.begins (reads_none _))

pub returns-in_err-session-clause-talks : goal.returns-in_err-session-clause-talks
returns-in_err-session-clause-talks g c =
    let p = err_from_is_err_and c.from_residual-in_err-session.result c.from_residual-in_err-session.ensures.1 in
    rw p.1 (broke_none _ _ _ _ _ Cecp c.args.sections c.args.threads _ _ _ _ _ c.requires.begins (reads_none _))

pub returns-in-Ok-clause-talks : goal.returns-in-Ok-clause-talks
returns-in-Ok-clause-talks g c =
    cecp_spoke _ _ _ _ _ _ _ c.in_ok-session.ensures (c.in-Ok.ensures.spoke (g.F.Files.contents c.args.files.now)) (reads_none _)

pub returns-clause-talks : goal.returns-clause-talks
returns-clause-talks g c =
    cecp_broke _ _ _ _ _ c.in_ok-session.ensures (c.in-Err.ensures.part (g.F.Files.contents c.args.files.now)) (reads_none _)
