use Rattle.std.proofs.Common.{◌≡◌, Ok, arith}
use Rattle.std.specs.Prelude.{Result}
use Rattle.std.proofs.lemmas.Result.{err_from_is_err_and}
use Rattle.game_text.proofs.HeardLemmas.{heard_nothing, heard_so, same_needed}
use Rattle.cert_text.specs.declared.fault.CertFault.{CertFault}
use Rattle.cert_text.specs.Reading.{SoFar}
use Rattle.game_play.specs.Played.{story}
use Rattle.cert_text.specs.View.{HasWhy, so_far}
use Rattle.cert_text.proofs.LineLemmas.{begun_heard, taken_finished, taken_unfinished, taken_why}
use Rattle.cert_text.proofs.reading.read_cert_lines.Goals as goal

pub take_lines-requires : goal.take_lines-requires
take_lines-requires g c = record { path = c.new-reader.ensures.path c.args.game.now }

pub returns-in_err-line-clause-heard : goal.returns-in_err-line-clause-heard
returns-in_err-line-clause-heard g c =
    let p = err_from_is_err_and c.from_residual.result c.from_residual.ensures.1 in
    rw (p.1, p.2) (heard_nothing _ _ _ (λ lines. tt))

pub returns-in_err-take_lines-clause-heard : goal.returns-in_err-take_lines-clause-heard
returns-in_err-take_lines-clause-heard g c =
    let p = err_from_is_err_and c.from_residual-in_err-take_lines.result c.from_residual-in_err-take_lines.ensures.1 in
    rw (p.1, p.2) (heard_so _ _ _ _ _ _ (begun_heard c.args.game.now.rules (story c.args.game.now) _ _ (so_far c.new-reader.result) (λ (r : Result SoFar CertFault). HasWhy r c.in_err-take_lines.field-0.0) c.new-reader.ensures.said c.in_err-take_lines.ensures.heard)
    (same_needed _) (λ lines says. taken_why c.args.game.now.rules (story c.args.game.now) lines c.in_err-take_lines.field-0.0 says))

pub returns-in_err-take_lines-clause-cause : goal.returns-in_err-take_lines-clause-cause
returns-in_err-take_lines-clause-cause g c =
    let p = err_from_is_err_and c.from_residual-in_err-take_lines.result c.from_residual-in_err-take_lines.ensures.1 in
    rw (p.1, p.2) (record { later = omega arith; failed = λ unread. c.in_err-take_lines.ensures.cause.failed unread })

pub returns-in_err-finish-clause-heard : goal.returns-in_err-finish-clause-heard
returns-in_err-finish-clause-heard g c =
    let p = err_from_is_err_and c.from_residual-in_err-finish.result c.from_residual-in_err-finish.ensures.1 in
    rw (p.1, p.2) (heard_so _ _ _ _ _ _ (begun_heard c.args.game.now.rules (story c.args.game.now) _ _ (so_far c.new-reader.result) (λ (r : Result SoFar CertFault). r ≡ Ok (so_far c.take_lines.new.reader)) c.new-reader.ensures.said c.in_ok-take_lines.ensures.heard)
    (same_needed _) (λ lines says. taken_unfinished c.args.game.now.rules (story c.args.game.now) lines (so_far c.take_lines.new.reader) c.in_err-finish.field-0.0 says c.in_err-finish.ensures))

pub returns-clause-heard : goal.returns-clause-heard
returns-clause-heard g c =
    heard_so _ _ _ _ _ _ (begun_heard c.args.game.now.rules (story c.args.game.now) _ _ (so_far c.new-reader.result) (λ (r : Result SoFar CertFault). r ≡ Ok (so_far c.take_lines.new.reader)) c.new-reader.ensures.said c.in_ok-take_lines.ensures.heard)
    (same_needed _) (λ lines says. taken_finished c.args.game.now.rules (story c.args.game.now) lines (so_far c.take_lines.new.reader) c.in_ok-finish.field-0 says c.in_ok-finish.ensures)
