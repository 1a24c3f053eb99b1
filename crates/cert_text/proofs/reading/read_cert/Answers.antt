use Rattle.std.proofs.Common.{◌≡◌, Ok, List, ℕ, subst}
use Rattle.io_ports.specs.Lines.{Line, lines_of}
use Rattle.game_play.specs.Played.{story}
use Rattle.proof_text.proofs.ReadingLemmas.{text-holds}
use Rattle.cert_text.specs.Fault.{IsFaultOrMemory}
use Rattle.cert_text.specs.Needed.{lines_of_cert}
use Rattle.cert_text.specs.Reading.{cert_of}
use Rattle.cert_text.specs.declared.fault.NoCert.{NoCert}
use Rattle.cert_text.specs.View.{HasWhy}
use Rattle.cert_text.proofs.reading.read_cert.Goals as goal

pub returns-in-Ok : goal.returns-in-Ok
returns-in-Ok c =
    let rules = c.args.game.now.rules in
    let g = story c.args.game.now in
    subst (λ (text : List ℕ). cert_of rules g (lines_of text) ≡ Ok c.in-Ok.cert) c.new-source.ensures
    (text-holds _ _ (lines_of_cert rules g) (λ (lines : List Line). cert_of rules g lines ≡ Ok c.in-Ok.cert) c.in-Ok.ensures.heard)

pub returns-in-Err-Faulty : goal.returns-in-Err-Faulty
returns-in-Err-Faulty c =
    let rules = c.args.game.now.rules in
    let g = story c.args.game.now in
    let says = text-holds _ _ (lines_of_cert rules g) (λ (lines : List Line). HasWhy (cert_of rules g lines) c.in-Err-Faulty.field-0) c.in-Err-Faulty.ensures.heard in
    subst (λ (text : List ℕ). IsFaultOrMemory (cert_of rules g (lines_of text)) c.in-Err-Faulty.fault) c.new-source.ensures
    (subst (λ (why : NoCert). HasWhy (cert_of rules g (lines_of c.new-source.result.rest.now)) why) c.in-Err-Faulty.field-0-is says)
