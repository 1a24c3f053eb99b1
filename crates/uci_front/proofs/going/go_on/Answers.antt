use Rattle.std.proofs.Common.{◌≡◌, ◌∙◌, [], ◌∷◌, ◌++◌, List, refl, ap}
use Rattle.io_ports.specs.declared.dialect.Dialect.TheVariants.{Uci}
use Rattle.session_model.specs.UciSession.{announced}
use Rattle.session_model.specs.UciState.{State}
use Rattle.session_model.proofs.Saying.{broke_say, held_cut, next_follows, part_settled, part_then, ran_next_of, ran_say, ran_settled, unsaid}
use Rattle.session_model.specs.Lines.{Exchanges, none}
use Rattle.watching.specs.Events.{Event, Says}
use Rattle.uci_front.specs.Searched.{Completes}
use Rattle.uci_front.specs.TextView.{last_line}
use Rattle.thinking.specs.Views.{announced_seen}
use Rattle.uci_front.proofs.GoLemmas.{Heard, Told, gone_told, heard_then, served_told, settled_follows, settled_stopped, told_then, unserved_broke, unserved_told, waits_follow}
use Rattle.uci_front.proofs.HeldLemmas.{held_follows, held_stopped, on_err}
use Rattle.uci_front.proofs.going.go_on.Goals as goal

pub returns-in_err-best-clause-unserved : goal.returns-in_err-best-clause-unserved
returns-in_err-best-clause-unserved g c =
    let b = c.in_err-best.ensures.broke in
    on_err c.from_residual.result (λ contents line asked asks is.
    unserved_broke c.args.session.now c.args.plan.now line asked contents asks is b
    (part_then Uci (λ events. (before : List Event) × (events ≡ before ++ Says (last_line b.best) ∷ []) × Completes c.args.session.now c.args.plan.now b.best b.kept b.behind before)
    (last_line b.best) (λ a p. (a, refl, p)) b.part))

pub returns-in_err-text-clause-unserved : goal.returns-in_err-text-clause-unserved
returns-in_err-text-clause-unserved g c =
    let owed = g.S.Source.owed c.args.source.now in
    let came = c.in_ok-best.field-0 in
    let ran = c.in_ok-best.ensures.came.ran in
    let text = c.search.new.line in
    on_err c.from_residual-in_err-text.result (λ contents line asked asks is.
    unserved_told c.args.session.now c.args.plan.now came text line asked asks is contents
    (unsaid Uci (Told owed c.args.session.now c.args.plan.now came text) (last_line came.best)
    (gone_told owed c.args.session.now c.args.plan.now came text (last_line came.best) refl) ran)
    (held_cut came.why text) (λ h. held_stopped came.why text ran.holds.stops) (held_follows came.why text))

pub returns-in_err-why-clause-unserved : goal.returns-in_err-why-clause-unserved
returns-in_err-why-clause-unserved g c =
    let owed = g.S.Source.owed c.args.source.now in
    let came = c.in_ok-best.field-0 in
    let ran = c.in_ok-best.ensures.came.ran in
    let text = c.search.new.line in
    on_err c.from_residual-in_err-why.result (λ contents line asked asks is.
    unserved_told c.args.session.now c.args.plan.now came text line asked asks is contents
    (part_then Uci (Told owed c.args.session.now c.args.plan.now came text) (last_line came.best)
    (told_then owed c.args.session.now c.args.plan.now came text (last_line came.best) refl)
    (part_settled Uci (Heard owed c.args.session.now c.args.plan.now came text) (heard_then owed c.args.session.now c.args.plan.now came text)
    c.args.plan.now.holds came.why text ran c.in_err-why.field-0.0 c.in_err-why.ensures.waits c.in_err-why.ensures.broken))
    none (λ h. tt) (waits_follow c.args.plan.now.holds came.why text [] c.in_err-why.ensures.waits))

pub returns-in_err-say-clause-unserved : goal.returns-in_err-say-clause-unserved
returns-in_err-say-clause-unserved g c =
    let owed = g.S.Source.owed c.args.source.now in
    let came = c.in_ok-best.field-0 in
    let ran = c.in_ok-best.ensures.came.ran in
    let text = c.search.new.line in
    let text' = c.wait_if_held.new.line in
    let why = c.in_ok-why.why in
    let said : c.as_slice.result.now ≡ last_line came.best = c.as_slice.ensures.value ∙ c.text.view_is ∙ c.in_ok-text.ensures in
    let moved = Exchanges g.S.Source.left g.K.Sink.taken c.search.new.source c.wait_if_held.new.source c.search.new.sink c.wait_if_held.new.sink in
    on_err c.from_residual-in_err-say.result (λ contents line asked asks is.
    unserved_told c.args.session.now c.args.plan.now came text line asked asks is contents
    (broke_say Uci (Told owed c.args.session.now c.args.plan.now came text) c.as_slice.result.now
    (told_then owed c.args.session.now c.args.plan.now came text c.as_slice.result.now said)
    (ran_settled Uci (Heard owed c.args.session.now c.args.plan.now came text) (heard_then owed c.args.session.now c.args.plan.now came text)
    c.args.plan.now.holds came.why text ran text' why c.in_ok-why.ensures.settled) c.in_err-say.ensures.err)
    (held_cut why text')
    (settled_stopped c.args.session.now c.args.plan.now asked moved came.why text why text' _ is c.in_ok-why.ensures.settled ran.holds.stops (held_follows why text'))
    (settled_follows c.args.plan.now.holds moved came.why text text' why _ c.in_ok-why.ensures.settled (held_follows why text')))

pub returns-clause-served : goal.returns-clause-served
returns-clause-served g c = λ line asked asks is.
    let owed = g.S.Source.owed c.args.source.now in
    let came = c.in_ok-best.field-0 in
    let ran = c.in_ok-best.ensures.came.ran in
    let text = c.search.new.line in
    let text' = c.wait_if_held.new.line in
    let why = c.in_ok-why.why in
    let said : c.as_slice.result.now ≡ last_line came.best = c.as_slice.ensures.value ∙ c.text.view_is ∙ c.in_ok-text.ensures in
    let moved = Exchanges g.S.Source.left g.K.Sink.taken c.search.new.source c.wait_if_held.new.source c.search.new.sink c.wait_if_held.new.sink in
    let after : c.keep.new.self ≡ announced c.args.session.now (announced_seen came.kept) =
    c.keep.ensures ∙ ap (λ (s : State). announced s (announced_seen came.kept)) c.in_ok-best.ensures.same in
    served_told c.args.session.now c.keep.new.self c.args.plan.now came text line asked asks is
    (ran_next_of Uci why text'
    (ran_say Uci (Told owed c.args.session.now c.args.plan.now came text) c.as_slice.result.now
    (told_then owed c.args.session.now c.args.plan.now came text c.as_slice.result.now said)
    (ran_settled Uci (Heard owed c.args.session.now c.args.plan.now came text) (heard_then owed c.args.session.now c.args.plan.now came text)
    c.args.plan.now.holds came.why text ran text' why c.in_ok-why.ensures.settled) c.in_ok-say.ensures.ok) c.next_of.ensures.next)
    after
    (λ following may. settled_stopped c.args.session.now c.args.plan.now asked moved came.why text why text' _ is c.in_ok-why.ensures.settled ran.holds.stops
    (next_follows why _ _ text' c.next_of.result c.next_of.new.line following c.next_of.ensures.next may))
    (λ following may. settled_follows c.args.plan.now.holds moved came.why text text' why _ c.in_ok-why.ensures.settled
    (next_follows why _ _ text' c.next_of.result c.next_of.new.line following c.next_of.ensures.next may))
    (rw (c.next_of.ensures.owed, c.in_ok-why.ensures.owed) (c.in_ok-best.ensures.came.spends asked is))
