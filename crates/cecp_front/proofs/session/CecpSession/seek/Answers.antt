use Rattle.std.proofs.Common.{◌≡◌, ◌∙◌, ◌≤◌, ap, sym, subst, if◌then◌else◌}
use Rattle.std.specs.Prelude.{is_some}
use Rattle.game_play.specs.Played.{legal_in}
use Rattle.session_model.specs.CecpSession.{depth_for, lowered, time_for}
use Rattle.cecp_front.specs.Thought.{style_of}
use Rattle.cecp_front.proofs.SeekLaws.{all_members, counts_same, depth_least, depth_most, legal_here, on_error, seek_fault, seek_none, seek_result, some_depth, some_first, task_is}
use Rattle.cecp_front.proofs.TurnLaws.{has_first}
use Rattle.cecp_front.proofs.session.CecpSession.seek.Goals as goal

pub returns-in_err-legal-clause-broke : goal.returns-in_err-legal-clause-broke
returns-in_err-legal-clause-broke g c =
    on_error c.from_residual.result
    (seek_none c.args.self.now c.args.source.now c.args.sink.now c.args.clock.now (some_depth c.args.self.now))

pub iterative_deepening-requires-clause-task : goal.iterative_deepening-requires-clause-task
iterative_deepening-requires-clause-task g c κs within =
    let roots : c.as_slice.result.now ≡ legal_in c.self.inside.game =
    c.as_slice.ensures.value ∙ c.legal.view_is ∙ c.in_ok-legal.ensures
    ∙ legal_here c.self.inside.game c.rules.result.now c.position.result.now c.rules.ensures c.position.ensures.is in
    let some = has_first c.args.self.now c.requires.thinks in
    record {
      legal = all_members c.as_slice.result.now (legal_in c.self.inside.game) roots;
      some = some_first c.as_slice.result.now (legal_in c.args.self.now.game) some.0 some.1.0
          (roots ∙ ap (λ s. legal_in s.game) c.self.view_is) some.1.1;
      all = counts_same c.as_slice.result.now (legal_in c.self.inside.game) roots;
      least = subst (λ n. 1 ≤ n) (sym c.depth_for.ensures) (depth_least (is_some c.time_for-time.result) c.self.inside.sd);
      most = subst (λ n. n ≤ 64) (sym c.depth_for.ensures) (depth_most (is_some c.time_for-time.result) c.self.inside.sd);
    }

pub returns-clause-sought : goal.returns-clause-sought
returns-clause-sought g c =
    let state = c.args.self.now in
    let roots : c.as_slice.result.now ≡ legal_in state.game =
    c.as_slice.ensures.value ∙ c.legal.view_is ∙ c.in_ok-legal.ensures
    ∙ legal_here c.self.inside.game c.rules.result.now c.position.result.now c.rules.ensures c.position.ensures.is
    ∙ ap (λ s. legal_in s.game) c.self.view_is in
    let time : c.time_for-time.result ≡ time_for state = c.time_for-time.ensures ∙ ap time_for c.self.view_is in
    let depths : c.depth_for.result ≡ depth_for state =
    c.depth_for.ensures ∙ ap (λ t. lowered (if is_some t then 64 else 4) c.self.inside.sd) time
    ∙ ap (λ s. lowered (if is_some (time_for state) then 64 else 4) s.sd) c.self.view_is in
    seek_result g.S.Source.left g.K.Sink.taken g.C.Clock.given g.C.Clock.count g.C.Clock.last c.args.source.now c.iterative_deepening.new.source
    c.args.sink.now c.iterative_deepening.new.sink c.args.clock.now c.begin-start.new.clock c.iterative_deepening.new.clock state _
    (task_is state c.self.inside.game c.as_slice.result.now c.depth_for.result c.time_for-time.result
    (ap (λ s. s.game) c.self.view_is) roots time depths)
    c.begin-start.result.first c.begin-start.ensures.given c.begin-start.ensures.count c.begin-start.ensures.last
    c.style_of.result (c.style_of.ensures ∙ ap (λ s. style_of s.posts) c.self.view_is)
    (g.S.Source.owed c.args.source.now) (g.S.Source.owed c.iterative_deepening.new.source) c.iterative_deepening.new.line c.iterative_deepening.result
    c.iterative_deepening.ensures.deepened

pub returns-clause-broke : goal.returns-clause-broke
returns-clause-broke g c =
    let state = c.args.self.now in
    let roots : c.as_slice.result.now ≡ legal_in state.game =
    c.as_slice.ensures.value ∙ c.legal.view_is ∙ c.in_ok-legal.ensures
    ∙ legal_here c.self.inside.game c.rules.result.now c.position.result.now c.rules.ensures c.position.ensures.is
    ∙ ap (λ s. legal_in s.game) c.self.view_is in
    let time : c.time_for-time.result ≡ time_for state = c.time_for-time.ensures ∙ ap time_for c.self.view_is in
    let depths : c.depth_for.result ≡ depth_for state =
    c.depth_for.ensures ∙ ap (λ t. lowered (if is_some t then 64 else 4) c.self.inside.sd) time
    ∙ ap (λ s. lowered (if is_some (time_for state) then 64 else 4) s.sd) c.self.view_is in
    seek_fault g.S.Source.left g.K.Sink.taken g.C.Clock.given g.C.Clock.count g.C.Clock.last c.args.source.now c.iterative_deepening.new.source
    c.args.sink.now c.iterative_deepening.new.sink c.args.clock.now c.begin-start.new.clock c.iterative_deepening.new.clock state _
    (task_is state c.self.inside.game c.as_slice.result.now c.depth_for.result c.time_for-time.result
    (ap (λ s. s.game) c.self.view_is) roots time depths)
    c.begin-start.result.first c.begin-start.ensures.given c.begin-start.ensures.count c.begin-start.ensures.last
    c.style_of.result (c.style_of.ensures ∙ ap (λ s. style_of s.posts) c.self.view_is)
    c.iterative_deepening.result c.iterative_deepening.ensures.broke
