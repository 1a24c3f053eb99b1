use Rattle.std.proofs.Common.{◌≡◌, ◌∙◌, ap, subst, sym}
use Rattle.game_play.specs.Played.{legal_in}
use Rattle.rules_model.specs.declared.board.Position.{Position}
use Rattle.rules_model.specs.Legal.{legal}
use Rattle.rules_model.specs.Repeats.{repeat_of}
use Rattle.session_model.specs.Mates.{mover}
use Rattle.session_model.specs.UciGo.{go_of, is_held, roots_of, share_of, time_for}
use Rattle.uci_lines.specs.GoView.{go_seen}
use Rattle.uci_lines.specs.View.{texts}
use Rattle.uci_front.specs.PlanView.{words_said}
use Rattle.uci_front.specs.PlanView.{ArePlies}
use Rattle.uci_front.proofs.PlanLemmas.{asked_plies, plan_is}
use Rattle.uci_front.proofs.plan.read_plan.Goals as goal

pub plies_of-requires : goal.plies_of-requires
plies_of-requires c =
    subst (λ go. ArePlies go.perft) (sym c.in_ok-go.ensures) (asked_plies (texts c.deref.result.now))

pub returns : goal.returns
returns c =
    let seen : go_seen c.in_ok-go.go ≡ go_of (words_said c.args.rest) =
    c.in_ok-go.ensures ∙ ap (λ ws. go_of (texts ws)) c.deref.ensures.value ∙ ap go_of c.in_ok-words.ensures in
    let side : c.position.result.now.side ≡ mover c.args.session.now.game =
    ap (λ (p : Position). p.side) c.position.ensures.is ∙ ap mover c.game-game.ensures in
    let legal : c.in_ok-legal.legal ≡ legal_in c.args.session.now.game =
    c.in_ok-legal.ensures
    ∙ ap (λ rules. legal rules (repeat_of c.position-2.result.now)) c.rules.ensures
    ∙ ap (λ p. legal c.game-game.result.now.rules (repeat_of p)) c.position-2.ensures.is
    ∙ ap legal_in c.game-game.ensures in
    let plies : ArePlies c.in_ok-go.go.perft =
    subst (λ go. ArePlies go.perft) (sym c.in_ok-go.ensures) (asked_plies (texts c.deref.result.now)) in
    plan_is c.args.session.now (go_seen c.in_ok-go.go) _ _ seen legal
    (c.in_ok-roots.ensures ∙ ap (roots_of (go_seen c.in_ok-go.go)) (c.as_slice.ensures.value ∙ c.legal.view_is))
    c.last_depth.ensures c.mate_of.ensures c.plies_of.ensures plies
    (c.share_of.ensures ∙ ap (share_of (go_seen c.in_ok-go.go)) c.threads.ensures.is)
    (c.time_for.ensures ∙ ap (time_for (go_seen c.in_ok-go.go)) side)
    (c.is_held.ensures ∙ ap (is_held (go_seen c.in_ok-go.go)) side)
