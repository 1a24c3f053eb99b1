use Rattle.std.proofs.Common.{◌≡◌, true, false, None, Err, ap, sym, ◌∙◌, subst, arith, rules}
use Rattle.std.specs.Option.{IfSome}
use Rattle.rules_model.specs.declared.board.Position.{Position}
use Rattle.rules_model.specs.Sides.{same_side}
use Rattle.forced_wins.specs.Wins.{is_in}
use Rattle.forced_wins.proofs.Rules.{laws}
use Rattle.game_play.specs.Played.{story}
use Rattle.mate_settle.specs.Choices.{IsChoice}
use Rattle.mate_settle.specs.Lines.{lines_within, seen_in}
use Rattle.legality.specs.Stance.{Stance}
use Rattle.mate_settle.proofs.Settled.{is_none}
use Rattle.mate_showing.specs.Answers.{is_at_move}
use Rattle.mate_showing.proofs.Judged.{attack-lines, defence-lines}
use Rattle.mate_showing.proofs.Root.{frame-blocked, outcome-seen, root-ended, root-attack, root-defence, some-of-choice, winning-choice, at-move, idle-ended, idle-defence, none-idle}
use Rattle.mate_showing.proofs.solving.decide.Goals as goal

pub returns-in-Some-clause-won : goal.returns-in-Some-clause-won
returns-in-Some-clause-won g c =
    root-ended c.args.facts.now (story c.args.game.now) (frame-blocked c.args.game.now c.args.facts.now c.requires.frame) c.args.n c.in-Some.won (sym (outcome-seen c.args.game.now c.args.facts.now _ _ _ c.requires.frame c.frame-frame.ensures c.outcome.ensures c.won_by.ensures) ∙ c.in-Some.is)

pub returns-in-Some-clause-gone : goal.returns-in-Some-clause-gone
returns-in-Some-clause-gone g c =
    g.met.W.Watch.wider _ _ 0 (lines_within (seen_in c.args.facts.now) c.args.n c.args.board.now.position) (g.met.W.Watch.none c.args.watch.now) (omega arith)

pub returns-in_err-order-clause-ended : goal.returns-in_err-order-clause-ended
returns-in_err-order-clause-ended g c why is =
    let memory = g.met.W.Watch.memory _ _ _ (g.met.W.Watch.wider _ _ 0 (lines_within (seen_in c.args.facts.now) c.args.n c.args.board.now.position) (g.met.W.Watch.none c.args.watch.now) (omega arith)) in
    search rules

pub returns-in_err-choice-clause-ended : goal.returns-in_err-choice-clause-ended
returns-in_err-choice-clause-ended g c why is =
    let turn : same_side c.args.board.now.position.side c.args.facts.now.attacker ≡ true = search rules in
    let back : c.choose.result ≡ Err why = search rules in
    g.met.W.Watch.ends_wider _ _ _ _ why (c.choose.ensures.ended why back) (attack-lines (seen_in c.args.facts.now) (laws c.args.facts.now.rules c.args.facts.now.attacker) (is_in c.args.facts.now.blocked) c.args.n c.args.board.now.position c.requires.some turn)

pub returns-in-Some-2-clause-gone : goal.returns-in-Some-2-clause-gone
returns-in-Some-2-clause-gone g c =
    let turn : same_side c.args.board.now.position.side c.args.facts.now.attacker ≡ true = search rules in
    g.met.W.Watch.wider _ _ _ _ c.in_ok-choice.ensures.gone (attack-lines (seen_in c.args.facts.now) (laws c.args.facts.now.rules c.args.facts.now.attacker) (is_in c.args.facts.now.blocked) c.args.n c.args.board.now.position c.requires.some turn)

pub returns-in-None-clause-gone : goal.returns-in-None-clause-gone
returns-in-None-clause-gone g c =
    let turn : same_side c.args.board.now.position.side c.args.facts.now.attacker ≡ true = search rules in
    g.met.W.Watch.wider _ _ _ _ c.in_ok-choice.ensures.gone (attack-lines (seen_in c.args.facts.now) (laws c.args.facts.now.rules c.args.facts.now.attacker) (is_in c.args.facts.now.blocked) c.args.n c.args.board.now.position c.requires.some turn)

pub returns-in-Some-2-clause-won : goal.returns-in-Some-2-clause-won
returns-in-Some-2-clause-won g c =
    let turn : same_side c.args.board.now.position.side c.args.facts.now.attacker ≡ true = search rules in
    let w : IsChoice c.args.facts.now c.args.board.now.position c.args.n c.in-Some-2.choice = subst (λ o. IfSome o (IsChoice c.args.facts.now c.args.board.now.position c.args.n)) c.in-Some-2.is c.in_ok-choice.ensures.wins in
    sym (some-of-choice c.args.facts.now c.args.n c.args.board.now.position c.in-Some-2.choice w) ∙ root-attack c.args.facts.now (story c.args.game.now) (frame-blocked c.args.game.now c.args.facts.now c.requires.frame) c.args.n c.args.board.now.position (ap (λ (x : Stance). x.position) c.requires.board) (sym (outcome-seen c.args.game.now c.args.facts.now _ _ _ c.requires.frame c.frame-frame.ensures c.outcome.ensures c.won_by.ensures) ∙ (is_none c.won_by.result c.in_default.not-Some)) turn c.requires.some

pub returns-in-None-clause-won : goal.returns-in-None-clause-won
returns-in-None-clause-won g c =
    let turn : same_side c.args.board.now.position.side c.args.facts.now.attacker ≡ true = search rules in
    let nothing_wins : c.in_ok-choice.field-0 ≡ None = search rules in
    sym (c.in_ok-choice.ensures.none nothing_wins) ∙ root-attack c.args.facts.now (story c.args.game.now) (frame-blocked c.args.game.now c.args.facts.now c.requires.frame) c.args.n c.args.board.now.position (ap (λ (x : Stance). x.position) c.requires.board) (sym (outcome-seen c.args.game.now c.args.facts.now _ _ _ c.requires.frame c.frame-frame.ensures c.outcome.ensures c.won_by.ensures) ∙ (is_none c.won_by.result c.in_default.not-Some)) turn c.requires.some

pub returns-in_err-won-clause-ended : goal.returns-in_err-won-clause-ended
returns-in_err-won-clause-ended g c why is =
    let turn : same_side c.args.board.now.position.side c.args.facts.now.attacker ≡ false = search rules in
    let back : c.all_won.result ≡ Err why = search rules in
    g.met.W.Watch.ends_wider _ _ _ _ why (c.all_won.ensures.ended why back) (defence-lines (seen_in c.args.facts.now) (laws c.args.facts.now.rules c.args.facts.now.attacker) (is_in c.args.facts.now.blocked) c.args.n c.args.board.now.position turn)

pub returns-clause-gone : goal.returns-clause-gone
returns-clause-gone g c =
    let turn : same_side c.args.board.now.position.side c.args.facts.now.attacker ≡ false = search rules in
    g.met.W.Watch.wider _ _ _ _ c.in_ok-won.ensures.gone (defence-lines (seen_in c.args.facts.now) (laws c.args.facts.now.rules c.args.facts.now.attacker) (is_in c.args.facts.now.blocked) c.args.n c.args.board.now.position turn)

pub returns-clause-won : goal.returns-clause-won
returns-clause-won g c =
    let turn : same_side c.args.board.now.position.side c.args.facts.now.attacker ≡ false = search rules in
    c.in_ok-won.ensures.won ∙ root-defence c.args.facts.now (story c.args.game.now) (frame-blocked c.args.game.now c.args.facts.now c.requires.frame) c.args.n c.args.board.now.position (ap (λ (x : Stance). x.position) c.requires.board) (sym (outcome-seen c.args.game.now c.args.facts.now _ _ _ c.requires.frame c.frame-frame.ensures c.outcome.ensures c.won_by.ensures) ∙ (is_none c.won_by.result c.in_default.not-Some)) turn

pub returns-in-Some-clause-named : goal.returns-in-Some-clause-named
returns-in-Some-clause-named g c =
    none-idle c.in-Some.won (is_at_move c.args.facts.now (story c.args.game.now)) (idle-ended c.args.facts.now (story c.args.game.now) c.in-Some.won (sym (outcome-seen c.args.game.now c.args.facts.now _ _ _ c.requires.frame c.frame-frame.ensures c.outcome.ensures c.won_by.ensures) ∙ c.in-Some.is))

pub returns-in-Some-2-clause-best : goal.returns-in-Some-2-clause-best
returns-in-Some-2-clause-best g c =
    let w : IsChoice c.args.facts.now c.args.board.now.position c.args.n c.in-Some-2.choice = subst (λ o. IfSome o (IsChoice c.args.facts.now c.args.board.now.position c.args.n)) c.in-Some-2.is c.in_ok-choice.ensures.wins in
    winning-choice c.args.facts.now c.args.n c.args.board.now.position c.in-Some-2.choice w

pub returns-in-Some-2-clause-named : goal.returns-in-Some-2-clause-named
returns-in-Some-2-clause-named g c =
    let turn : same_side c.args.board.now.position.side c.args.facts.now.attacker ≡ true = search rules in
    sym (at-move c.args.facts.now (story c.args.game.now) (sym (outcome-seen c.args.game.now c.args.facts.now _ _ _ c.requires.frame c.frame-frame.ensures c.outcome.ensures c.won_by.ensures) ∙ (is_none c.won_by.result c.in_default.not-Some)) (subst (λ (y : Position). same_side y.side c.args.facts.now.attacker ≡ true) (ap (λ (x : Stance). x.position) c.requires.board) turn))

pub returns-clause-named : goal.returns-clause-named
returns-clause-named g c =
    let turn : same_side c.args.board.now.position.side c.args.facts.now.attacker ≡ false = search rules in
    none-idle c.in_ok-won.won (is_at_move c.args.facts.now (story c.args.game.now)) (idle-defence c.args.facts.now (story c.args.game.now) (subst (λ (y : Position). same_side y.side c.args.facts.now.attacker ≡ false) (ap (λ (x : Stance). x.position) c.requires.board) turn))

pub choose-requires-clause-moves : goal.choose-requires-clause-moves
choose-requires-clause-moves g c = rw c.deref.ensures.value c.in_ok-order.ensures.each

pub all_won-requires-clause-moves : goal.all_won-requires-clause-moves
all_won-requires-clause-moves g c = rw c.deref-2.ensures.value c.in_ok-order.ensures.each
