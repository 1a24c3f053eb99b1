use Rattle.std.proofs.Common.{◌≡◌, ◌∙◌, ◌<◌, ℕ, List, ◌∷◌, None, length, ap, arith, lit≤, refl, subst, sym}
use Rattle.game_play.specs.Played.{Played, legal_in}
use Rattle.rules_model.specs.declared.rules.Rules.{Rules}
use Rattle.session_model.specs.Deadlines.{deadline_of}
use Rattle.session_model.specs.UciState.{State}
use Rattle.thinking.specs.Tries.{answer_seen}
use Rattle.uci_front.specs.declared.plan.GoPlan.{GoPlan}
use Rattle.uci_front.specs.PlanView.{IsSayable, mate_said}
use Rattle.uci_front.proofs.HeldLemmas.{on_err}
use Rattle.uci_front.proofs.MateLemmas.{after_broke, after_comes, mate_comes, ran_unheld, sayable, searched_after, told_broke, tried_at, tried_part, tried_told, tried_unsaid, trying_at, trying_broke, uncut_after}
use Rattle.uci_front.proofs.ThinkLemmas.{as_task, broke_at, clock_read, deepened_at, mate_range, ready_one, task_at}
use Rattle.uci_front.proofs.searching.search_mate.Goals as goal

pub returns-in_err-tried-clause-broke : goal.returns-in_err-tried-clause-broke
returns-in_err-tried-clause-broke g c =
    let (asked, is) = c.requires.asked in
    let (more, legal) = c.requires.first in
    let state = c.args.session.now in let plan = c.args.plan.now in
    let perft = c.requires.perft in let mate = c.requires.mate in
    let game : c.session.inside.game ≡ state.game = ap (λ (s : State). s.game) c.session.view_is in
    let reading = c.begin-begun.result.first in
    let start = clock_read c.args.source.now c.args.sink.now reading c.begin-begun.ensures.given c.begin-begun.ensures.count c.begin-begun.ensures.last in
    on_err c.from_residual.result
    (trying_broke state plan perft c.args.last mate c.args.first more legal reading start (trying_at c.session.inside.game state.game game (c.in_err-tried.ensures.broke _ refl)))

pub mate_text-requires-clause-sayable : goal.mate_text-requires-clause-sayable
mate_text-requires-clause-sayable g c =
    let (asked, is) = c.requires.asked in
    subst (λ (r : Rules). IsSayable r (answer_seen c.in_ok-tried.tried)) (sym c.rules.ensures)
    (sayable c.session.inside.game c.args.last (answer_seen c.in_ok-tried.tried) (mate_range c.args.plan.now asked c.args.session.now c.args.last is c.requires.mate).1
    c.prove_played.ensures c.in_ok-tried.ensures.tried.is)

pub returns-in_err-text-clause-broke : goal.returns-in_err-text-clause-broke
returns-in_err-text-clause-broke g c =
    let (asked, is) = c.requires.asked in
    let (more, legal) = c.requires.first in
    let state = c.args.session.now in let plan = c.args.plan.now in
    let perft = c.requires.perft in let mate = c.requires.mate in
    let game : c.session.inside.game ≡ state.game = ap (λ (s : State). s.game) c.session.view_is in
    let reading = c.begin-begun.result.first in
    let start = clock_read c.args.source.now c.args.sink.now reading c.begin-begun.ensures.given c.begin-begun.ensures.count c.begin-begun.ensures.last in
    let tried = c.in_ok-tried.tried in
    let tr = tried_at c.session.inside.game state.game game c.in_ok-tried.ensures.tried in
    let text = c.try_mates.new.line in
    let most = (mate_range plan asked state c.args.last is mate).1 in
    let share = ap (λ (p : GoPlan). p.share) c.plan.view_is in
    let due = λ (later : List ℕ). c.begin-begun.ensures.start later ∙ ap (λ (p : GoPlan). deadline_of p.time (reading ∷ later)) c.plan.view_is in
    on_err c.from_residual-in_err-text.result
    (told_broke _ state plan perft c.args.last most mate c.args.first more legal reading _ share due text (mate_said state.game.rules c.args.last (answer_seen tried)) tried tr.is refl
    (tried_unsaid _ state.game c.args.last reading text tried start tr (mate_said state.game.rules c.args.last (answer_seen tried))))

pub returns-in_err-say-clause-broke : goal.returns-in_err-say-clause-broke
returns-in_err-say-clause-broke g c =
    let (asked, is) = c.requires.asked in
    let (more, legal) = c.requires.first in
    let state = c.args.session.now in let plan = c.args.plan.now in
    let perft = c.requires.perft in let mate = c.requires.mate in
    let game : c.session.inside.game ≡ state.game = ap (λ (s : State). s.game) c.session.view_is in
    let reading = c.begin-begun.result.first in
    let start = clock_read c.args.source.now c.args.sink.now reading c.begin-begun.ensures.given c.begin-begun.ensures.count c.begin-begun.ensures.last in
    let tried = c.in_ok-tried.tried in
    let tr = tried_at c.session.inside.game state.game game c.in_ok-tried.ensures.tried in
    let text = c.try_mates.new.line in
    let most = (mate_range plan asked state c.args.last is mate).1 in
    let share = ap (λ (p : GoPlan). p.share) c.plan.view_is in
    let due = λ (later : List ℕ). c.begin-begun.ensures.start later ∙ ap (λ (p : GoPlan). deadline_of p.time (reading ∷ later)) c.plan.view_is in
    let said = c.as_slice.result.now in
    let said_is : said ≡ mate_said state.game.rules c.args.last (answer_seen tried) =
    c.as_slice.ensures.value ∙ c.text.view_is ∙ c.in_ok-text.ensures
    ∙ ap (λ (r : Rules). mate_said r c.args.last (answer_seen tried)) (c.rules.ensures ∙ ap (λ (g : Played). g.rules) game) in
    on_err c.from_residual-in_err-say.result
    (told_broke _ state plan perft c.args.last most mate c.args.first more legal reading _ share due text said tried tr.is said_is
    (tried_part _ state.game c.args.last reading text tried start tr said c.in_err-say.ensures.err))

pub returns-in-Some-clause-came : goal.returns-in-Some-clause-came
returns-in-Some-clause-came g c =
    let (asked, is) = c.requires.asked in
    let (more, legal) = c.requires.first in
    let state = c.args.session.now in let plan = c.args.plan.now in
    let perft = c.requires.perft in let mate = c.requires.mate in
    let game : c.session.inside.game ≡ state.game = ap (λ (s : State). s.game) c.session.view_is in
    let reading = c.begin-begun.result.first in
    let start = clock_read c.args.source.now c.args.sink.now reading c.begin-begun.ensures.given c.begin-begun.ensures.count c.begin-begun.ensures.last in
    let tried = c.in_ok-tried.tried in
    let tr = tried_at c.session.inside.game state.game game c.in_ok-tried.ensures.tried in
    let text = c.try_mates.new.line in
    let most = (mate_range plan asked state c.args.last is mate).1 in
    let share = ap (λ (p : GoPlan). p.share) c.plan.view_is in
    let due = λ (later : List ℕ). c.begin-begun.ensures.start later ∙ ap (λ (p : GoPlan). deadline_of p.time (reading ∷ later)) c.plan.view_is in
    let said = c.as_slice.result.now in
    let said_is : said ≡ mate_said state.game.rules c.args.last (answer_seen tried) =
    c.as_slice.ensures.value ∙ c.text.view_is ∙ c.in_ok-text.ensures
    ∙ ap (λ (r : Rules). mate_said r c.args.last (answer_seen tried)) (c.rules.ensures ∙ ap (λ (g : Played). g.rules) game) in
    mate_comes _ state plan perft c.args.last most mate c.args.first more legal reading _ share due text said tr.spends tried c.in-Some.came
    (sym c.ended_by.ensures ∙ c.in-Some.is) tr.is said_is (tried_told _ state.game c.args.last reading text tried start tr said c.in_ok-say.ensures.ok)

pub iterative_deepening-requires-clause-task : goal.iterative_deepening-requires-clause-task
iterative_deepening-requires-clause-task g c =
    let (asked, is) = c.requires.asked in
    let (more, legal) = c.requires.first in
    let game : c.session.inside.game ≡ c.args.session.now.game = ap (λ (s : State). s.game) c.session.view_is in
    let r = ready_one c.args.plan.now.legal c.session.inside.game (is.legal_is ∙ ap legal_in (sym game)) c.as_slice-2.result.now
    (c.as_slice-2.ensures.value ∙ ap (λ (p : GoPlan). p.legal) c.plan.view_is) (subst (λ l. 0 < length l) (sym legal) (omega arith)) in
    λ _ _. as_task _ r.0 r.1 r.2 (lit≤ tt) (lit≤ tt)

pub returns-in_err-depths-clause-broke : goal.returns-in_err-depths-clause-broke
returns-in_err-depths-clause-broke g c =
    let (asked, is) = c.requires.asked in
    let (more, legal) = c.requires.first in
    let state = c.args.session.now in let plan = c.args.plan.now in
    let perft = c.requires.perft in let mate = c.requires.mate in
    let game : c.session.inside.game ≡ state.game = ap (λ (s : State). s.game) c.session.view_is in
    let reading = c.begin-begun.result.first in
    let start = clock_read c.args.source.now c.args.sink.now reading c.begin-begun.ensures.given c.begin-begun.ensures.count c.begin-begun.ensures.last in
    let tried = c.in_ok-tried.tried in
    let tr = tried_at c.session.inside.game state.game game c.in_ok-tried.ensures.tried in
    let text = c.try_mates.new.line in
    let most = (mate_range plan asked state c.args.last is mate).1 in
    let share = ap (λ (p : GoPlan). p.share) c.plan.view_is in
    let due = λ (later : List ℕ). c.begin-begun.ensures.start later ∙ ap (λ (p : GoPlan). deadline_of p.time (reading ∷ later)) c.plan.view_is in
    let said = c.as_slice.result.now in
    let said_is : said ≡ mate_said state.game.rules c.args.last (answer_seen tried) =
    c.as_slice.ensures.value ∙ c.text.view_is ∙ c.in_ok-text.ensures
    ∙ ap (λ (r : Rules). mate_said r c.args.last (answer_seen tried)) (c.rules.ensures ∙ ap (λ (g : Played). g.rules) game) in
    let none_by = sym c.ended_by.ensures ∙ c.in_default.is in
    let roots : c.as_slice-2.result.now ≡ plan.legal = c.as_slice-2.ensures.value ∙ ap (λ (p : GoPlan). p.legal) c.plan.view_is in
    let told = ran_unheld (uncut_after tried c.args.first text none_by) (tried_told _ state.game c.args.last reading text tried start tr said c.in_ok-say.ensures.ok) in
    let one = task_at state c.session.inside.game c.as_slice-2.result.now plan.legal 1 None None game roots in
    on_err c.from_residual-in_err-depths.result
    (after_broke state plan perft c.args.last mate c.args.first more legal reading _ text said tried tr.is (searched_after tried c.args.first none_by) said_is told
    (broke_at reading _ _ one (c.in_err-depths.ensures.broke _ refl)))

pub returns-clause-came : goal.returns-clause-came
returns-clause-came g c =
    let (asked, is) = c.requires.asked in
    let (more, legal) = c.requires.first in
    let state = c.args.session.now in let plan = c.args.plan.now in
    let perft = c.requires.perft in let mate = c.requires.mate in
    let game : c.session.inside.game ≡ state.game = ap (λ (s : State). s.game) c.session.view_is in
    let reading = c.begin-begun.result.first in
    let start = clock_read c.args.source.now c.args.sink.now reading c.begin-begun.ensures.given c.begin-begun.ensures.count c.begin-begun.ensures.last in
    let tried = c.in_ok-tried.tried in
    let tr = tried_at c.session.inside.game state.game game c.in_ok-tried.ensures.tried in
    let text = c.try_mates.new.line in
    let most = (mate_range plan asked state c.args.last is mate).1 in
    let share = ap (λ (p : GoPlan). p.share) c.plan.view_is in
    let due = λ (later : List ℕ). c.begin-begun.ensures.start later ∙ ap (λ (p : GoPlan). deadline_of p.time (reading ∷ later)) c.plan.view_is in
    let said = c.as_slice.result.now in
    let said_is : said ≡ mate_said state.game.rules c.args.last (answer_seen tried) =
    c.as_slice.ensures.value ∙ c.text.view_is ∙ c.in_ok-text.ensures
    ∙ ap (λ (r : Rules). mate_said r c.args.last (answer_seen tried)) (c.rules.ensures ∙ ap (λ (g : Played). g.rules) game) in
    let none_by = sym c.ended_by.ensures ∙ c.in_default.is in
    let roots : c.as_slice-2.result.now ≡ plan.legal = c.as_slice-2.ensures.value ∙ ap (λ (p : GoPlan). p.legal) c.plan.view_is in
    let told = ran_unheld (uncut_after tried c.args.first text none_by) (tried_told _ state.game c.args.last reading text tried start tr said c.in_ok-say.ensures.ok) in
    let one = task_at state c.session.inside.game c.as_slice-2.result.now plan.legal 1 None None game roots in
    rw c.go_result_of.ensures
    (after_comes state plan perft c.args.last mate c.args.first more legal reading _ text said tried tr.is (searched_after tried c.args.first none_by) said_is told
    tr.spends c.iterative_deepening.new.line c.in_ok-depths.depths
    (deepened_at c.args.first reading c.iterative_deepening.new.line c.in_ok-depths.depths _ _ one (c.in_ok-depths.ensures.deepened c.args.first)))
