use Rattle.std.proofs.Common.{◌≡◌, ◌+◌, ◌*◌, ◌≤◌, ◌∙◌, get_or, refl, subst, sym, arith}
use Rattle.std.specs.Prelude.{ℤ, pos, negsuc}
use Rattle.std.specs.List.{All}
use Rattle.std.proofs.lemmas.Int.{ints}
use Rattle.foundation.specs.Member.{Member}
use Rattle.game_line.specs.Lined.{legal_in, story_of_line}
use Rattle.evaluation.specs.Values.{Attains, greatest, value_of}
use mir.Val.{to_z, of_z}
use mir.Syntax.{w32}
use Rattle.negamax.specs.declared.facts.Best.{Best}
use Rattle.negamax.specs.RootFacts.{Chooses, IsTrueFact, root_tree, score_of}
use Rattle.negamax.specs.Windows.{Bounds}
use Rattle.negamax.proofs.HaltLaws.{halted}
use Rattle.negamax.proofs.RootLaws.{list-attains, list-bounds, list-value, no_move}
use Rattle.negamax.proofs.WindowLaws.{reframe}
use Rattle.alpha_beta.specs.Roots as Roots
use Rattle.alpha_beta.specs.Workers.{most_nodes}
use Rattle.alpha_beta.proofs.LeftLaws.{all_others, first_and_others, others}
use Rattle.alpha_beta.proofs.RootLaws.{lines-first}
use Rattle.alpha_beta.proofs.searching.best_root.Goals as goal

pub score_root-requires-clause-legal : goal.score_root-requires-clause-legal
score_root-requires-clause-legal g c = λ κs holds. c.requires.legal 0 no_move c.requires.some

pub facts_of-requires-clause-legal : goal.facts_of-requires-clause-legal
facts_of-requires-clause-legal g c = λ κs holds.
    subst (λ l. All (λ n. Member n (legal_in l)) (others c.args.moves.now)) (sym c.in_ok-value.ensures.kept)
    (all_others (λ n. Member n (legal_in c.args.line.now)) c.args.moves.now c.requires.legal)

pub settle_all-requires-clause-legal : goal.settle_all-requires-clause-legal
settle_all-requires-clause-legal g c = λ κs holds.
    subst (λ l. All (λ n. Member n (legal_in l)) (others c.args.moves.now)) (sym (c.in_ok-found.ensures.kept ∙ c.in_ok-value.ensures.kept))
    (all_others (λ n. Member n (legal_in c.args.line.now)) c.args.moves.now c.requires.legal)

pub settle_all-requires-clause-known : goal.settle_all-requires-clause-known
settle_all-requires-clause-known g c = λ κs holds.
    let line = c.score_root.new.line in
    let known = subst (λ fs. All (IsTrueFact line.rules c.args.depth 0 (story_of_line line)) fs) (sym c.as_slice-facts.ensures.value) c.in_ok-found.ensures.known in
    subst (λ l. All (IsTrueFact l.rules c.args.depth 0 (story_of_line l)) c.as_slice-facts.result.now) (sym c.in_ok-found.ensures.kept) known

pub returns-in_err-value-clause-ended : goal.returns-in_err-value-clause-ended
returns-in_err-value-clause-ended g c why is =
    let line = c.args.line.now in let rules = line.rules in let story = story_of_line line in
    let moves = c.args.moves.now in let m = get_or moves 0 no_move in
    let parts = first_and_others moves no_move c.requires.some in
    let all = subst (λ ms. Roots.root_lines rules c.args.depth story ms ≡ root_tree rules c.args.depth story m + Roots.root_lines rules c.args.depth story (others moves)) (sym parts)
    (lines-first rules c.args.depth story moves m (others moves)) in
    let back = halted c.score_root.result c.from_residual.result _ why c.in_err-value.was c.from_residual.ensures.1 is in
    g.met.W.Watch.ends_wider _ _ _ _ why (c.score_root.ensures.ended why back) (omega (arith, all))

pub returns-in_err-found-clause-ended : goal.returns-in_err-found-clause-ended
returns-in_err-found-clause-ended g c why is =
    let line = c.args.line.now in let rules = line.rules in let story = story_of_line line in
    let moves = c.args.moves.now in let m = get_or moves 0 no_move in
    let parts = first_and_others moves no_move c.requires.some in
    let all = subst (λ ms. Roots.root_lines rules c.args.depth story ms ≡ root_tree rules c.args.depth story m + Roots.root_lines rules c.args.depth story (others moves)) (sym parts)
    (lines-first rules c.args.depth story moves m (others moves)) in
    let back = halted c.facts_of.result c.from_residual-in_err-found.result _ why c.in_err-found.was c.from_residual-in_err-found.ensures.1 is in
    let end = subst (λ l. g.W.Watch.ended c.score_root.new.watch c.facts_of.new.watch (Roots.root_lines l.rules c.args.depth (story_of_line l) (others moves)) why)
    c.in_ok-value.ensures.kept (c.facts_of.ensures.ended why back) in
    g.met.W.Watch.ends_wider _ _ _ _ why (g.met.W.Watch.ends _ _ _ _ _ why c.in_ok-value.ensures.gone end) (omega (arith, all))

pub returns-in_err-best-clause-ended : goal.returns-in_err-best-clause-ended
returns-in_err-best-clause-ended g c why is =
    let line = c.args.line.now in let rules = line.rules in let story = story_of_line line in
    let moves = c.args.moves.now in let m = get_or moves 0 no_move in
    let parts = first_and_others moves no_move c.requires.some in
    let all = subst (λ ms. Roots.root_lines rules c.args.depth story ms ≡ root_tree rules c.args.depth story m + Roots.root_lines rules c.args.depth story (others moves)) (sym parts)
    (lines-first rules c.args.depth story moves m (others moves)) in
    let kept = c.in_ok-found.ensures.kept ∙ c.in_ok-value.ensures.kept in
    let back = halted c.settle_all.result c.from_residual-in_err-best.result _ why c.in_err-best.was c.from_residual-in_err-best.ensures.1 is in
    let race = subst (λ l. g.W.Watch.gone c.score_root.new.watch c.facts_of.new.watch (Roots.root_lines l.rules c.args.depth (story_of_line l) (others moves)))
    c.in_ok-value.ensures.kept c.in_ok-found.ensures.gone in
    let end = subst (λ l. g.W.Watch.ended c.facts_of.new.watch c.settle_all.new.watch (2 * Roots.root_lines l.rules c.args.depth (story_of_line l) (others moves)) why)
    kept (c.settle_all.ensures.ended why back) in
    g.met.W.Watch.ends_wider _ _ _ _ why
    (g.met.W.Watch.ends _ _ _ _ _ why (g.met.W.Watch.more _ _ _ _ _ c.in_ok-value.ensures.gone race) end) (omega (arith, all))

pub returns-clause-value : goal.returns-clause-value
returns-clause-value g c =
    let line = c.args.line.now in let rules = line.rules in let story = story_of_line line in
    let moves = c.args.moves.now in let m = get_or moves 0 no_move in
    let parts = first_and_others moves no_move c.requires.some in
    let kept = c.in_ok-found.ensures.kept ∙ c.in_ok-value.ensures.kept in
    let told = c.in_ok-value.ensures in
    let least = told.within.least in let most = told.within.most in
    let a = negsuc 32001 in let b = pos 32002 in
    let value = to_z w32 (of_z w32 c.in_ok-value.value) in
    let best : Best = record { value = value; chosen = m } in
    let first = reframe _ _ _ _ a b value told.bounds (sym c.open-window.ensures.alpha) (sym c.open-window.ensures.beta) (omega (arith, ints)) in
    let rest = subst (λ l. (v : ℤ) → Bounds a b value v → Bounds a b c.in_ok-best.best.value (greatest v (score_of l.rules c.args.depth 0 (story_of_line l)) (others moves))) kept c.in_ok-best.ensures.bounds in
    let all = list-bounds rules c.args.depth 0 story a b m (others moves) best c.in_ok-best.best first rest in
    let value_is = list-value rules c.args.depth story a b m (others moves) best c.in_ok-best.best refl refl c.in_ok-best.ensures.within all in
    subst (λ ms. c.in_ok-best.best.value ≡ value_of rules c.args.depth story ms) (sym parts) value_is

pub returns-clause-attains : goal.returns-clause-attains
returns-clause-attains g c =
    let line = c.args.line.now in let rules = line.rules in let story = story_of_line line in
    let moves = c.args.moves.now in let m = get_or moves 0 no_move in
    let parts = first_and_others moves no_move c.requires.some in
    let kept = c.in_ok-found.ensures.kept ∙ c.in_ok-value.ensures.kept in
    let told = c.in_ok-value.ensures in
    let least = told.within.least in let most = told.within.most in
    let a = negsuc 32001 in let b = pos 32002 in
    let value = to_z w32 (of_z w32 c.in_ok-value.value) in
    let best : Best = record { value = value; chosen = m } in
    let first = reframe _ _ _ _ a b value told.bounds (sym c.open-window.ensures.alpha) (sym c.open-window.ensures.beta) (omega (arith, ints)) in
    let rest = subst (λ l. (v : ℤ) → Bounds a b value v → Bounds a b c.in_ok-best.best.value (greatest v (score_of l.rules c.args.depth 0 (story_of_line l)) (others moves))) kept c.in_ok-best.ensures.bounds in
    let all = list-bounds rules c.args.depth 0 story a b m (others moves) best c.in_ok-best.best first rest in
    let value_is = list-value rules c.args.depth story a b m (others moves) best c.in_ok-best.best refl refl c.in_ok-best.ensures.within all in
    let chosen = subst (λ l. Chooses l.rules c.args.depth 0 (story_of_line l) a (others moves) best c.in_ok-best.best) kept c.in_ok-best.ensures.chosen in
    subst (λ ms. Attains rules c.args.depth story ms c.in_ok-best.best.value c.in_ok-best.best.chosen) (sym parts)
    (list-attains rules c.args.depth story a b m (others moves) best c.in_ok-best.best refl refl
    (record { least = omega (arith, ints); most = omega (arith, ints) }) c.in_ok-best.ensures.within refl first value_is chosen)

pub returns-clause-few : goal.returns-clause-few
returns-clause-few g c =
    let line = c.args.line.now in let rules = line.rules in let story = story_of_line line in
    let moves = c.args.moves.now in let m = get_or moves 0 no_move in
    let parts = first_and_others moves no_move c.requires.some in
    let all = subst (λ ms. Roots.root_lines rules c.args.depth story ms ≡ root_tree rules c.args.depth story m + Roots.root_lines rules c.args.depth story (others moves)) (sym parts)
    (lines-first rules c.args.depth story moves m (others moves)) in
    let kept = c.in_ok-found.ensures.kept ∙ c.in_ok-value.ensures.kept in
    let one = c.in_ok-value.ensures.few in
    let race = subst (λ l. most_nodes 0 c.facts_of.new.jobs ≤ most_nodes 0 c.score_root.new.jobs + Roots.root_lines l.rules c.args.depth (story_of_line l) (others moves))
    c.in_ok-value.ensures.kept c.in_ok-found.ensures.few in
    let rest = subst (λ l. most_nodes 0 c.settle_all.new.jobs ≤ most_nodes 0 c.facts_of.new.jobs + Roots.root_lines l.rules c.args.depth (story_of_line l) (others moves))
    kept c.in_ok-best.ensures.few in
    omega (arith, all, one, race, rest)

pub returns-clause-gone : goal.returns-clause-gone
returns-clause-gone g c =
    let line = c.args.line.now in let rules = line.rules in let story = story_of_line line in
    let moves = c.args.moves.now in let m = get_or moves 0 no_move in
    let parts = first_and_others moves no_move c.requires.some in
    let all = subst (λ ms. Roots.root_lines rules c.args.depth story ms ≡ root_tree rules c.args.depth story m + Roots.root_lines rules c.args.depth story (others moves)) (sym parts)
    (lines-first rules c.args.depth story moves m (others moves)) in
    let kept = c.in_ok-found.ensures.kept ∙ c.in_ok-value.ensures.kept in
    let race = subst (λ l. g.W.Watch.gone c.score_root.new.watch c.facts_of.new.watch (Roots.root_lines l.rules c.args.depth (story_of_line l) (others moves)))
    c.in_ok-value.ensures.kept c.in_ok-found.ensures.gone in
    let rest = subst (λ l. g.W.Watch.gone c.facts_of.new.watch c.settle_all.new.watch (2 * Roots.root_lines l.rules c.args.depth (story_of_line l) (others moves)))
    kept c.in_ok-best.ensures.gone in
    g.met.W.Watch.wider _ _ _ _ (g.met.W.Watch.more _ _ _ _ _ (g.met.W.Watch.more _ _ _ _ _ c.in_ok-value.ensures.gone race) rest) (omega (arith, all))

pub returns-clause-kept : goal.returns-clause-kept
returns-clause-kept g c = c.in_ok-best.ensures.kept ∙ c.in_ok-found.ensures.kept ∙ c.in_ok-value.ensures.kept
