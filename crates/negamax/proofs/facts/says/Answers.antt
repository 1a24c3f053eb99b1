use Rattle.std.proofs.Common.{◌≡◌, arith, refl, subst}
use Rattle.std.specs.Prelude.{◌≤ℤ◌}
use Rattle.std.proofs.lemmas.Int.{ints}
use Rattle.game_line.specs.Lined.{story_of_line}
use Rattle.negamax.specs.RootFacts.{score_of}
use Rattle.negamax.specs.Windows.{Bounds}
use Rattle.negamax.proofs.WindowLaws.{reframe}
use Rattle.negamax.proofs.facts.says.Goals as goal

pub returns-then-fact-window-clause-bounds : goal.returns-then-fact-window-clause-bounds
returns-then-fact-window-clause-bounds c =
    let known = c.requires in
    let same = c.are_same.ensures c.if-not-are_same.false in
    let most = known.most in let l = known.most_within.least in let u = known.most_within.most in
    let test = c.if-fact-window.true in
    let low : c.args.fact.now.most ≤ℤ c.args.window.alpha = grind (arith, ints, test) in
    reframe _ _ _ _ _ _ _ (subst (λ n. Bounds c.args.window.alpha c.args.window.beta c.args.fact.now.most (score_of c.args.line.now.rules c.args.depth c.args.ply (story_of_line c.args.line.now) n)) same
    (record { low = λ p. absurd (omega (arith, ints)); high = λ p. most })) refl refl (omega (arith, ints))

pub returns-then-fact-window-2-clause-bounds : goal.returns-then-fact-window-2-clause-bounds
returns-then-fact-window-2-clause-bounds c =
    let known = c.requires in
    let same = c.are_same.ensures c.if-not-are_same.false in
    let least = known.least in let l = known.least_within.least in let u = known.least_within.most in
    let test = c.if-fact-window-2.true in
    let high : c.args.window.beta ≤ℤ c.args.fact.now.least = grind (arith, ints, test) in
    reframe _ _ _ _ _ _ _ (subst (λ n. Bounds c.args.window.alpha c.args.window.beta c.args.fact.now.least (score_of c.args.line.now.rules c.args.depth c.args.ply (story_of_line c.args.line.now) n)) same
    (record { low = λ p. least; high = λ p. absurd (omega (arith, ints)) })) refl refl (omega (arith, ints))

pub returns-then-fact-clause-bounds : goal.returns-then-fact-clause-bounds
returns-then-fact-clause-bounds c =
    let known = c.requires in
    let same = c.are_same.ensures c.if-not-are_same.false in
    let least = known.least in let most = known.most in
    let l = known.least_within.least in let u = known.least_within.most in let l2 = known.most_within.least in let u2 = known.most_within.most in
    let test = c.if-fact.true in
    let one : c.args.fact.now.least ≡ c.args.fact.now.most = grind (arith, ints, test) in
    reframe _ _ _ _ _ _ _ (subst (λ n. Bounds c.args.window.alpha c.args.window.beta c.args.fact.now.most (score_of c.args.line.now.rules c.args.depth c.args.ply (story_of_line c.args.line.now) n)) same
    (record { low = λ p. omega (arith, ints); high = λ p. most })) refl refl (omega (arith, ints))
