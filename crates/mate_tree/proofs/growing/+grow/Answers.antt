use Rattle.std.proofs.Common.{◌≡◌, ◌<◌, ◌-◌, true, length, set, remove, Option, Err, ap, ◌∙◌, subst, arith, rules}
use Rattle.mate_core.specs.declared.frame.Frame.{Frame}
use Rattle.mate_settle.specs.declared.told.Told.{Told}
use Rattle.mate_settle.specs.Lines.{lines_within, seen_in}
use Rattle.mate_tree.specs.Shapes.{children_at, is_opened, left_at}
use Rattle.mate_tree.specs.Weights.{Spends, forest, lines_at}
use Rattle.mate_tree.proofs.WeightLaws.{child-same, forest-at, forest-taken, lines-opened, rolled-children, rolled-opened, same-child}
use Rattle.mate_tree.proofs.growing.+grow.Goals as goal

pub grow_child-returns-in_err-told-clause-ended : goal.grow_child-returns-in_err-told-clause-ended
grow_child-returns-in_err-told-clause-ended g t c why is =
    let f = c.args.facts.now in
    let n = c.args.n in
    let p = c.args.board.now.position in
    let vs = c.args.children.now.items in
    let at = c.best_child-at.result.place in
    let w = c.index_mut.result.now in
    let back : c.grow.result ≡ Err why = search rules in
    let here : at < length vs = search rules in
    let left : c.left_after-left.result ≡ left_at f n p = search rules in
    let to = same-child f c.args.board.now vs at c.index.result.now w c.after-next.result.position c.requires.rules here c.index.ensures c.index_mut.ensures.value (ap (λ s. s.position) c.after-next.ensures) in
    let same = child-same f n p w c.left_after-left.result c.after-next.result.position left to in
    let within = forest-at f n p vs at w here c.index_mut.ensures.value in
    g.met.W.Watch.ends_wider _ _ _ _ why (c.grow.ensures.ended why back) (omega arith)

pub grow_child-returns-in-Some-clause-gone : goal.grow_child-returns-in-Some-clause-gone
grow_child-returns-in-Some-clause-gone g t c =
    let f = c.args.facts.now in
    let n = c.args.n in
    let p = c.args.board.now.position in
    let vs = c.args.children.now.items in
    let at = c.best_child-at.result.place in
    let w = c.index_mut.result.now in
    let x = c.grow.new.node in
    let here : at < length vs = search rules in
    let left : c.left_after-left.result ≡ left_at f n p = search rules in
    let to = same-child f c.args.board.now vs at c.index.result.now w c.after-next.result.position c.requires.rules here c.index.ensures c.index_mut.ensures.value (ap (λ s. s.position) c.after-next.ensures) in
    let same = child-same f n p w c.left_after-left.result c.after-next.result.position left to in
    let taken = forest-taken f n p vs at w x here c.index_mut.ensures.value in
    let items : forest f n p c.remove-settled.new.self.items ≡ forest f n p (remove (set vs at x) at) = ap (forest f n p) c.remove-settled.ensures.items in
    let spent = subst (λ (o : Option Told). Spends (g.W.Watch.gone c.args.watch.now c.grow.new.watch) (lines_at f c.left_after-left.result c.after-next.result.position w) (lines_at f c.left_after-left.result c.after-next.result.position x) o) c.in-Some.is c.in_ok-told.ensures.gone in
    (omega arith, g.met.W.Watch.wider _ _ _ _ spent (omega arith))

pub grow-returns-in_err-step-clause-ended : goal.grow-returns-in_err-step-clause-ended
grow-returns-in_err-step-clause-ended g t c why is =
    let f = c.args.facts.now in
    let n = c.args.n in
    let p = c.args.board.now.position in
    let v = c.args.node.now in
    let opened : is_opened v ≡ true = search rules in
    let lines = lines-opened f n p v opened in
    let back : c.grow_child.result ≡ Err why = search rules in
    g.met.W.Watch.ends_wider _ _ _ _ why (c.grow_child.ensures.ended why back) (omega arith)

pub grow-returns-then-step-attacking-clause-gone : goal.grow-returns-then-step-attacking-clause-gone
grow-returns-then-step-attacking-clause-gone g t c =
    let f = c.args.facts.now in
    let n = c.args.n in
    let p = c.args.board.now.position in
    let v = c.args.node.now in
    let opened : is_opened v ≡ true = search rules in
    let lines = lines-opened f n p v opened in
    let gone = c.in_ok-step.ensures.gone in
    g.met.W.Watch.wider _ _ _ _ gone.1 (omega arith)

pub grow-returns-in_err-told-clause-ended : goal.grow-returns-in_err-told-clause-ended
grow-returns-in_err-told-clause-ended g t c why is =
    let f = c.args.facts.now in
    let n = c.args.n in
    let p = c.args.board.now.position in
    let v = c.args.node.now in
    let opened : is_opened v ≡ true = search rules in
    let lines = lines-opened f n p v opened in
    let gone = c.in_ok-step.ensures.gone in
    let same : lines_within (seen_in c.grow_child.new.facts) n p ≡ lines_within (seen_in f) n p = ap (λ (h : Frame). lines_within (seen_in h) n p) c.grow_child.ensures.frame in
    let back : c.settle.result ≡ Err why = search rules in
    g.met.W.Watch.ends_wider _ _ _ _ why (g.met.W.Watch.ends _ _ _ _ _ why gone.1 (c.settle.ensures.ended why back)) (omega (arith, gone.0))

pub grow-returns-then-is_empty-clause-gone : goal.grow-returns-then-is_empty-clause-gone
grow-returns-then-is_empty-clause-gone g t c =
    let f = c.args.facts.now in
    let n = c.args.n in
    let p = c.args.board.now.position in
    let v = c.args.node.now in
    let opened : is_opened v ≡ true = search rules in
    let lines = lines-opened f n p v opened in
    let gone = c.in_ok-step.ensures.gone in
    let same : lines_within (seen_in c.grow_child.new.facts) n p ≡ lines_within (seen_in f) n p = ap (λ (h : Frame). lines_within (seen_in h) n p) c.grow_child.ensures.frame in
    g.met.W.Watch.wider _ _ _ _ (g.met.W.Watch.more _ _ _ _ _ gone.1 c.in_ok-told.ensures.gone) (omega (arith, gone.0))

pub grow-returns-clause-gone : goal.grow-returns-clause-gone
grow-returns-clause-gone g t c =
    let f = c.args.facts.now in
    let n = c.args.n in
    let p = c.args.board.now.position in
    let v = c.args.node.now in
    let w = c.renumber.new.node in
    let opened : is_opened v ≡ true = search rules in
    let lines = lines-opened f n p v opened in
    let after = lines-opened f n p w (c.renumber.ensures.opened ∙ rolled-opened _ ∙ opened) in
    let children : forest f n p (children_at w) ≡ forest f n p c.grow_child.new.children.items = ap (forest f n p) (c.renumber.ensures.children ∙ rolled-children _) in
    let gone = c.in_ok-step.ensures.gone in
    let le = gone.0 in
    (omega (arith, le), g.met.W.Watch.wider _ _ _ _ gone.1 (omega (arith, le)))
