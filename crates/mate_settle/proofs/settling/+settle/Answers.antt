use Rattle.std.proofs.Common.{◌≡◌, ◌+◌, ◌<◌, ◌≤◌, take, true, None, Err, refl, ap, sym, ◌∙◌, subst, arith, rules}
use Rattle.std.proofs.lemmas.List.{take_all}
use Rattle.std.proofs.lemmas.Result.{IfOk-weaker}
use Rattle.std.proofs.lemmas.Option.{slice_get-get_or}
use Rattle.foundation.specs.Member.{Lists, Member}
use Rattle.foundation.specs.Tests.{is_nil}
use Rattle.legality.specs.Stance.{legal_in, repeat_in}
use Rattle.mate_core.specs.declared.frame.Frame.{Frame}
use Rattle.rules_model.specs.Legal.{is_stuck}
use Rattle.rules_model.specs.Sides.{same_side}
use Rattle.mate_settle.specs.Choices.{lines_of_turn}
use Rattle.mate_settle.specs.Lines.{lines_within, plies, seen_in}
use Rattle.mate_fact.specs.InFrame as In
use Rattle.mate_settle.specs.Steps.{IsFar, NoneDecides}
use Rattle.mate_settle.proofs.Lines.{lines-some, left-small, lines-of-turn, turn-whole}
use Rattle.mate_settle.proofs.Settled.{turn-at, turn-lines, turn-ends, turn-falls, turn-told, moves-of, member-at, some-listed, none-all, none-more, none-moved, far-more, not_same}
use Rattle.mate_settle.proofs.settling.+settle.Goals as goal

pub settle-returns-in_err-enter-clause-ended : goal.settle-returns-in_err-enter-clause-ended
settle-returns-in_err-enter-clause-ended g t c why is =
    let f = c.args.facts.now in
    let r = seen_in f in
    let p = c.args.board.now.position in
    let n = c.args.n in
    let back : c.enter.result ≡ Err why = search rules in
    g.met.W.Watch.ends_wider _ _ _ _ why (c.enter.ensures.ended why back) (lines-some r (plies r n p) p)

pub settle-returns-in-Some-clause-gone : goal.settle-returns-in-Some-clause-gone
settle-returns-in-Some-clause-gone g t c =
    let f = c.args.facts.now in
    let r = seen_in f in
    let p = c.args.board.now.position in
    let n = c.args.n in
    g.met.W.Watch.wider _ _ _ _ c.in_ok-enter.ensures.gone (lines-some r (plies r n p) p)

pub settle-returns-in-Some-keep_now-clause-gone : goal.settle-returns-in-Some-keep_now-clause-gone
settle-returns-in-Some-keep_now-clause-gone g t c =
    let f = c.args.facts.now in
    let r = seen_in f in
    let p = c.args.board.now.position in
    let n = c.args.n in
    g.met.W.Watch.wider _ _ _ _ c.in_ok-enter.ensures.gone (lines-some r (plies r n p) p)

pub settle-returns-in_err-told-clause-ended : goal.settle-returns-in_err-told-clause-ended
settle-returns-in_err-told-clause-ended g t c why is =
    let f = c.args.facts.now in
    let r = seen_in f in
    let p = c.args.board.now.position in
    let n = c.args.n in
    let memory = g.met.W.Watch.memory _ _ _ (g.met.W.Watch.wider _ _ _ _ c.in_ok-enter.ensures.gone (lines-some r (plies r n p) p)) in
    search rules

pub settle-returns-in_err-moves-clause-ended : goal.settle-returns-in_err-moves-clause-ended
settle-returns-in_err-moves-clause-ended g t c why is =
    let f = c.args.facts.now in
    let r = seen_in f in
    let p = c.args.board.now.position in
    let n = c.args.n in
    let memory = g.met.W.Watch.memory _ _ _ (g.met.W.Watch.wider _ _ _ _ c.in_ok-enter.ensures.gone (lines-some r (plies r n p) p)) in
    search rules

pub settle-keep_now-requires-clause-any : goal.settle-keep_now-requires-clause-any
unfolding is_stuck
settle-keep_now-requires-clause-any g t c =
    let ms = c.in_ok-moves.moves.items in
    let listed : is_nil ms ≡ is_stuck c.args.board.now.rules (repeat_in c.args.board.now) = some-listed (legal_in c.args.board.now) ms c.in_ok-moves.ensures in
    search rules

pub settle-by_moves-requires : goal.settle-by_moves-requires
settle-by_moves-requires g t c κs within =
    let f = c.args.facts.now in
    let h = c.keep_now.new.facts in
    let s = c.args.board.now in
    let kept : h ≡ f = search rules in
    let fall : plies (seen_in h) c.args.n s.position ≡ plies (seen_in f) c.args.n s.position = ap (λ (x : Frame). plies (seen_in x) c.args.n s.position) kept in
    let rules_kept = subst (λ (x : Frame). s.rules ≡ x.rules) (sym kept) c.requires.rules in
    let ongoing : In.end_in f s.position ≡ None = search rules in
    let ongoing_kept = subst (λ (x : Frame). In.end_in x s.position ≡ None) (sym kept) ongoing in
    let more : same_side s.position.side f.attacker ≡ true → 0 < c.args.n = search rules in
    let more_kept = subst (λ (x : Frame). same_side s.position.side x.attacker ≡ true → 0 < c.args.n) (sym kept) more in
    let listed = subst (λ ms. Lists (λ m. Member m (legal_in s)) ms) (sym c.as_slice.ensures.value) c.in_ok-moves.ensures in
    (let d = c.decreases in omega arith, (within, (rules_kept, (c.requires.small, (ongoing_kept, (more_kept, listed))))))

pub settle-returns-clause-gone : goal.settle-returns-clause-gone
settle-returns-clause-gone g t c =
    let f = c.args.facts.now in
    let p = c.args.board.now.position in
    let n = c.args.n in
    let kept : c.keep_now.new.facts ≡ f = search rules in
    let same : lines_of_turn c.keep_now.new.facts n p ≡ lines_of_turn f n p = ap (λ (h : Frame). lines_of_turn h n p) kept in
    let more : same_side p.side f.attacker ≡ true → 0 < n = search rules in
    let within = lines-of-turn f p n more in
    let fits : 1 + lines_of_turn c.keep_now.new.facts n p ≤ lines_within (seen_in f) n p = omega arith in
    IfOk-weaker c.by_moves.result _ _ (λ told gone. g.met.W.Watch.wider _ _ _ _ (g.met.W.Watch.more _ _ _ _ _ c.in_ok-enter.ensures.gone gone) fits) c.by_moves.ensures.gone

pub settle-returns-clause-ended : goal.settle-returns-clause-ended
settle-returns-clause-ended g t c why is =
    let f = c.args.facts.now in
    let p = c.args.board.now.position in
    let n = c.args.n in
    let kept : c.keep_now.new.facts ≡ f = search rules in
    let same : lines_of_turn c.keep_now.new.facts n p ≡ lines_of_turn f n p = ap (λ (h : Frame). lines_of_turn h n p) kept in
    let more : same_side p.side f.attacker ≡ true → 0 < n = search rules in
    let within = lines-of-turn f p n more in
    let fits : 1 + lines_of_turn c.keep_now.new.facts n p ≤ lines_within (seen_in f) n p = omega arith in
    g.met.W.Watch.ends_wider _ _ _ _ why (g.met.W.Watch.ends _ _ _ _ _ why c.in_ok-enter.ensures.gone (c.by_moves.ensures.ended why is)) fits

pub by_moves-after-next-requires : goal.by_moves-after-next-requires
by_moves-after-next-requires g t c =
    let ms = c.args.moves.now in
    c.requires.listed.sound _ (member-at ms c.loop-i.i _ (slice_get-get_or ms c.loop-i.i _ c.loop-i-test.true))

pub by_moves-settle-requires : goal.by_moves-settle-requires
by_moves-settle-requires g t c κs within =
    let f = c.args.facts.now in
    let s = c.args.board.now in
    let ms = c.args.moves.now in
    let i = c.loop-i.i in
    let a = c.is-attacking.result in
    let left = c.moves_left-left.result in
    let n = c.args.n in
    let r = c.requires in
    let turn = turn-at f c.loop-i.facts s c.after-next.result ms a left n i _ r.rules c.after-next.ensures c.loop-i.invariant.frame
    (slice_get-get_or ms i _ c.loop-i-test.true) r.listed (search rules) c.moves_left-left.ensures.some c.moves_left-left.ensures.is in
    let fall = turn-falls turn in
    let small : left ≤ 1000 = let few = left-small a n in let most = r.small in omega arith in
    let same_rules : c.after-next.result.rules ≡ c.loop-i.facts.rules = search rules in
    (let d = c.decreases in omega arith, (within, (same_rules, small)))

pub by_moves-returns-in_err-told-clause-ended : goal.by_moves-returns-in_err-told-clause-ended
by_moves-returns-in_err-told-clause-ended g t c why is =
    let f = c.args.facts.now in
    let s = c.args.board.now in
    let ms = c.args.moves.now in
    let i = c.loop-i.i in
    let a = c.is-attacking.result in
    let left = c.moves_left-left.result in
    let n = c.args.n in
    let r = c.requires in
    let turn = turn-at f c.loop-i.facts s c.after-next.result ms a left n i _ r.rules c.after-next.ensures c.loop-i.invariant.frame
    (slice_get-get_or ms i _ c.loop-i-test.true) r.listed (search rules) c.moves_left-left.ensures.some c.moves_left-left.ensures.is in
    let back : c.settle.result ≡ Err why = search rules in
    g.met.W.Watch.ends_wider _ _ _ _ why (g.met.W.Watch.ends _ _ _ _ _ why c.loop-i.invariant.gone (c.settle.ensures.ended why back)) (turn-ends turn)

pub by_moves-decide-requires-clause-legal : goal.by_moves-decide-requires-clause-legal
by_moves-decide-requires-clause-legal g t c =
    let ms = c.args.moves.now in
    c.requires.listed.sound _ (member-at ms c.loop-i.i _ (slice_get-get_or ms c.loop-i.i _ c.loop-i-test.true))

pub by_moves-returns-then-told-attacking-clause-gone : goal.by_moves-returns-then-told-attacking-clause-gone
by_moves-returns-then-told-attacking-clause-gone g t c =
    let f = c.args.facts.now in
    let s = c.args.board.now in
    let ms = c.args.moves.now in
    let i = c.loop-i.i in
    let a = c.is-attacking.result in
    let left = c.moves_left-left.result in
    let n = c.args.n in
    let r = c.requires in
    let turn = turn-at f c.loop-i.facts s c.after-next.result ms a left n i _ r.rules c.after-next.ensures c.loop-i.invariant.frame
    (slice_get-get_or ms i _ c.loop-i-test.true) r.listed (search rules) c.moves_left-left.ensures.some c.moves_left-left.ensures.is in
    g.met.W.Watch.wider _ _ _ _ (g.met.W.Watch.more _ _ _ _ _ c.loop-i.invariant.gone c.in_ok-told.ensures.gone) (turn-ends turn)

pub by_moves-loop-i-preserved : goal.by_moves-loop-i-preserved
by_moves-loop-i-preserved g t c =
    let f = c.args.facts.now in
    let s = c.args.board.now in
    let ms = c.args.moves.now in
    let i = c.loop-i.i in
    let a = c.is-attacking.result in
    let left = c.moves_left-left.result in
    let n = c.args.n in
    let r = c.requires in
    let turn = turn-at f c.loop-i.facts s c.after-next.result ms a left n i _ r.rules c.after-next.ensures c.loop-i.invariant.frame
    (slice_get-get_or ms i _ c.loop-i-test.true) r.listed (search rules) c.moves_left-left.ensures.some c.moves_left-left.ensures.is in
    let k = c.in_ok-told.told in
    let told = turn-told turn k c.in_ok-told.ensures.told in
    let e = not_same k.wins a c.if-told-attacking.false in
    let farther = c.farther-far.ensures in
    record {
      frame = c.in_ok-told.ensures.frame ∙ c.loop-i.invariant.frame;
      gone = g.met.W.Watch.wider _ _ _ _ (g.met.W.Watch.more _ _ _ _ _ c.loop-i.invariant.gone c.in_ok-told.ensures.gone) (turn-lines turn);
      far = subst (IsFar a left) (sym farther) (far-more f a left c.loop-i.far k _ c.loop-i.invariant.far told e);
      none = subst (λ z. NoneDecides f s.position a z (take (i + 1) ms)) (sym farther) (none-more f s.position a c.loop-i.far i ms _ k left turn.read c.loop-i.invariant.none told e);
    }

pub by_moves-keep_each-requires-clause-none : goal.by_moves-keep_each-requires-clause-none
by_moves-keep_each-requires-clause-none g t c =
    let f = c.args.facts.now in
    let s = c.args.board.now in
    let ms = c.args.moves.now in
    let a = c.is-attacking.result in
    let all = moves-of f s ms c.requires.rules c.requires.listed in
    let whole : take c.loop-i.i ms ≡ ms = take_all c.loop-i.i ms (search rules) in
    none-moved f c.loop-i.facts s.position s.position a c.loop-i.far c.loop-i.invariant.frame refl
    (none-all f s.position a c.loop-i.far ms all (subst (NoneDecides f s.position a c.loop-i.far) whole c.loop-i.invariant.none))

pub by_moves-returns-clause-gone : goal.by_moves-returns-clause-gone
by_moves-returns-clause-gone g t c =
    let f = c.args.facts.now in
    let s = c.args.board.now in
    let ms = c.args.moves.now in
    let all = moves-of f s ms c.requires.rules c.requires.listed in
    g.met.W.Watch.wider _ _ _ _ c.loop-i.invariant.gone
    (turn-whole f s.position ms c.is-attacking.result c.moves_left-left.result c.args.n c.loop-i.i (search rules) c.moves_left-left.ensures.is all)
