use Rattle.std.proofs.Common.{◌≡◌, if◌then◌else◌, get_or, take, false, not, Err, sym, ◌∙◌, subst, rules}
use Rattle.std.proofs.lemmas.List.{take_all}
use Rattle.foundation.specs.Member.{Member}
use Rattle.mate_core.specs.declared.frame.Frame.{Frame}
use Rattle.rules_model.specs.declared.moves.Move.{Move}
use Rattle.mate_settle.specs.Choices.{wins_after}
use Rattle.mate_settle.specs.Lines.{lines_after, seen_in}
use Rattle.mate_settle.proofs.Lines.{part-whole, turn-more, turn-last}
use Rattle.mate_settle.proofs.Settled.{moves-of, member-at, each-more, find-at, find-none, as-asked, not-asked, same_bool-from, not_same}
use Rattle.mate_settle.proofs.OrderLaws.{no_move, read-at}
use Rattle.mate_settle.proofs.choosing.first_that.Goals as goal

pub settle_after-requires-clause-legal : goal.settle_after-requires-clause-legal
settle_after-requires-clause-legal g c =
    let ms = c.args.moves.now in
    c.requires.moves.sound _ (member-at ms c.loop-i.i _ (read-at ms c.loop-i.i no_move c.loop-i-test.true))

pub returns-in_err-told-clause-ended : goal.returns-in_err-told-clause-ended
returns-in_err-told-clause-ended g c why is =
    let f = c.args.facts.now in
    let ms = c.args.moves.now in
    let all = moves-of f c.args.board.now ms c.requires.rules c.requires.moves in
    let back : c.settle_after.result ≡ Err why = search rules in
    g.met.W.Watch.ends_wider _ _ _ _ why (g.met.W.Watch.ends _ _ _ _ _ why c.loop-i.invariant.gone (c.settle_after.ensures.ended why back))
    (turn-last f c.loop-i.facts c.args.board.now.position ms c.args.n c.loop-i.i no_move c.loop-i.invariant.frame c.loop-i-test.true all)

pub returns-then-told-won-clause-found : goal.returns-then-told-won-clause-found
returns-then-told-won-clause-found g c =
    let ms = c.args.moves.now in
    c.requires.moves.sound _ (member-at ms c.loop-i.i _ (read-at ms c.loop-i.i no_move c.loop-i-test.true))

pub returns-then-told-won-clause-first : goal.returns-then-told-won-clause-first
returns-then-told-won-clause-first g c =
    let f = c.args.facts.now in
    let p = c.args.board.now.position in
    let ms = c.args.moves.now in
    let i = c.loop-i.i in
    let x = get_or ms i no_move in
    let won = c.args.won in
    let k = c.in_ok-told.told in
    let asked = subst (λ (h : Frame). wins_after h c.args.n p x ≡ k.wins) c.loop-i.invariant.frame c.in_ok-told.ensures.asked in
    sym (find-at (λ m. if won then wins_after f c.args.n p m else not (wins_after f c.args.n p m)) ms i x (read-at ms i no_move c.loop-i-test.true) c.loop-i.invariant.none
    (as-asked won _ (asked ∙ same_bool-from k.wins won c.if-told-won.true)))

pub returns-then-told-won-clause-gone : goal.returns-then-told-won-clause-gone
returns-then-told-won-clause-gone g c =
    let f = c.args.facts.now in
    let ms = c.args.moves.now in
    let all = moves-of f c.args.board.now ms c.requires.rules c.requires.moves in
    g.met.W.Watch.wider _ _ _ _ (g.met.W.Watch.more _ _ _ _ _ c.loop-i.invariant.gone c.in_ok-told.ensures.gone)
    (turn-last f c.loop-i.facts c.args.board.now.position ms c.args.n c.loop-i.i no_move c.loop-i.invariant.frame c.loop-i-test.true all)

pub loop-i-preserved : goal.loop-i-preserved
loop-i-preserved g c =
    let f = c.args.facts.now in
    let p = c.args.board.now.position in
    let ms = c.args.moves.now in
    let i = c.loop-i.i in
    let x = get_or ms i no_move in
    let won = c.args.won in
    let k = c.in_ok-told.told in
    let kept = c.loop-i.invariant.frame in
    let asked = subst (λ (h : Frame). wins_after h c.args.n p x ≡ k.wins) kept c.in_ok-told.ensures.asked in
    record {
      frame = c.in_ok-told.ensures.frame ∙ kept;
      gone = g.met.W.Watch.wider _ _ _ _ (g.met.W.Watch.more _ _ _ _ _ c.loop-i.invariant.gone c.in_ok-told.ensures.gone)
          (turn-more f c.loop-i.facts p ms c.args.n i no_move kept c.loop-i-test.true);
      none = each-more {Q = λ m. (if won then wins_after f c.args.n p m else not (wins_after f c.args.n p m)) ≡ false} ms i x (read-at ms i no_move c.loop-i-test.true) c.loop-i.invariant.none
          (not-asked won _ (asked ∙ not_same k.wins won c.if-told-won.false));
    }

pub returns-clause-first : goal.returns-clause-first
returns-clause-first g c =
    let f = c.args.facts.now in
    let p = c.args.board.now.position in
    let n = c.args.n in
    let won = c.args.won in
    let ms = c.args.moves.now in
    let whole : take c.loop-i.i ms ≡ ms = take_all c.loop-i.i ms (search rules) in
    sym (find-none (λ m. if won then wins_after f n p m else not (wins_after f n p m)) ms
    (subst (λ l. (m : Move) → Member m l → (if won then wins_after f n p m else not (wins_after f n p m)) ≡ false) whole c.loop-i.invariant.none))

pub returns-clause-gone : goal.returns-clause-gone
returns-clause-gone g c =
    let f = c.args.facts.now in
    let p = c.args.board.now.position in
    let ms = c.args.moves.now in
    let all = moves-of f c.args.board.now ms c.requires.rules c.requires.moves in
    g.met.W.Watch.wider _ _ _ _ c.loop-i.invariant.gone (part-whole (lines_after (seen_in f) c.args.n p) ((seen_in f).legal p) ms all c.loop-i.i)
