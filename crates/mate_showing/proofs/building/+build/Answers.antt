use Rattle.std.proofs.Common.{◌≡◌, ◌+◌, ◌-◌, ◌*◌, ◌<◌, [], ◌∷◌, ◌++◌, map, length, take, None, Some, Err, slice_get, refl, ap, sym, ◌∙◌, subst, arith, rules}
use Rattle.std.specs.Option.{IfSome}
use Rattle.std.specs.List.{sum_by}
use Rattle.std.proofs.lemmas.List.{take_all}
use Rattle.std.proofs.lemmas.Option.{slice_get_read}
use Rattle.foundation.specs.Member.{Member}
use Rattle.rules_model.specs.declared.rules.Rules.{Rules}
use Rattle.rules_model.specs.Legal.{legal}
use Rattle.rules_model.specs.Next.{next}
use Rattle.rules_model.specs.Repeats.{repeat_of}
use Rattle.forced_wins.specs.Wins.{is_in}
use Rattle.forced_wins.proofs.Rules.{laws}
use Rattle.mate_core.specs.declared.frame.Frame.{Frame}
use Rattle.mate_settle.specs.Choices.{IsChoice}
use Rattle.mate_settle.specs.Lines.{lines_within, lines_after, seen_in}
use Rattle.mate_settle.proofs.Settled.{member-at}
use Rattle.strategy.specs.declared.nodes.Edge.{Edge}
use Rattle.mate_showing.specs.Tabled.{rules_of}
use Rattle.mate_showing.specs.Tables.{IsLedTo}
use Rattle.mate_showing.proofs.Builds.{some_lines, rest_lines, defence_lines, edges_defence, led-to-grows, each_more, chosen_more}
use Rattle.mate_showing.proofs.Walk.{grows-trans, grows-as, grows-self, next-in, stands-as, edges-in, led-in, led-as, attack-asked, attack-fall, attack-moves, attack-next, attack-total, attack-wins, defence-fall, defence-next, defence-step}
use Rattle.mate_showing.proofs.building.+build.Goals as goal

pub build-returns-in_err-enter-clause-ended : goal.build-returns-in_err-enter-clause-ended
build-returns-in_err-enter-clause-ended g t c why is =
    let least = some_lines (seen_in c.args.facts.now) (laws c.args.facts.now.rules c.args.facts.now.attacker) c.args.n c.args.board.now.position in
    let back : c.enter.result ≡ Err why = search rules in
    g.met.W.Watch.ends_wider _ _ _ _ why (c.enter.ensures.ended why back) least

pub build-returns-in-Some-clause-gone : goal.build-returns-in-Some-clause-gone
build-returns-in-Some-clause-gone g t c =
    let least = some_lines (seen_in c.args.facts.now) (laws c.args.facts.now.rules c.args.facts.now.attacker) c.args.n c.args.board.now.position in
    g.met.W.Watch.wider _ _ _ _ c.in_ok-enter.ensures.gone least

pub build-returns-then-is_some-clause-gone : goal.build-returns-then-is_some-clause-gone
build-returns-then-is_some-clause-gone g t c =
    let least = some_lines (seen_in c.args.facts.now) (laws c.args.facts.now.rules c.args.facts.now.attacker) c.args.n c.args.board.now.position in
    g.met.W.Watch.wider _ _ _ _ c.in_ok-enter.ensures.gone least

pub build-returns-in_err-finish-clause-ended : goal.build-returns-in_err-finish-clause-ended
build-returns-in_err-finish-clause-ended g t c why is =
    let least = some_lines (seen_in c.args.facts.now) (laws c.args.facts.now.rules c.args.facts.now.attacker) c.args.n c.args.board.now.position in
    let memory = g.met.W.Watch.memory _ _ _ (g.met.W.Watch.wider _ _ _ _ c.in_ok-enter.ensures.gone least) in
    search rules

pub build-returns-in_err-edges-clause-ended : goal.build-returns-in_err-edges-clause-ended
build-returns-in_err-edges-clause-ended g t c why is =
    let rest = rest_lines (seen_in c.args.facts.now) (laws c.args.facts.now.rules c.args.facts.now.attacker) c.args.n c.args.board.now.position in
    let back : c.attack_edges.result ≡ Err why = search rules in
    g.met.W.Watch.ends_wider _ _ _ _ why (g.met.W.Watch.ends _ _ _ 1 ((c.args.n + 1) * lines_within (seen_in c.args.facts.now) c.args.n c.args.board.now.position - 1) why c.in_ok-enter.ensures.gone (c.attack_edges.ensures.ended why back)) rest

pub build-returns-in_err-finish-2-clause-ended : goal.build-returns-in_err-finish-2-clause-ended
build-returns-in_err-finish-2-clause-ended g t c why is =
    let rest = rest_lines (seen_in c.args.facts.now) (laws c.args.facts.now.rules c.args.facts.now.attacker) c.args.n c.args.board.now.position in
    let memory = g.met.W.Watch.memory _ _ _ (g.met.W.Watch.wider _ _ _ _ (g.met.W.Watch.more _ _ _ 1 ((c.args.n + 1) * lines_within (seen_in c.args.facts.now) c.args.n c.args.board.now.position - 1) c.in_ok-enter.ensures.gone c.in_ok-edges.ensures.gone) rest) in
    search rules

pub build-returns-then-is-clause-grows : goal.build-returns-then-is-clause-grows
build-returns-then-is-clause-grows g t c =
    grows-trans c.args.table.now c.attack_edges.new.table c.finish-then-is.new.self c.in_ok-edges.ensures.grows c.in_ok-finish-2.ensures.grows

pub build-returns-then-is-clause-gone : goal.build-returns-then-is-clause-gone
build-returns-then-is-clause-gone g t c =
    let rest = rest_lines (seen_in c.args.facts.now) (laws c.args.facts.now.rules c.args.facts.now.attacker) c.args.n c.args.board.now.position in
    g.met.W.Watch.wider _ _ _ _ (g.met.W.Watch.more _ _ _ 1 ((c.args.n + 1) * lines_within (seen_in c.args.facts.now) c.args.n c.args.board.now.position - 1) c.in_ok-enter.ensures.gone c.in_ok-edges.ensures.gone) rest

pub build-returns-in_err-edges-2-clause-ended : goal.build-returns-in_err-edges-2-clause-ended
build-returns-in_err-edges-2-clause-ended g t c why is =
    let rest = rest_lines (seen_in c.args.facts.now) (laws c.args.facts.now.rules c.args.facts.now.attacker) c.args.n c.args.board.now.position in
    let back : c.defence_edges.result ≡ Err why = search rules in
    g.met.W.Watch.ends_wider _ _ _ _ why (g.met.W.Watch.ends _ _ _ 1 ((c.args.n + 1) * lines_within (seen_in c.args.facts.now) c.args.n c.args.board.now.position - 1) why c.in_ok-enter.ensures.gone (c.defence_edges.ensures.ended why back)) rest

pub build-returns-in_err-finish-3-clause-ended : goal.build-returns-in_err-finish-3-clause-ended
build-returns-in_err-finish-3-clause-ended g t c why is =
    let rest = rest_lines (seen_in c.args.facts.now) (laws c.args.facts.now.rules c.args.facts.now.attacker) c.args.n c.args.board.now.position in
    let memory = g.met.W.Watch.memory _ _ _ (g.met.W.Watch.wider _ _ _ _ (g.met.W.Watch.more _ _ _ 1 ((c.args.n + 1) * lines_within (seen_in c.args.facts.now) c.args.n c.args.board.now.position - 1) c.in_ok-enter.ensures.gone c.in_ok-edges-2.ensures.gone) rest) in
    search rules

pub build-returns-clause-grows : goal.build-returns-clause-grows
build-returns-clause-grows g t c =
    grows-trans c.args.table.now c.defence_edges.new.table c.finish-2.new.self c.in_ok-edges-2.ensures.grows c.in_ok-finish-3.ensures.grows

pub build-returns-clause-gone : goal.build-returns-clause-gone
build-returns-clause-gone g t c =
    let rest = rest_lines (seen_in c.args.facts.now) (laws c.args.facts.now.rules c.args.facts.now.attacker) c.args.n c.args.board.now.position in
    g.met.W.Watch.wider _ _ _ _ (g.met.W.Watch.more _ _ _ 1 ((c.args.n + 1) * lines_within (seen_in c.args.facts.now) c.args.n c.args.board.now.position - 1) c.in_ok-enter.ensures.gone c.in_ok-edges-2.ensures.gone) rest

pub attack_edges-choose-requires-clause-moves : goal.attack_edges-choose-requires-clause-moves
attack_edges-choose-requires-clause-moves g t c =
    rw c.deref.ensures.value c.in_ok-order.ensures.each

pub attack_edges-returns-in_err-choice-clause-ended : goal.attack_edges-returns-in_err-choice-clause-ended
attack_edges-returns-in_err-choice-clause-ended g t c why is =
    let some = attack-moves c.args.table.now c.args.facts.now c.requires.frame c.args.n c.args.board.now.position c.requires.next c.requires.goes_on c.requires.turn in
    let back : c.choose.result ≡ Err why = search rules in
    g.met.W.Watch.ends_wider _ _ _ _ why (c.choose.ensures.ended why back) (attack-asked c.args.facts.now c.args.n c.args.board.now.position c.requires.turn some)

pub attack_edges-edge_to-requires : goal.attack_edges-edge_to-requires
attack_edges-edge_to-requires g t c κs within =
    let f = c.args.facts.now in
    let p = c.args.board.now.position in
    let choice = c.in-Some.choice in
    let w : IsChoice f p c.args.n choice = subst (λ o. IfSome o (IsChoice f p c.args.n)) c.in-Some.is c.in_ok-choice.ensures.wins in
    let t = c.args.table.now in
    let h = c.choose.new.facts in
    let kept : h ≡ f = c.choose.ensures.frame in
    let less = w.fewer in
    let small = c.requires.small in
    let fall = attack-fall c.args.table.now c.args.facts.now c.requires.frame c.args.n c.args.board.now.position c.requires.next c.requires.goes_on c.requires.turn choice w h kept in
    let legal_here = subst (λ (x : Rules). Member choice.chosen (legal x (repeat_of p))) (sym c.requires.rules) w.is_legal in
    let next_is = next-in t f c.requires.frame t choice.moves (next h.rules p choice.chosen) (next f.rules p choice.chosen) (grows-self t) (ap (λ (x : Frame). next x.rules p choice.chosen) kept) (attack-next c.args.table.now c.args.facts.now c.requires.frame c.args.n c.args.board.now.position c.requires.next c.requires.goes_on c.requires.turn choice w) in
    (let d = c.decreases in omega arith, (within, (c.requires.rules ∙ ap (λ (x : Frame). x.rules) (sym kept), (c.requires.frame ∙ sym kept, (omega arith, (legal_here, next_is))))))

pub attack_edges-returns-in_err-edge-in-Some-clause-ended : goal.attack_edges-returns-in_err-edge-in-Some-clause-ended
attack_edges-returns-in_err-edge-in-Some-clause-ended g t c why is =
    let f = c.args.facts.now in
    let p = c.args.board.now.position in
    let choice = c.in-Some.choice in
    let w : IsChoice f p c.args.n choice = subst (λ o. IfSome o (IsChoice f p c.args.n)) c.in-Some.is c.in_ok-choice.ensures.wins in
    let total = attack-total c.args.table.now c.args.facts.now c.requires.frame c.args.n c.args.board.now.position c.requires.next c.requires.goes_on c.requires.turn choice w c.choose.new.facts c.choose.ensures.frame in
    let back : c.edge_to.result ≡ Err why = search rules in
    g.met.W.Watch.ends_wider _ _ _ _ why (g.met.W.Watch.ends _ _ _ (sum_by (lines_after (seen_in f) (c.args.n - 1) p) ((seen_in f).legal p)) ((choice.moves + 1) * lines_within (seen_in c.choose.new.facts) choice.moves (next c.choose.new.facts.rules p choice.chosen)) why c.in_ok-choice.ensures.gone (c.edge_to.ensures.ended why back)) total

pub attack_edges-returns-in_err-push-in-Some-clause-ended : goal.attack_edges-returns-in_err-push-in-Some-clause-ended
attack_edges-returns-in_err-push-in-Some-clause-ended g t c why is =
    let f = c.args.facts.now in
    let p = c.args.board.now.position in
    let choice = c.in-Some.choice in
    let w : IsChoice f p c.args.n choice = subst (λ o. IfSome o (IsChoice f p c.args.n)) c.in-Some.is c.in_ok-choice.ensures.wins in
    let total = attack-total c.args.table.now c.args.facts.now c.requires.frame c.args.n c.args.board.now.position c.requires.next c.requires.goes_on c.requires.turn choice w c.choose.new.facts c.choose.ensures.frame in
    let memory = g.met.W.Watch.memory _ _ _ (g.met.W.Watch.wider _ _ _ _ (g.met.W.Watch.more _ _ _ (sum_by (lines_after (seen_in f) (c.args.n - 1) p) ((seen_in f).legal p)) ((choice.moves + 1) * lines_within (seen_in c.choose.new.facts) choice.moves (next c.choose.new.facts.rules p choice.chosen)) c.in_ok-choice.ensures.gone c.in_ok-edge-in-Some.ensures.gone) total) in
    search rules

pub attack_edges-returns-clause-gone : goal.attack_edges-returns-clause-gone
attack_edges-returns-clause-gone g t c =
    let f = c.args.facts.now in
    let p = c.args.board.now.position in
    let choice = c.in-Some.choice in
    let w : IsChoice f p c.args.n choice = subst (λ o. IfSome o (IsChoice f p c.args.n)) c.in-Some.is c.in_ok-choice.ensures.wins in
    let total = attack-total c.args.table.now c.args.facts.now c.requires.frame c.args.n c.args.board.now.position c.requires.next c.requires.goes_on c.requires.turn choice w c.choose.new.facts c.choose.ensures.frame in
    g.met.W.Watch.wider _ _ _ _ (g.met.W.Watch.more _ _ _ (sum_by (lines_after (seen_in f) (c.args.n - 1) p) ((seen_in f).legal p)) ((choice.moves + 1) * lines_within (seen_in c.choose.new.facts) choice.moves (next c.choose.new.facts.rules p choice.chosen)) c.in_ok-choice.ensures.gone c.in_ok-edge-in-Some.ensures.gone) total

pub attack_edges-unreachable-requires : goal.attack_edges-unreachable-requires
attack_edges-unreachable-requires g t c =
    let wins = attack-wins c.args.table.now c.args.facts.now c.requires.frame c.args.n c.args.board.now.position c.requires.next c.requires.goes_on c.requires.turn in
    let nothing : c.in_ok-choice.field-0 ≡ None = search rules in
    absurd (let lost = c.in_ok-choice.ensures.none nothing in cc)

pub defence_edges-edge_to-requires : goal.defence_edges-edge_to-requires
defence_edges-edge_to-requires g t c κs within =
    let ms = c.in_ok-moves.moves.items in
    let i = c.loop-i.i in
    let x = c.index.result.now in
    let inside : i < length ms = search rules in
    let at : slice_get ms i ≡ Some x = slice_get_read ms (length ms) i x refl inside c.index.ensures in
    let t = c.args.table.now in
    let f = c.args.facts.now in
    let p = c.args.board.now.position in
    let h = c.loop-i.facts in
    let kept : h ≡ f = c.loop-i.invariant.frame in
    let fall = defence-fall c.args.table.now c.args.facts.now c.requires.frame c.args.n c.args.board.now.position c.requires.next c.requires.goes_on c.requires.turn x h kept in
    let legal_here = subst (Member x) c.in_ok-moves.ensures (member-at ms i x at) in
    let is_legal = subst (λ (y : Rules). Member x (legal y (repeat_of p))) c.requires.rules legal_here in
    let next_is = next-in t f c.requires.frame c.loop-i.table c.args.n (next h.rules p x) (next f.rules p x) c.loop-i.invariant.grows (ap (λ (y : Frame). next y.rules p x) kept) (defence-next c.args.table.now c.args.facts.now c.requires.frame c.args.n c.args.board.now.position c.requires.next c.requires.goes_on c.requires.turn x is_legal) in
    (let d = c.decreases in omega arith, (within, (c.requires.rules ∙ ap (λ (y : Frame). y.rules) (sym kept), (c.loop-i.invariant.grows.frame ∙ c.requires.frame ∙ sym kept, (c.requires.small, (legal_here, next_is))))))

pub defence_edges-returns-in_err-edge-clause-ended : goal.defence_edges-returns-in_err-edge-clause-ended
defence_edges-returns-in_err-edge-clause-ended g t c why is =
    let ms = c.in_ok-moves.moves.items in
    let i = c.loop-i.i in
    let x = c.index.result.now in
    let inside : i < length ms = search rules in
    let at : slice_get ms i ≡ Some x = slice_get_read ms (length ms) i x refl inside c.index.ensures in
    let step = defence-step c.args.facts.now c.loop-i.facts c.args.n c.args.board.now.position ms i x c.loop-i.invariant.frame at in
    let whole = defence_lines (seen_in c.args.facts.now) (laws c.args.facts.now.rules c.args.facts.now.attacker) c.args.n c.args.board.now.position c.in_ok-moves.moves.items (i + 1) c.requires.turn (c.in_ok-moves.ensures ∙ ap (λ (y : Rules). legal y (repeat_of c.args.board.now.position)) c.requires.rules) in
    let back : c.edge_to.result ≡ Err why = search rules in
    g.met.W.Watch.ends_wider _ _ _ _ why (g.met.W.Watch.ends_wider _ _ _ _ why (g.met.W.Watch.ends _ _ _ ((c.args.n + 1) * sum_by (lines_after (seen_in c.args.facts.now) c.args.n c.args.board.now.position) (take i ms)) ((c.args.n + 1) * lines_within (seen_in c.loop-i.facts) c.args.n (next c.loop-i.facts.rules c.args.board.now.position x)) why c.loop-i.invariant.gone (c.edge_to.ensures.ended why back)) step) whole

pub defence_edges-returns-in_err-push-clause-ended : goal.defence_edges-returns-in_err-push-clause-ended
defence_edges-returns-in_err-push-clause-ended g t c why is =
    let ms = c.in_ok-moves.moves.items in
    let i = c.loop-i.i in
    let x = c.index.result.now in
    let inside : i < length ms = search rules in
    let at : slice_get ms i ≡ Some x = slice_get_read ms (length ms) i x refl inside c.index.ensures in
    let step = defence-step c.args.facts.now c.loop-i.facts c.args.n c.args.board.now.position ms i x c.loop-i.invariant.frame at in
    let memory = g.met.W.Watch.memory _ _ _ (g.met.W.Watch.wider _ _ _ _ (g.met.W.Watch.wider _ _ _ ((c.args.n + 1) * sum_by (lines_after (seen_in c.args.facts.now) c.args.n c.args.board.now.position) (take (i + 1) ms)) (g.met.W.Watch.more _ _ _ ((c.args.n + 1) * sum_by (lines_after (seen_in c.args.facts.now) c.args.n c.args.board.now.position) (take i ms)) ((c.args.n + 1) * lines_within (seen_in c.loop-i.facts) c.args.n (next c.loop-i.facts.rules c.args.board.now.position x)) c.loop-i.invariant.gone c.in_ok-edge.ensures.gone) step) (defence_lines (seen_in c.args.facts.now) (laws c.args.facts.now.rules c.args.facts.now.attacker) c.args.n c.args.board.now.position c.in_ok-moves.moves.items (i + 1) c.requires.turn (c.in_ok-moves.ensures ∙ ap (λ (y : Rules). legal y (repeat_of c.args.board.now.position)) c.requires.rules))) in
    search rules

pub defence_edges-loop-i-preserved : goal.defence_edges-loop-i-preserved
defence_edges-loop-i-preserved g t c =
    let ms = c.in_ok-moves.moves.items in
    let i = c.loop-i.i in
    let x = c.index.result.now in
    let inside : i < length ms = search rules in
    let at : slice_get ms i ≡ Some x = slice_get_read ms (length ms) i x refl inside c.index.ensures in
    let step = defence-step c.args.facts.now c.loop-i.facts c.args.n c.args.board.now.position ms i x c.loop-i.invariant.frame at in
    let t = c.args.table.now in
    let f = c.args.facts.now in
    let p = c.args.board.now.position in
    let tf = c.requires.frame in
    let n = c.args.n in
    let kept : c.loop-i.facts ≡ f = c.loop-i.invariant.frame in
    let old = c.loop-i.table in
    let new = c.edge_to.new.table in
    let e = c.in_ok-edge.edge in
    let chosen : e.chosen ≡ x = c.in_ok-edge.ensures.chosen in
    let es : c.push.new.self ≡ c.loop-i.edges ++ e ∷ [] = search rules in
    let after = grows-trans t old new c.loop-i.invariant.grows c.in_ok-edge.ensures.grows in
    let grown = grows-as t f tf old new c.loop-i.invariant.grows c.in_ok-edge.ensures.grows in
    let legal_here = subst (λ (y : Rules). Member x (legal y (repeat_of p))) c.requires.rules (subst (Member x) c.in_ok-moves.ensures (member-at ms i x at)) in
    let here : IsLedTo (seen_in f) t.plan.exact new.nodes p n e = record {
      legal = subst (λ m. Member m ((seen_in f).legal p)) (sym chosen) legal_here;
      stands = stands-as t f tf new (next c.loop-i.facts.rules p x) (next f.rules p e.chosen) n e.to after (λ j. next (kept j).rules p (sym chosen j)) c.in_ok-edge.ensures.stands;
    } in
    record {
      frame = c.edge_to.ensures.frame ∙ kept;
      grows = after;
      chosen = subst (λ z. map (λ (y : Edge). y.chosen) z ≡ take (i + 1) ms) (sym es) (chosen_more c.loop-i.edges ms i e (at ∙ ap Some (sym chosen)) c.loop-i.invariant.chosen);
      led = subst (λ z. (y : Edge) → Member y z → IsLedTo (rules_of t) t.plan.exact new.nodes p n y) (sym es)
          (each_more {Q = λ y. IsLedTo (rules_of t) t.plan.exact new.nodes p n y} c.loop-i.edges e
          (λ y k. led-in t f tf new.nodes p n y (led-to-grows (seen_in f) (laws f.rules f.attacker) (is_in f.blocked) t.plan.exact old.nodes new.nodes p n y c.requires.small grown (led-as t f tf old.nodes p n y (c.loop-i.invariant.led y k))))
          (led-in t f tf new.nodes p n e here));
      gone = g.met.W.Watch.wider _ _ _ ((c.args.n + 1) * sum_by (lines_after (seen_in c.args.facts.now) c.args.n c.args.board.now.position) (take (i + 1) ms)) (g.met.W.Watch.more _ _ _ ((c.args.n + 1) * sum_by (lines_after (seen_in c.args.facts.now) c.args.n c.args.board.now.position) (take i ms)) ((c.args.n + 1) * lines_within (seen_in c.loop-i.facts) c.args.n (next c.loop-i.facts.rules c.args.board.now.position x)) c.loop-i.invariant.gone c.in_ok-edge.ensures.gone) step;
    }

pub defence_edges-returns-clause-edges : goal.defence_edges-returns-clause-edges
defence_edges-returns-clause-edges g t c =
    let t = c.args.table.now in
    let f = c.args.facts.now in
    let p = c.args.board.now.position in
    let s = c.loop-i.table in
    let ms = c.in_ok-moves.moves.items in
    let whole : take c.loop-i.i ms ≡ ms = take_all c.loop-i.i ms (search rules) in
    edges-in t f c.requires.frame s p c.args.n c.loop-i.edges c.loop-i.invariant.grows
    (edges_defence (seen_in f) (laws f.rules f.attacker) (is_in f.blocked) t.plan.exact s.nodes p c.args.n c.loop-i.edges c.requires.goes_on c.requires.turn (c.loop-i.invariant.chosen ∙ whole ∙ (c.in_ok-moves.ensures ∙ ap (λ (y : Rules). legal y (repeat_of c.args.board.now.position)) c.requires.rules))
    (λ y k. led-as t f c.requires.frame s.nodes p c.args.n y (c.loop-i.invariant.led y k)))

pub defence_edges-returns-clause-gone : goal.defence_edges-returns-clause-gone
defence_edges-returns-clause-gone g t c =
    g.met.W.Watch.wider _ _ _ _ c.loop-i.invariant.gone (defence_lines (seen_in c.args.facts.now) (laws c.args.facts.now.rules c.args.facts.now.attacker) c.args.n c.args.board.now.position c.in_ok-moves.moves.items c.loop-i.i c.requires.turn (c.in_ok-moves.ensures ∙ ap (λ (y : Rules). legal y (repeat_of c.args.board.now.position)) c.requires.rules))
