use Rattle.std.specs.Arc.{arc_value}
use Rattle.std.proofs.Common.{◌≡◌, ◌<◌, List, length, refl, sym, ap, subst, ◌∙◌, arith}
use Rattle.std.proofs.lemmas.Result.{err_from_is_err_and}
use Rattle.foundation.specs.Member.{Member}
use Rattle.rules_model.specs.declared.moves.Move.{Move}
use Rattle.rules_model.specs.Legal.{legal}
use Rattle.rules_model.specs.Repeats.{repeat_of}
use Rattle.game_play.specs.Played.{Played, legal_in}
use Rattle.game_play.proofs.KeptLemmas.{kept-count, kept-end, kept-legal, kept-ready, kept-play}
use Rattle.game_play.proofs.game.Game.play.Goals as goal
use Rattle.game_play.proofs.game.Game.play.Goals.{After-last-last}

-- what is legal in the position that was found is legal in the game
legal_here : (c : After-last-last) → legal c.rules-rules.result.now (repeat_of c.last-last.result.now) ≡ legal_in c.args.self.now
legal_here c =
    let i = c.self.inside in
    kept-legal (arc_value i.tables) i.standings i.moves.items c.args.self.now c.self.view_is c.rules-rules.result.now c.last-last.result.now
    (c.rules-rules.ensures.is ∙ c.deref-tables.ensures)
    (c.last-last.ensures c.last-last.result.now ∙ kept-end (arc_value i.tables) i.standings i.moves.items c.self.invariant c.last-last.result.now)

pub last-last-requires : goal.last-last-requires
last-last-requires c =
    let i = c.self.inside in
    let count = kept-count (arc_value i.tables) i.standings i.moves.items c.self.invariant in
    record { some = omega arith }

pub is_legal-requires : goal.is_legal-requires
is_legal-requires c =
    let i = c.self.inside in
    let last = c.last-last.ensures c.last-last.result.now ∙ kept-end (arc_value i.tables) i.standings i.moves.items c.self.invariant c.last-last.result.now in
    record { ready = kept-ready (arc_value i.tables) i.standings i.moves.items c.self.invariant c.last-last.result.now last c.rules-rules.result.now c.deref-tables.result.now c.deref-tables.ensures c.rules-rules.ensures.is }

pub apply-requires-clause-ready : goal.apply-requires-clause-ready
apply-requires-clause-ready c =
    let i = c.self.inside in
    let last = c.last-last.ensures c.last-last.result.now ∙ kept-end (arc_value i.tables) i.standings i.moves.items c.self.invariant c.last-last.result.now in
    kept-ready (arc_value i.tables) i.standings i.moves.items c.self.invariant c.last-last.result.now last c.rules-rules.result.now c.deref-tables.result.now c.deref-tables.ensures c.rules-rules.ensures.is

pub append-requires : goal.append-requires
append-requires c =
    let i = c.self.inside in
    let count = kept-count (arc_value i.tables) i.standings i.moves.items c.self.invariant in
    record { room = omega arith }

pub invariant_of-self-2 : goal.invariant_of-self-2
invariant_of-self-2 c =
    let i = c.self.inside in
    let last = c.last-last.ensures c.last-last.result.now ∙ kept-end (arc_value i.tables) i.standings i.moves.items c.self.invariant c.last-last.result.now in
    let few : length i.moves.items < 8192 = omega arith in
    kept-play (arc_value i.tables) i.standings i.moves.items c.self.invariant c.rules-rules.result.now c.last-last.result.now c.apply.new.p c.args.m.now (c.rules-rules.ensures.is ∙ c.deref-tables.ensures) last (c.if-not-is_legal.ensures.member.0 refl) few c.apply.ensures.next
    _ _ c.in_ok-append.ensures.positions c.in_ok-append.ensures.moves

pub returns-then-not-is_legal-clause-answer : goal.returns-then-not-is_legal-clause-answer
returns-then-not-is_legal-clause-answer c = λ k.
    let same = legal_here (goal.at.returns-then-not-is_legal-clause-answer c).After-last-last in
    let no = c.if-not-is_legal.ensures.member.1 (subst (λ (ms : List Move). Member c.args.m.now ms) (sym same) k) in
    absurd (cc)

pub returns-then-len-ge-MOST_PLIES-clause-answer : goal.returns-then-len-ge-MOST_PLIES-clause-answer
returns-then-len-ge-MOST_PLIES-clause-answer c =
    let same = legal_here (goal.at.returns-then-len-ge-MOST_PLIES-clause-answer c).After-last-last in
    let plies = ap (λ (g : Played). length g.moves) c.self.view_is in
    (subst (λ (ms : List Move). Member c.args.m.now ms) same (c.if-not-is_legal.ensures.member.0 refl), omega arith)

pub returns-in_err-append-clause-answer : goal.returns-in_err-append-clause-answer
returns-in_err-append-clause-answer c =
    let same = legal_here (goal.at.returns-in_err-append-clause-answer c).After-last-last in
    let plies = ap (λ (g : Played). length g.moves) c.self.view_is in
    let p = err_from_is_err_and c.from_residual.result c.from_residual.ensures.1 in
    rw (p.1, p.2) (subst (λ (ms : List Move). Member c.args.m.now ms) same (c.if-not-is_legal.ensures.member.0 refl), omega arith)

pub returns-clause-answer : goal.returns-clause-answer
returns-clause-answer c =
    let same = legal_here (goal.at.returns-clause-answer c).After-last-last in
    let plies = ap (λ (g : Played). length g.moves) c.self.view_is in
    (subst (λ (ms : List Move). Member c.args.m.now ms) same (c.if-not-is_legal.ensures.member.0 refl), omega arith)
