use Rattle.std.proofs.Common.{◌<◌, length, sym, subst}
use Rattle.foundation.specs.Member.{Member}
use Rattle.game_play.specs.Played.{legal_in}
use Rattle.game_text.specs.Playing.{most_plies}
use Rattle.session_model.specs.CecpState.{State}
use Rattle.cecp_front.proofs.SeekLaws.{on_error}
use Rattle.cecp_front.proofs.ThoughtLaws.{think_broke, think_dropped, think_moved, unthought_seeking}
use Rattle.cecp_front.proofs.TurnLaws.{has_first, has_room}
use Rattle.cecp_front.proofs.session.CecpSession.think.Goals as goal

pub returns-in_err-depths-clause-unthought : goal.returns-in_err-depths-clause-unthought
returns-in_err-depths-clause-unthought g c =
    on_error c.from_residual.result (λ first is. unthought_seeking c.args.self.now first c.in_err-depths.ensures.broke)

pub returns-then-is_dropped-clause-thought : goal.returns-then-is_dropped-clause-thought
returns-then-is_dropped-clause-thought g c first is =
    think_dropped c.args.self.now c.seek.new.self c.seek.ensures.same first c.in_ok-depths.depths.best c.seek.new.line
    c.in_ok-depths.depths.why (c.in_ok-depths.ensures.sought first is) c.is_dropped.result c.is_dropped.ensures
    (g.S.Source.owed c.next_of.new.source) c.next_of.result c.next_of.new.line c.if-is_dropped.true c.next_of.ensures.owed
    c.next_of.ensures.next

pub make_move-requires-clause-legal : goal.make_move-requires-clause-legal
make_move-requires-clause-legal g c =
    let some = has_first c.args.self.now c.requires.thinks in
    subst (λ (x : State). Member c.in_ok-depths.depths.best (legal_in x.game)) (sym c.seek.ensures.same)
    (c.in_ok-depths.ensures.sought some.0 some.1).legal

pub make_move-requires-clause-room : goal.make_move-requires-clause-room
make_move-requires-clause-room g c =
    subst (λ (x : State). length x.game.moves < most_plies) (sym c.seek.ensures.same) (has_room c.args.self.now c.requires.thinks)

pub returns-in_err-make_move-clause-unthought : goal.returns-in_err-make_move-clause-unthought
returns-in_err-make_move-clause-unthought g c =
    on_error c.from_residual-in_err-make_move.result (λ first is.
    think_broke c.args.self.now c.seek.new.self c.seek.ensures.same first c.in_ok-depths.depths.best c.seek.new.line
    c.in_ok-depths.depths.why (c.in_ok-depths.ensures.sought first is) c.is_dropped.result c.is_dropped.ensures
    c.if-is_dropped.false c.in_err-make_move.ensures.part)

pub returns-clause-thought : goal.returns-clause-thought
returns-clause-thought g c first is =
    think_moved c.args.self.now c.seek.new.self c.seek.ensures.same first c.in_ok-depths.depths.best c.seek.new.line
    c.in_ok-depths.depths.why (c.in_ok-depths.ensures.sought first is) c.is_dropped.result c.is_dropped.ensures
    c.make_move.new.self (g.S.Source.owed c.next_of-2.new.source) c.next_of-2.result c.next_of-2.new.line c.if-is_dropped.false
    c.in_ok-make_move.ensures.made c.in_ok-make_move.ensures.wrote c.next_of-2.ensures.owed c.next_of-2.ensures.next
