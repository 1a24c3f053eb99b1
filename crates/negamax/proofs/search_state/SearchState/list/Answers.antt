use Rattle.std.proofs.Common.{◌∙◌, ap, not}
use Rattle.legality.specs.Stance.{repeat_in}
use Rattle.negamax.proofs.CopyLaws.{appended_all, lists-stuck}
use Rattle.negamax.proofs.search_state.SearchState.list.Goals as goal

pub returns-clause-listed : goal.returns-clause-listed
returns-clause-listed c = appended_all _ _ _ c.clear.ensures.items c.in_ok-push_legal.ensures.ok

pub returns-clause-any : goal.returns-clause-any
returns-clause-any c =
    let board = c.args.board.now in
    let listed = appended_all _ _ _ c.clear.ensures.items c.in_ok-push_legal.ensures.ok in
    c.has_moves.ensures ∙ ap not (lists-stuck board.rules (repeat_in board) _ listed)
