use Rattle.std.proofs.Common.{sym, ◌∙◌}
use Rattle.legality.specs.Stance.{repeat_in}
use Rattle.rules_model.specs.Next as Next
use Rattle.negamax.proofs.CopyLaws.{appended_captures, some-not-stuck}
use Rattle.negamax.proofs.search_state.SearchState.list_captures.Goals as goal

pub returns-then-has_moves-clause-any : goal.returns-then-has_moves-clause-any
returns-then-has_moves-clause-any c =
    let board = c.args.board.now in
    let pushed = rw c.known-known.ensures at c.in_ok-push_captures.ensures.ok in
    some-not-stuck board.rules (repeat_in board) (Next.captures board.rules (repeat_in board)) _ (appended_captures board _ _ c.clear.ensures.items pushed)
    (sym c.has_moves.ensures ∙ c.if-has_moves.true)

pub returns-then-has_moves-clause-listed : goal.returns-then-has_moves-clause-listed
returns-then-has_moves-clause-listed c =
    let pushed = rw c.known-known.ensures at c.in_ok-push_captures.ensures.ok in
    appended_captures c.args.board.now _ _ c.clear.ensures.items pushed

pub returns-clause-listed : goal.returns-clause-listed
returns-clause-listed c =
    let pushed = rw c.known-known.ensures at c.in_ok-push_captures.ensures.ok in
    appended_captures c.args.board.now _ _ c.clear.ensures.items pushed
