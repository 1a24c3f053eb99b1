use Rattle.std.proofs.Common.{◌≡◌, ◌∙◌, None, Some, List, sym, subst, arith}
use Rattle.rules_model.specs.declared.board.Position.{Position}
use Rattle.rules_model.specs.declared.moves.Move.{Move}
use Rattle.mate_fact.specs.InFrame as In
use Rattle.mate_settle.specs.Tried.{AreTried}
use Rattle.mate_settle.specs.Tellings.{IsTold}
use Rattle.mate_settle.proofs.LastMoves.{one-or-none}
use Rattle.mate_settle.proofs.Settled.{told-ended}
use Rattle.mate_settle.proofs.TriedLaws.{holds_wins, none_wins, some_decides, some_held, tried_legal}
use Rattle.mate_settle.proofs.last_replies.by_one_move.Goals as goal

pub some_legal-requires : goal.some_legal-requires
some_legal-requires c =
    let s = c.args.board.now in
    let o = c.winning_checks-checks.result in
    let Tried : List Move → Type 0 = λ ms. AreTried s o ms in
    tried_legal s o c.as_slice-list.result.now (subst Tried (sym (c.as_slice-list.ensures.value ∙ c.moves.view_is)) c.in_ok-moves.ensures.tried)

pub winning_move-chosen-requires-clause-attack : goal.winning_move-chosen-requires-clause-attack
winning_move-chosen-requires-clause-attack c =
    let f = c.args.frame.now in
    record {
      ongoing = subst (λ (p : Position). In.end_in f p ≡ None) c.position.ensures (sym c.end_of.ensures ∙ c.in-None.is);
      turn = c.requires.turn;
    }

pub winning_move-chosen-requires-clause-legal : goal.winning_move-chosen-requires-clause-legal
winning_move-chosen-requires-clause-legal c =
    let s = c.args.board.now in
    let o = c.winning_checks-checks.result in
    let ms = c.as_slice-list.result.now in
    let Tried : List Move → Type 0 = λ ms. AreTried s o ms in
    (holds_wins c.args.frame.now s ms c.requires.rules (winning_move-chosen-requires-clause-attack c) o c.winning_checks-checks.ensures.only
    (subst Tried (sym (c.as_slice-list.ensures.value ∙ c.moves.view_is)) c.in_ok-moves.ensures.tried)).sound

pub returns-in-Some-clause-told : goal.returns-in-Some-clause-told
returns-in-Some-clause-told c =
    let f = c.args.frame.now in
    let p = c.args.board.now.position in
    subst (IsTold f p 1) (sym c.told_of_end.ensures)
    (told-ended f p 1 c.in-Some.won (omega arith) (subst (λ (q : Position). In.end_in f q ≡ Some c.in-Some.won) c.position.ensures (sym c.end_of.ensures ∙ c.in-Some.is)))

pub returns-clause-told : goal.returns-clause-told
returns-clause-told c =
    let f = c.args.frame.now in
    let s = c.args.board.now in
    let o = c.winning_checks-checks.result in
    let ms = c.as_slice-list.result.now in
    let chosen = c.winning_move-chosen.result in
    let Tried : List Move → Type 0 = λ ms. AreTried s o ms in
    let attack : In.IsAttackIn f s.position = record {
      ongoing = subst (λ (p : Position). In.end_in f p ≡ None) c.position.ensures (sym c.end_of.ensures ∙ c.in-None.is);
      turn = c.requires.turn;
    } in
    let holds = holds_wins f s ms c.requires.rules attack o c.winning_checks-checks.ensures.only
    (subst Tried (sym (c.as_slice-list.ensures.value ∙ c.moves.view_is)) c.in_ok-moves.ensures.tried) in
    let wins : c.is_some.result ≡ In.near_in f 1 s.position = c.is_some.ensures ∙ one-or-none f s.position attack chosen (some_held f s ms holds chosen c.winning_move-chosen.ensures.listed) c.winning_move-chosen.ensures.wins
    (λ none. none_wins f s ms holds (c.winning_move-chosen.ensures.none none)) in
    record { own = sym wins; won = λ e. omega arith; lost = λ e. omega arith }

pub returns-clause-wins : goal.returns-clause-wins
returns-clause-wins c =
    let f = c.args.frame.now in
    let s = c.args.board.now in
    let o = c.winning_checks-checks.result in
    let ms = c.as_slice-list.result.now in
    let Tried : List Move → Type 0 = λ ms. AreTried s o ms in
    let attack : In.IsAttackIn f s.position = record {
      ongoing = subst (λ (p : Position). In.end_in f p ≡ None) c.position.ensures (sym c.end_of.ensures ∙ c.in-None.is);
      turn = c.requires.turn;
    } in
    let holds = holds_wins f s ms c.requires.rules attack o c.winning_checks-checks.ensures.only
    (subst Tried (sym (c.as_slice-list.ensures.value ∙ c.moves.view_is)) c.in_ok-moves.ensures.tried) in
    some_decides f s ms holds attack c.winning_move-chosen.result c.winning_move-chosen.ensures.listed c.winning_move-chosen.ensures.wins
