use Rattle.std.proofs.Common.{◌≡◌, false, sym, ◌∙◌}
use Rattle.std.proofs.lemmas.Option.{slice_get-get_or}
use Rattle.rules_model.specs.Next.{next}
use Rattle.mate_fact.specs.InFrame as In
use Rattle.mate_settle.proofs.Settled.{member-at, each-more}
use Rattle.mate_settle.proofs.last_moves.winning_move.Goals as goal

pub wins_by-requires-clause-legal : goal.wins_by-requires-clause-legal
wins_by-requires-clause-legal c =
    let ms = c.args.moves.now in
    let i = c.loop-i.i in
    c.requires.legal _ (member-at ms i _ (slice_get-get_or ms i _ c.loop-i-test.true))

pub returns-then-wins_by-clause-listed : goal.returns-then-wins_by-clause-listed
returns-then-wins_by-clause-listed c =
    let ms = c.args.moves.now in
    let i = c.loop-i.i in
    member-at ms i _ (slice_get-get_or ms i _ c.loop-i-test.true)

pub loop-i-preserved : goal.loop-i-preserved
loop-i-preserved c =
    let f = c.args.frame.now in
    let p = c.args.board.now.position in
    let ms = c.args.moves.now in
    let i = c.loop-i.i in
    record {
      flights = c.wins_by.ensures.flights;
      kept = c.wins_by.ensures.kept ∙ c.loop-i.invariant.kept;
      none = each-more {Q = λ m. In.near_in f 0 (next f.rules p m) ≡ false} ms i _ (slice_get-get_or ms i _ c.loop-i-test.true) c.loop-i.invariant.none (sym c.wins_by.ensures.wins ∙ c.if-wins_by.false);
    }
