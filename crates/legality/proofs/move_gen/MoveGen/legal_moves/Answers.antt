use Rattle.legality.proofs.ListLaws.{listed, sorted_legal}
use Rattle.legality.proofs.TextLaws.{legal_differ, legal_fit}
use Rattle.legality.proofs.move_gen.MoveGen.legal_moves.Goals as goal

pub sort_moves-requires : goal.sort_moves-requires
sort_moves-requires c =
    let all = listed _ _ _ _ c.new.ensures.items c.moves.view_is c.in_ok-push_legal.ensures.ok in
    record { once = all.once; fit = legal_fit _ _ _ c.prove_ready.ensures _ all; texts = legal_differ _ _ _ c.prove_ready.ensures _ all }

pub returns : goal.returns
returns c = sorted_legal _ _ _ _ (listed _ _ _ _ c.new.ensures.items c.moves.view_is c.in_ok-push_legal.ensures.ok) c.in_ok-sort_moves.ensures.same c.in_ok-sort_moves.ensures.sorted
