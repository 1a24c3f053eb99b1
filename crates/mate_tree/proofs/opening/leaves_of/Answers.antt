use Rattle.std.proofs.Common.{◌≡◌, map, take, ap, sym, ◌∙◌, subst, rules}
use Rattle.std.proofs.lemmas.List.{take_all}
use Rattle.foundation.specs.Member.{Lists, Member}
use Rattle.legality.specs.Stance.{legal_in}
use Rattle.mate_settle.specs.Known.{weighed_of}
use Rattle.mate_tree.proofs.opening.leaves_of.Goals as goal

pub returns : goal.returns
returns c =
    let ws = c.in_ok-moves.moves.items in
    let whole : take c.loop-i.i ws ≡ ws = take_all c.loop-i.i ws (search rules) in
    record {
      listed = subst (Lists (λ m. Member m (legal_in c.args.board.now))) (sym (c.loop-i.invariant.listed ∙ ap (map weighed_of) whole)) c.in_ok-moves.ensures;
      closed = c.loop-i.invariant.closed;
    }
