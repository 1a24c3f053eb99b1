use Rattle.std.proofs.Common.{◌≡◌, ◌∙◌, List, slice_index_or, subst, rules}
use Rattle.foundation.specs.Member.{Member}
use Rattle.legality.proofs.MemberLaws.{get_or-member}
use Rattle.rules_model.specs.declared.moves.Move.{Move}
use Rattle.game_play.specs.Played.{legal_in}
use Rattle.suite.proofs.first_moves.keys_of.Goals as goal

pub push_keys-requires-clause-legal : goal.push_keys-requires-clause-legal
push_keys-requires-clause-legal g c = λ k d below.
    let viewed : c.as_slice.result.now ≡ c.in_ok-moves.moves = search rules in
    let same : c.as_slice.result.now ≡ legal_in c.args.game.now = viewed ∙ (rw (c.rules.ensures, c.position.ensures.is) at c.in_ok-moves.ensures) in
    subst (λ (ms : List Move). Member (slice_index_or c.as_slice.result.now k d) ms) same (get_or-member c.as_slice.result.now k d below)
