use Rattle.std.proofs.Common.{◌≡◌, ◌∙◌, List, slice_index_or, subst, rules}
use Rattle.foundation.specs.Member.{Member}
use Rattle.legality.proofs.MemberLaws.{get_or-member}
use Rattle.rules_model.specs.declared.moves.Move.{Move}
use Rattle.game_play.specs.Played.{legal_in}
use Rattle.one_shots.proofs.report.value_text.Goals as goal

pub value_of-requires-clause-legal : goal.value_of-requires-clause-legal
value_of-requires-clause-legal g c l b k d below =
    let viewed : c.as_slice.result.now ≡ c.in_ok-moves.moves = search rules in
    let same : c.as_slice.result.now ≡ legal_in c.args.game.now = viewed ∙ (rw (c.rules.ensures, c.position.ensures.is) at c.in_ok-moves.ensures) in
    subst (λ (ms : List Move). Member (slice_index_or c.as_slice.result.now k d) ms) same (get_or-member c.as_slice.result.now k d below)
