use Rattle.std.proofs.Common.{◌≡◌, ◌<◌, ℕ, List, length, get_or, slice_index_or, sym, subst, rules}
use Rattle.std.specs.List.{All}
use Rattle.std.proofs.lemmas.List.Elements.{Contains-get_or}
use Rattle.foundation.specs.Member.{Member}
use Rattle.foundation.proofs.Members.{member-contains}
use Rattle.rules_model.specs.declared.moves.Move.{Move}
use Rattle.game_play.specs.Played.{legal_in}
use Rattle.session_tests.proofs.engine_states.searched.Goals as goal

all-members : (ms : List Move) → All (λ m. Member m ms) ms
all-members ms = λ k d lt. member-contains (get_or ms k d) ms (Contains-get_or ms k d lt)

pub search_once-searched-requires-clause-legal : goal.search_once-searched-requires-clause-legal
search_once-searched-requires-clause-legal g c κs within =
    let ms : List Move = legal_in c.in_ok-game.game in
    let is : c.as_slice.result.now ≡ ms = search rules in
    subst (λ (xs : List Move). (k : ℕ) (d : Move) → k < length xs → Member (slice_index_or xs k d) ms) (sym is) (all-members ms)
