use Rattle.std.proofs.Common.{◌≡◌, ◌<◌, ℕ, List, length, get_or, slice_index_or, sym, subst, rules}
use Rattle.std.specs.List.{All}
use Rattle.std.proofs.lemmas.List.Elements.{Contains-get_or}
use Rattle.foundation.specs.Member.{Member}
use Rattle.foundation.proofs.Members.{member-contains}
use Rattle.rules_model.specs.declared.moves.Move.{Move}
use Rattle.rules_model.specs.Legal.{legal}
use Rattle.rules_model.specs.Repeats.{repeat_of}
use Rattle.game_play.specs.Played.{story}
use Rattle.search_tests.proofs.searches.answer_to.Goals as goal

all-members : (ms : List Move) → All (λ m. Member m ms) ms
all-members ms = λ k d lt. member-contains (get_or ms k d) ms (Contains-get_or ms k d lt)

pub search-answer-requires-clause-legal : goal.search-answer-requires-clause-legal
search-answer-requires-clause-legal g c κs within =
    let game = c.args.game.now in
    let ms : List Move = legal game.rules (repeat_of (story game).last) in
    let is : c.as_slice.result.now ≡ ms = search rules in
    subst (λ (xs : List Move). (k : ℕ) (d : Move) → k < length xs → Member (slice_index_or xs k d) ms) (sym is) (all-members ms)
