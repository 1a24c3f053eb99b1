-- What was found of a problem is its answer.
use Rattle.std.proofs.Common.{◌≡◌, Option, Some, None, refl, sym, subst, ◌∙◌}
use Rattle.rules_model.specs.Games.{Story, story_from}
use Rattle.forced_wins.specs.Wins.{IsInLimit}
use Rattle.game_play.specs.Played.{Played, story}
use Rattle.mate_search.specs.Least.{least}
use Rattle.suite.specs.declared.winning.LeastWin.{LeastWin}
use Rattle.suite.specs.Winning.{IsLeastWin, least_for}
use Rattle.suite.specs.declared.problem.Problem.{Problem}
use Rattle.suite.specs.Answers.{IsAnswer}
use Rattle.suite.specs.Problems.{game_of, least_of, started}

story-alone : (p : Problem) → story (started p) ≡ game_of p
unfolding story_from
story-alone p = refl

-- the least number of the side that is to move is that of the problem
least-is : (p : Problem) → least_of p ≡ least_for p.rules p.n (game_of p) p.position.side
unfolding least
least-is p = refl

pub won-answer : (p : Problem) (w : LeastWin) → IsLeastWin p.rules (game_of p) p.position.side p.n (Some w)
    → IsAnswer p (record { least = Some w.moves; strategy = Some w.strategy })
won-answer p w won = record { least = sym (least-is p ∙ won.least); strategy = won.shown }

pub none-answer : (p : Problem) → IsLeastWin p.rules (game_of p) p.position.side p.n None
    → IsAnswer p (record { least = None; strategy = None })
none-answer p none = record { least = sym (least-is p ∙ none); strategy = tt }

-- the game of the problem's position alone
module _ (p : Problem) (g : Played) (is : g ≡ started p) where
  pub alone-limit : IsInLimit p.rules p.n (game_of p) → IsInLimit g.rules p.n (story g)
  alone-limit limit =
      subst (λ (h : Played). IsInLimit h.rules p.n (story h)) (sym is)
      (subst (λ (s : Story). IsInLimit p.rules p.n s) (sym (story-alone p)) limit)

  pub alone-won : (won : Option LeastWin) → IsLeastWin g.rules (story g) p.position.side p.n won
      → IsLeastWin p.rules (game_of p) p.position.side p.n won
  alone-won won wins =
      subst (λ (s : Story). IsLeastWin p.rules s p.position.side p.n won) (story-alone p)
      (subst (λ (h : Played). IsLeastWin h.rules (story h) p.position.side p.n won) is wins)
