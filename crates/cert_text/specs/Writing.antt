-- The text of a certificate.
use Rattle.std.specs.Prelude.{◌≡◌, ◌⊎◌, ◌≤◌, ℕ, ◌+◌, ◌/◌, max, Bool, true, false, List, [], ◌∷◌, ◌++◌, map, codes}
use Rattle.std.specs.Fmt.{decimal}
use Rattle.rules_model.specs.MoveText.{text_of}
use Rattle.game_play.specs.Played.{IsPlayed, Played, story}
use Rattle.stipulation.specs.declared.cert.Step.{Step}
use Rattle.stipulation.specs.declared.verdict.CertVerdict.TheVariants.{Holds}
use Rattle.stipulation.specs.Verdicts.{help_verdict, self_verdict}
use Rattle.strategy.specs.Writing.{ended_lines}

-- ---- the first line

unfoldable pub greatest_ply : List Step → ℕ
greatest_ply [] = 0
greatest_ply (s ∷ steps) = max s.ply (greatest_ply steps)

-- half the greatest ply, rounded up
abbrev pub moves_of : List Step → ℕ
moves_of steps = (greatest_ply steps + 1) / 2

abbrev pub title_word : Bool → List ℕ
title_word false = codes "selfmate "
title_word true = codes "helpmate "

-- `selfmate K`, or `helpmate K`
abbrev pub title_text : Bool → List Step → List ℕ
title_text help steps = title_word help ++ decimal (moves_of steps)

-- ---- the whole

-- `PLY MOVE`
unfoldable pub step_text : Step → List ℕ
step_text s = decimal s.ply ++ codes " " ++ text_of s.chosen

abbrev pub cert_texts : Bool → List Step → List (List ℕ)
cert_texts help steps = title_text help steps ∷ (map step_text steps ++ codes "end" ∷ [])

-- each line with its end
unfoldable pub cert_text : Bool → List Step → List ℕ
cert_text help steps = ended_lines (cert_texts help steps)

-- ---- which certificates are read back

-- the steps are a certificate that holds in the game, of a selfmate or a helpmate within n moves, n being 6 at most
pub record HoldsIn (g : Played) (n : ℕ) (steps : List Step) : Type 0 where
  pub played : IsPlayed g
  pub few : n ≤ 6
  pub holds : (self_verdict g.rules n (story g) steps ≡ Holds) ⊎ (help_verdict g.rules n (story g) steps ≡ Holds)
