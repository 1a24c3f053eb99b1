-- A report, and the report on nothing.
use Rattle.std.proofs.Common.{◌≡◌, [], ◌∷◌, ◌++◌, Some, None, refl, codes}
use Rattle.std.specs.Fmt.{decimal}
use Rattle.suite.specs.Report.{report}

three : report (1 ∷ 2 ∷ 4 ∷ []) (Some 1 ∷ Some 2 ∷ None ∷ [])
    ≡ ((decimal 1 ++ codes " mate " ++ decimal 1 ++ codes "\n") ++ ((decimal 2 ++ codes " mate " ++ decimal 2 ++ codes "\n") ++ ((decimal 4 ++ codes " none\n") ++ [])))
    ++ (codes "solved " ++ decimal 2 ++ codes " of " ++ decimal 3 ++ codes "\n")
unfolding report
three = refl

nothing : report [] [] ≡ codes "solved " ++ decimal 0 ++ codes " of " ++ decimal 0 ++ codes "\n"
unfolding report
nothing = refl
