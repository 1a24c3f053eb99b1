-- Texts piece by piece.
use Rattle.std.proofs.Common.{◌≡◌, ℕ, ◌+◌, Bool, List, [], ◌∷◌, ◌++◌, map, sym, ap, ◌∙◌, append_assoc}
use Rattle.std.specs.Prelude.{codes}
use Rattle.strategy.specs.Writing.{ended_line, ended_lines}
use Rattle.strategy.proofs.WriteLemmas.{ended_lines-append}
use Rattle.stipulation.specs.declared.cert.Step.{Step}
use Rattle.cert_text.specs.Writing.{cert_text, step_text, title_text}

-- the whole of its parts
pub cert-pushed : (help : Bool) (steps : List Step) (empty title lines whole : List ℕ) → empty ≡ [] → title ≡ empty ++ ended_line (title_text help steps) → lines ≡ title ++ ended_lines (map step_text steps)
    → whole ≡ lines ++ ended_line (codes "end") → whole ≡ cert_text help steps
unfolding cert_text ended_lines
cert-pushed help steps empty title lines whole none first later last =
    last
    ∙ ap (λ t. t ++ ended_line (codes "end")) later
    ∙ ap (λ t. (t ++ ended_lines (map step_text steps)) ++ ended_line (codes "end")) (first ∙ ap (λ t. t ++ ended_line (title_text help steps)) none)
    ∙ append_assoc (ended_line (title_text help steps)) (ended_lines (map step_text steps)) (ended_line (codes "end"))
    ∙ ap (λ t. ended_line (title_text help steps) ++ t) (sym (ended_lines-append (map step_text steps) (codes "end" ∷ [])))
