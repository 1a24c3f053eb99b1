-- Errors that `?` hands on.
use Rattle.std.proofs.Common.{◌≡◌, Err, Ok, IsErrAnd, Result, ap, sym, ◌∙◌}
use Rattle.watching.specs.declared.halt.Halt.{Halt}

-- a call ended by what the function ended by
pub halted : {T U : Type 0} (call : Result T Halt) (end : Result U Halt) (e why : Halt) → call ≡ Err e → IsErrAnd end (λ x. x ≡ e)
    → end ≡ Err why → call ≡ Err why
halted call (Ok x) e why was from is = absurd from
halted call (Err x) e why was from is = let same : x ≡ why = cc in was ∙ ap Err (sym from ∙ same)
