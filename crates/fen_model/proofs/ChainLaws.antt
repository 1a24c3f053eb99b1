-- Steps that end well.
use Rattle.std.proofs.Common.{◌≡◌, Option, Some, None, Ok, Err, refl, ap}
use Rattle.std.specs.declared.result.Result.{Result}
use Rattle.fen_model.specs.declared.fault.FenFault.{FenFault}
use Rattle.fen_model.specs.Chain.{◌>>=◌, or_fault}

-- each step that ends well has one before it that did
pub then_ok : {A B : Type 0} (r : Result A FenFault) (f : A → Result B FenFault) (y : B) → (r >>= f) ≡ Ok y → (x : A) × (r ≡ Ok x) × (f x ≡ Ok y)
then_ok (Ok x) f y h = (x, refl, h)
then_ok (Err e) f y h = cc

pub there_ok : {A : Type 0} (fault : FenFault) (o : Option A) (x : A) → or_fault fault o ≡ Ok x → o ≡ Some x
there_ok fault None x h = cc
there_ok fault (Some y) x h = cc
