-- The move that a text names is what the definition of reading says.
use Rattle.std.proofs.Common.{◌≡◌, ℕ, true, List, Option, Some, None, refl, sym}
use Rattle.std.specs.Option.{IfSome, IfNone}
use Rattle.rules_model.specs.declared.board.Position.{Position}
use Rattle.rules_model.specs.declared.moves.Move.{Move}
use Rattle.rules_model.specs.declared.rules.Rules.{Rules}
use Rattle.rules_model.specs.Fit.{IsFit}
use Rattle.rules_model.specs.Sound.{is_sound}
use Rattle.move_text.specs.Names.{Names, NamesNothing}
use Rattle.move_text.specs.Read.{move_said}
use Rattle.move_text.proofs.ReadLaws.{names-read, read-names}

none_said : (rules : Rules) (p : Position) (text : List ℕ) (o : Option Move) → move_said rules p text ≡ o → IsFit rules → is_sound rules p ≡ true → NamesNothing rules p text → None ≡ move_said rules p text
none_said rules p text None is fit sound nothing = sym is
none_said rules p text (Some m) is fit sound nothing = absurd (nothing m (read-names rules p text m fit sound is))

pub named_said : (rules : Rules) (p : Position) (text : List ℕ) (o : Option Move) → IsFit rules → is_sound rules p ≡ true
    → IfSome o (λ m. Names rules p text m) → IfNone o (NamesNothing rules p text) → o ≡ move_said rules p text
named_said rules p text (Some m) fit sound named nothing = sym (names-read rules p text m fit sound named)
named_said rules p text None fit sound named nothing = none_said rules p text (move_said rules p text) refl fit sound nothing
