use Rattle.move_text.proofs.FormLaws.{form-named, named-form}
use Rattle.move_text.proofs.laws.texts_of_the_form_name.Goals as goal

pub returns-clause-form : goal.returns-clause-form
returns-clause-form c = λ rules p text m fit sound names. named-form rules p text m names

pub returns-clause-named : goal.returns-clause-named
returns-clause-named c = form-named
