use Rattle.std.proofs.Common.{◌∙◌, [], sym}
use Rattle.std.proofs.lemmas.List.{append-nil}
use Rattle.variant_model.specs.Builtin.{builtin_sections}
use Rattle.session_tests.proofs.cecp_sessions.served.Goals as goal

pub new-requires-4-clause-begins : goal.new-requires-4-clause-begins
new-requires-4-clause-begins g c = ([], c.in_ok-sections.ensures.are ∙ sym (append-nil builtin_sections))
