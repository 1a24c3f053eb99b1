use Rattle.std.proofs.Common.{◌≡◌, map, take}
use Rattle.std.specs.List.{filter}
use Rattle.session_model.specs.CecpState.{shown_name}
use Rattle.uci_lines.specs.View.{texts}
use Rattle.variant_rules.specs.Entries.{is_accepted}
use Rattle.cecp_front.proofs.texts.accepted_names.Given as goal

-- the names of those so far
abbrev pub invariant-loop-place : goal.invariant-loop-place
invariant-loop-place l = texts l.names.items ≡ map shown_name (filter is_accepted (take l.place l.variants))
