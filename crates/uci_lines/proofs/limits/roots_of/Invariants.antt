use Rattle.std.proofs.Common.{◌≡◌, take}
use Rattle.std.specs.List.{filter}
use Rattle.session_model.specs.UciGo.{is_named}
use Rattle.uci_lines.specs.View.{texts}
use Rattle.uci_lines.proofs.limits.roots_of.Given as goal

-- the moves so far that are named
abbrev pub invariant-loop-m : goal.invariant-loop-m
invariant-loop-m l = l.roots.items ≡ filter (is_named (texts l.go.searchmoves.items)) (take l.m-index l.legal)
