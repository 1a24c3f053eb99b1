use Rattle.std.proofs.Common.{◌≡◌, ◌++◌, take}
use Rattle.std.specs.List.{flat_map}
use Rattle.uci_front.specs.TextView.{choice_of}
use Rattle.uci_front.proofs.texts.push_choices.Given as goal

-- the choices up to this place
abbrev pub invariant-loop-place : goal.invariant-loop-place
invariant-loop-place l = l.text.items ≡ l.initial.text.items ++ flat_map choice_of (take l.place l.variants)
