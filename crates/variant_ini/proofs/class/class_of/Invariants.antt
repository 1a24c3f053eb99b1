use Rattle.std.proofs.Common.{◌≡◌, ◌<◌, take}
use Rattle.std.specs.List.{fold}
use Rattle.variant_ini.specs.Classes.{next_class}
use Rattle.variant_ini.proofs.class.class_of.Given as goal

abbrev pub invariant-loop-byte : goal.invariant-loop-byte
invariant-loop-byte l = record {
  class : l.class ≡ fold next_class 0 (take l.byte-index l.key);
  below : l.class < 1024;
}
