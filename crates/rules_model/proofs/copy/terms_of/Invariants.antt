use Rattle.std.proofs.Common.{◌≡◌, ◌≤◌, length, take}
use Rattle.arrayvec.specs.ArrayVec.{array_vec_len}
use Rattle.rules_model.proofs.copy.terms_of.Given as goal

abbrev pub invariant-loop-term : goal.invariant-loop-term
invariant-loop-term l = record {
  copied : l.items.items ≡ take l.term-index l.term-items;
  count : array_vec_len l.items ≡ l.term-index;
  room : length l.term-items ≤ 64;
}
