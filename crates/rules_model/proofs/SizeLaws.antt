-- The test of sizes decides it, and a sound position passes it.
use Rattle.std.proofs.Common.{◌≡◌, true, ◌==◌, nat_lt, length}
use Rattle.std.proofs.lemmas.Bool.{and_parts}
use Rattle.std.specs.Bool.{Decides}
use Rattle.std.specs.List.{list_all}
use Rattle.std.proofs.lemmas.Bool.Decides.{Decides-eqb}
use Rattle.rules_model.specs.declared.board.Repeat.{Repeat}
use Rattle.rules_model.specs.declared.rules.Rules.{Rules}
use Rattle.rules_model.specs.Sizes.{HasSizes, has_sizes}
use Rattle.rules_model.specs.Sound.{is_sound_repeat}
use Rattle.rules_model.proofs.VariantLaws.{sound_parts}

pub has_sizes-is : (r : Repeat) → has_sizes r ≡ true → HasSizes r
unfolding has_sizes
has_sizes-is r e =
    let a = and_parts _ (length r.checks == 2) e in
    let b = and_parts _ (list_all (λ rights. length rights == 2) r.rights) a.0 in
    let c = and_parts _ (length r.rights == 2) b.0 in
    let d = and_parts _ (list_all (λ gates. nat_lt gates 65536) r.gates) c.0 in
    let f = and_parts _ (length r.gates == 2) d.0 in
    let g = and_parts _ (list_all (λ hand. length hand == 26) r.hands) f.0 in
    let h = and_parts (length r.cells == 120) (length r.hands == 2) g.0 in
    record {
      cells = (Decides-eqb _ _).0 h.0;
      hands = (Decides-eqb _ _).0 h.1;
      each_hand = g.1;
      gates = (Decides-eqb _ _).0 f.1;
      each_gate = d.1;
      rights = (Decides-eqb _ _).0 c.1;
      each_right = b.1;
      checks = (Decides-eqb _ _).0 a.1;
    }

pub sizes-has : (r : Repeat) → HasSizes r → has_sizes r ≡ true
unfolding has_sizes
sizes-has r h = rw (h.cells, h.hands, h.each_hand, h.gates, h.each_gate, h.rights, h.each_right, h.checks)

pub sizes-decided : (r : Repeat) → Decides (has_sizes r) (HasSizes r)
sizes-decided r = (has_sizes-is r, sizes-has r)

pub sound-sizes : (rules : Rules) (r : Repeat) → is_sound_repeat rules r ≡ true → HasSizes r
sound-sizes rules r e = has_sizes-is r (sound_parts rules r e).sizes

pub ruleset has_sizes_test = (sizes-has)
