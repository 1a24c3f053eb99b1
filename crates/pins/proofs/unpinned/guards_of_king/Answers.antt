use Rattle.std.proofs.Common.{◌≡◌, false, refl, ap, sym, ◌∙◌}
use Rattle.std.proofs.lemmas.Bool.{or_parts}
use Rattle.std.proofs.Math.Bool.{and-false}
use Rattle.foundation.proofs.CountLemmas.{any_below-none}
use Rattle.rules_model.specs.Attacks.{king_faces}
use Rattle.square_set.specs.Members.{has}
use Rattle.attack_tables.proofs.AttackLaws.{attacks_by_parts}
use Rattle.pins.proofs.unpinned.guards_of_king.Goals as goal

pub returns-then-not-rules : goal.returns-then-not-rules
returns-then-not-rules c = λ from to men moved board l out taken gone is king.
    let pieces = c.guards_from_pieces-pieces.ensures from to men moved board l out taken gone is in
    let flying : c.args.tables.now.flying ≡ false = sym (ap (λ r. r.flying) c.rules.ensures.is) ∙ c.if-not-rules.true in
    attacks_by_parts c.args.tables.now board c.args.by c.args.king.0 king ∙ rw (pieces, flying) refl

pub returns : goal.returns
returns c = λ from to men moved board l out taken gone is king.
    let o = or_parts (has c.guards_from_pieces-pieces.result from) (has c.guards_from_kings.result from) (sym (c.or.ensures from) ∙ out) in
    let pieces = c.guards_from_pieces-pieces.ensures from to men moved board l o.0 taken gone is in
    let faces = any_below-none (king_faces c.args.tables.now board c.args.by c.args.king.0) 120 (λ s ls. c.guards_from_kings.ensures from to men moved board l o.1 taken gone is s ls king) in
    attacks_by_parts c.args.tables.now board c.args.by c.args.king.0 king ∙ rw (pieces, faces) (and-false c.args.tables.now.flying)
