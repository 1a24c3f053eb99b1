use Rattle.std.proofs.Common.{◌≡◌, true, false, refl, ap, sym, ◌∙◌}
use Rattle.attack_tables.proofs.AttackLaws.{attacks_by_parts}
use Rattle.attack_tables.proofs.tables.Tables.attacks_king.Goals as goal

pub returns-then-piece_attacks : goal.returns-then-piece_attacks
returns-then-piece_attacks c = λ board is king.
    let pieces = sym (c.piece_attacks.ensures board is) ∙ c.if-piece_attacks.true in
    sym (attacks_by_parts c.args.self.now board c.args.by c.args.at.0 king ∙ rw pieces refl)

pub returns-then-not-rules : goal.returns-then-not-rules
returns-then-not-rules c = λ board is king.
    let pieces = sym (c.piece_attacks.ensures board is) ∙ c.if-piece_attacks.false in
    let flying : c.args.self.now.flying ≡ false = sym (ap (λ r. r.flying) c.rules-rules.ensures.is) ∙ c.if-not-rules.true in
    sym (attacks_by_parts c.args.self.now board c.args.by c.args.at.0 king ∙ rw (pieces, flying) refl)

pub returns : goal.returns
returns c = λ board is king.
    let pieces = sym (c.piece_attacks.ensures board is) ∙ c.if-piece_attacks.false in
    let flying : c.args.self.now.flying ≡ true = sym (ap (λ r. r.flying) c.rules-rules.ensures.is) ∙ c.if-not-rules.false in
    c.king_sees.ensures board is king ∙ sym (attacks_by_parts c.args.self.now board c.args.by c.args.at.0 king ∙ rw (pieces, flying) refl)
