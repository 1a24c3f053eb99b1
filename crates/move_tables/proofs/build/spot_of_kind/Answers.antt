use Rattle.std.proofs.Common.{◌≡◌, ◌<◌, ◌==◌, true, false, ◌&&◌, rules, sym, ap, ◌∙◌, arith}
use Rattle.std.proofs.lemmas.Nat.Bits.{bit_at_ones}
use Rattle.rules_model.specs.Kinds.{board_of, is_pawn, terms_of}
use Rattle.rules_model.specs.Movement.{in_mobility, kind_reaches, reaches_by}
use Rattle.std.specs.List.{list_any}
use Rattle.std.proofs.lemmas.Bool.{and_right}
use Rattle.square_set.specs.Members.{has}
use Rattle.square_set.proofs.BitLaws.{bit-above}
use Rattle.square_set.proofs.Cases.{by_order}
use Rattle.move_tables.specs.Lines.{by_parts, by_spot}
use Rattle.move_tables.specs.Reached.{pawn_reaches, reaches_as}
use Rattle.move_tables.specs.Spots.{is_used}
use Rattle.move_tables.proofs.BuildLaws.{diagonals_fit, diagonals_reach, kind_terms_fit, used_terms}
use Rattle.move_tables.proofs.ReachLaws.{reach_beyond}
use Rattle.move_tables.proofs.build.spot_of_kind.Goals as goal

pub spot_of_terms-requires-clause-fits : goal.spot_of_terms-requires-clause-fits
spot_of_terms-requires-clause-fits c = rw c.diagonals.ensures diagonals_fit

pub spot_of_terms-requires-2-clause-fits : goal.spot_of_terms-requires-2-clause-fits
spot_of_terms-requires-2-clause-fits c = rw c.terms_of.ensures (kind_terms_fit c.args.rules.now c.args.kind c.requires.fit c.requires.kind)

pub returns-then-names : goal.returns-then-names
returns-then-names c = λ occupied cells is t.
    let pawn : is_pawn c.args.rules.now c.args.kind ≡ true = sym c.names.ensures ∙ c.if-names.true in
    let parts : t < 128 → by_parts c.in_ok-spot.spot occupied t ≡ pawn_reaches (board_of c.args.rules.now) c.args.side c.args.from c.args.mode t =
    λ l. c.in_ok-spot.ensures occupied cells is t l
    ∙ ap (list_any (reaches_by c.args.rules.now cells c.args.side (is_used c.args.mode false) c.args.from t)) c.diagonals.ensures
    ∙ diagonals_reach c.args.rules.now cells c.args.side c.args.from c.args.mode t in
    by_order t 128 (by_spot c.cut.result occupied t ≡ reaches_as c.args.rules.now cells c.args.side c.args.kind c.args.from c.args.mode t)
    (λ l. rw pawn (c.cut.ensures occupied t ∙ ap (λ n. (n == 1) && by_parts c.in_ok-spot.spot occupied t) (bit_at_ones 128 t l) ∙ parts l))
    (λ l. and_right (by_parts c.cut.result occupied t) (has c.cut.result.within t) (bit-above c.cut.result.within.0 t (search rules) l)
    ∙ sym (reach_beyond c.args.rules.now cells c.args.side c.args.kind c.args.from c.args.mode t c.requires.fit (omega (arith, l))))

pub returns : goal.returns
unfolding kind_reaches
returns c = λ occupied cells is t.
    let other : is_pawn c.args.rules.now c.args.kind ≡ false = sym c.names.ensures ∙ c.if-names.false in
    by_order t 128 (by_spot c.cut-2.result occupied t ≡ reaches_as c.args.rules.now cells c.args.side c.args.kind c.args.from c.args.mode t)
    (λ l.
    let parts =
    c.in_ok-spot-2.ensures occupied cells is t l
    ∙ ap (list_any (reaches_by c.args.rules.now cells c.args.side (is_used c.args.mode c.is_held_back-held.result) c.args.from t)) c.terms_of.ensures
    ∙ ap (λ held. list_any (reaches_by c.args.rules.now cells c.args.side (is_used c.args.mode held) c.args.from t) (terms_of c.args.rules.now c.args.kind)) c.is_held_back-held.ensures
    ∙ used_terms c.args.rules.now cells c.args.side c.args.kind c.args.mode c.args.from t in
    rw other (c.cut-2.ensures occupied t ∙ ap (λ b. b && by_parts c.in_ok-spot-2.spot occupied t) (c.requires.region t) ∙ ap (λ b. in_mobility c.args.rules.now c.args.side c.args.kind t && b) parts))
    (λ l. and_right (by_parts c.cut-2.result occupied t) (has c.cut-2.result.within t) (bit-above c.cut-2.result.within.0 t (search rules) l)
    ∙ sym (reach_beyond c.args.rules.now cells c.args.side c.args.kind c.args.from c.args.mode t c.requires.fit (omega (arith, l))))
