-- The text of a legal move names it.
use Rattle.std.proofs.Common.{◌≡◌, ◌≢◌, ◌⊎◌, inl, inr, ℕ, zero, suc, ◌<◌, ◌≤◌, nat_lt, ◌==◌, Bool, true, false, ◌&&◌, ◌||◌, not, List, [], ◌∷◌, length, Option, Some, None, if◌then◌else◌, refl, sym, ap, ◌∙◌, arith, subst, ⊎_elim}
use Rattle.std.specs.List.{list_all, slice_get}
use Rattle.std.specs.Option.{is_none, is_some}
use Rattle.std.proofs.lemmas.Bool.{cases_Bool, ltb-true, ltb-false, eqb-true, eq-eqb, and_from, and_parts, not-true, or_left, or_right}
use Rattle.foundation.specs.Member.{Member}
use Rattle.foundation.specs.Count.{all_below}
use Rattle.foundation.proofs.CountLemmas.{all_below-each}
use Rattle.rules_model.specs.declared.board.Cell.{Cell}
use Rattle.rules_model.specs.declared.board.Kind.{Kind}
use Rattle.rules_model.specs.declared.board.Position.{Position}
use Rattle.rules_model.specs.declared.board.Repeat.{Repeat}
use Rattle.rules_model.specs.declared.board.Square.{Square}
use Rattle.rules_model.specs.declared.board.Wing.{Wing}
use Rattle.rules_model.specs.declared.board.Wing.TheVariants.{Kingside, Queenside}
use Rattle.rules_model.specs.declared.moves.Move.{Move}
use Rattle.rules_model.specs.declared.moves.Move.TheVariants.{Go, Castle, Drop}
use Rattle.rules_model.specs.declared.moves.Placed.{Placed}
use Rattle.rules_model.specs.declared.moves.Promo.{Promo}
use Rattle.rules_model.specs.declared.moves.Promo.TheVariants.{Stays, Pawn, Plus}
use Rattle.rules_model.specs.declared.rules.KindRule.{KindRule}
use Rattle.rules_model.specs.declared.rules.Rules.{Rules}
use Rattle.rules_model.specs.declared.rules.Term.{Term}
use Rattle.rules_model.specs.Squares.{cell_at}
use Rattle.rules_model.specs.Repeats.{repeat_of}
use Rattle.rules_model.specs.Sides.{other, same_side}
use Rattle.rules_model.specs.Kinds.{board_of, has_kind, is_king, is_pawn, kind_rule, names, promoted_of, rule_of}
use Rattle.rules_model.specs.Regions.{castling_square}
use Rattle.rules_model.specs.Attacks.{ahead, is_diagonal, is_own, is_own_king, is_own_pawn, pawn_at, pawn_could_take}
use Rattle.rules_model.specs.Castling.{castle_by, castle_of, castling_on, holds_right, is_castle, king_file}
use Rattle.rules_model.specs.Gating.{castle_gates}
use Rattle.rules_model.specs.Pieces.{may_plus, means_castling, piece_goes, piece_moves, piece_promo, serves, to_castling_target}
use Rattle.rules_model.specs.Pawns.{is_enemy, is_ep, is_free, is_stays, may_promote, passes_by, pawn_goes, pawn_moves, pawn_promo, steps_twice}
use Rattle.rules_model.specs.Candidates.{is_candidate}
use Rattle.rules_model.specs.Fit.{IsFit, fits_rule, fits_pawn, fits_term, is_there, kind_fits, region_fits}
use Rattle.rules_model.specs.Reach.{is_at}
use Rattle.foundation.specs.Tests.{same_bool}
use Rattle.rules_model.specs.Legal.{legal}
use Rattle.rules_model.specs.Moves.{IsFitMove}
use Rattle.rules_model.specs.MoveText.{lower, text_of}
use Rattle.rules_model.specs.Sound.{is_sound, is_sound_ep, is_sound_repeat, lies_in, on_board}
use Rattle.rules_model.proofs.CandidateLaws.{Castles, PawnGoes, PieceGoes, castle_gate, castle_is, gated_go, legal_candidate, plain_go, term_of_reach}
use Rattle.rules_model.proofs.LegalLaws.{legal-member}
use Rattle.rules_model.proofs.VariantLaws.{sound_ep}
use Rattle.move_text.specs.Names.{IsCastleText, IsMeant, Names, NoCastleText, gates_on_start, is_castle_as, is_castle_to, is_meant_castle, is_meant_go, may_end, pawn_ends, piece_ends}
use Rattle.move_text.specs.Squares.{TwoSquares}
use Rattle.move_text.proofs.CastleLaws.{IsOf, castle_shape, is_of-wing, meant_wing, right_of, same_square}
use Rattle.move_text.proofs.EndingLaws.{ending_text}
use Rattle.move_text.proofs.ReadLaws.{castle_is_shape, castle_text_is, go_shape, go_written, same_shape, sound_repeat}
use Rattle.move_text.proofs.SquareLaws.{two, two_text}

-- ---- castles

castle_wing : (rules : Rules) (r : Repeat) (from to rook : Square) (wing : Wing) → Castles rules r from to rook wing → is_castle_to rules r from to rook wing ≡ true
castle_wing rules r from to rook wing c =
    let king = subst (λ s. is_own_king rules r.side (cell_at r.cells s) ≡ true) c.start c.king in
    let squares = and_from _ _ (and_from _ _ (eq-eqb _ _ c.start) (eq-eqb _ _ c.target)) (eq-eqb _ _ c.rank) in
    and_from _ _ c.held (ap (λ o. is_castle_as rules r from to rook (castle_by rules r.side wing o)) c.file ∙ and_from _ _ king squares)

gates_start : (rules : Rules) (r : Repeat) (from to rook : Square) (gate : Option Placed) → castle_gates rules r from to rook gate ≡ true → gates_on_start from rook gate ≡ true
gates_start rules r from to rook None h = refl
gates_start rules r from to rook (Some placed) h =
    ⊎_elim (λ k. or_left _ _ (eq-eqb _ _ k)) (λ k. or_right _ _ (eq-eqb _ _ k)) (castle_gate rules r from to rook placed h).2

castle_meant : (rules : Rules) (r : Repeat) (from to rook : Square) (gate : Option Placed) → is_candidate rules r (Castle from to rook gate) ≡ true → is_meant_castle rules r from to rook gate ≡ true
castle_meant rules r from to rook gate h =
    let castle = castle_is rules r from to rook gate h in
    meant_wing rules r castle.0.0 from to rook gate (castle_wing rules r from to rook castle.0.0 castle.0.1) (gates_start rules r from to rook gate castle.1)

-- ---- how a candidate ends

stays_ends : (promo : Promo) → is_stays promo ≡ true → pawn_ends promo None ≡ true
stays_ends Stays h = refl
stays_ends (Pawn kind) h = refl
stays_ends Plus h = cc

promo_ends : (rules : Rules) (may : Bool) (promo : Promo) → pawn_promo rules may promo ≡ true → pawn_ends promo None ≡ true
promo_ends rules may Stays h = refl
promo_ends rules may (Pawn kind) h = refl
promo_ends rules may Plus h = cc

pawn_move_ends : (rules : Rules) (r : Repeat) (from to : Square) (promo : Promo) → pawn_moves rules r from to promo ≡ true → pawn_ends promo None ≡ true
unfolding pawn_moves
pawn_move_ends rules r from to promo h =
    ⊎_elim
    (λ (y : (pawn_goes rules r from to.0 && pawn_promo rules (may_promote rules r.side to.0) promo) ≡ true). promo_ends rules (may_promote rules r.side to.0) promo (and_parts _ _ y).1)
    (λ (n : (pawn_goes rules r from to.0 && pawn_promo rules (may_promote rules r.side to.0) promo) ≡ false). stays_ends promo (and_parts (passes_by rules r from to.0) (is_stays promo) (right_of _ _ h n)).1)
    (cases_Bool (pawn_goes rules r from to.0 && pawn_promo rules (may_promote rules r.side to.0) promo))

piece_promo_ends : (rules : Rules) (r : Repeat) (x : Cell) (from to : ℕ) (promo : Promo) → piece_promo rules (may_plus rules r.side x.kind from to) promo ≡ true → piece_ends rules x.kind promo ≡ true
piece_promo_ends rules r x from to Stays h = refl
piece_promo_ends rules r x from to (Pawn kind) h = cc
piece_promo_ends rules r x from to Plus h = (and_parts (is_some (promoted_of rules x.kind)) _ h).0

piece_move_ends : (rules : Rules) (r : Repeat) (x : Cell) (from to : Square) (promo : Promo) → piece_moves rules r x from to promo ≡ true → piece_ends rules x.kind promo ≡ true
unfolding piece_moves
piece_move_ends rules r x from to promo h =
    piece_promo_ends rules r x from.0 to.0 promo (and_parts (piece_goes rules r.cells r.side x.kind from to.0) _ (and_parts _ (not (means_castling rules r x.kind from.0 to.0)) h).0).1

meant_from : (rules : Rules) (r : Repeat) (from : Square) (promo : Promo) (gate : Option Kind) (x : Cell) → cell_at r.cells from.0 ≡ Some x → same_side x.side r.side ≡ true → may_end rules promo gate x.kind ≡ true → is_meant_go rules r from promo gate ≡ true
unfolding is_meant_go
meant_from rules r from promo gate x there own may = ap (is_own r.side (may_end rules promo gate)) there ∙ and_from _ _ own may

piece_may_end : (rules : Rules) (promo : Promo) (gate : Option Kind) (kind : Kind) → is_pawn rules kind ≡ false → piece_ends rules kind promo ≡ true → may_end rules promo gate kind ≡ true
piece_may_end rules promo gate kind n h = rw n h

pawn_may_end : (rules : Rules) (promo : Promo) (gate : Option Kind) (kind : Kind) → is_pawn rules kind ≡ true → pawn_ends promo gate ≡ true → may_end rules promo gate kind ≡ true
pawn_may_end rules promo gate kind y h = rw y h

-- ---- a candidate goes neither as a castle's king nor onto its own king

both_ways : (b : Bool) → b ≡ true → b ≡ false → ⊥
both_ways b h k = cc

-- from the king's castling square to the target of a wing whose right is held
record KingWay (rules : Rules) (r : Repeat) (from to : Square) : Type 0 where
  pub wing : Wing
  pub right : holds_right r.rights r.side wing ≡ true
  pub start : from.0 ≡ castling_square rules r.side rules.castle_king
  pub target : to.0 ≡ castling_square rules r.side (king_file rules wing)
  pub king : is_own_king rules r.side (cell_at r.cells from.0) ≡ true

-- onto the own king
abbrev OntoKing : Rules → Repeat → Square → Type 0
OntoKing rules r to = is_own_king rules r.side (cell_at r.cells to.0) ≡ true

shape_way : (rules : Rules) (r : Repeat) (wing : Wing) (from to rook : Square) (gate : Option Placed) (s : TwoSquares) → IsOf rules r wing from to rook → castle_shape from to rook gate ≡ s → KingWay rules r s.from s.to ⊎ OntoKing rules r s.to
shape_way rules r wing from to rook None s of e =
    let way : KingWay rules r from to = record { wing = wing; right = of.held.right; start = ap (λ x. x.0) of.start; target = ap (λ x. x.0) of.target; king = subst (λ x. is_own_king rules r.side (cell_at r.cells x.0) ≡ true) (sym of.start) of.held.king } in
    subst (λ x. KingWay rules r x.from x.to ⊎ OntoKing rules r x.to) e (inl way)
shape_way rules r wing from to rook (Some placed) s of e =
    let way : KingWay rules r from to = record { wing = wing; right = of.held.right; start = ap (λ x. x.0) of.start; target = ap (λ x. x.0) of.target; king = subst (λ x. is_own_king rules r.side (cell_at r.cells x.0) ≡ true) (sym of.start) of.held.king } in
    subst (λ x. KingWay rules r x.from x.to ⊎ OntoKing rules r x.to) e
    (⊎_elim
    (λ (y : (placed.at.0 == rook.0) ≡ true). rw y (inr way.king))
    (λ (n : (placed.at.0 == rook.0) ≡ false). rw n (inl way))
    (cases_Bool (placed.at.0 == rook.0)))

meant_way : (rules : Rules) (r : Repeat) (from to rook : Square) (gate : Option Placed) (s : TwoSquares) → is_meant_castle rules r from to rook gate ≡ true → castle_shape from to rook gate ≡ s → KingWay rules r s.from s.to ⊎ OntoKing rules r s.to
unfolding is_meant_castle
meant_way rules r from to rook gate s h e =
    let both = and_parts (is_castle_to rules r from to rook Kingside || is_castle_to rules r from to rook Queenside) (gates_on_start from rook gate) h in
    ⊎_elim
    (λ (y : is_castle_to rules r from to rook Kingside ≡ true). shape_way rules r Kingside from to rook gate s (is_of-wing rules r Kingside from to rook y) e)
    (λ (n : is_castle_to rules r from to rook Kingside ≡ false). shape_way rules r Queenside from to rook gate s (is_of-wing rules r Queenside from to rook (right_of _ _ both.0 n)) e)
    (cases_Bool (is_castle_to rules r from to rook Kingside))

own_king_is : (rules : Rules) (r : Repeat) (o : Option Cell) (x : Cell) → o ≡ Some x → is_own_king rules r.side o ≡ true → (same_side x.side r.side ≡ true) × (is_king rules x.kind ≡ true)
own_king_is rules r o x e h = and_parts (same_side x.side r.side) (is_king rules x.kind) (ap (is_own_king rules r.side) (sym e) ∙ h)

-- a piece does not go as the king of a castle
target_of : (rules : Rules) (r : Repeat) (from to : Square) → (way : KingWay rules r from to) → to_castling_target rules r way.wing from.0 to.0 ≡ true
target_of rules r from to way = and_from _ _ (and_from _ _ way.right (eq-eqb _ _ way.start)) (eq-eqb _ _ way.target)

either_target : (rules : Rules) (r : Repeat) (from to : ℕ) (wing : Wing) → to_castling_target rules r wing from to ≡ true → (to_castling_target rules r Kingside from to || to_castling_target rules r Queenside from to) ≡ true
either_target rules r from to Kingside h = or_left _ _ h
either_target rules r from to Queenside h = or_right _ _ h

piece_no_way : (rules : Rules) (r : Repeat) (x : Cell) (from to : Square) (promo : Promo) → cell_at r.cells from.0 ≡ Some x → piece_moves rules r x from to promo ≡ true → KingWay rules r from to → ⊥
unfolding piece_moves
piece_no_way rules r x from to promo there h way =
    let king = (own_king_is rules r (cell_at r.cells from.0) x there way.king).1 in
    let means : means_castling rules r x.kind from.0 to.0 ≡ true = and_from _ _ king (either_target rules r from.0 to.0 way.wing (target_of rules r from to way)) in
    both_ways _ means (not-true _ (and_parts _ (not (means_castling rules r x.kind from.0 to.0)) h).1)

-- nor onto its own king
own_there : (rules : Rules) (r : Repeat) (o : Option Cell) → is_own_king rules r.side o ≡ true → (x : Cell) × (o ≡ Some x) × (same_side x.side r.side ≡ true)
own_there rules r None h = cc
own_there rules r (Some x) h = (x, refl, (and_parts (same_side x.side r.side) (is_king rules x.kind) h).0)

serves_no_own : (rules : Rules) (r : Repeat) (to : Square) (t : Term) → OntoKing rules r to → serves r.side (cell_at r.cells to.0) t ≡ true → ⊥
serves_no_own rules r to t onto h =
    let own = own_there rules r (cell_at r.cells to.0) onto in
    let none = and_parts t.takes (not (same_side own.0.side r.side)) (ap (λ o. serves r.side o t) (sym own.1) ∙ h) in
    both_ways _ own.2 (not-true _ none.1)

piece_no_king : (rules : Rules) (r : Repeat) (x : Cell) (from to : Square) (promo : Promo) → piece_moves rules r x from to promo ≡ true → OntoKing rules r to → ⊥
unfolding piece_moves piece_goes
piece_no_king rules r x from to promo h onto =
    let goes = (and_parts _ _ (and_parts _ (not (means_castling rules r x.kind from.0 to.0)) h).0).0 in
    let term = term_of_reach rules r.cells r.side x.kind (serves r.side (cell_at r.cells to.0)) from to.0 goes in
    serves_no_own rules r to term.0 onto term.1

-- the pawn is no king
no_entry : {A : Type 0} (xs : List A) (k : ℕ) → length xs ≤ k → slice_get xs k ≡ None
no_entry [] k h = refl
no_entry (x ∷ xs) zero h = absurd (omega arith)
no_entry (x ∷ xs) (suc k) h = no_entry xs k (omega arith)

small_kind : (rules : Rules) (kind : Kind) → IsFit rules → has_kind rules kind ≡ true → kind.0 < 26
small_kind rules kind fit h =
    let letters = fit.letters in
    ⊎_elim
    (λ (y : nat_lt kind.0 26 ≡ true). ltb-true _ _ y)
    (λ (n : nat_lt kind.0 26 ≡ false).
    let from : 26 ≤ kind.0 = ltb-false _ _ n in
    let none : kind_rule rules kind ≡ None = ap rule_of (no_entry rules.kinds kind.0 (omega (arith, letters, from))) in
    let bad = rw none at h in cc)
    (cases_Bool (nat_lt kind.0 26))

same_true : (a b : Bool) → same_bool a b ≡ true → b ≡ true → a ≡ true
same_true true b h k = refl
same_true false true h k = cc
same_true false false h k = cc

implies : (a b : Bool) → (not a || b) ≡ true → a ≡ true → b ≡ true
implies true b h k = h
implies false b h k = cc

pawn_rule : (rules : Rules) (kind : Kind) (o : Option KindRule) → is_pawn rules kind ≡ true → fits_rule rules kind o ≡ true → is_some o ≡ true → is_king rules kind ≡ false
pawn_rule rules kind None pawn fits some = cc
pawn_rule rules kind (Some rule) pawn fits some =
    let a = and_parts _ (is_there rules rule.promoted) fits in
    let b = and_parts _ (list_all (region_fits rules) rule.mobility) a.0 in
    let c = and_parts _ (list_all fits_term rule.terms) b.0 in
    let d = and_parts (same_bool rule.pawn (is_pawn rules kind)) (not rule.pawn || fits_pawn rules kind rule) c.0 in
    let marked = same_true rule.pawn (is_pawn rules kind) d.0 pawn in
    let fit = implies rule.pawn (fits_pawn rules kind rule) d.1 marked in
    not-true _ (and_parts _ _ (and_parts _ (is_none rule.promoted) fit).0).0

same_kind_of : (a b : Kind) → a.0 ≡ b.0 → a ≡ b
same_kind_of a b e = rw e refl

named_is : (o : Option Kind) (kind : Kind) → names o kind ≡ true → o ≡ Some kind
named_is None kind h = cc
named_is (Some named) kind h = let e = eqb-true named.0 kind.0 h in ap Some (same_kind_of named kind e)

pawn_there : (rules : Rules) (kind : Kind) → IsFit rules → is_pawn rules kind ≡ true → has_kind rules kind ≡ true
pawn_there rules kind fit h = ap (is_there rules) (sym (named_is rules.pawn kind h)) ∙ fit.pawn

pawn_no_king : (rules : Rules) (kind : Kind) → IsFit rules → is_pawn rules kind ≡ true → is_king rules kind ≡ false
unfolding kind_fits
pawn_no_king rules kind fit h =
    let has = pawn_there rules kind fit h in
    pawn_rule rules kind (kind_rule rules kind) h (all_below-each (kind_fits rules) 26 fit.kinds kind.0 (small_kind rules kind fit has)) has

pawn_no_way : (rules : Rules) (r : Repeat) (x : Cell) (from to : Square) → IsFit rules → cell_at r.cells from.0 ≡ Some x → is_pawn rules x.kind ≡ true → KingWay rules r from to → ⊥
pawn_no_way rules r x from to fit there pawn way = both_ways _ (own_king_is rules r (cell_at r.cells from.0) x there way.king).1 (pawn_no_king rules x.kind fit pawn)

-- nor does it go onto its own king
not_free : (rules : Rules) (r : Repeat) (o : Option Cell) → is_own_king rules r.side o ≡ true → is_none o ≡ true → ⊥
not_free rules r None h k = cc
not_free rules r (Some x) h k = cc

not_enemy : (rules : Rules) (r : Repeat) (o : Option Cell) → is_own_king rules r.side o ≡ true → is_enemy r.side o ≡ true → ⊥
not_enemy rules r None h k = cc
not_enemy rules r (Some x) h k = both_ways _ (and_parts (same_side x.side r.side) (is_king rules x.kind) h).0 (not-true _ k)

goes_no_king : (rules : Rules) (r : Repeat) (from to : Square) → pawn_goes rules r from to.0 ≡ true → OntoKing rules r to → ⊥
unfolding pawn_goes
goes_no_king rules r from to h onto =
    let steps : Bool = is_none (cell_at r.cells to.0) && (is_at to.0 (ahead (board_of rules) r.side from 1) || steps_twice rules r from to.0) in
    ⊎_elim
    (λ (y : steps ≡ true). not_free rules r (cell_at r.cells to.0) onto (and_parts (is_none (cell_at r.cells to.0)) _ y).0)
    (λ (n : steps ≡ false). not_enemy rules r (cell_at r.cells to.0) onto (and_parts (is_enemy r.side (cell_at r.cells to.0)) (is_diagonal (board_of rules) r.side from to.0) (right_of steps _ h n)).0)
    (cases_Bool steps)

free_of : (a b c d e f g : Bool) → (a && (b && c && d && e && f && g)) ≡ true → c ≡ true
free_of true true true d e f g h = refl
free_of true true false d e f g h = cc
free_of true false c d e f g h = cc
free_of false b c d e f g h = cc

ep_free : (rules : Rules) (r : Repeat) (ep : Option Square) (to : ℕ) → is_sound_ep rules r ep ≡ true → is_ep ep to ≡ true → is_none (cell_at r.cells to) ≡ true
ep_free rules r None to sound h = cc
ep_free rules r (Some ep) to sound h =
    subst (λ s. is_none (cell_at r.cells s) ≡ true) (eqb-true ep.0 to h)
    (free_of (on_board rules ep.0) rules.double_step (is_free r.cells (Some ep.0)) (is_free r.cells (ahead (board_of rules) r.side ep 1))
    (lies_in rules.double_region (other r.side) (ahead (board_of rules) r.side ep 1)) (pawn_at rules r.cells (other r.side) (ahead (board_of rules) (other r.side) ep 1)) (pawn_could_take rules r.cells r.side ep) sound)

passes_no_king : (rules : Rules) (r : Repeat) (from to : Square) → is_sound_repeat rules r ≡ true → passes_by rules r from to.0 ≡ true → OntoKing rules r to → ⊥
unfolding passes_by
passes_no_king rules r from to sound h onto =
    let ep = (and_parts (is_own_pawn rules r.side (cell_at r.cells from.0)) (is_ep r.ep to.0) (and_parts _ (is_diagonal (board_of rules) r.side from to.0) h).0).1 in
    not_free rules r (cell_at r.cells to.0) onto (ep_free rules r r.ep to.0 (sound_ep rules r sound) ep)

pawn_moves_no_king : (rules : Rules) (r : Repeat) (from to : Square) (promo : Promo) → is_sound_repeat rules r ≡ true → pawn_moves rules r from to promo ≡ true → OntoKing rules r to → ⊥
unfolding pawn_moves
pawn_moves_no_king rules r from to promo sound h onto =
    ⊎_elim
    (λ (y : (pawn_goes rules r from to.0 && pawn_promo rules (may_promote rules r.side to.0) promo) ≡ true). goes_no_king rules r from to (and_parts (pawn_goes rules r from to.0) _ y).0 onto)
    (λ (n : (pawn_goes rules r from to.0 && pawn_promo rules (may_promote rules r.side to.0) promo) ≡ false).
    passes_no_king rules r from to sound (and_parts (passes_by rules r from to.0) (is_stays promo) (right_of _ _ h n)).0 onto)
    (cases_Bool (pawn_goes rules r from to.0 && pawn_promo rules (may_promote rules r.side to.0) promo))

-- ---- so no castle has its text

-- the move is a castle's in neither way
abbrev NoWay : Rules → Repeat → Square → Square → Type 0
NoWay rules r from to = KingWay rules r from to ⊎ OntoKing rules r to → ⊥

no_castle_text : (rules : Rules) (r : Repeat) (from to : Square) (promo : Promo) (gate : Option Kind) → from.0 < 120 → to.0 < 120 → NoWay rules r from to → NoCastleText rules r (text_of (Go from to promo gate))
no_castle_text rules r from to promo gate a b none king target rook placed castle =
    let shape = same_shape (castle_shape king target rook placed) (two from to (ending_text promo gate)) (castle_is_shape king target rook placed castle.fit.0 castle.fit.1 castle.fit.2) (go_shape from to promo gate a b)
    (sym (castle_text_is king target rook placed) ∙ castle.written ∙ go_written from to promo gate) in
    none (meant_way rules r king target rook placed (two from to (ending_text promo gate)) castle.meant shape)

piece_no_castle : (rules : Rules) (r : Repeat) (x : Cell) (from to : Square) (promo : Promo) → cell_at r.cells from.0 ≡ Some x → piece_moves rules r x from to promo ≡ true → NoWay rules r from to
piece_no_castle rules r x from to promo there h = λ either. ⊎_elim (λ way. piece_no_way rules r x from to promo there h way) (λ onto. piece_no_king rules r x from to promo h onto) either

pawn_no_castle : (rules : Rules) (r : Repeat) (x : Cell) (from to : Square) (promo : Promo) → IsFit rules → is_sound_repeat rules r ≡ true → cell_at r.cells from.0 ≡ Some x → is_pawn rules x.kind ≡ true → pawn_moves rules r from to promo ≡ true → NoWay rules r from to
pawn_no_castle rules r x from to promo fit sound there pawn h = λ either. ⊎_elim (λ way. pawn_no_way rules r x from to fit there pawn way) (λ onto. pawn_moves_no_king rules r from to promo sound h onto) either

abbrev GoMeant : Rules → Repeat → Square → Square → Promo → Option Kind → Type 0
GoMeant rules r from to promo gate = (is_meant_go rules r from promo gate ≡ true) × NoCastleText rules r (text_of (Go from to promo gate))

piece_meant : (rules : Rules) (r : Repeat) (x : Cell) (from to : Square) (promo : Promo) (gate : Option Kind) → from.0 < 120 → to.0 < 120 → cell_at r.cells from.0 ≡ Some x → PieceGoes rules r x from to promo → GoMeant rules r from to promo gate
piece_meant rules r x from to promo gate a b there goes =
    (meant_from rules r from promo gate x there goes.0 (piece_may_end rules promo gate x.kind goes.1 (piece_move_ends rules r x from to promo goes.2)), no_castle_text rules r from to promo gate a b (piece_no_castle rules r x from to promo there goes.2))

pawn_meant : (rules : Rules) (r : Repeat) (x : Cell) (from to : Square) (promo : Promo) → IsFit rules → is_sound_repeat rules r ≡ true → from.0 < 120 → to.0 < 120 → cell_at r.cells from.0 ≡ Some x → PawnGoes rules r x from to promo → GoMeant rules r from to promo None
pawn_meant rules r x from to promo fit sound a b there goes =
    (meant_from rules r from promo None x there goes.0 (pawn_may_end rules promo None x.kind goes.1 (pawn_move_ends rules r from to promo goes.2)), no_castle_text rules r from to promo None a b (pawn_no_castle rules r x from to promo fit sound there goes.1 goes.2))

candidate_meant : (rules : Rules) (r : Repeat) (m : Move) → IsFit rules → is_sound_repeat rules r ≡ true → IsFitMove m → is_candidate rules r m ≡ true → IsMeant rules r m
candidate_meant rules r (Go from to promo None) fit sound small h =
    let go = plain_go rules r from to promo h in
    ⊎_elim
    (λ piece. piece_meant rules r go.0 from to promo None small.0 small.1 go.1 piece)
    (λ pawn. pawn_meant rules r go.0 from to promo fit sound small.0 small.1 go.1 pawn)
    go.2
candidate_meant rules r (Go from to promo (Some gate)) fit sound small h =
    let go = gated_go rules r from to promo gate h in
    piece_meant rules r go.0 from to promo (Some gate) small.0 small.1 go.1 go.2
candidate_meant rules r (Castle from to rook gate) fit sound small h = castle_meant rules r from to rook gate h
candidate_meant rules r (Drop kind to) fit sound small h = tt

-- each legal move is named by its text
pub legal-named : (rules : Rules) (p : Position) (m : Move) → IsFit rules → is_sound rules p ≡ true → Member m (legal rules (repeat_of p)) → Names rules p (text_of m) m
legal-named rules p m fit sound member =
    let legal = legal-member rules (repeat_of p) m member in
    record {
      written = refl;
      fit = legal.0;
      meant = candidate_meant rules (repeat_of p) m fit (sound_repeat rules p sound) legal.0 (legal_candidate rules (repeat_of p) m legal.1);
    }
