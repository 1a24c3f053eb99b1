-- What stands still: pieces that a move neither moves nor takes, and the rights and gates that rest on them.
use Rattle.std.proofs.Common.{◌≡◌, ◌≢◌, ℕ, ◌+◌, ◌-◌, ◌*◌, ◌/◌, ◌%◌, ◌^◌, ◌<◌, Bool, true, false, not, ◌&&◌, ◌||◌, if◌then◌else◌, inl, inr, Option, Some, None, List, length, refl, ap, sym, ◌∙◌, subst, arith, ◌==◌, nat_lt, bit_and}
use Rattle.std.proofs.lemmas.Bool.{and_parts, eqb-false, false_from_ne_true, ltb-true, ne_eqb, not-true, or_cases, or_from, or_parts}
use Rattle.std.specs.Int.{bit_at}
use Rattle.std.proofs.lemmas.Bool.Decides.{Decides-eqb}
use Rattle.std.proofs.lemmas.Nat.Bits.{bit_at_and}
use Rattle.foundation.specs.Count.{all_below}
use Rattle.foundation.proofs.CountLemmas.{all_below-each}
use Rattle.rules_model.specs.declared.board.Cell.{Cell}
use Rattle.rules_model.specs.declared.board.Kind.{Kind}
use Rattle.rules_model.specs.declared.board.Repeat.{Repeat}
use Rattle.rules_model.specs.declared.board.Side.{Side}
use Rattle.rules_model.specs.declared.board.Side.TheVariants.{White, Black}
use Rattle.rules_model.specs.declared.board.Square.{Square}
use Rattle.rules_model.specs.declared.board.Wing.{Wing}
use Rattle.rules_model.specs.declared.moves.Move.{Move}
use Rattle.rules_model.specs.declared.moves.Move.TheVariants.{Go, Castle, Drop}
use Rattle.rules_model.specs.declared.rules.Rules.{Rules}
use Rattle.rules_model.specs.Squares.{cell_at}
use Rattle.rules_model.specs.Reach.{is_at}
use Rattle.rules_model.specs.Sides.{same_side}
use Rattle.rules_model.specs.Kinds.{is_king, is_pawn}
use Rattle.rules_model.specs.Regions.{castling_square, first_rank, on_first_rank}
use Rattle.rules_model.specs.Attacks.{is_own, is_own_king}
use Rattle.rules_model.specs.Gates.{closed_at, has_gate, without_gate}
use Rattle.rules_model.specs.Castling.{castling_on, holds_right, rook_file, rook_target}
use Rattle.rules_model.specs.Pawns.{behind, passes_by}
use Rattle.rules_model.specs.Next.{castled, cells_after, emptied, enters, gates_after, keeps_right, leaves, rights_after, rook_stays, side_gates_after}
use Rattle.rules_model.specs.Sound.{sound_gate, sound_right, sound_rook}
use Rattle.rules_model.specs.Fit.{gates_amiss, IsFit, rook_is_pawn}
use Rattle.rules_model.proofs.CandidateLaws.{at_some, castle_gate, castle_is, drop_is, not_both, rook_file-some}
use Rattle.sound_play.proofs.AfterLaws.{goes, IsLegalHere}
use Rattle.sound_play.proofs.CellLemmas.{cell_at-set_other}
use Rattle.sound_play.proofs.CountLaws.{castle_places, dropped_free, Passes, passes_by-is}
use Rattle.sound_play.proofs.FieldLaws.{closed_at-kept, gate_was_open, rights_after-is}
use Rattle.sound_play.proofs.KingLaws.{pawn_no_king}
use Rattle.sound_play.proofs.SoundLaws.{repeat_parts, side_of, side_parts}
use Rattle.sound_play.proofs.TargetLaws.{no_king_taken}
use Rattle.sound_play.proofs.TestLemmas.{answered, asked, same_some}

-- ---- pieces

passed_stands : (rules : Rules) (r : Repeat) (to : Square) (s : ℕ) (z : Cell) (b : Bool) → (b ≡ true → Passes rules r to) → cell_at r.cells s ≡ Some z → is_pawn rules z.kind ≡ false → cell_at (if b then emptied r.cells (behind rules r.side to) else r.cells) s ≡ Some z
passed_stands rules r to s z false passes here kind = here
passed_stands rules r to s z true passes here kind =
    let p = passes refl in
    let apart : p.at ≢ s = λ e. let same = same_some _ _ (sym p.there ∙ ap (cell_at r.cells) e ∙ here) in not_both _ (subst (λ (x : Cell). is_pawn rules x.kind ≡ true) same p.kind) kind in
    subst (λ at. cell_at (emptied r.cells at) s ≡ Some z) (sym p.is) (cell_at-set_other r.cells p.at s None apart ∙ here)

castle_stands : (cells : List (Option Cell)) (from to rook : Square) (s : ℕ) → from.0 ≢ s → rook.0 ≢ s → to.0 ≢ s → rook_target from to rook ≢ s → cell_at (castled cells from to rook) s ≡ cell_at cells s
castle_stands cells from to rook s a b c d = cell_at-set_other _ _ s _ d ∙ cell_at-set_other _ _ s _ c ∙ cell_at-set_other _ _ s _ b ∙ cell_at-set_other _ _ s _ a

-- a piece that is no pawn stays on a square that is neither left nor entered
pub stands : (rules : Rules) (r : Repeat) (m : Move) (s : ℕ) (z : Cell) → IsLegalHere rules r m → cell_at r.cells s ≡ Some z → is_pawn rules z.kind ≡ false → leaves m s ≡ false → enters m s ≡ false → cell_at (cells_after rules r m) s ≡ Some z
unfolding cells_after
stands rules r (Go from to promo gate) s z ready here kind left entered =
    cell_at-set_other _ to.0 s _ (eqb-false _ _ entered) ∙ cell_at-set_other _ from.0 s _ (eqb-false _ _ left)
    ∙ passed_stands rules r to s z (passes_by rules r from to.0) (passes_by-is rules r from to ready.sound) here kind
stands rules r (Castle from to rook None) s z ready here kind left entered =
    let a = or_parts (from.0 == s) (rook.0 == s) left in
    let b = or_parts (to.0 == s) (rook_target from to rook == s) entered in
    castle_stands r.cells from to rook s (eqb-false _ _ a.0) (eqb-false _ _ a.1) (eqb-false _ _ b.0) (eqb-false _ _ b.1) ∙ here
stands rules r (Castle from to rook (Some placed)) s z ready here kind left entered =
    let a = or_parts (from.0 == s) (rook.0 == s) left in
    let b = or_parts (to.0 == s) (rook_target from to rook == s) entered in
    let c = castle_is rules r from to rook (Some placed) ready.candidate in
    let at : placed.at.0 ≢ s = λ e. elim (castle_gate rules r from to rook placed c.1).2 as (λ _. ⊥) [ inl f ↦ eqb-false _ _ a.0 (sym f ∙ e) | inr f ↦ eqb-false _ _ a.1 (sym f ∙ e) ] in
    cell_at-set_other _ placed.at.0 s _ at ∙ castle_stands r.cells from to rook s (eqb-false _ _ a.0) (eqb-false _ _ a.1) (eqb-false _ _ b.0) (eqb-false _ _ b.1) ∙ here
stands rules r (Drop kind' to) s z ready here kind left entered = cell_at-set_other _ to.0 s _ (eqb-false _ _ entered) ∙ here

own_there : (side : Side) (test : Kind → Bool) (c : Option Cell) → is_own side test c ≡ true → (z : Cell) × (c ≡ Some z) × (same_side z.side side ≡ true) × (test z.kind ≡ true)
own_there side test None e = cc
own_there side test (Some z) e = let a = and_parts (same_side z.side side) (test z.kind) e in (z, refl, a.0, a.1)

no_king_on_none : (rules : Rules) (side : Side) (c : Option Cell) → is_own_king rules side c ≡ true → c ≡ None → ⊥
no_king_on_none rules side c e f = let g : is_own_king rules side None ≡ true = subst (λ o. is_own_king rules side o ≡ true) f e in cc

-- no move enters a square on which a king stays
pub king_not_entered : (rules : Rules) (r : Repeat) (m : Move) (side : Side) (s : ℕ) → IsLegalHere rules r m → is_own_king rules side (cell_at r.cells s) ≡ true → leaves m s ≡ false → enters m s ≡ false
king_not_entered rules r (Go from to promo gate) side s ready king left =
    let g = goes rules r from to promo gate ready.candidate in
    ne_eqb to.0 s (λ e. not_both _ (subst (λ t. is_own_king rules side (cell_at r.cells t) ≡ true) (sym e) king) (no_king_taken rules r g.piece from to promo side ready.sound ready.fit_move.0 ready.fit_move.1 g.here g.how))
king_not_entered rules r (Castle from to rook gate) side s ready king left =
    let a = or_parts (from.0 == s) (rook.0 == s) left in
    let c = castle_is rules r from to rook gate ready.candidate in
    let p = castle_places rules ready.fit r from to rook c.0.0 ready.cells c.0.1 ready.fit_move.0 ready.fit_move.1 ready.fit_move.2 in
    or_from (to.0 == s) (rook_target from to rook == s)
    (ne_eqb to.0 s (λ e. no_king_on_none rules side (cell_at r.cells s) king (ap (cell_at r.cells) (sym e) ∙ p.to_free (λ f. eqb-false _ _ a.0 (sym f ∙ e)) (λ f. eqb-false _ _ a.1 (sym f ∙ e)))))
    (ne_eqb (rook_target from to rook) s (λ e. no_king_on_none rules side (cell_at r.cells s) king (ap (cell_at r.cells) (sym e) ∙ p.target_free (λ f. eqb-false _ _ a.0 (sym f ∙ e)) (λ f. eqb-false _ _ a.1 (sym f ∙ e)))))
king_not_entered rules r (Drop kind to) side s ready king left =
    ne_eqb to.0 s (λ e. no_king_on_none rules side (cell_at r.cells s) king (ap (cell_at r.cells) (sym e) ∙ (dropped_free rules r kind to.0 (drop_is rules r kind to ready.candidate)).1))

-- ---- gates

other_bit : ℕ → ℕ → Bool
other_bit f k = (f == k) || (bit_at (65535 - 2 ^ f) k == 1)

mask_same : (f : ℕ) → f < 12 → bit_at (65535 - 2 ^ f) f ≡ 0
unfolding all_below
mask_same f l = (Decides-eqb _ _).0 (all_below-each (λ k. bit_at (65535 - 2 ^ k) k == 0) 12 refl f l)

mask_other : (f k : ℕ) → f < 12 → k < 12 → f ≢ k → bit_at (65535 - 2 ^ f) k ≡ 1
unfolding all_below other_bit
mask_other f k l h apart =
    let a = all_below-each (other_bit f) 12 (all_below-each (λ j. all_below (other_bit j) 12) 12 refl f l) k h in
    elim (or_cases (f == k) (bit_at (65535 - 2 ^ f) k == 1) a) as (λ _. bit_at (65535 - 2 ^ f) k ≡ 1) [ inl e ↦ absurd (apart ((Decides-eqb f k).0 e)) | inr e ↦ (Decides-eqb _ _).0 e ]

-- the square of a gate
abbrev pub gate_square : Rules → Side → ℕ → ℕ
gate_square rules side file = 12 * first_rank rules side + file

open_not_left : (rules : Rules) (side : Side) (s gates file : ℕ) → file < 12 → bit_at (closed_at rules side s gates) file ≡ 1 → s ≢ gate_square rules side file
open_not_left rules side s gates file l e f =
    let rank : s / 12 ≡ first_rank rules side = omega (arith, f, l) in
    let place : s % 12 ≡ file = omega (arith, f, l) in
    let first : on_first_rank rules side s ≡ true = (Decides-eqb _ _).1 rank in
    let a : bit_at (bit_and gates (65535 - 2 ^ (s % 12))) file ≡ 1 = subst (λ b. bit_at (if b then without_gate gates (s % 12) else gates) file ≡ 1) first e in
    let b : bit_at (bit_and gates (65535 - 2 ^ file)) file ≡ 1 = subst (λ k. bit_at (bit_and gates (65535 - 2 ^ k)) file ≡ 1) place a in
    let c = bit_at_and gates (65535 - 2 ^ file) file in
    let d = mask_same file l in
    omega (arith, b, c, d)

stays_open_if : (b : Bool) (gates mask file : ℕ) → bit_at gates file ≡ 1 → (b ≡ true → bit_at mask file ≡ 1) → bit_at (if b then bit_and gates mask else gates) file ≡ 1
stays_open_if true gates mask file e h = let a = bit_at_and gates mask file in let b = h refl in omega (arith, a, b, e)
stays_open_if false gates mask file e h = e

stays_open : (rules : Rules) (side : Side) (s gates file : ℕ) → file < 12 → s ≢ gate_square rules side file → bit_at gates file ≡ 1 → bit_at (closed_at rules side s gates) file ≡ 1
stays_open rules side s gates file l apart e =
    stays_open_if (on_first_rank rules side s) gates (65535 - 2 ^ (s % 12)) file e
    (λ first. mask_other (s % 12) file (omega arith) l (λ f. let rank : s / 12 ≡ first_rank rules side = (Decides-eqb _ _).0 first in apart (omega (arith, f, rank))))

side_open : (rules : Rules) (side : Side) (m : Move) (gates file : ℕ) → file < 12 → bit_at (side_gates_after rules side m gates) file ≡ 1 → (leaves m (gate_square rules side file) ≡ false) × (enters m (gate_square rules side file) ≡ false)
side_open rules side (Go from to promo gate) gates file l e =
    (ne_eqb _ _ (open_not_left rules side from.0 gates file l (closed_at-kept rules side to.0 _ file e)), ne_eqb _ _ (open_not_left rules side to.0 _ file l e))
side_open rules side (Castle from to rook gate) gates file l e =
    let a = closed_at-kept rules side (rook_target from to rook) _ file e in
    let b = closed_at-kept rules side to.0 _ file a in
    let c = closed_at-kept rules side rook.0 _ file b in (
      or_from _ _ (ne_eqb _ _ (open_not_left rules side from.0 gates file l c)) (ne_eqb _ _ (open_not_left rules side rook.0 _ file l b)),
      or_from _ _ (ne_eqb _ _ (open_not_left rules side to.0 _ file l a)) (ne_eqb _ _ (open_not_left rules side (rook_target from to rook) _ file l e)),
    )
side_open rules side (Drop kind to) gates file l e = (refl, ne_eqb _ _ (open_not_left rules side to.0 gates file l e))

side_stays : (rules : Rules) (side : Side) (m : Move) (gates file : ℕ) → file < 12 → leaves m (gate_square rules side file) ≡ false → enters m (gate_square rules side file) ≡ false → bit_at gates file ≡ 1 → bit_at (side_gates_after rules side m gates) file ≡ 1
side_stays rules side (Go from to promo gate) gates file l left entered e =
    stays_open rules side to.0 _ file l (eqb-false _ _ entered) (stays_open rules side from.0 gates file l (eqb-false _ _ left) e)
side_stays rules side (Castle from to rook gate) gates file l left entered e =
    let a = or_parts (from.0 == gate_square rules side file) (rook.0 == gate_square rules side file) left in
    let b = or_parts (to.0 == gate_square rules side file) (rook_target from to rook == gate_square rules side file) entered in
    stays_open rules side (rook_target from to rook) _ file l (eqb-false _ _ b.1)
    (stays_open rules side to.0 _ file l (eqb-false _ _ b.0) (stays_open rules side rook.0 _ file l (eqb-false _ _ a.1) (stays_open rules side from.0 gates file l (eqb-false _ _ a.0) e)))
side_stays rules side (Drop kind to) gates file l left entered e = stays_open rules side to.0 gates file l (eqb-false _ _ entered) e

gate_open : (rules : Rules) (r : Repeat) (m : Move) (side : Side) (file : ℕ) → file < 12 → has_gate (gates_after rules r m) side file ≡ true → (leaves m (gate_square rules side file) ≡ false) × (enters m (gate_square rules side file) ≡ false)
unfolding gates_after
gate_open rules r m White file l e = side_open rules White m _ file l ((Decides-eqb _ _).0 e)
gate_open rules r m Black file l e = side_open rules Black m _ file l ((Decides-eqb _ _).0 e)

gate_stays : (rules : Rules) (r : Repeat) (m : Move) (side : Side) (file : ℕ) → file < 12 → leaves m (gate_square rules side file) ≡ false → enters m (gate_square rules side file) ≡ false → has_gate r.gates side file ≡ true → has_gate (gates_after rules r m) side file ≡ true
unfolding gates_after
gate_stays rules r m White file l left entered e = (Decides-eqb _ _).1 (side_stays rules White m _ file l left entered ((Decides-eqb _ _).0 e))
gate_stays rules r m Black file l left entered e = (Decides-eqb _ _).1 (side_stays rules Black m _ file l left entered ((Decides-eqb _ _).0 e))

no_pawn_of : (rules : Rules) (fit : IsFit rules) (kind : Kind) → length rules.kinds ≡ 26 → is_king rules kind ≡ true → is_pawn rules kind ≡ false
no_pawn_of rules fit kind kinds e = false_from_ne_true (is_pawn rules kind) (λ h. not_both _ e (pawn_no_king rules fit kind kinds h))

gate_before : (rules : Rules) (r : Repeat) (side : Side) (file : ℕ) → sound_gate rules r side file ≡ true → has_gate r.gates side file ≡ true → (rules.gating && nat_lt file rules.files && is_own side (λ kind. not (is_pawn rules kind)) (cell_at r.cells (gate_square rules side file))) ≡ true
unfolding sound_gate
gate_before rules r side file e h = asked (has_gate r.gates side file) _ e h

pub gate_after : (rules : Rules) (r q : Repeat) (m : Move) (side : Side) (file : ℕ) → IsLegalHere rules r m → file < 16 → q.cells ≡ cells_after rules r m → q.gates ≡ gates_after rules r m → sound_gate rules q side file ≡ true
unfolding sound_gate
gate_after rules r q m side file ready l cells gates =
    answered (has_gate q.gates side file) _ (λ h.
    let still_open : has_gate (gates_after rules r m) side file ≡ true = subst (λ g. has_gate g side file ≡ true) gates h in
    let s = side_parts rules r side (side_of rules r side (repeat_parts rules r ready.sound)) in
    let before = gate_before rules r side file (all_below-each (sound_gate rules r side) 16 s.gates file l) (gate_was_open rules r m side file still_open) in
    let a = and_parts _ (is_own side (λ kind. not (is_pawn rules kind)) (cell_at r.cells (gate_square rules side file))) before in
    let few = ltb-true _ _ (and_parts rules.gating (nat_lt file rules.files) a.0).1 in
    let most = ready.fit.files_most in
    let z = own_there side (λ kind. not (is_pawn rules kind)) (cell_at r.cells (gate_square rules side file)) a.1 in
    let still = gate_open rules r m side file (omega (arith, few, most)) still_open in
    let there : cell_at q.cells (gate_square rules side file) ≡ Some z.0 = ap (λ cs. cell_at cs (gate_square rules side file)) cells ∙ stands rules r m (gate_square rules side file) z.0 ready z.1 (not-true _ z.3) still.0 still.1 in
    let own : is_own side (λ kind. not (is_pawn rules kind)) (cell_at q.cells (gate_square rules side file)) ≡ true = subst (λ c. is_own side (λ kind. not (is_pawn rules kind)) c ≡ true) (z.1 ∙ sym there) a.1 in
    rw (a.0, own))

-- ---- rights

-- with gates one castles on the first rank
gates_first : (a b c d e : Bool) → (a && (b || (c && (not d || e)))) ≡ false → a ≡ true → c ≡ true → d ≡ true
gates_first true true c d e h f g = cc
gates_first true false true true e h f g = refl
gates_first true false true false e h f g = cc
gates_first true false false d e h f g = cc
gates_first false b c d e h f g = cc

first_of_castle : (rules : Rules) (fit : IsFit rules) (side : Side) (file : ℕ) → rules.gating ≡ true → castling_on rules ≡ true → castling_square rules side file ≡ gate_square rules side file
unfolding gates_amiss
first_of_castle rules fit White file on castling =
    let a = (Decides-eqb _ _).0 (gates_first rules.gating (nat_lt 10 rules.files) (castling_on rules) (rules.castle_rank == 1) (rook_is_pawn rules rules.pawn) fit.gates on castling) in omega (arith, a)
first_of_castle rules fit Black file on castling =
    let a = (Decides-eqb _ _).0 (gates_first rules.gating (nat_lt 10 rules.files) (castling_on rules) (rules.castle_rank == 1) (rook_is_pawn rules rules.pawn) fit.gates on castling) in omega (arith, a)

castle_gate_stays : (rules : Rules) (r : Repeat) (m : Move) (side : Side) (file : ℕ) → IsFit rules → rules.gating ≡ true → castling_on rules ≡ true → file < 12 → leaves m (castling_square rules side file) ≡ false → enters m (castling_square rules side file) ≡ false → has_gate r.gates side file ≡ true → has_gate (gates_after rules r m) side file ≡ true
castle_gate_stays rules r m side file fit on castling l left entered e =
    let same = first_of_castle rules fit side file on castling in
    gate_stays rules r m side file l (subst (λ s. leaves m s ≡ false) same left) (subst (λ s. enters m s ≡ false) same entered) e

-- the castling rook that stays
pub record StaysRook (rules : Rules) (side : Side) (m : Move) (before later : Option ℕ) : Type 0 where
  pub file : ℕ
  pub was : before ≡ Some file
  pub is : later ≡ Some file
  pub left : leaves m (castling_square rules side file) ≡ false
  pub entered : enters m (castling_square rules side file) ≡ false

stays_rook : (rules : Rules) (side : Side) (m : Move) (before later : Option ℕ) → rook_stays rules side m before later ≡ true → StaysRook rules side m before later
stays_rook rules side m None later e = cc
stays_rook rules side m (Some file) later e =
    let a = and_parts _ (is_at file later) e in
    let b = and_parts (not (leaves m (castling_square rules side file))) (not (enters m (castling_square rules side file))) a.0 in
    record { file = file; was = refl; is = at_some file later a.1; left = not-true _ b.0; entered = not-true _ b.1 }

rook_below : (rules : Rules) (cells : List (Option Cell)) (side : Side) (wing : Wing) (r : Repeat) → r.cells ≡ cells → (file : ℕ) → rook_file rules cells side wing ≡ Some file → file < rules.files
rook_below rules cells side wing r e file f = (rook_file-some rules r side wing file (ap (λ cs. rook_file rules cs side wing) e ∙ f)).0

right_before : (rules : Rules) (r : Repeat) (side : Side) (wing : Wing) → sound_right rules r side wing ≡ true → holds_right r.rights side wing ≡ true → (castling_on rules && is_own_king rules side (cell_at r.cells (castling_square rules side rules.castle_king)) && sound_rook rules r.gates side (rook_file rules r.cells side wing)) ≡ true
unfolding sound_right
right_before rules r side wing e h = asked (holds_right r.rights side wing) _ e h

rook_after : (rules : Rules) (r q : Repeat) (m : Move) (side : Side) (file : ℕ) → IsFit rules → castling_on rules ≡ true → file < 12 → q.gates ≡ gates_after rules r m → leaves m (castling_square rules side rules.castle_king) ≡ false → enters m (castling_square rules side rules.castle_king) ≡ false → leaves m (castling_square rules side file) ≡ false → enters m (castling_square rules side file) ≡ false → sound_rook rules r.gates side (Some file) ≡ true → sound_rook rules q.gates side (Some file) ≡ true
rook_after rules r q m side file fit on l gates a b c d e =
    answered rules.gating _ (λ g.
    let h = and_parts (has_gate r.gates side rules.castle_king) (has_gate r.gates side file) (asked rules.gating _ e g) in
    let king = castle_gate_stays rules r m side rules.castle_king fit g on fit.castle_king a b h.0 in
    let rook = castle_gate_stays rules r m side file fit g on l c d h.1 in
    let king' : has_gate q.gates side rules.castle_king ≡ true = subst (λ gs. has_gate gs side rules.castle_king ≡ true) (sym gates) king in
    let rook' : has_gate q.gates side file ≡ true = subst (λ gs. has_gate gs side file ≡ true) (sym gates) rook in
    rw (king', rook'))

kept_parts : (rules : Rules) (r : Repeat) (m : Move) (later : List (Option Cell)) (side : Side) (wing : Wing) → keeps_right rules r m later side wing ≡ true → (holds_right r.rights side wing ≡ true) × (leaves m (castling_square rules side rules.castle_king) ≡ false) × (rook_stays rules side m (rook_file rules r.cells side wing) (rook_file rules later side wing) ≡ true)
unfolding keeps_right
kept_parts rules r m later side wing e =
    let a = and_parts _ (rook_stays rules side m (rook_file rules r.cells side wing) (rook_file rules later side wing)) e in
    let b = and_parts (holds_right r.rights side wing) (not (leaves m (castling_square rules side rules.castle_king))) a.0 in
    (b.0, not-true _ b.1, a.1)

pub right_after : (rules : Rules) (r q : Repeat) (m : Move) (side : Side) (wing : Wing) → IsLegalHere rules r m → q.cells ≡ cells_after rules r m → q.gates ≡ gates_after rules r m → q.rights ≡ rights_after rules r m q.cells → sound_right rules r side wing ≡ true → sound_right rules q side wing ≡ true
unfolding sound_right
right_after rules r q m side wing ready cells gates rights sound =
    answered (holds_right q.rights side wing) _ (λ h.
    let kept : keeps_right rules r m q.cells side wing ≡ true = sym (rights_after-is rules r m q.cells side wing) ∙ subst (λ rs. holds_right rs side wing ≡ true) rights h in
    let k = kept_parts rules r m q.cells side wing kept in
    let before = right_before rules r side wing sound k.0 in
    let a = and_parts _ (sound_rook rules r.gates side (rook_file rules r.cells side wing)) before in
    let b = and_parts (castling_on rules) (is_own_king rules side (cell_at r.cells (castling_square rules side rules.castle_king))) a.0 in
    let z = own_there side (is_king rules) (cell_at r.cells (castling_square rules side rules.castle_king)) b.1 in
    let entered = king_not_entered rules r m side (castling_square rules side rules.castle_king) ready b.1 k.1 in
    let there : cell_at q.cells (castling_square rules side rules.castle_king) ≡ Some z.0 = ap (λ cs. cell_at cs (castling_square rules side rules.castle_king)) cells ∙ stands rules r m (castling_square rules side rules.castle_king) z.0 ready z.1 (no_pawn_of rules ready.fit z.0.kind ready.kinds z.3) k.1 entered in
    let king : is_own_king rules side (cell_at q.cells (castling_square rules side rules.castle_king)) ≡ true = subst (λ c. is_own_king rules side c ≡ true) (z.1 ∙ sym there) b.1 in
    let s = stays_rook rules side m (rook_file rules r.cells side wing) (rook_file rules q.cells side wing) k.2 in
    let few = rook_below rules r.cells side wing r refl s.file s.was in
    let most = ready.fit.files_most in
    let rook : sound_rook rules q.gates side (Some s.file) ≡ true = rook_after rules r q m side s.file ready.fit b.0 (omega (arith, few, most)) gates k.1 entered s.left s.entered (subst (λ o. sound_rook rules r.gates side o ≡ true) s.was a.1) in
    let rook' : sound_rook rules q.gates side (rook_file rules q.cells side wing) ≡ true = subst (λ o. sound_rook rules q.gates side o ≡ true) (sym s.is) rook in
    rw (b.0, king, rook'))
