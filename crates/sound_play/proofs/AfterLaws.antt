-- The pieces, the hands and their number after each candidate of a sound position, in every variant that fits.
use Rattle.std.proofs.Common.{◌≡◌, ℕ, ◌+◌, ◌/◌, ◌%◌, ◌<◌, ◌≤◌, Bool, true, false, if◌then◌else◌, ◌⊎◌, inl, Option, Some, None, List, length, refl, sym, subst, arith, nat_lt, is_some}
use Rattle.std.proofs.lemmas.Bool.{and_parts, ltb-true}
use Rattle.std.specs.Prelude.{count_by}
use Rattle.std.proofs.lemmas.Bool.Decides.{nat_tests}
use Rattle.foundation.specs.Tests.{one_if}
use Rattle.rules_model.specs.declared.board.Cell.{Cell}
use Rattle.rules_model.specs.declared.board.Kind.{Kind}
use Rattle.rules_model.specs.declared.board.Repeat.{Repeat}
use Rattle.rules_model.specs.declared.board.Side.{Side}
use Rattle.rules_model.specs.declared.board.Side.TheVariants.{White, Black}
use Rattle.rules_model.specs.declared.board.Square.{Square}
use Rattle.rules_model.specs.declared.moves.Move.{Move}
use Rattle.rules_model.specs.declared.moves.Move.TheVariants.{Go, Castle, Drop}
use Rattle.rules_model.specs.declared.moves.Placed.{Placed}
use Rattle.rules_model.specs.declared.moves.Promo.{Promo}
use Rattle.rules_model.specs.declared.rules.Rules.{Rules}
use Rattle.rules_model.specs.Squares.{cell_at}
use Rattle.rules_model.specs.Sides.{same_side}
use Rattle.rules_model.specs.Kinds.{has_kind}
use Rattle.rules_model.specs.Hands.{holds, put_at_gate}
use Rattle.rules_model.specs.Gating.{castle_gates}
use Rattle.rules_model.specs.Pawns.{behind, passes_by}
use Rattle.rules_model.specs.Castling.{rook_target}
use Rattle.rules_model.specs.Candidates.{is_candidate}
use Rattle.rules_model.specs.Ends.{is_of}
use Rattle.rules_model.specs.Next.{cells_after, emptied, gated, hand_kind, hands_after, placed_kind, promote, take_into, taken}
use Rattle.rules_model.specs.Moves.{IsFitMove}
use Rattle.rules_model.specs.Sound.{is_sound_cell, is_sound_repeat, on_board}
use Rattle.rules_model.specs.Fit.{IsFit}
use Rattle.rules_model.specs.Promised.{IsMoveOf}
use Rattle.rules_model.proofs.CandidateLaws.{castle_gate, castle_is, drop_is, gated_go, PawnGoes, PieceGoes, plain_go}
use Rattle.sound_play.proofs.CountLaws.{castle-count, castle_files, drop-count, dropped_free, go-count, go_leaves, Leaves}
use Rattle.sound_play.proofs.HandLaws.{held-taken_in, held_by_both, put_down-both, taken_in-both}
use Rattle.sound_play.proofs.KingLaws.{taken_no_king}
use Rattle.sound_play.proofs.PieceLaws.{are_sound, AreSound, sound_emptied, sound_fresh, sound_set, sound_there}
use Rattle.sound_play.proofs.PlayLaws.{becomes_sound, fit_hands, fit_put_at_gate, fit_put_down, fit_take_into, FitHands, taken_sound, TakenSound}
use Rattle.sound_play.proofs.SizeLaws.{AreHands, take_into-size}
use Rattle.sound_play.proofs.SoundLaws.{repeat_parts}
use Rattle.sound_play.proofs.TestLemmas.{same_some}

-- ---- a candidate, by what it does

-- a piece or a pawn goes, and a gate may leave a piece that is held
pub record Goes (rules : Rules) (r : Repeat) (from to : Square) (promo : Promo) (gate : Option Kind) : Type 0 where
  pub piece : Cell
  pub here : cell_at r.cells from.0 ≡ Some piece
  pub how : PieceGoes rules r piece from to promo ⊎ PawnGoes rules r piece from to promo
  pub held : (kind : Kind) → gate ≡ Some kind → holds r.hands r.side kind ≡ true

pub goes : (rules : Rules) (r : Repeat) (from to : Square) (promo : Promo) (gate : Option Kind) → is_candidate rules r (Go from to promo gate) ≡ true → Goes rules r from to promo gate
goes rules r from to promo None e =
    let g = plain_go rules r from to promo e in
    record { piece = g.0; here = g.1; how = g.2; held = λ kind f. cc }
goes rules r from to promo (Some k) e =
    let g = gated_go rules r from to promo k e in
    let h = (and_parts _ (holds r.hands r.side k) g.3).1 in
    record { piece = g.0; here = g.1; how = inl g.2; held = λ kind f. subst (λ j. holds r.hands r.side j ≡ true) (same_some k kind f) h }

-- what a candidate needs of its position
pub record IsLegalHere (rules : Rules) (r : Repeat) (m : Move) : Type 0 where
  pub fit : IsFit rules
  pub kinds : length rules.kinds ≡ 26
  pub cells : length r.cells ≡ 120
  pub hands : AreHands r.hands
  pub sound : is_sound_repeat rules r ≡ true
  pub fit_move : IsFitMove m
  pub candidate : is_candidate rules r m ≡ true
  pub of_variant : IsMoveOf rules m

sound_cells : (rules : Rules) (r : Repeat) → is_sound_repeat rules r ≡ true → AreSound rules r.cells
sound_cells rules r sound = are_sound rules r.cells (repeat_parts rules r sound).cells

held_kind : (rules : Rules) (r : Repeat) (kind : Kind) → is_sound_repeat rules r ≡ true → kind.0 < 26 → holds r.hands r.side kind ≡ true → has_kind rules kind ≡ true
held_kind rules r kind sound l e =
    let a = (fit_hands rules r sound).each r.side kind l e in
    (and_parts _ (has_kind rules kind) (and_parts _ _ a).0).1

-- ---- the pieces

gated_sound : (rules : Rules) (side : Side) (s : ℕ) (gate : Option Kind) → on_board rules s ≡ true → ((kind : Kind) → gate ≡ Some kind → has_kind rules kind ≡ true) → is_sound_cell rules s (gated side gate) ≡ true
gated_sound rules side s None l h = refl
gated_sound rules side s (Some kind) l h = sound_fresh rules s side kind l (h kind refl)

passed_sound : (rules : Rules) (cells : List (Option Cell)) (b : Bool) (at : Option ℕ) → AreSound rules cells → AreSound rules (if b then emptied cells at else cells)
passed_sound rules cells true at h = sound_emptied rules cells at h
passed_sound rules cells false at h = h

gate_kind : (rules : Rules) (r : Repeat) (from to : Square) (promo : Promo) (gate : Option Kind) → IsLegalHere rules r (Go from to promo gate) → Goes rules r from to promo gate → (kind : Kind) → gate ≡ Some kind → has_kind rules kind ≡ true
gate_kind rules r from to promo None ready g kind e = cc
gate_kind rules r from to promo (Some k) ready g kind e =
    subst (λ j. has_kind rules j ≡ true) (same_some k kind e) (held_kind rules r k ready.sound ready.fit_move.3 (g.held k refl))

file_on : (rules : Rules) (s : ℕ) → on_board rules s ≡ true → (s % 12 < rules.files) × (s / 12 < rules.ranks)
file_on rules s e = let a = and_parts (nat_lt (s % 12) rules.files) (nat_lt (s / 12) rules.ranks) e in (ltb-true _ _ a.0, ltb-true _ _ a.1)

on_file : (rules : Rules) (s : ℕ) → s % 12 < rules.files → s / 12 < rules.ranks → on_board rules s ≡ true
on_file rules s h k = grind (arith, nat_tests)

target_on : (rules : Rules) (r : Repeat) (from to rook : Square) (gate : Option Placed) → IsLegalHere rules r (Castle from to rook gate) → on_board rules (rook_target from to rook) ≡ true
target_on rules r from to rook gate ready =
    let c = castle_is rules r from to rook gate ready.candidate in
    let f = castle_files rules ready.fit r from to rook c.0.0 c.0.1 ready.fit_move.0 ready.fit_move.1 in
    let a = file_on rules from.0 ready.of_variant.0 in
    let b = file_on rules to.0 ready.of_variant.1 in
    let x = a.0 in
    let y = b.0 in
    let z = b.1 in
    let file = f.file_most in
    let rank = f.same_rank in
    on_file rules (rook_target from to rook) (omega (arith, x, y, file)) (omega (arith, z, rank))

pub cells_after-sound : (rules : Rules) (r : Repeat) (m : Move) → IsLegalHere rules r m → AreSound rules (cells_after rules r m)
unfolding cells_after
cells_after-sound rules r (Go from to promo gate) ready =
    let g = goes rules r from to promo gate ready.candidate in
    let h = sound_cells rules r ready.sound in
    let here : is_sound_cell rules from.0 (Some g.piece) ≡ true = subst (λ c. is_sound_cell rules from.0 c ≡ true) g.here (h.each from.0 ready.fit_move.0) in
    let there : is_sound_cell rules to.0 (promote rules (cell_at r.cells from.0) promo) ≡ true = subst (λ c. is_sound_cell rules to.0 (promote rules c promo) ≡ true) (sym g.here) (becomes_sound rules ready.fit r g.piece from to promo ready.kinds ready.fit_move.2 g.how here ready.of_variant.1) in
    sound_set rules _ to.0 _ (sound_set rules _ from.0 _ (passed_sound rules r.cells (passes_by rules r from to.0) (behind rules r.side to) h) (gated_sound rules r.side from.0 gate ready.of_variant.0 (gate_kind rules r from to promo gate ready g))) there
cells_after-sound rules r (Castle from to rook None) ready =
    let h = sound_cells rules r ready.sound in
    let king = sound_there rules from.0 to.0 (cell_at r.cells from.0) (h.each from.0 ready.fit_move.0) ready.of_variant.1 in
    let tower = sound_there rules rook.0 (rook_target from to rook) (cell_at r.cells rook.0) (h.each rook.0 ready.fit_move.2) (target_on rules r from to rook None ready) in
    sound_set rules _ (rook_target from to rook) _ (sound_set rules _ to.0 _ (sound_set rules _ rook.0 None (sound_set rules r.cells from.0 None h refl) refl) king) tower
cells_after-sound rules r (Castle from to rook (Some placed)) ready =
    let h = sound_cells rules r ready.sound in
    let king = sound_there rules from.0 to.0 (cell_at r.cells from.0) (h.each from.0 ready.fit_move.0) ready.of_variant.1 in
    let tower = sound_there rules rook.0 (rook_target from to rook) (cell_at r.cells rook.0) (h.each rook.0 ready.fit_move.2) (target_on rules r from to rook (Some placed) ready) in
    let castle = sound_set rules _ (rook_target from to rook) _ (sound_set rules _ to.0 _ (sound_set rules _ rook.0 None (sound_set rules r.cells from.0 None h refl) refl) king) tower in
    sound_set rules _ placed.at.0 _ castle (sound_fresh rules placed.at.0 r.side placed.kind ready.of_variant.3.1 ready.of_variant.3.0)
cells_after-sound rules r (Drop kind to) ready = sound_set rules r.cells to.0 _ (sound_cells rules r ready.sound) (sound_fresh rules to.0 r.side kind ready.of_variant.1 ready.of_variant.0)

-- ---- the hands

taken_by : (rules : Rules) (r : Repeat) (from to : Square) (promo : Promo) (gate : Option Kind) → IsLegalHere rules r (Go from to promo gate) → TakenSound rules (taken rules r from to)
taken_by rules r from to promo gate ready =
    let g = goes rules r from to promo gate ready.candidate in
    taken_sound rules r from to ready.cells (sound_cells rules r ready.sound) (λ side. taken_no_king rules ready.fit r g.piece from to promo side ready.kinds ready.sound ready.fit_move.0 ready.fit_move.1 g.here g.how)

pub hands_after-fit : (rules : Rules) (r : Repeat) (m : Move) → IsLegalHere rules r m → FitHands rules (hands_after rules r m)
unfolding hands_after
hands_after-fit rules r (Go from to promo gate) ready =
    fit_put_at_gate rules _ r.side gate (take_into-size rules.to_hand r.hands r.side (taken rules r from to) ready.hands).two
    (fit_take_into rules ready.fit r.hands r.side (taken rules r from to) rules.to_hand ready.kinds ready.hands.two refl (taken_by rules r from to promo gate ready) (fit_hands rules r ready.sound))
hands_after-fit rules r (Castle from to rook gate) ready = fit_put_at_gate rules r.hands r.side (placed_kind gate) ready.hands.two (fit_hands rules r ready.sound)
hands_after-fit rules r (Drop kind to) ready = fit_put_down rules r.hands r.side kind ready.hands.two (fit_hands rules r ready.sound)

-- ---- how many pieces there are

weigh_side : (side : Side) → one_if (same_side side White) + one_if (same_side side Black) ≡ 1
weigh_side White = omega arith
weigh_side Black = omega arith

weigh : (c : Option Cell) → one_if (is_of White c) + one_if (is_of Black c) ≡ one_if (is_some c)
weigh None = omega arith
weigh (Some x) = weigh_side x.side

unfoldable pub on_board_of_both : List (Option Cell) → ℕ
on_board_of_both cells = count_by (is_of White) cells + count_by (is_of Black) cells

go_pieces : (rules : Rules) (r : Repeat) (x : Cell) (from to : Square) (promo : Promo) (gate : Option Kind) → is_sound_repeat rules r ≡ true → Leaves rules r x from to → on_board_of_both (cells_after rules r (Go from to promo gate)) + one_if (is_some (taken rules r from to)) ≡ on_board_of_both r.cells + one_if (is_some (gated r.side gate))
unfolding on_board_of_both
go_pieces rules r x from to promo gate sound g =
    let a = go-count (is_of White) rules r x from to promo gate refl sound g in
    let b = go-count (is_of Black) rules r x from to promo gate refl sound g in
    let t = weigh (taken rules r from to) in
    let s = weigh (Some x) in
    let u = weigh (gated r.side gate) in
    let v = weigh (promote rules (Some x) promo) in
    let one : one_if (is_some (promote rules (Some x) promo)) ≡ one_if (is_some (Some x)) = refl in
    omega (arith, a, b, t, s, u, v, one)

take_into-both : (b : Bool) (hands : List (List ℕ)) (side : Side) (c : Option Cell) → length hands ≡ 2 → held_by_both (take_into b hands side c) ≤ held_by_both hands + one_if (is_some c)
take_into-both b hands side None two = omega arith
take_into-both true hands side (Some x) two = let a = taken_in-both hands side (hand_kind x) two in let one : one_if (is_some (Some x)) ≡ 1 = refl in omega (arith, a, one)
take_into-both false hands side (Some x) two = omega arith

held-take_into : (b : Bool) (hands : List (List ℕ)) (side : Side) (c : Option Cell) (kind : Kind) → length hands ≡ 2 → holds hands side kind ≡ true → holds (take_into b hands side c) side kind ≡ true
held-take_into b hands side None kind two e = e
held-take_into true hands side (Some x) kind two e = held-taken_in hands side (hand_kind x) side kind two e
held-take_into false hands side (Some x) kind two e = e

put_at_gate-both : (hands : List (List ℕ)) (side mover : Side) (gate : Option Kind) → length hands ≡ 2 → ((kind : Kind) → gate ≡ Some kind → holds hands side kind ≡ true) → held_by_both (put_at_gate hands side gate) + one_if (is_some (gated mover gate)) ≤ held_by_both hands
put_at_gate-both hands side mover None two h = let none : one_if (is_some (gated mover None)) ≡ 0 = refl in omega (arith, none)
put_at_gate-both hands side mover (Some kind) two h = let a = put_down-both hands side kind two (h kind refl) in let one : one_if (is_some (gated mover (Some kind))) ≡ 1 = refl in omega (arith, a, one)

castle_held : (rules : Rules) (r : Repeat) (from to rook : Square) (gate : Option Placed) → castle_gates rules r from to rook gate ≡ true → (kind : Kind) → placed_kind gate ≡ Some kind → holds r.hands r.side kind ≡ true
castle_held rules r from to rook None e kind f = cc
castle_held rules r from to rook (Some placed) e kind f = subst (λ j. holds r.hands r.side j ≡ true) (same_some placed.kind kind f) (castle_gate rules r from to rook placed e).1

castle_pieces : (rules : Rules) (r : Repeat) (from to rook : Square) (gate : Option Placed) → IsLegalHere rules r (Castle from to rook gate) → on_board_of_both (cells_after rules r (Castle from to rook gate)) ≡ on_board_of_both r.cells + one_if (is_some (gated r.side (placed_kind gate)))
unfolding on_board_of_both
castle_pieces rules r from to rook gate ready =
    let c = castle_is rules r from to rook gate ready.candidate in
    let a = castle-count (is_of White) rules ready.fit r from to rook gate c.0.0 refl ready.cells c.0.1 c.1 ready.fit_move in
    let b = castle-count (is_of Black) rules ready.fit r from to rook gate c.0.0 refl ready.cells c.0.1 c.1 ready.fit_move in
    let w = weigh (gated r.side (placed_kind gate)) in
    omega (arith, a, b, w)

drop_pieces : (rules : Rules) (r : Repeat) (kind : Kind) (to : Square) → IsLegalHere rules r (Drop kind to) → on_board_of_both (cells_after rules r (Drop kind to)) ≡ on_board_of_both r.cells + 1
unfolding on_board_of_both
drop_pieces rules r kind to ready =
    let d = drop_is rules r kind to ready.candidate in
    let within = ready.fit_move.1 in
    let size = ready.cells in
    let a = drop-count (is_of White) rules r kind to refl (omega (arith, within, size)) d in
    let b = drop-count (is_of Black) rules r kind to refl (omega (arith, within, size)) d in
    let w = weigh_side r.side in
    omega (arith, a, b, w)

-- no more than before
pub pieces_after-most : (rules : Rules) (r : Repeat) (m : Move) → IsLegalHere rules r m → on_board_of_both (cells_after rules r m) + held_by_both (hands_after rules r m) ≤ on_board_of_both r.cells + held_by_both r.hands
unfolding hands_after
pieces_after-most rules r (Go from to promo gate) ready =
    let g = goes rules r from to promo gate ready.candidate in
    let a = go_pieces rules r g.piece from to promo gate ready.sound (go_leaves rules r g.piece from to promo ready.cells ready.sound ready.fit_move.0 ready.fit_move.1 g.here g.how) in
    let b = take_into-both rules.to_hand r.hands r.side (taken rules r from to) ready.hands.two in
    let c = put_at_gate-both (take_into rules.to_hand r.hands r.side (taken rules r from to)) r.side r.side gate (take_into-size rules.to_hand r.hands r.side (taken rules r from to) ready.hands).two (λ kind e. held-take_into rules.to_hand r.hands r.side (taken rules r from to) kind ready.hands.two (g.held kind e)) in
    omega (arith, a, b, c)
pieces_after-most rules r (Castle from to rook gate) ready =
    let c = castle_is rules r from to rook gate ready.candidate in
    let a = castle_pieces rules r from to rook gate ready in
    let b = put_at_gate-both r.hands r.side r.side (placed_kind gate) ready.hands.two (castle_held rules r from to rook gate c.1) in
    omega (arith, a, b)
pieces_after-most rules r (Drop kind to) ready =
    let d = drop_is rules r kind to ready.candidate in
    let a = drop_pieces rules r kind to ready in
    let b = put_down-both r.hands r.side kind ready.hands.two (dropped_free rules r kind to.0 d).0 in
    omega (arith, a, b)
