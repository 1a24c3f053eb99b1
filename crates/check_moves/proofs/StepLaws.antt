-- The step of a king, or the leap of another piece, that the rules allow.
use Rattle.std.proofs.Common.{◌≡◌, ℕ, ◌<◌, Bool, true, false, not, ◌&&◌, ◌||◌, ◌==◌, Option, Some, None, List, length, if◌then◌else◌, slice_set, refl, sym, ap, ◌∙◌}
use Rattle.std.proofs.lemmas.Bool.{and_parts, and_right, not-true}
use Rattle.foundation.specs.Member.{Member}
use Rattle.rules_model.specs.declared.board.Cell.{Cell}
use Rattle.rules_model.specs.declared.board.Kind.{Kind}
use Rattle.rules_model.specs.declared.board.Repeat.{Repeat}
use Rattle.rules_model.specs.declared.board.Side.{Side}
use Rattle.rules_model.specs.declared.board.Side.TheVariants.{White, Black}
use Rattle.rules_model.specs.declared.board.Square.{Square}
use Rattle.rules_model.specs.declared.board.Wing.TheVariants.{Kingside, Queenside}
use Rattle.rules_model.specs.declared.moves.Move.{Move}
use Rattle.rules_model.specs.declared.moves.Move.TheVariants.{Go}
use Rattle.rules_model.specs.declared.moves.Promo.TheVariants.{Stays}
use Rattle.rules_model.specs.declared.rules.Rules.{Rules}
use Rattle.rules_model.specs.Allowed.{can_capture, is_legal}
use Rattle.rules_model.specs.Attacks.{is_own_pawn, king_attacked}
use Rattle.rules_model.specs.Castling.{holds_right}
use Rattle.rules_model.specs.Candidates.{is_candidate, is_piece_move}
use Rattle.rules_model.specs.Ends.{early_end, is_ongoing}
use Rattle.rules_model.specs.Kinds.{is_king, is_pawn}
use Rattle.rules_model.specs.Legal.{gives_check, is_allowed, is_safe, is_sane, legal, may_check, stays_mobile}
use Rattle.rules_model.specs.Movement.{kind_reaches}
use Rattle.rules_model.specs.Next.{captures, cells_after, next_repeat}
use Rattle.rules_model.specs.Pawns.{passes_by}
use Rattle.rules_model.specs.Pieces as Pieces
use Rattle.rules_model.specs.Pieces.{may_plus, means_castling, piece_goes, piece_moves}
use Rattle.rules_model.specs.Regions.{castling_square}
use Rattle.rules_model.specs.Sides.{same_side}
use Rattle.rules_model.specs.Squares.{cell_at}
use Rattle.rules_model.proofs.LegalLaws.{member-legal}
use Rattle.move_tables.specs.declared.mode.Mode.TheVariants.{Quiet}
use Rattle.move_tables.specs.Reached.{reaches_as}
use Rattle.check_moves.specs.Flights.{are_steps_plain, carried, is_castling_step}
use Rattle.check_moves.proofs.ComeLaws.{goes}

same_itself : (side : Side) → same_side side side ≡ true
same_itself White = refl
same_itself Black = refl

pub record ArePlain (rules : Rules) : Type 0 where
  pub checking : rules.checking ≡ true
  pub walks : rules.flying ≡ false
  pub free : rules.must_capture ≡ false
  pub mobile : rules.immobile_bad ≡ false
  pub stays : rules.must_promote_piece ≡ false

pub plain-rules : (rules : Rules) → are_steps_plain rules ≡ true → ArePlain rules
unfolding are_steps_plain
plain-rules rules h =
    let a = and_parts (rules.checking && not rules.flying && not rules.must_capture && not rules.immobile_bad) (not rules.must_promote_piece) h in
    let b = and_parts (rules.checking && not rules.flying && not rules.must_capture) (not rules.immobile_bad) a.0 in
    let c = and_parts (rules.checking && not rules.flying) (not rules.must_capture) b.0 in
    let d = and_parts rules.checking (not rules.flying) c.0 in
    record { checking = d.0; walks = not-true rules.flying d.1; free = not-true rules.must_capture c.1; mobile = not-true rules.immobile_bad b.1; stays = not-true rules.must_promote_piece a.1 }

-- ---- the step is allowed

sane_parts : (safe c d g i m : Bool) → safe ≡ true → c ≡ true → i ≡ false → (safe && ((c || not g) && ((d || true) || not g)) && (not i || m)) ≡ true
sane_parts true true true g false m e f h = refl
sane_parts true true false g false m e f h = refl
sane_parts true true d g true m e f h = cc
sane_parts true false d g i m e f h = cc
sane_parts false c d g i m e f h = cc

legal_parts : (a b c d e : Bool) → a ≡ true → b ≡ true → c ≡ false → (a && b && (not (c && d) || e)) ≡ true
legal_parts true true false d e f g h = refl
legal_parts true true true d e f g h = cc
legal_parts true false c d e f g h = cc
legal_parts false b c d e f g h = cc

no_castle : (k d a b near far : Bool) → (k && (near || far)) ≡ false → (d && ((a && k && near) || (b && k && far))) ≡ false
no_castle k false a b near far h = refl
no_castle false true true true near far h = refl
no_castle false true true false near far h = refl
no_castle false true false true near far h = refl
no_castle false true false false near far h = refl
no_castle true true a b true far h = cc
no_castle true true a b false true h = cc
no_castle true true true true false false h = refl
no_castle true true true false false false h = refl
no_castle true true false true false false h = refl
no_castle true true false false false false h = refl

-- a step that leaves no castling square for a target means no castling
pub no_castles : (rules : Rules) (r : Repeat) (kind : Kind) (king at : ℕ) → is_castling_step rules r.side king at ≡ false → means_castling rules r kind king at ≡ false
unfolding is_castling_step
no_castles rules r kind king at = no_castle (king == castling_square rules r.side rules.castle_king) (is_king rules kind) (holds_right r.rights r.side Kingside) (holds_right r.rights r.side Queenside) (at == castling_square rules r.side rules.castle_near) (at == castling_square rules r.side rules.castle_far)

-- nor does a move of another piece
pub no_king_castles : (rules : Rules) (r : Repeat) (kind : Kind) (from to : ℕ) → is_king rules kind ≡ false → means_castling rules r kind from to ≡ false
no_king_castles rules r kind from to no_king = rw no_king refl

-- a kind that is not the pawn goes to an empty square that it reaches quietly
pub walks_quietly : (rules : Rules) (cells : List (Option Cell)) (side : Side) (kind : Kind) (from : Square) (to : ℕ) → cell_at cells to ≡ None → is_pawn rules kind ≡ false → reaches_as rules cells side kind from Quiet to ≡ true → piece_goes rules cells side kind from to ≡ true
unfolding piece_goes
walks_quietly rules cells side kind from to empty no_pawn reached =
    ap (λ (c : Option Cell). kind_reaches rules cells side kind (Pieces.serves side c) from to) empty
    ∙ ap (λ (b : Bool). if b then false else kind_reaches rules cells side kind (λ t. t.quiet) from to) (sym no_pawn)
    ∙ reached

module _ (rules : Rules) (r : Repeat) (size : length r.cells ≡ 120) (king at : ℕ) (x : Cell) (there : cell_at r.cells king ≡ Some x) (own : x.side ≡ r.side) (no_pawn : is_pawn rules x.kind ≡ false) (plain : ArePlain rules) where
  abbrev step : Move
  step = Go (record { 0 = king }) (record { 0 = at }) Stays None

  is_own_piece : same_side x.side r.side ≡ true
  is_own_piece = rw own (same_itself r.side)

  no_passing : passes_by rules r (record { 0 = king }) at ≡ false
  unfolding passes_by
  no_passing =
      let e : is_own_pawn rules r.side (cell_at r.cells king) ≡ false = rw there (and_right (same_side x.side r.side) (is_pawn rules x.kind) no_pawn) in
      rw e refl

  after_step : cells_after rules r step ≡ carried r.cells king at
  after_step =
      goes rules r size (record { 0 = king }) (record { 0 = at }) Stays x there no_passing
      ∙ ap (λ (c : Option Cell). slice_set (slice_set r.cells king None) at c) (sym there)

  module _ (walks_there : piece_goes rules r.cells r.side x.kind (record { 0 = king }) at ≡ true) (uncastled : means_castling rules r x.kind king at ≡ false) where
    stays_promo : (b : Bool) → not (b && rules.must_promote_piece) ≡ true
    stays_promo true = rw plain.stays refl
    stays_promo false = refl

    step_goes : is_piece_move rules r step ≡ true
    unfolding is_piece_move piece_moves
    step_goes =
        rw (there, is_own_piece, no_pawn, walks_there, stays_promo (may_plus rules r.side x.kind king at), uncastled) refl

    step_is_candidate : is_candidate rules r step ≡ true
    unfolding is_candidate
    step_is_candidate = rw step_goes refl

    module _ (safe : king_attacked rules (carried r.cells king at) r.side ≡ false) where
      step_is_safe : is_safe rules r step ≡ true
      unfolding is_safe next_repeat
      step_is_safe = ap (λ cells. not (king_attacked rules cells r.side)) after_step ∙ ap not safe

      step_is_sane : is_sane rules r step ≡ true
      unfolding is_sane may_check
      step_is_sane = sane_parts (is_safe rules r step) rules.checking rules.drop_checks (gives_check rules r step) rules.immobile_bad (stays_mobile rules r step) step_is_safe plain.checking plain.mobile

      pub step_is_legal : king < 120 → at < 120 → is_ongoing (early_end rules r) ≡ true → Member step (legal rules r)
      unfolding is_legal is_allowed
      step_is_legal l m on =
          member-legal rules r step (l, m, tt, tt)
          (legal_parts (is_ongoing (early_end rules r)) (is_candidate rules r step && is_sane rules r step) rules.must_capture (can_capture rules r) (captures rules r step) on
          (rw (step_is_candidate, step_is_sane) refl) plain.free)
