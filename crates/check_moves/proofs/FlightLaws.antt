-- The king's step after a move that leaves it open.
use Rattle.std.proofs.Common.{◌≡◌, ◌≢◌, ℕ, ◌<◌, Bool, true, false, not, ◌&&◌, ◌||◌, ◌==◌, Option, Some, None, List, length, is_some, slice_set, refl, sym, ap, ◌∙◌, subst, arith, length-set}
use Rattle.std.proofs.lemmas.Bool.{and_parts, and_right, eq-eqb, ne_eqb}
use Rattle.foundation.proofs.CountLemmas.{any_below-none}
use Rattle.rules_model.specs.declared.board.Cell.{Cell}
use Rattle.rules_model.specs.declared.board.Kind.{Kind}
use Rattle.rules_model.specs.declared.board.Side.{Side}
use Rattle.rules_model.specs.declared.board.Side.TheVariants.{White, Black}
use Rattle.rules_model.specs.declared.board.Square.{Square}
use Rattle.rules_model.specs.declared.moves.Move.{Move}
use Rattle.rules_model.specs.declared.moves.Move.TheVariants.{Go, Drop}
use Rattle.rules_model.specs.declared.moves.Promo.{Promo}
use Rattle.rules_model.specs.declared.rules.Rules.{Rules}
use Rattle.rules_model.specs.Attacks.{attacks, attacks_from, is_own_king, king_attacked, king_attacked_at}
use Rattle.rules_model.specs.Kinds.{is_king, is_pawn}
use Rattle.rules_model.specs.Next.{after_promo, cells_after, fresh, next_repeat}
use Rattle.rules_model.specs.Pawns.{is_ep}
use Rattle.rules_model.specs.Sides.{other, same_side}
use Rattle.rules_model.specs.Squares.{cell_at}
use Rattle.square_set.specs.declared.Set.{Set}
use Rattle.square_set.specs.Members.{IsWith, IsWithout, has}
use Rattle.square_set.proofs.Cases.{by_bool, by_equal}
use Rattle.move_tables.specs.declared.mode.Mode.TheVariants.{Quiet, Take}
use Rattle.move_tables.specs.Occupied.{AreKings, IsOccupied}
use Rattle.move_tables.specs.declared.spot.Spot.{Spot}
use Rattle.move_tables.specs.Lines.{by_spot}
use Rattle.move_tables.specs.Reached.{reaches_as}
use Rattle.attack_tables.proofs.AttackLaws.{attacks_by_parts, king_at, no_king_at, other_other}
use Rattle.attack_tables.proofs.MaskLaws.{from_man, from_none}
use Rattle.pins.specs.Guards.{IsMoved}
use Rattle.sound_play.proofs.CellLemmas.{cell_at-set_other, cell_at-set_same, moved}
use Rattle.legality.specs.Stance.{Stance, repeat_in}
use Rattle.legality.proofs.PinLaws.{not_passing}
use Rattle.check_moves.specs.declared.flights.Flight.{Flight}
use Rattle.check_moves.specs.declared.flights.LoneKing.{LoneKing}
use Rattle.check_moves.specs.Checks.{ComesTo}
use Rattle.check_moves.specs.Shut.{AreShut}
use Rattle.check_moves.specs.Flights.{IsFlight, IsLoneKing, IsOnlyKing, IsOpen, LeavesStep, StaysOpen, carried, is_castling_step, repeat_after}
use Rattle.check_moves.proofs.ComeLaws.{by_place, dropped, goes, kept_there, later_occupied, left_there, no_other_king, promo_side, same_is, taken_there, went}
use Rattle.check_moves.proofs.StepLaws.{no_castles, plain-rules, step_is_legal, walks_quietly}

-- on a board with these occupied squares a piece of the kind does not attack the step's square
abbrev pub SparesStep : Stance → Flight → Kind → ℕ → Set → Type 0
SparesStep s flight kind from occupied =
    (board : List (Option Cell)) → IsOccupied occupied board → reaches_as s.rules board s.position.side kind (record { 0 = from }) Take flight.to ≡ false

pub unlike : (a b : ℕ) → (a == b) ≡ false → a ≢ b
unlike a b n e = let t : (a == b) ≡ true = eq-eqb a b e in cc

pub turned_about : (a b : ℕ) → (a == b) ≡ false → (b == a) ≡ false
turned_about a b n = ne_eqb b a (λ e. unlike a b n (sym e))

pub other_differs : (side : Side) (b : Bool) → (same_side (other side) side && b) ≡ false
other_differs White b = refl
other_differs Black b = refl

-- ---- the king once it has stepped

module _ (s : Stance) (flight : Flight) (is : IsFlight s flight) (kind : Kind) (from to : ℕ) (from_king : (from == flight.king.at) ≡ false) (from_at : (from == flight.to) ≡ false) (to_king : (to == flight.king.at) ≡ false) (to_at : (to == flight.to) ≡ false) (later : List (Option Cell)) (long : length later ≡ 120) (come : ComesTo s.position.side kind s.position.cells from to later) where
  abbrev king : ℕ
  king = flight.king.at

  abbrev at : ℕ
  at = flight.to

  abbrev side : Side
  side = s.position.side

  abbrev cells : List (Option Cell)
  cells = s.position.cells

  abbrev after : List (Option Cell)
  after = carried later king at

  pub king_stays : cell_at later king ≡ cell_at cells king
  king_stays = come.others king (λ e. unlike from king from_king (sym e)) (λ e. unlike to king to_king (sym e))

  pub stays_empty : cell_at later at ≡ None
  stays_empty = come.others at (λ e. unlike from at from_at (sym e)) (λ e. unlike to at to_at (sym e)) ∙ is.empty

  apart : at ≢ king
  apart e = let there = is.king.there in let none = ap (cell_at cells) (sym e) ∙ is.empty in cc

  steps : ComesTo (other side) flight.king.kind later king at after
  steps = record {
    piece = is.king.piece;
    of_side = is.king.of_side;
    of_kind = is.king.of_kind;
    there = cell_at-set_same (slice_set later king None) at (cell_at later king) (let e = length-set later king None in let l = is.small in omega (arith, e, long, l)) ∙ king_stays ∙ is.king.there;
    left = λ a. cell_at-set_other (slice_set later king None) at king (cell_at later king) apart ∙ cell_at-set_same later king None (let l = is.king.small in omega (arith, long, l));
    others = λ t e f. cell_at-set_other (slice_set later king None) at t (cell_at later king) (λ g. f (sym g)) ∙ cell_at-set_other later king t None (λ g. e (sym g));
  }

  -- what holds of the two squares of the step, of the target and the square that was left, and of the others holds of each
  each_place : (P : ℕ → Option Cell → Type 0) → P at (Some is.king.piece) → P king None → P to (Some come.piece) → (from ≢ to → P from None) → ((t : ℕ) → (t == from) ≡ false → (t == to) ≡ false → (t == king) ≡ false → (t == at) ≡ false → P t (cell_at cells t)) → (t : ℕ) → P t (cell_at after t)
  unfolding steps
  each_place P at_at at_king at_to at_from other_ones =
      by_place s.rules (other side) flight.king.kind later king at after steps P at_at (λ a. at_king)
      (λ t e f. by_place s.rules side kind cells from to later come (λ u c. (u == king) ≡ false → (u == at) ≡ false → P u c)
      (λ g h. at_to)
      (λ a g h. at_from a)
      (λ u g h i j. other_ones u g h i j) t e f)

  only_there : (t : ℕ) → is_own_king s.rules (other side) (cell_at after t) ≡ true → t ≡ at
  only_there =
      each_place (λ t c. is_own_king s.rules (other side) c ≡ true → t ≡ at)
      (λ k. refl)
      (λ k. cc)
      (λ k. absurd (let no : (same_side come.piece.side (other side) && is_king s.rules come.piece.kind) ≡ false = rw come.of_side (no_other_king side (is_king s.rules come.piece.kind)) in let f : ⊥ = cc in f))
      (λ a k. cc)
      (λ t e f g h k. absurd (unlike t king g (is.king.only t k)))

  module _ (moved_on : Set) (gone : IsMoved flight.stepped from to moved_on) where
    occupied_after : IsOccupied moved_on after
    occupied_after t =
        gone t ∙ each_place (λ u c. ((has flight.stepped u && not (u == from)) || (u == to)) ≡ is_some c)
        (kept_there (has flight.stepped at) (at == from) (at == to) (turned_about from at from_at) (turned_about to at to_at)
        ∙ is.stepped at ∙ taken_there (is_some (cell_at cells at)) (not (at == king)) (at == at) (eq-eqb at at refl))
        (kept_there (has flight.stepped king) (king == from) (king == to) (turned_about from king from_king) (turned_about to king to_king)
        ∙ is.stepped king ∙ left_there (is_some (cell_at cells king)) (king == king) (king == at) (eq-eqb king king refl) (ne_eqb king at (λ e. apart (sym e))))
        (taken_there (has flight.stepped to) (not (to == from)) (to == to) (eq-eqb to to refl))
        (λ a. left_there (has flight.stepped from) (from == from) (from == to) (eq-eqb from from refl) (ne_eqb from to a))
        (λ u e f g h. kept_there (has flight.stepped u) (u == from) (u == to) e f ∙ is.stepped u ∙ kept_there (is_some (cell_at cells u)) (u == king) (u == at) g h) t

    module _ (closed : has flight.shut from ≡ true) (none : SparesStep s flight kind to moved_on) where
      no_attack : (t : ℕ) → t < 120 → attacks_from s.rules after side at t ≡ false
      unfolding steps
      no_attack t l =
          by_equal t at (attacks_from s.rules after side at t ≡ false)
          (λ q e. ap (attacks_from s.rules after side at) e ∙ from_man s.rules after side at at is.king.piece steps.there
          ∙ ap (λ x. same_side x side && reaches_as s.rules after side is.king.piece.kind (record { 0 = at }) Take at) is.king.of_side
          ∙ other_differs side (reaches_as s.rules after side is.king.piece.kind (record { 0 = at }) Take at))
          (λ q e. by_equal t king (attacks_from s.rules after side at t ≡ false)
          (λ v f. ap (attacks_from s.rules after side at) f ∙ from_none s.rules after side at king (steps.left (λ g. apart (sym g))))
          (λ v f. beyond t l (steps.others t f e)))
        where
          beyond : (t : ℕ) → t < 120 → cell_at after t ≡ cell_at later t → attacks_from s.rules after side at t ≡ false
          beyond t l same =
              by_equal t to (attacks_from s.rules after side at t ≡ false)
              (λ q e.
              let stands : cell_at after to ≡ Some come.piece = ap (cell_at after) (sym e) ∙ same ∙ ap (cell_at later) e ∙ come.there in
              let reach = ap (λ (x : Kind). reaches_as s.rules after side x (record { 0 = to }) Take at) come.of_kind ∙ none after occupied_after in
              ap (attacks_from s.rules after side at) e ∙ from_man s.rules after side at to come.piece stands
              ∙ and_right (same_side come.piece.side side) (reaches_as s.rules after side come.piece.kind (record { 0 = to }) Take at) reach)
              (λ q e. by_equal t from (attacks_from s.rules after side at t ≡ false)
              (λ w f.
              let empty : cell_at after t ≡ None = same ∙ ap (cell_at later) f ∙ come.left (λ g. e (f ∙ g)) in
              from_none s.rules after side at t empty)
              (λ w f. is.shut from to at moved_on after closed is.target gone occupied_after t l (same ∙ come.others t f e)))

      spared : (t : ℕ) → king_attacked_at s.rules after (other side) t ≡ false
      spared t =
          by_bool (is_own_king s.rules (other side) (cell_at after t)) (king_attacked_at s.rules after (other side) t ≡ false)
          (λ e.
          let there : t ≡ at = only_there t e in
          let walks = (plain-rules s.rules is.king.plain).walks in
          let pieces = any_below-none (attacks_from s.rules after side t) 120 (λ u l. ap (λ x. attacks_from s.rules after side x u) there ∙ no_attack u l) in
          king_at s.rules after (other side) t e
          ∙ ap (λ by. attacks s.rules after by t) (other_other side)
          ∙ attacks_by_parts s.rules after side t e
          ∙ rw (pieces, walks) refl)
          (λ e. no_king_at s.rules after (other side) t e)

      pub is_safe_there : king_attacked s.rules after (other side) ≡ false
      unfolding king_attacked
      is_safe_there = any_below-none (king_attacked_at s.rules after (other side)) 120 (λ t l. spared t)

-- ---- the moves

open_leaves : (s : Stance) (flight : Flight) (is : IsFlight s flight) (m : Move) (later : List (Option Cell)) → cells_after s.rules (repeat_in s) m ≡ later → length later ≡ 120 → IsOpen s flight later → LeavesStep s flight m
unfolding next_repeat
open_leaves s flight is m later e long opened on =
    let r = repeat_after s m in
    let back = sym e in
    let there = subst (λ (c : List (Option Cell)). cell_at c flight.king.at ≡ Some is.king.piece) back (opened.stays ∙ is.king.there) in
    let kind = is.king.of_kind in
    let no_pawn = ap (is_pawn s.rules) kind ∙ is.king.no_pawn in
    step_is_legal s.rules r (ap (λ (c : List (Option Cell)). length c) e ∙ long) flight.king.at flight.to is.king.piece there is.king.of_side
    no_pawn (plain-rules s.rules is.king.plain)
    (walks_quietly s.rules r.cells r.side is.king.piece.kind (record { 0 = flight.king.at }) flight.to
    (subst (λ (c : List (Option Cell)). cell_at c flight.to ≡ None) back opened.empty)
    no_pawn
    (ap (λ (k : Kind). reaches_as s.rules r.cells r.side k (record { 0 = flight.king.at }) Quiet flight.to) kind
    ∙ subst (λ (c : List (Option Cell)). reaches_as s.rules c (other s.position.side) flight.king.kind (record { 0 = flight.king.at }) Quiet flight.to ≡ true) back opened.reached))
    (no_castles s.rules r is.king.piece.kind flight.king.at flight.to is.no_castling)
    (subst (λ (c : List (Option Cell)). king_attacked s.rules (carried c flight.king.at flight.to) (other s.position.side) ≡ false) back opened.safe)
    is.king.small is.small on

module _ (s : Stance) (flight : Flight) (is : IsFlight s flight) (size : length s.position.cells ≡ 120) where
  pub go-leaves : (from to : Square) (promo : Promo) (x : Cell) → from.0 < 120 → to.0 < 120 → cell_at s.position.cells from.0 ≡ Some x → x.side ≡ s.position.side → is_ep s.position.ep to.0 ≡ false → StaysOpen s flight (after_promo s.rules x promo).kind from.0 to.0 → LeavesStep s flight (Go from to promo None)
  go-leaves from to promo x l m there own no_ep stays =
      let r = repeat_in s in
      let y = after_promo s.rules x promo in
      let later = moved r.cells from.0 to.0 y in
      let long : length later ≡ 120 = length-set (slice_set r.cells from.0 None) to.0 (Some y) ∙ length-set r.cells from.0 None ∙ size in
      open_leaves s flight is (Go from to promo None) later
      (goes s.rules r size from to promo x there (not_passing s.rules r from to.0 no_ep)) long
      (stays later long (went s.rules r size from to y l m (promo_side s.rules x promo ∙ own)))

  pub drop-leaves : (kind : Kind) (to : Square) → to.0 < 120 → StaysOpen s flight kind to.0 to.0 → LeavesStep s flight (Drop kind to)
  unfolding cells_after
  drop-leaves kind to m stays =
      let r = repeat_in s in
      let later = slice_set r.cells to.0 (Some (fresh r.side kind)) in
      let long : length later ≡ 120 = length-set r.cells to.0 (Some (fresh r.side kind)) ∙ size in
      open_leaves s flight is (Drop kind to) later refl long (stays later long (dropped s.rules r size kind to m))

-- ---- the only king

pub king-alone : (s : Stance) (kings rest : Set) (at : ℕ) → AreKings s.rules (other s.position.side) s.position.cells kings → IsWithout kings at rest → ((t : ℕ) → has rest t ≡ false) → IsOnlyKing s at
king-alone s kings rest at are without none t k =
    by_equal t at (t ≡ at) (λ q e. e)
    (λ q e.
    let left : has rest t ≡ true = without t ∙ rw (are t ∙ k, q) refl in
    absurd (let no = none t in let f : ⊥ = cc in f))

pub of-king : (rules : Rules) (side : Side) (c : Cell) → is_own_king rules side (Some c) ≡ true → c.side ≡ side
of-king rules side c k = same_is c.side side (and_parts (same_side c.side side) (is_king rules c.kind) k).0

-- ---- what the sets of the code say

pub moved-by : (old left new : Set) (from to : ℕ) → IsWithout old from left → IsWith left to new → IsMoved old from to new
moved-by old left new from to without with t = with t ∙ ap (λ (b : Bool). b || (t == to)) (without t)

module _ (s : Stance) (flight : Flight) (is : IsFlight s flight) (kind : Kind) (from to : ℕ) (from_king : (from == flight.king.at) ≡ false) (from_at : (from == flight.to) ≡ false) (to_king : (to == flight.king.at) ≡ false) (to_at : (to == flight.to) ≡ false) (closed : has flight.shut from ≡ true) where
  -- no line is opened, the piece does not attack the square, and the king reaches it
  pub stays-open : (occupied later_set moved_on : Set) → IsOccupied occupied s.position.cells → IsMoved occupied from to later_set → ((board : List (Option Cell)) → IsOccupied later_set board → reaches_as s.rules board (other s.position.side) flight.king.kind (record { 0 = flight.king.at }) Quiet flight.to ≡ true) → IsMoved flight.stepped from to moved_on → SparesStep s flight kind to moved_on → StaysOpen s flight kind from to
  stays-open occupied later_set moved_on all went_on hit gone none later long come = record {
    stays = king_stays s flight is kind from to from_king from_at to_king to_at later long come;
    empty = stays_empty s flight is kind from to from_king from_at to_king to_at later long come;
    reached = hit later (later_occupied s.rules s.position.side kind s.position.cells from to later come occupied later_set all went_on);
    safe = is_safe_there s flight is kind from to from_king from_at to_king to_at later long come moved_on gone closed none;
  }

-- a leap is made whatever stands on the board
pub leaps-reach : (spot : Spot) (occupied : Set) (t : ℕ) → (has spot.leaps t && has spot.within t) ≡ true → by_spot spot occupied t ≡ true
leaps-reach spot occupied t e = let p = and_parts (has spot.leaps t) (has spot.within t) e in rw (p.0, p.1) refl

-- a step to an empty square, as the code makes it
pub flight-of : (s : Stance) (king : LoneKing) (to : ℕ) (occupied left stepped target closed : Set) → IsLoneKing s king → to < 120 → is_some (cell_at s.position.cells to) ≡ false → is_castling_step s.rules (other s.position.side) king.at to ≡ false → IsOccupied occupied s.position.cells → IsWithout occupied king.at left → IsWith left to stepped → has target to ≡ true → AreShut s.rules s.position.side s.position.cells stepped target closed → IsFlight s (record { king = king; to = to; target = target; stepped = stepped; shut = closed })
flight-of s king to occupied left stepped target closed lone small empty no_castling all without with aim are = record {
  king = lone;
  small = small;
  empty = no_piece (cell_at s.position.cells to) empty;
  no_castling = no_castling;
  target = aim;
  stepped = λ t. moved-by occupied left stepped king.at to without with t ∙ ap (λ (b : Bool). (b && not (t == king.at)) || (t == to)) (all t);
  shut = are;
}
  where
    no_piece : (c : Option Cell) → is_some c ≡ false → c ≡ None
    no_piece None e = refl
    no_piece (Some c) e = cc

-- the set of one square
pub with-itself : (old new : Set) (to : ℕ) → IsWith old to new → has new to ≡ true
with-itself old new to with = with to ∙ rw (eq-eqb to to refl) (or_true (has old to))
  where
    or_true : (b : Bool) → (b || true) ≡ true
    or_true true = refl
    or_true false = refl

pub with-alone : (old new : Set) (to t : ℕ) → has old t ≡ false → IsWith old to new → has new t ≡ true → t ≡ to
with-alone old new to t out with h =
    by_equal t to (t ≡ to) (λ q e. e)
    (λ q e. let f : has new t ≡ false = with t ∙ rw (out, q) refl in absurd (let n : ⊥ = cc in n))
