-- The king takes by its step the piece that came to the step's square.
use Rattle.std.proofs.Common.{◌≡◌, ◌≢◌, ℕ, ◌<◌, Bool, true, false, not, ◌&&◌, ◌||◌, ◌==◌, Option, Some, None, List, [], ◌∷◌, length, is_some, if◌then◌else◌, slice_set, refl, sym, ap, ◌∙◌, subst, arith, length-set}
use Rattle.std.specs.List.{list_any}
use Rattle.std.proofs.lemmas.Bool.{eq-eqb, ne_eqb}
use Rattle.foundation.specs.Member.{Member}
use Rattle.foundation.proofs.CountLemmas.{any_below-none}
use Rattle.rules_model.specs.declared.board.Cell.{Cell}
use Rattle.rules_model.specs.declared.board.Kind.{Kind}
use Rattle.rules_model.specs.declared.board.Side.{Side}
use Rattle.rules_model.specs.declared.board.Side.TheVariants.{White, Black}
use Rattle.rules_model.specs.declared.board.Square.{Square}
use Rattle.rules_model.specs.declared.moves.Move.{Move}
use Rattle.rules_model.specs.declared.moves.Move.TheVariants.{Go, Drop}
use Rattle.rules_model.specs.declared.moves.Promo.{Promo}
use Rattle.rules_model.specs.declared.rules.Rules.{Rules}
use Rattle.rules_model.specs.declared.rules.Term.{Term}
use Rattle.rules_model.specs.Attacks.{attacks, attacks_from, is_diagonal, is_own_king, king_attacked, king_attacked_at}
use Rattle.rules_model.specs.Kinds.{board_of, is_king, is_pawn}
use Rattle.rules_model.specs.Movement.{in_mobility, kind_reaches, reaches_by, terms_from}
use Rattle.rules_model.specs.Next.{after_promo, cells_after, fresh, next_repeat}
use Rattle.rules_model.specs.Pawns.{is_ep}
use Rattle.rules_model.specs.Pieces as Pieces
use Rattle.rules_model.specs.Pieces.{piece_goes}
use Rattle.rules_model.specs.Reach.{reaches}
use Rattle.rules_model.specs.Sides.{other, same_side}
use Rattle.rules_model.specs.Squares.{cell_at}
use Rattle.square_set.specs.declared.Set.{Set}
use Rattle.square_set.specs.Members.{has}
use Rattle.square_set.proofs.Cases.{by_bool, by_equal}
use Rattle.move_tables.specs.declared.mode.Mode.TheVariants.{Take}
use Rattle.move_tables.specs.Occupied.{IsOccupied}
use Rattle.move_tables.specs.Reached.{reaches_as, serves}
use Rattle.attack_tables.proofs.AttackLaws.{attacks_by_parts, king_at, no_king_at, other_other}
use Rattle.attack_tables.proofs.MaskLaws.{from_man, from_none}
use Rattle.pins.specs.Guards.{IsMoved}
use Rattle.sound_play.proofs.CellLemmas.{cell_at-set_other, cell_at-set_same, moved}
use Rattle.legality.specs.Stance.{Stance, repeat_in}
use Rattle.legality.proofs.PinLaws.{not_passing}
use Rattle.check_moves.specs.declared.flights.Flight.{Flight}
use Rattle.check_moves.specs.Checks.{ComesTo}
use Rattle.check_moves.specs.Flights.{IsFlight, IsTaken, LeavesStep, MayBeTaken, carried, repeat_after}
use Rattle.check_moves.proofs.ComeLaws.{by_place, dropped, goes, kept_there, later_occupied, left_there, promo_side, taken_there, went}
use Rattle.check_moves.proofs.FlightLaws.{other_differs, turned_about, unlike}
use Rattle.check_moves.proofs.StepLaws.{no_castles, plain-rules, step_is_legal}

-- ---- a piece goes onto one of the other side's

drop_true : (a b : Bool) → (a && true && b) ≡ (a && b)
drop_true true b = refl
drop_true false b = refl

onto_enemy : (rules : Rules) (cells : List (Option Cell)) (side : Side) (from : Square) (to : ℕ) (ts : List Term) → list_any (λ t. t.takes && true && reaches (board_of rules) cells side t from to) ts ≡ list_any (reaches_by rules cells side (serves Take) from to) ts
onto_enemy rules cells side from to [] = refl
onto_enemy rules cells side from to (t ∷ ts) = rw (drop_true t.takes (reaches (board_of rules) cells side t from to), onto_enemy rules cells side from to ts) refl

differs : (side : Side) → same_side side (other side) ≡ false
differs White = refl
differs Black = refl

walks_taking : (rules : Rules) (cells : List (Option Cell)) (side : Side) (kind : Kind) (from : Square) (to : ℕ) (y : Cell) → cell_at cells to ≡ Some y → same_side y.side side ≡ false → is_pawn rules kind ≡ false → reaches_as rules cells side kind from Take to ≡ true → piece_goes rules cells side kind from to ≡ true
unfolding piece_goes kind_reaches
walks_taking rules cells side kind from to y there enemy no_pawn reached =
    ap (λ (c : Option Cell). kind_reaches rules cells side kind (Pieces.serves side c) from to) there
    ∙ ap (λ (b : Bool). in_mobility rules side kind to && list_any (λ t. t.takes && not b && reaches (board_of rules) cells side t from to) (terms_from rules side kind from)) enemy
    ∙ ap (λ (b : Bool). in_mobility rules side kind to && b) (onto_enemy rules cells side from to (terms_from rules side kind from))
    ∙ ap (λ (b : Bool). if b then is_diagonal (board_of rules) side from to else kind_reaches rules cells side kind (serves Take) from to) (sym no_pawn)
    ∙ reached

-- ---- the king once it has taken

module _ (s : Stance) (flight : Flight) (is : IsFlight s flight) (kind : Kind) (from : ℕ) (from_king : (from == flight.king.at) ≡ false) (later : List (Option Cell)) (long : length later ≡ 120) (come : ComesTo s.position.side kind s.position.cells from flight.to later) where
  abbrev king : ℕ
  king = flight.king.at

  abbrev at : ℕ
  at = flight.to

  abbrev side : Side
  side = s.position.side

  abbrev cells : List (Option Cell)
  cells = s.position.cells

  abbrev after : List (Option Cell)
  after = carried later king at

  apart : at ≢ king
  apart e = let there = is.king.there in let none = ap (cell_at cells) (sym e) ∙ is.empty in cc

  pub king_stays : cell_at later king ≡ cell_at cells king
  king_stays = come.others king (λ e. unlike from king from_king (sym e)) (λ e. apart (sym e))

  steps : ComesTo (other side) flight.king.kind later king at after
  steps = record {
    piece = is.king.piece;
    of_side = is.king.of_side;
    of_kind = is.king.of_kind;
    there = cell_at-set_same (slice_set later king None) at (cell_at later king) (let e = length-set later king None in let l = is.small in omega (arith, e, long, l)) ∙ king_stays ∙ is.king.there;
    left = λ a. cell_at-set_other (slice_set later king None) at king (cell_at later king) apart ∙ cell_at-set_same later king None (let l = is.king.small in omega (arith, long, l));
    others = λ t e f. cell_at-set_other (slice_set later king None) at t (cell_at later king) (λ g. f (sym g)) ∙ cell_at-set_other later king t None (λ g. e (sym g));
  }

  -- what holds of the two squares of the step, of the square that was left, and of the others holds of each
  each_place : (P : ℕ → Option Cell → Type 0) → P at (Some is.king.piece) → P king None → (from ≢ at → P from None) → ((t : ℕ) → (t == from) ≡ false → (t == king) ≡ false → (t == at) ≡ false → P t (cell_at cells t)) → (t : ℕ) → P t (cell_at after t)
  unfolding steps
  each_place P at_at at_king at_from other_ones =
      by_place s.rules (other side) flight.king.kind later king at after steps P at_at (λ a. at_king)
      (λ t e f. by_place s.rules side kind cells from at later come (λ u c. (u == king) ≡ false → (u == at) ≡ false → P u c)
      (λ g h. absurd (unlike at at h refl))
      (λ a g h. at_from a)
      (λ u g h i j. other_ones u g i j) t e f)

  only_there : (t : ℕ) → is_own_king s.rules (other side) (cell_at after t) ≡ true → t ≡ at
  only_there =
      each_place (λ t c. is_own_king s.rules (other side) c ≡ true → t ≡ at)
      (λ k. refl)
      (λ k. cc)
      (λ a k. cc)
      (λ t e f g k. absurd (unlike t king f (is.king.only t k)))

  module _ (moved_on : Set) (gone : IsMoved flight.stepped from at moved_on) (closed : has flight.shut from ≡ true) where
    occupied_after : IsOccupied moved_on after
    occupied_after t =
        gone t ∙ each_place (λ u c. ((has flight.stepped u && not (u == from)) || (u == at)) ≡ is_some c)
        (taken_there (has flight.stepped at) (not (at == from)) (at == at) (eq-eqb at at refl))
        (kept_there (has flight.stepped king) (king == from) (king == at) (turned_about from king from_king) (ne_eqb king at (λ e. apart (sym e)))
        ∙ is.stepped king ∙ left_there (is_some (cell_at cells king)) (king == king) (king == at) (eq-eqb king king refl) (ne_eqb king at (λ e. apart (sym e))))
        (λ a. left_there (has flight.stepped from) (from == from) (from == at) (eq-eqb from from refl) (ne_eqb from at a))
        (λ u e f g. kept_there (has flight.stepped u) (u == from) (u == at) e g ∙ is.stepped u ∙ kept_there (is_some (cell_at cells u)) (u == king) (u == at) f g) t

    no_attack : (t : ℕ) → t < 120 → attacks_from s.rules after side at t ≡ false
    unfolding steps
    no_attack t l =
        by_equal t at (attacks_from s.rules after side at t ≡ false)
        (λ q e. ap (attacks_from s.rules after side at) e ∙ from_man s.rules after side at at is.king.piece steps.there
        ∙ ap (λ x. same_side x side && reaches_as s.rules after side is.king.piece.kind (record { 0 = at }) Take at) is.king.of_side
        ∙ other_differs side (reaches_as s.rules after side is.king.piece.kind (record { 0 = at }) Take at))
        (λ q e. by_equal t king (attacks_from s.rules after side at t ≡ false)
        (λ v f. ap (attacks_from s.rules after side at) f ∙ from_none s.rules after side at king (steps.left (λ g. apart (sym g))))
        (λ v f. beyond t l e (steps.others t f e)))
      where
        beyond : (t : ℕ) → t < 120 → t ≢ at → cell_at after t ≡ cell_at later t → attacks_from s.rules after side at t ≡ false
        beyond t l e same =
            by_equal t from (attacks_from s.rules after side at t ≡ false)
            (λ w f.
            let empty : cell_at after t ≡ None = same ∙ ap (cell_at later) f ∙ come.left (λ g. e (f ∙ g)) in
            from_none s.rules after side at t empty)
            (λ w f. is.shut from at at moved_on after closed is.target gone occupied_after t l (same ∙ come.others t f e))

    spared : (t : ℕ) → king_attacked_at s.rules after (other side) t ≡ false
    spared t =
        by_bool (is_own_king s.rules (other side) (cell_at after t)) (king_attacked_at s.rules after (other side) t ≡ false)
        (λ e.
        let there : t ≡ at = only_there t e in
        let walks = (plain-rules s.rules is.king.plain).walks in
        let pieces = any_below-none (attacks_from s.rules after side t) 120 (λ u l. ap (λ x. attacks_from s.rules after side x u) there ∙ no_attack u l) in
        king_at s.rules after (other side) t e
        ∙ ap (λ by. attacks s.rules after by t) (other_other side)
        ∙ attacks_by_parts s.rules after side t e
        ∙ rw (pieces, walks) refl)
        (λ e. no_king_at s.rules after (other side) t e)

    is_safe_there : king_attacked s.rules after (other side) ≡ false
    unfolding king_attacked
    is_safe_there = any_below-none (king_attacked_at s.rules after (other side)) 120 (λ t l. spared t)

    -- the king reaches the square whatever stands on the board
    pub may-be-taken : (occupied later_set : Set) → IsOccupied occupied cells → IsMoved occupied from at later_set → ((board : List (Option Cell)) → IsOccupied later_set board → reaches_as s.rules board (other side) flight.king.kind (record { 0 = king }) Take at ≡ true) → MayBeTaken s flight later
    may-be-taken occupied later_set all went_on hit = record {
      stays = king_stays;
      piece = come.piece;
      there = come.there;
      of_side = come.of_side;
      reached = hit later (later_occupied s.rules side kind cells from at later come occupied later_set all went_on);
      safe = is_safe_there;
    }

-- ---- the moves

take_leaves : (s : Stance) (flight : Flight) (is : IsFlight s flight) (m : Move) (later : List (Option Cell)) → cells_after s.rules (repeat_in s) m ≡ later → length later ≡ 120 → MayBeTaken s flight later → LeavesStep s flight m
unfolding next_repeat
take_leaves s flight is m later e long taken on =
    let r = repeat_after s m in
    let back = sym e in
    let there = subst (λ (c : List (Option Cell)). cell_at c flight.king.at ≡ Some is.king.piece) back (taken.stays ∙ is.king.there) in
    let kind = is.king.of_kind in
    let no_pawn = ap (is_pawn s.rules) kind ∙ is.king.no_pawn in
    let enemy = ap (λ (x : Side). same_side x (other s.position.side)) taken.of_side ∙ differs s.position.side in
    step_is_legal s.rules r (ap (λ (c : List (Option Cell)). length c) e ∙ long) flight.king.at flight.to is.king.piece there is.king.of_side
    no_pawn (plain-rules s.rules is.king.plain)
    (walks_taking s.rules r.cells r.side is.king.piece.kind (record { 0 = flight.king.at }) flight.to taken.piece
    (subst (λ (c : List (Option Cell)). cell_at c flight.to ≡ Some taken.piece) back taken.there)
    enemy no_pawn
    (ap (λ (k : Kind). reaches_as s.rules r.cells r.side k (record { 0 = flight.king.at }) Take flight.to) kind
    ∙ subst (λ (c : List (Option Cell)). reaches_as s.rules c (other s.position.side) flight.king.kind (record { 0 = flight.king.at }) Take flight.to ≡ true) back taken.reached))
    (no_castles s.rules r is.king.piece.kind flight.king.at flight.to is.no_castling)
    (subst (λ (c : List (Option Cell)). king_attacked s.rules (carried c flight.king.at flight.to) (other s.position.side) ≡ false) back taken.safe)
    is.king.small is.small on

module _ (s : Stance) (flight : Flight) (is : IsFlight s flight) (size : length s.position.cells ≡ 120) where
  pub go-is-taken : (from to : Square) (promo : Promo) (x : Cell) → from.0 < 120 → to.0 < 120 → cell_at s.position.cells from.0 ≡ Some x → x.side ≡ s.position.side → is_ep s.position.ep to.0 ≡ false → to.0 ≡ flight.to → IsTaken s flight from.0 → LeavesStep s flight (Go from to promo None)
  go-is-taken from to promo x l m there own no_ep at taken =
      let r = repeat_in s in
      let y = after_promo s.rules x promo in
      let later = moved r.cells from.0 to.0 y in
      let long : length later ≡ 120 = length-set (slice_set r.cells from.0 None) to.0 (Some y) ∙ length-set r.cells from.0 None ∙ size in
      let come = went s.rules r size from to y l m (promo_side s.rules x promo ∙ own) in
      take_leaves s flight is (Go from to promo None) later
      (goes s.rules r size from to promo x there (not_passing s.rules r from to.0 no_ep)) long
      (taken y.kind later long (subst (λ t. ComesTo s.position.side y.kind s.position.cells from.0 t later) at come))

  pub drop-is-taken : (kind : Kind) (to : Square) → to.0 < 120 → to.0 ≡ flight.to → IsTaken s flight to.0 → LeavesStep s flight (Drop kind to)
  unfolding cells_after
  drop-is-taken kind to m at taken =
      let r = repeat_in s in
      let later = slice_set r.cells to.0 (Some (fresh r.side kind)) in
      let long : length later ≡ 120 = length-set r.cells to.0 (Some (fresh r.side kind)) ∙ size in
      take_leaves s flight is (Drop kind to) later refl long
      (taken kind later long (subst (λ t. ComesTo s.position.side kind s.position.cells to.0 t later) at (dropped s.rules r size kind to m)))
