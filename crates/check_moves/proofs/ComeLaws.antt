-- The board once a piece has come to a square, and the kings that are not attacked there.
use Rattle.std.proofs.Common.{◌≡◌, ◌≢◌, ℕ, ◌<◌, Bool, true, false, not, ◌&&◌, ◌||◌, ◌==◌, if◌then◌else◌, Option, Some, None, List, length, is_some, refl, sym, ap, ◌∙◌, subst, arith}
use Rattle.std.specs.Prelude.{slice_set}
use Rattle.std.proofs.lemmas.Bool.{and_right, eq-eqb, ne_eqb}
use Rattle.foundation.proofs.CountLemmas.{any_below-none}
use Rattle.rules_model.specs.declared.board.Cell.{Cell}
use Rattle.rules_model.specs.declared.board.Kind.{Kind}
use Rattle.rules_model.specs.declared.board.Repeat.{Repeat}
use Rattle.rules_model.specs.declared.board.Side.{Side}
use Rattle.rules_model.specs.declared.board.Side.TheVariants.{White, Black}
use Rattle.rules_model.specs.declared.board.Square.{Square}
use Rattle.rules_model.specs.declared.moves.Move.TheVariants.{Go, Drop}
use Rattle.rules_model.specs.declared.moves.Promo.{Promo}
use Rattle.rules_model.specs.declared.moves.Promo.TheVariants.{Stays, Pawn, Plus}
use Rattle.rules_model.specs.declared.rules.Rules.{Rules}
use Rattle.rules_model.specs.Attacks.{attacks, attacks_from, is_own_king, king_attacked, king_attacked_at}
use Rattle.rules_model.specs.Kinds.{is_king, promoted_of}
use Rattle.rules_model.specs.Legal.{gives_check}
use Rattle.rules_model.specs.Next.{after_promo, cells_after, emptied, fresh, next_repeat, plus, promote}
use Rattle.rules_model.specs.Pawns.{behind, is_ep, passes_by}
use Rattle.rules_model.specs.Sides.{other, same_side}
use Rattle.rules_model.specs.Squares.{cell_at}
use Rattle.square_set.specs.declared.Set.{Set}
use Rattle.square_set.specs.Members.{has}
use Rattle.square_set.proofs.Cases.{by_bool, by_equal}
use Rattle.move_tables.specs.declared.mode.Mode.TheVariants.{Take}
use Rattle.move_tables.specs.Occupied.{IsOccupied}
use Rattle.move_tables.specs.Reached.{reaches_as}
use Rattle.attack_tables.proofs.AttackLaws.{attacks_by_parts, king_at, no_king_at, other_other}
use Rattle.attack_tables.proofs.MaskLaws.{from_man, from_none}
use Rattle.pins.specs.Guards.{IsMoved}
use Rattle.sound_play.proofs.CellLemmas.{cell_at-set_other, cell_at-set_same, moved, moved-from, moved-other, moved-to}
use Rattle.legality.proofs.PinLaws.{not_passing}
use Rattle.check_moves.specs.declared.checks.Checks.{Checks}
use Rattle.check_moves.specs.Checks.{AreChecks, ComesQuietly, ComesTo, ReachesNone}

-- ---- squares that are left and entered

pub taken_there : (b c d : Bool) → d ≡ true → ((b && c) || d) ≡ true
taken_there true true d e = refl
taken_there true false d e = e
taken_there false c d e = e

pub left_there : (b c d : Bool) → c ≡ true → d ≡ false → ((b && not c) || d) ≡ false
left_there true c d e f = rw (e, f) refl
left_there false c d e f = f

pub kept_there : (b c d : Bool) → c ≡ false → d ≡ false → ((b && not c) || d) ≡ b
kept_there true c d e f = rw e refl
kept_there false c d e f = f

pub same_is : (a b : Side) → same_side a b ≡ true → a ≡ b
same_is White White e = refl
same_is White Black e = cc
same_is Black White e = cc
same_is Black Black e = refl

pub no_other_king : (side : Side) (king : Bool) → (same_side side (other side) && king) ≡ false
no_other_king White king = refl
no_other_king Black king = refl

module _ (rules : Rules) (side : Side) (kind : Kind) (cells : List (Option Cell)) (from to : ℕ) (later : List (Option Cell)) (come : ComesTo side kind cells from to later) where
  -- what holds of the target, of the square that was left and of the others holds of each
  pub by_place : (P : ℕ → Option Cell → Type 0) → P to (Some come.piece) → (from ≢ to → P from None) → ((s : ℕ) → (s == from) ≡ false → (s == to) ≡ false → P s (cell_at cells s)) → (s : ℕ) → P s (cell_at later s)
  by_place P at_to at_from other s =
      by_equal s to (P s (cell_at later s))
      (λ q e. subst (λ t. P t (cell_at later t)) (sym e) (subst (P to) (sym come.there) at_to))
      (λ q e. by_equal s from (P s (cell_at later s))
      (λ w f.
      let apart : from ≢ to = λ g. e (f ∙ g) in
      subst (λ t. P t (cell_at later t)) (sym f) (subst (P from) (sym (come.left apart)) (at_from apart)))
      (λ w f. subst (P s) (sym (come.others s f e)) (other s w q)))

  module _ (occupied moved : Set) (is : IsOccupied occupied cells) (gone : IsMoved occupied from to moved) where
    pub later_occupied : IsOccupied moved later
    later_occupied s =
        gone s ∙ by_place (λ t c. ((has occupied t && not (t == from)) || (t == to)) ≡ is_some c)
        (taken_there (has occupied to) (not (to == from)) (to == to) (eq-eqb to to refl))
        (λ apart. left_there (has occupied from) (from == from) (from == to) (eq-eqb from from refl) (ne_eqb from to apart))
        (λ t e f. kept_there (has occupied t) (t == from) (t == to) e f ∙ is t) s

    module _ (checks : Checks) (are : AreChecks rules side cells checks) (closed : has checks.shut from ≡ true) (none : ReachesNone rules side kind to moved checks.kings) (walks : rules.flying ≡ false) where
      kings_stay : (s : ℕ) → is_own_king rules (other side) (cell_at later s) ≡ true → has checks.kings s ≡ true
      kings_stay =
          by_place (λ t c. is_own_king rules (other side) c ≡ true → has checks.kings t ≡ true)
          (λ k. absurd (let no : (same_side come.piece.side (other side) && is_king rules come.piece.kind) ≡ false = rw come.of_side (no_other_king side (is_king rules come.piece.kind)) in let f : ⊥ = cc in f))
          (λ apart k. cc)
          (λ t e f k. are.kings t ∙ k)

      no_attack : (king : ℕ) → has checks.kings king ≡ true → (s : ℕ) → s < 120 → attacks_from rules later side king s ≡ false
      no_attack king k s l =
          by_equal s to (attacks_from rules later side king s ≡ false)
          (λ q e.
          let reach = ap (λ (x : Kind). reaches_as rules later side x (record { 0 = to }) Take king) come.of_kind ∙ none later later_occupied king k in
          ap (attacks_from rules later side king) e ∙ from_man rules later side king to come.piece come.there
          ∙ and_right (same_side come.piece.side side) (reaches_as rules later side come.piece.kind (record { 0 = to }) Take king) reach)
          (λ q e. by_equal s from (attacks_from rules later side king s ≡ false)
          (λ w f. ap (attacks_from rules later side king) f ∙ from_none rules later side king from (come.left (λ g. e (f ∙ g))))
          (λ w f. are.shut occupied is from to king moved later closed k gone later_occupied s l (come.others s f e)))

      spared : (s : ℕ) → king_attacked_at rules later (other side) s ≡ false
      spared s =
          by_bool (is_own_king rules (other side) (cell_at later s)) (king_attacked_at rules later (other side) s ≡ false)
          (λ e.
          let pieces = any_below-none (attacks_from rules later side s) 120 (no_attack s (kings_stay s e)) in
          king_at rules later (other side) s e
          ∙ ap (λ by. attacks rules later by s) (other_other side)
          ∙ attacks_by_parts rules later side s e
          ∙ rw (pieces, walks) refl)
          (λ e. no_king_at rules later (other side) s e)

      pub comes_quietly : king_attacked rules later (other side) ≡ false
      unfolding king_attacked
      comes_quietly = any_below-none (king_attacked_at rules later (other side)) 120 (λ s l. spared s)

-- ---- the moves

plus_side : (c : Cell) (o : Option Kind) → (plus c o).side ≡ c.side
plus_side c None = refl
plus_side c (Some kind) = refl

pub promo_side : (rules : Rules) (c : Cell) (promo : Promo) → (after_promo rules c promo).side ≡ c.side
promo_side rules c Stays = refl
promo_side rules c (Pawn kind) = refl
promo_side rules c Plus = plus_side c (promoted_of rules c.kind)

module _ (rules : Rules) (r : Repeat) (size : length r.cells ≡ 120) where
  pub goes : (from to : Square) (promo : Promo) (x : Cell) → cell_at r.cells from.0 ≡ Some x → passes_by rules r from to.0 ≡ false → cells_after rules r (Go from to promo None) ≡ moved r.cells from.0 to.0 (after_promo rules x promo)
  unfolding cells_after
  goes from to promo x there no_passing =
      ap (λ b. slice_set (slice_set (if b then emptied r.cells (behind rules r.side to) else r.cells) from.0 None) to.0 (promote rules (cell_at r.cells from.0) promo)) no_passing
      ∙ ap (λ (c : Option Cell). slice_set (slice_set r.cells from.0 None) to.0 (promote rules c promo)) there

  pub went : (from to : Square) (x : Cell) → from.0 < 120 → to.0 < 120 → x.side ≡ r.side → ComesTo r.side x.kind r.cells from.0 to.0 (moved r.cells from.0 to.0 x)
  went from to x l m own = record {
    piece = x;
    of_side = own;
    of_kind = refl;
    there = moved-to r.cells from.0 to.0 x (omega (arith, size, m));
    left = λ apart. moved-from r.cells from.0 to.0 x (omega (arith, size, l)) (λ e. apart (sym e));
    others = λ s f e. moved-other r.cells from.0 to.0 s x (λ g. f (sym g)) (λ g. e (sym g));
  }

  pub go_is_quiet : (from to : Square) (promo : Promo) (x : Cell) → from.0 < 120 → to.0 < 120 → cell_at r.cells from.0 ≡ Some x → x.side ≡ r.side → is_ep r.ep to.0 ≡ false → ComesQuietly rules r.side (after_promo rules x promo).kind r.cells from.0 to.0 → gives_check rules r (Go from to promo None) ≡ false
  unfolding gives_check next_repeat
  go_is_quiet from to promo x l m there own no_ep quiet =
      let y = after_promo rules x promo in
      ap (λ cells. king_attacked rules cells (other r.side)) (goes from to promo x there (not_passing rules r from to.0 no_ep))
      ∙ quiet (moved r.cells from.0 to.0 y) (went from to y l m (promo_side rules x promo ∙ own))

  pub dropped : (kind : Kind) (to : Square) → to.0 < 120 → ComesTo r.side kind r.cells to.0 to.0 (slice_set r.cells to.0 (Some (fresh r.side kind)))
  dropped kind to m = record {
    piece = fresh r.side kind;
    of_side = refl;
    of_kind = refl;
    there = cell_at-set_same r.cells to.0 (Some (fresh r.side kind)) (omega (arith, size, m));
    left = λ apart. absurd (apart refl);
    others = λ s f e. cell_at-set_other r.cells to.0 s (Some (fresh r.side kind)) (λ g. f (sym g));
  }

  pub drop_is_quiet : (kind : Kind) (to : Square) → to.0 < 120 → ComesQuietly rules r.side kind r.cells to.0 to.0 → gives_check rules r (Drop kind to) ≡ false
  unfolding gives_check next_repeat cells_after
  drop_is_quiet kind to m quiet = quiet (slice_set r.cells to.0 (Some (fresh r.side kind))) (dropped kind to m)
