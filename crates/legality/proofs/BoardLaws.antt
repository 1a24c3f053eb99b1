-- The board after a move, by the sets of the one before it.
use Rattle.std.proofs.Common.{◌≡◌, ◌≢◌, ℕ, ◌-◌, ◌*◌, ◌%◌, ◌^◌, ◌<◌, Bool, true, false, not, ◌&&◌, ◌||◌, ◌==◌, if◌then◌else◌, Option, Some, None, List, length, is_some, refl, sym, ap, ◌∙◌, subst, arith}
use Rattle.std.specs.Prelude.{bit_and, bit_or, slice_set}
use Rattle.std.proofs.lemmas.Bool.{and_parts, eq-eqb}
use Rattle.std.proofs.lemmas.Nat.Bits.{bit_at_ones}
use Rattle.std.proofs.lemmas.List.{length-set}
use Rattle.std.proofs.lemmas.Option.{slice_get_past}
use Rattle.square_set.proofs.BitLaws.{bit-and, bit-with, bit-without}
use Rattle.square_set.proofs.Cases.{by_equal, by_order}
use Rattle.square_set.specs.declared.Set.{Set}
use Rattle.square_set.specs.Members.{bit, has, IsWithout}
use Rattle.rules_model.specs.declared.board.Cell.{Cell}
use Rattle.rules_model.specs.declared.board.Kind.{Kind}
use Rattle.rules_model.specs.declared.board.Repeat.{Repeat}
use Rattle.rules_model.specs.declared.board.Side.{Side}
use Rattle.rules_model.specs.declared.board.Square.{Square}
use Rattle.rules_model.specs.declared.board.Side.TheVariants.{White, Black}
use Rattle.rules_model.specs.declared.moves.Move.{Move}
use Rattle.rules_model.specs.declared.moves.Move.TheVariants.{Drop, Go}
use Rattle.rules_model.specs.declared.moves.Promo.{Promo}
use Rattle.rules_model.specs.declared.moves.Promo.TheVariants.{Stays, Pawn, Plus}
use Rattle.rules_model.specs.declared.rules.Rules.{Rules}
use Rattle.rules_model.specs.Attacks.{is_own, is_own_king, king_attacked}
use Rattle.rules_model.specs.Kinds.{is_king, promoted_of}
use Rattle.rules_model.specs.Legal.{is_safe}
use Rattle.rules_model.specs.Next.{after_promo, cells_after, emptied, fresh, next_repeat, plus, promote}
use Rattle.rules_model.specs.Pawns.{behind, passes_by}
use Rattle.rules_model.specs.Sides.{other, same_side}
use Rattle.rules_model.specs.Squares.{cell_at, flat}
use Rattle.move_tables.specs.Occupied.{AreKings, AreMen, IsOccupied}
use Rattle.attack_tables.specs.Boards.{IsBoardBy}
use Rattle.board_sets.specs.declared.sets.BoardSets.{BoardSets}
use Rattle.board_sets.specs.Sets.{AreSets}
use Rattle.pins.proofs.DangerLaws.{HasOnlyKingOn}
use Rattle.pins.specs.Guards.{IsMoved}
use Rattle.sound_play.proofs.CellLemmas.{cell_at-set_other, cell_at-set_same, moved, moved-from, moved-other, moved-to}
use Rattle.legality.specs.Moved.{IsOnly, makes_no_king}
use Rattle.legality.proofs.PinLaws.{any_kind, own_apart}

-- ---- pieces of a side

some_own : (side : Side) (c : Option Cell) → is_own side any_kind c ≡ true → (x : Cell) × (c ≡ Some x)
some_own side None e = cc
some_own side (Some x) e = (x, refl)

first_false : (a b : Bool) → (a && true) ≡ false → (a && b) ≡ false
first_false true b e = cc
first_false false b e = refl

no_king : (rules : Rules) (side : Side) (c : Option Cell) → is_own side any_kind c ≡ false → is_own_king rules side c ≡ false
no_king rules side None e = refl
no_king rules side (Some x) e = first_false (same_side x.side side) (is_king rules x.kind) e

king_own : (rules : Rules) (side : Side) (c : Option Cell) → is_own_king rules side c ≡ true → is_own side any_kind c ≡ true
king_own rules side None e = cc
king_own rules side (Some x) e = let h = and_parts (same_side x.side side) (is_king rules x.kind) e in rw h.0 refl

-- what a piece of the side becomes is one of the side

own_plus : (side : Side) (x : Cell) (promoted : Option Kind) → is_own side any_kind (Some x) ≡ true → is_own side any_kind (Some (plus x promoted)) ≡ true
own_plus side x None e = e
own_plus side x (Some kind) e = e

own_promoted : (rules : Rules) (side : Side) (x : Cell) (promo : Promo) → is_own side any_kind (Some x) ≡ true → is_own side any_kind (Some (after_promo rules x promo)) ≡ true
own_promoted rules side x Stays e = e
own_promoted rules side x (Pawn kind) e = e
own_promoted rules side x Plus e = own_plus side x (promoted_of rules x.kind) e

second_false : (a b : Bool) → not b ≡ true → (a && b) ≡ false
second_false true true e = cc
second_false true false e = refl
second_false false b e = refl

mere_promoted : (rules : Rules) (side : Side) (x : Cell) (promo : Promo) → makes_no_king rules promo ≡ true → is_own_king rules side (Some x) ≡ false → is_own_king rules side (Some (after_promo rules x promo)) ≡ false
mere_promoted rules side x Stays mere e = e
mere_promoted rules side x (Pawn kind) mere e = second_false (same_side x.side side) (is_king rules kind) mere
mere_promoted rules side x Plus mere e = cc

-- ---- the board after a piece went from one square to another

module _ (cells : List (Option Cell)) (from to : ℕ) (x : Cell) (size : length cells ≡ 120) (l : from < 120) (m : to < 120) (differ : to ≢ from) where
  -- what holds of the target, of the start and of the other squares holds of each
  by_place : (P : ℕ → Option Cell → Type 0) → P to (Some x) → P from None → ((s : ℕ) → (s == from) ≡ false → (s == to) ≡ false → P s (cell_at cells s)) → (s : ℕ) → P s (cell_at (moved cells from to x) s)
  by_place P at_to at_from other s =
      by_equal s to (P s (cell_at (moved cells from to x) s))
      (λ q e. subst (λ t. P t (cell_at (moved cells from to x) t)) (sym e) (subst (P to) (sym (moved-to cells from to x (omega (arith, size, m)))) at_to))
      (λ q e. by_equal s from (P s (cell_at (moved cells from to x) s))
      (λ w f. subst (λ t. P t (cell_at (moved cells from to x) t)) (sym f) (subst (P from) (sym (moved-from cells from to x (omega (arith, size, l)) differ)) at_from))
      (λ w f. subst (P s) (sym (moved-other cells from to s x (λ g. f (sym g)) (λ g. e (sym g)))) (other s w q)))

itself_equal : (s : ℕ) → (s == s) ≡ true
itself_equal s = eq-eqb s s refl

not_equal : (s t : ℕ) → t ≢ s → (s == t) ≡ false
not_equal s t h = by_equal s t ((s == t) ≡ false) (λ q e. absurd (h (sym e))) (λ q e. q)

taken_there : (b c d : Bool) → d ≡ true → ((b && c) || d) ≡ true
taken_there true true d e = refl
taken_there true false d e = e
taken_there false c d e = e

left_there : (b c d : Bool) → c ≡ true → d ≡ false → ((b && not c) || d) ≡ false
left_there true c d e f = rw (e, f) refl
left_there false c d e f = f

kept_there : (b c d : Bool) → c ≡ false → d ≡ false → ((b && not c) || d) ≡ b
kept_there true c d e f = rw e refl
kept_there false c d e f = f

dropped_there : (b c : Bool) → c ≡ true → (b && not c) ≡ false
dropped_there true c e = rw e refl
dropped_there false c e = refl

stays_there : (b c : Bool) → c ≡ false → (b && not c) ≡ b
stays_there true c e = rw e refl
stays_there false c e = refl

fresh_own : (side : Side) → (same_side side side && true) ≡ true
fresh_own White = refl
fresh_own Black = refl

fresh_no_king : (side : Side) (b : Bool) → b ≡ false → (same_side side side && b) ≡ false
fresh_no_king White b e = e
fresh_no_king Black b e = e

-- ---- sets without a square, and with one

ones : (t : ℕ) → t < 128 → bit (2 ^ 128 - 1) t ≡ true
ones t l = ap (λ x. x == 1) (bit_at_ones 128 t l)

kept_by : (a b c : Bool) → (a ≡ true → b ≡ true) → (a && (b && c)) ≡ (a && c)
kept_by true b c h = ap (λ x. x && c) (h refl)
kept_by false b c h = refl

-- all squares but this one
but : ℕ → ℕ
but s = bit_and (2 ^ 128 - 1) (2 ^ 128 - 1 - 1 * 2 ^ s % 2 ^ 128)

but-is : (s t : ℕ) → s < 128 → bit (but s) t ≡ (bit (2 ^ 128 - 1) t && not (t == s))
unfolding but
but-is s t l = bit-without (2 ^ 128 - 1) s t (omega arith) l

-- a set without a square, and that with another one besides
without : Set → ℕ → Set
without set s = record { 0 = bit_and set.0 (but s) }

without-is : (set : Set) (s : ℕ) → ((t : ℕ) → has set t ≡ true → t < 128) → s < 128 → IsWithout set s (without set s)
unfolding without
without-is set s small l t =
    bit-and set.0 (but s) t ∙ ap (λ b. has set t && b) (but-is s t l) ∙ kept_by (has set t) (bit (2 ^ 128 - 1) t) (not (t == s)) (λ e. ones t (small t e))

with_moved : Set → ℕ → ℕ → Set
with_moved set from to = record { 0 = bit_or (without set from).0 (1 * 2 ^ to % 2 ^ 128) }

with_moved-is : (set : Set) (from to : ℕ) → ((t : ℕ) → has set t ≡ true → t < 128) → from < 128 → to < 128 → IsMoved set from to (with_moved set from to)
unfolding with_moved
with_moved-is set from to small l m t =
    bit-with (without set from).0 to t m ∙ ap (λ b. b || (t == to)) (without-is set from small l t)

-- what passes a test that an empty square does not is on the board
on_squares : (f : Option Cell → Bool) (cells : List (Option Cell)) (s : ℕ) → length cells ≡ 120 → f None ≡ false → f (cell_at cells s) ≡ true → s < 128
on_squares f cells s size none e =
    by_order s 120 (s < 128) (λ l. omega (arith, l))
    (λ l. absurd (let past = ap (λ o. f (flat o)) (slice_get_past cells s (omega (arith, l, size))) in let no : ⊥ = cc in no))

-- the board has the kings of the side to move on their squares
abbrev pub KeepsKings : Rules → Repeat → BoardSets → List (Option Cell) → Type 0
KeepsKings rules r sets board = AreKings rules r.side board sets.kings

-- what is known of the board after a move: a piece left the one square for the other, or came there from elsewhere where
-- both are one; it took what stood there, the kings are as is said, and the move is safe exactly where no king of the
-- mover is attacked on this board
pub record BoardAfter (rules : Rules) (r : Repeat) (sets : BoardSets) (occupied : Set) (from to : ℕ) (m : Move) (HasKings : List (Option Cell) → Type 0) : Type 0 where
  pub men : Set
  pub now : Set
  pub board : List (Option Cell)
  pub are_men : IsWithout sets.enemies to men
  pub is_now : IsMoved occupied from to now
  pub is_board : IsBoardBy (other r.side) r.cells men now board
  pub has_kings : HasKings board
  pub told : is_safe rules r m ≡ not (king_attacked rules board r.side)

module _ (rules : Rules) (r : Repeat) (sets : BoardSets) (occupied : Set) (are : AreSets rules r.side r.cells sets) (are_occupied : IsOccupied occupied r.cells) (size : length r.cells ≡ 120) where
  low : (s : ℕ) → has sets.enemies s ≡ true → s < 128
  low s e = on_squares (is_own (other r.side) any_kind) r.cells s size refl (sym (are.enemies s) ∙ e)

  low_occupied : (s : ℕ) → has occupied s ≡ true → s < 128
  low_occupied s e = on_squares (λ c. is_some c) r.cells s size refl (sym (are_occupied s) ∙ e)

  differ : (from to : ℕ) → has sets.own from ≡ true → has sets.own to ≡ false → to ≢ from
  differ from to own target e = let f : ⊥ = (let g = subst (λ s. has sets.own s ≡ false) e target in cc) in f

  -- what leaves the one square stands on the other as this piece of the side
  module _ (from to : ℕ) (x : Cell) (l : from < 120) (m : to < 120) (is_own_man : is_own r.side any_kind (Some x) ≡ true) (own : has sets.own from ≡ true) (target : has sets.own to ≡ false) where
    apart : to ≢ from
    apart = differ from to own target

    no_enemy : has sets.enemies from ≡ false
    no_enemy = are.enemies from ∙ own_apart r.side (cell_at r.cells from) (sym (are.own from) ∙ own)

    squares_there : IsOccupied (with_moved occupied from to) (moved r.cells from to x)
    squares_there s =
        with_moved-is occupied from to low_occupied (omega (arith, l)) (omega (arith, m)) s ∙
        by_place r.cells from to x size l m apart (λ t c. ((has occupied t && not (t == from)) || (t == to)) ≡ is_some c)
        (taken_there (has occupied to) (not (to == from)) (to == to) (itself_equal to))
        (left_there (has occupied from) (from == from) (from == to) (itself_equal from) (not_equal from to apart))
        (λ t e f. kept_there (has occupied t) (t == from) (t == to) e f ∙ are_occupied t) s

    enemies_there : AreMen (other r.side) (moved r.cells from to x) (without sets.enemies to)
    enemies_there s =
        without-is sets.enemies to low (omega (arith, m)) s ∙
        by_place r.cells from to x size l m apart (λ t c. (has sets.enemies t && not (t == to)) ≡ is_own (other r.side) any_kind c)
        (dropped_there (has sets.enemies to) (to == to) (itself_equal to) ∙ sym (own_apart r.side (Some x) is_own_man))
        (ap (λ b. b && not (from == to)) no_enemy)
        (λ t e f. stays_there (has sets.enemies t) (t == to) f ∙ are.enemies t) s

    same_there : (s : ℕ) → has (without sets.enemies to) s ≡ true → cell_at (moved r.cells from to x) s ≡ cell_at r.cells s
    same_there s h =
        let k = sym (without-is sets.enemies to low (omega (arith, m)) s) ∙ h in
        by_place r.cells from to x size l m apart (λ t c. (has sets.enemies t && not (t == to)) ≡ true → c ≡ cell_at r.cells t)
        (λ g. absurd (let f : ⊥ = (let n = dropped_there (has sets.enemies to) (to == to) (itself_equal to) in cc) in f))
        (λ g. absurd (let f : ⊥ = (let n = ap (λ b. b && not (from == to)) no_enemy in cc) in f))
        (λ t e f g. refl) s k

    board_there : IsBoardBy (other r.side) r.cells (without sets.enemies to) (with_moved occupied from to) (moved r.cells from to x)
    board_there = record { squares = squares_there; own = enemies_there; same = same_there }

  goes : (from to : Square) (promo : Promo) (x : Cell) → cell_at r.cells from.0 ≡ Some x → passes_by rules r from to.0 ≡ false → cells_after rules r (Go from to promo None) ≡ moved r.cells from.0 to.0 (after_promo rules x promo)
  unfolding cells_after
  goes from to promo x there no_passing =
      ap (λ b. slice_set (slice_set (if b then emptied r.cells (behind rules r.side to) else r.cells) from.0 None) to.0 (promote rules (cell_at r.cells from.0) promo)) no_passing
      ∙ ap (λ (c : Option Cell). slice_set (slice_set r.cells from.0 None) to.0 (promote rules c promo)) there

  -- the piece on a square of the side
  own_piece : (from : ℕ) (x : Cell) → has sets.own from ≡ true → cell_at r.cells from ≡ Some x → is_own r.side any_kind (Some x) ≡ true
  own_piece from x own there = ap (is_own r.side any_kind) (sym there) ∙ sym (are.own from) ∙ own

  after_going : (from to : Square) (promo : Promo) (HasKings : List (Option Cell) → Type 0) → from.0 < 120 → to.0 < 120 → has sets.own from.0 ≡ true → has sets.own to.0 ≡ false → passes_by rules r from to.0 ≡ false
      → ((x : Cell) → cell_at r.cells from.0 ≡ Some x → HasKings (moved r.cells from.0 to.0 (after_promo rules x promo))) → BoardAfter rules r sets occupied from.0 to.0 (Go from to promo None) HasKings
  unfolding is_safe next_repeat
  after_going from to promo HasKings l m own target no_passing kings =
      let piece = some_own r.side (cell_at r.cells from.0) (sym (are.own from.0) ∙ own) in
      let man = own_promoted rules r.side piece.0 promo (own_piece from.0 piece.0 own piece.1) in
      record {
        men = without sets.enemies to.0;
        now = with_moved occupied from.0 to.0;
        board = moved r.cells from.0 to.0 (after_promo rules piece.0 promo);
        are_men = without-is sets.enemies to.0 low (omega (arith, m));
        is_now = with_moved-is occupied from.0 to.0 low_occupied (omega (arith, l)) (omega (arith, m));
        is_board = board_there from.0 to.0 (after_promo rules piece.0 promo) l m man own target;
        has_kings = kings piece.0 piece.1;
        told = ap (λ cells. not (king_attacked rules cells r.side)) (goes from to promo piece.0 piece.1 no_passing);
      }

  -- ---- the only king goes

  module _ (from to : Square) (l : from.0 < 120) (m : to.0 < 120) (only : IsOnly sets.kings from.0) (target : has sets.own to.0 ≡ false) where
    king_there : is_own_king rules r.side (cell_at r.cells from.0) ≡ true
    king_there = sym (are.kings from.0) ∙ only from.0 ∙ itself_equal from.0

    own_there : has sets.own from.0 ≡ true
    own_there = are.own from.0 ∙ king_own rules r.side (cell_at r.cells from.0) king_there

    king_moves : (x : Cell) → cell_at r.cells from.0 ≡ Some x → HasOnlyKingOn rules r.side (moved r.cells from.0 to.0 x) to.0
    king_moves x there =
        let apart = differ from.0 to.0 own_there target in
        by_place r.cells from.0 to.0 x size l m apart (λ t c. is_own_king rules r.side c ≡ (t == to.0))
        (ap (is_own_king rules r.side) (sym there) ∙ king_there ∙ sym (itself_equal to.0))
        (sym (not_equal from.0 to.0 apart))
        (λ t e f. sym (are.kings t) ∙ only t ∙ e ∙ sym f)

    pub king_board : passes_by rules r from to.0 ≡ false → BoardAfter rules r sets occupied from.0 to.0 (Go from to Stays None) (λ board. HasOnlyKingOn rules r.side board to.0)
    king_board no_passing = after_going from to Stays (λ board. HasOnlyKingOn rules r.side board to.0) l m own_there target no_passing king_moves

  -- ---- a piece other than a king goes

  kings_there : (from to : ℕ) (x : Cell) → from < 120 → to < 120 → is_own_king rules r.side (Some x) ≡ false → has sets.own from ≡ true → has sets.kings from ≡ false → has sets.own to ≡ false → KeepsKings rules r sets (moved r.cells from to x)
  kings_there from to x l m mere own king target =
      by_place r.cells from to x size l m (differ from to own target) (λ t c. has sets.kings t ≡ is_own_king rules r.side c)
      (are.kings to ∙ no_king rules r.side (cell_at r.cells to) (sym (are.own to) ∙ target) ∙ sym mere)
      king
      (λ t e f. are.kings t)

  pub go_board : (from to : Square) (promo : Promo) → from.0 < 120 → to.0 < 120 → has sets.own from.0 ≡ true → has sets.kings from.0 ≡ false → has sets.own to.0 ≡ false → makes_no_king rules promo ≡ true → passes_by rules r from to.0 ≡ false
      → BoardAfter rules r sets occupied from.0 to.0 (Go from to promo None) (KeepsKings rules r sets)
  go_board from to promo l m own king target mere no_passing =
      after_going from to promo (KeepsKings rules r sets) l m own target no_passing
      (λ x there. let no = ap (is_own_king rules r.side) (sym there) ∙ sym (are.kings from.0) ∙ king in
      kings_there from.0 to.0 (after_promo rules x promo) l m (mere_promoted rules r.side x promo mere no) own king target)

  -- ---- a piece comes in

  -- to a square of a board that has pieces, other men and own kings where this one has
  module _ (base : List (Option Cell)) (to : ℕ) (x : Cell) (m : to < 120) (long : length base ≡ 120) (man : is_own r.side any_kind (Some x) ≡ true) (no : is_own_king rules r.side (Some x) ≡ false) (target : has sets.own to ≡ false)
      (some_same : (s : ℕ) → is_some (cell_at base s) ≡ is_some (cell_at r.cells s)) (men_same : (s : ℕ) → is_own (other r.side) any_kind (cell_at base s) ≡ is_own (other r.side) any_kind (cell_at r.cells s))
      (cell_same : (s : ℕ) → has sets.enemies s ≡ true → cell_at base s ≡ cell_at r.cells s) (king_same : (s : ℕ) → is_own_king rules r.side (cell_at base s) ≡ is_own_king rules r.side (cell_at r.cells s)) where
    abbrev come : List (Option Cell)
    come = slice_set base to (Some x)

    -- what holds of its square and of the others holds of each
    by_come : (P : ℕ → Option Cell → Type 0) → P to (Some x) → ((s : ℕ) → (s == to) ≡ false → P s (cell_at base s)) → (s : ℕ) → P s (cell_at come s)
    by_come P at_to other s =
        by_equal s to (P s (cell_at come s))
        (λ q e. subst (λ t. P t (cell_at come t)) (sym e) (subst (P to) (sym (cell_at-set_same base to (Some x) (omega (arith, long, m)))) at_to))
        (λ q e. subst (P s) (sym (cell_at-set_other base to s (Some x) (λ g. e (sym g)))) (other s q))

    come_board : IsBoardBy (other r.side) r.cells (without sets.enemies to) (with_moved occupied to to) come
    come_board = record {
      squares = λ s. with_moved-is occupied to to low_occupied (omega (arith, m)) (omega (arith, m)) s ∙
          by_come (λ t c. ((has occupied t && not (t == to)) || (t == to)) ≡ is_some c)
          (taken_there (has occupied to) (not (to == to)) (to == to) (itself_equal to))
          (λ t e. kept_there (has occupied t) (t == to) (t == to) e e ∙ are_occupied t ∙ sym (some_same t)) s;
      own = λ s. without-is sets.enemies to low (omega (arith, m)) s ∙
          by_come (λ t c. (has sets.enemies t && not (t == to)) ≡ is_own (other r.side) any_kind c)
          (dropped_there (has sets.enemies to) (to == to) (itself_equal to) ∙ sym (own_apart r.side (Some x) man))
          (λ t e. stays_there (has sets.enemies t) (t == to) e ∙ are.enemies t ∙ sym (men_same t)) s;
      same = λ s h. by_come (λ t c. (has sets.enemies t && not (t == to)) ≡ true → c ≡ cell_at r.cells t)
          (λ g. absurd (let f : ⊥ = (let n = dropped_there (has sets.enemies to) (to == to) (itself_equal to) in cc) in f))
          (λ t e g. cell_same t (and_parts (has sets.enemies t) (not (t == to)) g).0) s (sym (without-is sets.enemies to low (omega (arith, m)) s) ∙ h);
    }

    come_kings : AreKings rules r.side come sets.kings
    come_kings =
        by_come (λ t c. has sets.kings t ≡ is_own_king rules r.side c)
        (are.kings to ∙ no_king rules r.side (cell_at r.cells to) (sym (are.own to) ∙ target) ∙ sym no)
        (λ t e. are.kings t ∙ sym (king_same t))

    after_coming : (move : Move) → is_safe rules r move ≡ not (king_attacked rules come r.side) → BoardAfter rules r sets occupied to to move (KeepsKings rules r sets)
    after_coming move told = record {
      men = without sets.enemies to;
      now = with_moved occupied to to;
      board = come;
      are_men = without-is sets.enemies to low (omega (arith, m));
      is_now = with_moved-is occupied to to low_occupied (omega (arith, m)) (omega (arith, m));
      is_board = come_board;
      has_kings = come_kings;
      told = told;
    }

  -- it is dropped
  pub drop_board : (kind : Kind) (to : Square) → to.0 < 120 → has sets.own to.0 ≡ false → is_king rules kind ≡ false → BoardAfter rules r sets occupied to.0 to.0 (Drop kind to) (KeepsKings rules r sets)
  unfolding is_safe next_repeat cells_after
  drop_board kind to m target mere =
      after_coming r.cells to.0 (fresh r.side kind) m size (fresh_own r.side) (fresh_no_king r.side (is_king rules kind) mere) target
      (λ s. refl) (λ s. refl) (λ s e. refl) (λ s. refl) (Drop kind to) refl

  -- or goes there while another comes in behind it
  module _ (from : ℕ) (x y : Cell) (l : from < 120) (there : cell_at r.cells from ≡ Some x) (own : has sets.own from ≡ true) (king : has sets.kings from ≡ false) (man : is_own r.side any_kind (Some y) ≡ true) (no : is_own_king rules r.side (Some y) ≡ false) where
    abbrev behind_it : List (Option Cell)
    behind_it = slice_set r.cells from (Some y)

    by_gate : (P : ℕ → Option Cell → Type 0) → P from (Some y) → ((s : ℕ) → P s (cell_at r.cells s)) → (s : ℕ) → P s (cell_at behind_it s)
    by_gate P at_from other s =
        by_equal s from (P s (cell_at behind_it s))
        (λ q e. subst (λ t. P t (cell_at behind_it t)) (sym e) (subst (P from) (sym (cell_at-set_same r.cells from (Some y) (omega (arith, size, l)))) at_from))
        (λ q e. subst (P s) (sym (cell_at-set_other r.cells from s (Some y) (λ g. e (sym g)))) (other s))

    gate_some : (s : ℕ) → is_some (cell_at behind_it s) ≡ is_some (cell_at r.cells s)
    gate_some = by_gate (λ t c. is_some c ≡ is_some (cell_at r.cells t)) (sym (ap (λ c. is_some c) there)) (λ t. refl)

    no_man : has sets.enemies from ≡ false
    no_man = are.enemies from ∙ own_apart r.side (cell_at r.cells from) (sym (are.own from) ∙ own)

    gate_men : (s : ℕ) → is_own (other r.side) any_kind (cell_at behind_it s) ≡ is_own (other r.side) any_kind (cell_at r.cells s)
    gate_men =
        by_gate (λ t c. is_own (other r.side) any_kind c ≡ is_own (other r.side) any_kind (cell_at r.cells t))
        (own_apart r.side (Some y) man ∙ sym no_man ∙ are.enemies from) (λ t. refl)

    gate_cells : (s : ℕ) → has sets.enemies s ≡ true → cell_at behind_it s ≡ cell_at r.cells s
    gate_cells =
        by_gate (λ t c. has sets.enemies t ≡ true → c ≡ cell_at r.cells t)
        (λ g. absurd (let f : ⊥ = (let n = no_man in cc) in f)) (λ t g. refl)

    gate_kings : (s : ℕ) → is_own_king rules r.side (cell_at behind_it s) ≡ is_own_king rules r.side (cell_at r.cells s)
    gate_kings =
        by_gate (λ t c. is_own_king rules r.side c ≡ is_own_king rules r.side (cell_at r.cells t))
        (no ∙ sym king ∙ are.kings from) (λ t. refl)

    after_gating : (to : ℕ) (move : Move) → to < 120 → has sets.own to ≡ false → is_safe rules r move ≡ not (king_attacked rules (slice_set behind_it to (Some x)) r.side) → BoardAfter rules r sets occupied to to move (KeepsKings rules r sets)
    after_gating to move m target =
        after_coming behind_it to x m (length-set r.cells from (Some y) ∙ size) (ap (is_own r.side any_kind) (sym there) ∙ sym (are.own from) ∙ own)
        (ap (is_own_king rules r.side) (sym there) ∙ sym (are.kings from) ∙ king) target gate_some gate_men gate_cells gate_kings move

  gated_cells : (from to : Square) (x : Cell) (kind : Kind) → cell_at r.cells from.0 ≡ Some x → passes_by rules r from to.0 ≡ false → cells_after rules r (Go from to Stays (Some kind)) ≡ slice_set (slice_set r.cells from.0 (Some (fresh r.side kind))) to.0 (Some x)
  unfolding cells_after
  gated_cells from to x kind there no_passing =
      ap (λ b. slice_set (slice_set (if b then emptied r.cells (behind rules r.side to) else r.cells) from.0 (Some (fresh r.side kind))) to.0 (promote rules (cell_at r.cells from.0) Stays)) no_passing
      ∙ ap (λ (c : Option Cell). slice_set (slice_set r.cells from.0 (Some (fresh r.side kind))) to.0 (promote rules c Stays)) there

  pub gate_board : (kind : Kind) (from to : Square) → from.0 < 120 → to.0 < 120 → has sets.own from.0 ≡ true → has sets.kings from.0 ≡ false → has sets.own to.0 ≡ false → is_king rules kind ≡ false → passes_by rules r from to.0 ≡ false
      → BoardAfter rules r sets occupied to.0 to.0 (Go from to Stays (Some kind)) (KeepsKings rules r sets)
  unfolding is_safe next_repeat
  gate_board kind from to l m own king target mere no_passing =
      let piece = some_own r.side (cell_at r.cells from.0) (sym (are.own from.0) ∙ own) in
      after_gating from.0 piece.0 (fresh r.side kind) l piece.1 own king (fresh_own r.side) (fresh_no_king r.side (is_king rules kind) mere) to.0 (Go from to Stays (Some kind)) m target
      (ap (λ cells. not (king_attacked rules cells r.side)) (gated_cells from to piece.0 kind piece.1 no_passing))
