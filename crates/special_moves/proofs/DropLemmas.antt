-- The parts of the drops.
use Rattle.std.proofs.Common.{◌≡◌, ℕ, ◌<◌, ◌%◌, nat_lt, Bool, true, false, ◌&&◌, ◌||◌, not, is_none, is_some, Option, Some, None, List, refl, ap, sym, ◌∙◌, arith}
use Rattle.std.proofs.lemmas.Bool.{and_from, and_parts, lt-ltb}
use Rattle.std.proofs.lemmas.Bool.Decides.{nat_tests}
use Rattle.foundation.specs.Count.{any_below}
use Rattle.rules_model.specs.declared.board.Cell.{Cell}
use Rattle.rules_model.specs.declared.board.Kind.{Kind}
use Rattle.rules_model.specs.declared.board.Repeat.{Repeat}
use Rattle.rules_model.specs.declared.moves.Move.{Move}
use Rattle.rules_model.specs.declared.moves.Move.TheVariants.{Go, Castle, Drop}
use Rattle.rules_model.specs.declared.rules.Rules.{Rules}
use Rattle.rules_model.specs.Drops.{bars_pawn, drops_to, is_doubled, stands_on}
use Rattle.rules_model.specs.Hands.{holds}
use Rattle.rules_model.specs.Kinds.{is_pawn, names}
use Rattle.rules_model.specs.Regions.{in_region}
use Rattle.rules_model.specs.Squares.{cell_at}
use Rattle.rules_model.proofs.CandidateLaws.{not_both}
use Rattle.square_set.specs.declared.Set.{Set}
use Rattle.square_set.specs.Members.{has}
use Rattle.move_tables.specs.Occupied.{IsOccupied}
use Rattle.piece_moves.specs.InTurn.{DropsOf, target_of}
use Rattle.piece_moves.specs.Taking.{TakesAll, TakesSome}
use Rattle.piece_moves.proofs.TakingLemmas.{all-same, some-within}
use Rattle.special_moves.specs.Parts.{AreDropSquares, AreSuited, IsDrop, IsDropOf, has_drops, kind_at, square_at, suits, suits_anywhere, takes_drops}
use Rattle.special_moves.proofs.BelowLemmas.{AreApart}

-- the kind of a drop
kind_of : Move → ℕ
kind_of (Go from to promo gate) = 0
kind_of (Castle from to rook gate) = 0
kind_of (Drop kind to) = kind.0

pub kinds-apart : (rules : Rules) (r : Repeat) → AreApart (IsDropOf rules r)
unfolding kind_of
kinds-apart rules r i j m h k = ap kind_of (h.is.1 ∙ sym k.is.1)

empty_is : (o : Option Cell) → not (is_some o) ≡ is_none o
empty_is None = refl
empty_is (Some c) = refl

-- ---- a drop of a kind on a square

regrouped : (held none region unbarred single : Bool) → (held && none && region && unbarred && single) ≡ (held && (none && region) && (unbarred && single))
regrouped true true true true single = refl
regrouped true true true false single = refl
regrouped true true false unbarred single = refl
regrouped true false region unbarred single = refl
regrouped false none region unbarred single = refl

pub drop_parts : (rules : Rules) (r : Repeat) (kind : Kind) (to : ℕ) → drops_to rules r kind to ≡ (has_drops rules r kind && takes_drops rules r to && suits rules r kind to)
unfolding drops_to
drop_parts rules r kind to =
    regrouped (has_drops rules r kind) (is_none (cell_at r.cells to)) (in_region rules.drop_region r.side to) (not (is_pawn rules kind && bars_pawn rules r.side to)) (not (is_doubled rules r.cells r.side kind to))

module _ (rules : Rules) (r : Repeat) (kind : Kind) where
  parts : (to : ℕ) → drops_to rules r kind to ≡ true → (has_drops rules r kind ≡ true) × (takes_drops rules r to ≡ true)
  parts to e = and_parts (has_drops rules r kind) (takes_drops rules r to) (and_parts (has_drops rules r kind && takes_drops rules r to) (suits rules r kind to) (sym (drop_parts rules r kind to) ∙ e)).0

  -- on such a square, of a kind in hand
  there : (to : ℕ) → has_drops rules r kind ≡ true → takes_drops rules r to ≡ true → drops_to rules r kind to ≡ suits rules r kind to
  there to held takes = drop_parts rules r kind to ∙ rw (held, takes) refl

-- a kind of which none is in hand is not dropped
pub none-held : (rules : Rules) (r : Repeat) (k : ℕ) → has_drops rules r (kind_at k) ≡ false → (m : Move) → IsDropOf rules r k m → ⊥
none-held rules r k none m h = not_both (has_drops rules r (kind_at k)) (parts rules r (kind_at k) h.number h.is.0).0 none

-- nor is any where the variant has no drops
pub no-drops : (rules : Rules) (r : Repeat) → rules.drops ≡ false → (m : Move) → IsDrop rules r m → ⊥
no-drops rules r none m h =
    not_both rules.drops (and_parts rules.drops (holds r.hands r.side (kind_at h.number)) (parts rules r (kind_at h.number) h.is.number h.is.is.0).0).0 none

-- ---- where a piece of a kind suits

suits_both : (pawn barred named doubled : Bool) → (not pawn && not named) ≡ true → (not (pawn && barred) && not (named && doubled)) ≡ true
suits_both true barred named doubled e = cc
suits_both false barred true doubled e = cc
suits_both false barred false doubled e = refl

anywhere : (rules : Rules) (r : Repeat) (kind : Kind) → suits_anywhere rules kind ≡ true → (to : ℕ) → suits rules r kind to ≡ true
anywhere rules r kind e to =
    suits_both (is_pawn rules kind) (bars_pawn rules r.side to) (names rules.no_doubled kind) (any_below (stands_on r.cells r.side kind (to % 12)) 10) e

and_true : (b c : Bool) → c ≡ true → b ≡ (b && c)
and_true true c e = sym e
and_true false c e = refl

-- on each of the squares
pub all_suited : (rules : Rules) (r : Repeat) (kind : Kind) (squares : Set) → suits_anywhere rules kind ≡ true → AreSuited rules r kind squares squares
all_suited rules r kind squares e s = and_true (has squares s) (suits rules r kind s) (anywhere rules r kind e s)

-- those of the squares that are left, and those that suit
abbrev pub SuitedOrLeft : Rules → Repeat → Kind → Set → Set → Set → Type 0
SuitedOrLeft rules r kind squares left those = (s : ℕ) → has those s ≡ (has squares s && (has left s || suits rules r kind s))

either_true : (b c : Bool) → b ≡ (b && (b || c))
either_true true c = refl
either_true false c = refl

module _ (rules : Rules) (r : Repeat) (kind : Kind) (squares : Set) where
  pub none-seen : SuitedOrLeft rules r kind squares squares squares
  none-seen s = either_true (has squares s) (suits rules r kind s)

  pub all-seen : (left those : Set) → ((s : ℕ) → has left s ≡ false) → SuitedOrLeft rules r kind squares left those → AreSuited rules r kind squares those
  all-seen left those none are s = are s ∙ ap (λ l. has squares s && (l || suits rules r kind s)) (none s)

-- ---- the drops of a kind, by their squares

below_of : (a b : ℕ) → nat_lt a b ≡ true → a < b
below_of a b e = grind (arith, nat_tests)

-- on the squares that suit it
module _ (rules : Rules) (r : Repeat) (kind : Kind) (squares those : Set) (are : AreDropSquares rules r squares) (suited : AreSuited rules r kind squares those) where
  record IsSuited (s : ℕ) : Type 0 where
    below : s < 120
    takes : takes_drops rules r s ≡ true
    suit : suits rules r kind s ≡ true

  is_suited : (s : ℕ) → has those s ≡ true → IsSuited s
  is_suited s e =
      let a = and_parts (has squares s) (suits rules r kind s) (sym (suited s) ∙ e) in
      let b = and_parts (nat_lt s 120) (takes_drops rules r s) (sym (are s) ∙ a.0) in
      record { below = below_of s 120 b.0; takes = b.1; suit = a.1 }

  pub suited-below : (s : ℕ) → has those s ≡ true → s < 120
  suited-below s e = (is_suited s e).below

  module _ (held : has_drops rules r kind ≡ true) where
    to_drop : (m : Move) → DropsOf kind those m → IsDropOf rules r kind.0 m
    to_drop m h =
        let at = is_suited (target_of m) h.1 in
        record { number = target_of m; below = at.below; is = (there rules r kind (target_of m) held at.takes ∙ at.suit, h.0) }

    from_drop : (m : Move) → IsDropOf rules r kind.0 m → DropsOf kind those m
    from_drop m h =
        let on : target_of m ≡ h.number = sym (ap target_of h.is.1) in
        let takes = (parts rules r kind h.number h.is.0).1 in
        let suit = sym (there rules r kind h.number held takes) ∙ h.is.0 in
        let square = are h.number ∙ and_from (nat_lt h.number 120) (takes_drops rules r h.number) (lt-ltb h.number 120 h.below) takes in
        let member = suited h.number ∙ and_from (has squares h.number) (suits rules r kind h.number) square suit in
        (ap (λ s. Drop kind (square_at s)) on ∙ h.is.1, ap (has those) on ∙ member)

    pub drops-all : {S : Type 0} (takes : S → List Move → S → Type 0) (s t : S) → TakesAll takes (DropsOf kind those) s t → TakesAll takes (IsDropOf rules r kind.0) s t
    drops-all takes s t a = all-same takes (DropsOf kind those) (IsDropOf rules r kind.0) s t a to_drop from_drop

    pub drops-some : {S : Type 0} (stops : S → List Move → S → Type 0) (s t : S) → TakesSome stops (DropsOf kind those) s t → TakesSome stops (IsDropOf rules r kind.0) s t
    drops-some stops s t a = some-within stops (DropsOf kind those) (IsDropOf rules r kind.0) s t a to_drop

-- ---- where pieces are dropped

in_order : (b c : Bool) (l : Bool) → (c ≡ true → l ≡ true) → (c && not b) ≡ (l && (not b && c))
in_order true true l h = rw (h refl) refl
in_order false true l h = rw (h refl) refl
in_order true false true h = refl
in_order true false false h = refl
in_order false false true h = refl
in_order false false false h = refl

-- the squares of the region that are not occupied
pub empty_region : (rules : Rules) (r : Repeat) (region occupied squares : Set) → ((s : ℕ) → has region s ≡ in_region rules.drop_region r.side s) → ((s : ℕ) → has region s ≡ true → s < 120)
    → IsOccupied occupied r.cells → ((s : ℕ) → has squares s ≡ (has region s && not (has occupied s))) → AreDropSquares rules r squares
empty_region rules r region occupied squares is on_board are both s =
    both s
    ∙ in_order (has occupied s) (has region s) (nat_lt s 120) (λ e. lt-ltb s 120 (on_board s e))
    ∙ ap (λ b. nat_lt s 120 && (not b && has region s)) (are s)
    ∙ ap (λ b. nat_lt s 120 && (b && has region s)) (empty_is (cell_at r.cells s))
    ∙ ap (λ b. nat_lt s 120 && (is_none (cell_at r.cells s) && b)) (is s)
